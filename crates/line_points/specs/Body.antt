-- The lines of a body, and what they read as.
use Rattle.std.specs.Prelude.{◌≡◌, ℕ, ◌+◌, ◌==◌, List, [], ◌∷◌, ◌++◌, length, map, Option, Some, None, Result, Ok, Err, if◌then◌else◌}
use Rattle.std.specs.List.{slice_split}
use Rattle.kap_base.specs.Words.{◌>>=◌}
use Rattle.kap_base.specs.Texts.{is_empty, line_feed}
use Rattle.kap_base.specs.Points.{PointValue}
use Rattle.line_points.specs.declared.fault.LineFault.{LineFault}
use Rattle.line_points.specs.declared.fault.BodyFault.{BodyFault}
use Rattle.line_points.specs.declared.mode.Mode.{Mode}
use Rattle.line_points.specs.Line.{line_of}

-- the byte of a carriage return
abbrev pub carriage_return : ℕ
carriage_return = 13

-- the bytes without one carriage return at their end
abbrev pub without_return : List ℕ → List ℕ
without_return [] = []
without_return (b ∷ []) = if b == carriage_return then [] else b ∷ []
without_return (b ∷ c ∷ bytes) = b ∷ without_return (c ∷ bytes)

-- the parts without a last one that is empty: behind a last line feed there is no further line
abbrev pub without_last_empty : List (List ℕ) → List (List ℕ)
without_last_empty [] = []
without_last_empty (part ∷ []) = if is_empty part then [] else part ∷ []
without_last_empty (part ∷ next ∷ parts) = part ∷ without_last_empty (next ∷ parts)

-- the lines of a body: its parts between line feeds, each without one carriage return at its end
abbrev pub body_lines : List ℕ → List (List ℕ)
body_lines body = map without_return (without_last_empty (slice_split (λ b. b == line_feed) body))

-- a line's fault, with the number of the line
abbrev pub at_line : {A : Type 0} → ℕ → Result A LineFault → Result A BodyFault
at_line n (Ok x) = Ok x
at_line n (Err f) = Err (record { line = n; fault = f })

-- the point of a line, if there is one, before further points
abbrev pub before_more : Option PointValue → List PointValue → List PointValue
before_more None points = points
before_more (Some p) points = p ∷ points

-- points, and that of one more line, if there is one
abbrev pub with_line : List PointValue → Result (Option PointValue) LineFault → Result (List PointValue) LineFault
with_line points read = do
  point ← read
  Ok (points ++ before_more point [])

-- the points of lines that are numbered from n on, or the first faulty line
unfoldable pub points_of : List ℕ → List ℕ → Mode → ℕ → List (List ℕ) → Result (List PointValue) BodyFault
points_of db rp mode n [] = Ok []
points_of db rp mode n (line ∷ lines) = do
  point ← at_line n (line_of db rp mode line)
  points ← points_of db rp mode (n + 1) lines
  Ok (before_more point points)

-- the points of a body
abbrev pub body_of : List ℕ → List ℕ → Mode → List ℕ → Result (List PointValue) BodyFault
body_of db rp mode body = points_of db rp mode 1 (body_lines body)

-- The line of this number is one of the body's, and the lines before it are read without a fault.
pub record ReachesLine (db rp : List ℕ) (mode : Mode) (body : List ℕ) (n : ℕ) : Type 0 where
  pub before : List (List ℕ)
  pub line : List ℕ
  pub behind : List (List ℕ)
  pub points : List PointValue
  pub lines_are : body_lines body ≡ before ++ line ∷ behind
  pub number : n ≡ length before + 1
  pub read : points_of db rp mode 1 before ≡ Ok points
