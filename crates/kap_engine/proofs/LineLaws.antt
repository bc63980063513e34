-- The points that lines have are of the database and policy under which they are read.
use Rattle.std.proofs.Common.{◌≡◌, ℕ, ◌+◌, true, List, [], ◌∷◌, length, Option, None, Some, Ok, Err, refl, ap, subst}
use Rattle.std.specs.Prelude.{◌&&◌, bytes_eq, not, ◌==◌, Result}
use Rattle.std.specs.List.{list_all}
use Rattle.std.specs.Cmp.Lexicographic.{bytes_decides}
use Rattle.kap_base.specs.Points.{PointValue}
use Rattle.kap_base.specs.Words.{◌>>=◌}
use Rattle.kap_base.proofs.TestLaws.{bind_ok, both, ok_is}
use Rattle.line_points.specs.Body.{at_line, before_more, body_lines, body_of, points_of}
use Rattle.line_points.specs.Grammar.{IsOf}
use Rattle.line_points.specs.Line.{line_of}
use Rattle.line_points.specs.declared.fault.BodyFault.{BodyFault}
use Rattle.line_points.specs.declared.fault.LineFault.{LineFault}
use Rattle.line_points.specs.declared.mode.Mode.{Mode}
use Rattle.line_points.proofs.WholeLaws.{line_spelled}
use Rattle.store_records.specs.Lines.{is_of}

of-point : (db rp : List ℕ) (p : PointValue) → IsOf db rp p → is_of db rp p ≡ true
of-point db rp p is =
    both (bytes_eq p.db db) (bytes_eq p.rp rp && (length p.dims == 0 && not p.by_name)) ((bytes_decides p.db db).1 is.db)
    (both (bytes_eq p.rp rp) (length p.dims == 0 && not p.by_name) ((bytes_decides p.rp rp).1 is.rp)
    (both (length p.dims == 0) (not p.by_name) (ap (λ (l : List (List ℕ)). length l == 0) is.dims) (ap not is.by_name)))

of-more : (db rp : List ℕ) (mode : Mode) (line : List ℕ) (point : Option PointValue) (rest : List PointValue) → line_of db rp mode line ≡ Ok point → list_all (is_of db rp) rest ≡ true
    → list_all (is_of db rp) (before_more point rest) ≡ true
of-more db rp mode line None rest is all = all
of-more db rp mode line (Some p) rest is all = both (is_of db rp p) (list_all (is_of db rp) rest) (of-point db rp p (line_spelled db rp mode line p is).is_of) all

line-ok : (n : ℕ) (read : Result (Option PointValue) LineFault) (point : Option PointValue) → at_line n read ≡ Ok point → read ≡ Ok point
line-ok n (Ok p) point e = cc
line-ok n (Err fault) point e = absurd cc

of-lines : (db rp : List ℕ) (mode : Mode) (n : ℕ) (lines : List (List ℕ)) (points : List PointValue) → points_of db rp mode n lines ≡ Ok points → list_all (is_of db rp) points ≡ true
unfolding points_of
of-lines db rp mode n [] points e = let none : [] ≡ points = cc in subst (λ (l : List PointValue). list_all (is_of db rp) l ≡ true) none refl
of-lines db rp mode n (line ∷ lines) points e =
    let one = bind_ok (at_line n (line_of db rp mode line)) (λ point. points_of db rp mode (n + 1) lines >>= λ points. Ok (before_more point points)) points e in
    let more = bind_ok (points_of db rp mode (n + 1) lines) (λ points. Ok (before_more one.0 points)) points one.2 in
    subst (λ (l : List PointValue). list_all (is_of db rp) l ≡ true) (ok_is {E = BodyFault} (before_more one.0 more.0) points more.2)
    (of-more db rp mode line one.0 more.0 (line-ok n (line_of db rp mode line) one.0 one.1) (of-lines db rp mode (n + 1) lines more.0 more.1))

-- the points that lines have are of the database and policy
pub points_are_of : (db rp : List ℕ) (mode : Mode) (body : List ℕ) (points : List PointValue) → body_of db rp mode body ≡ Ok points → list_all (is_of db rp) points ≡ true
points_are_of db rp mode body points e = of-lines db rp mode 1 (body_lines body) points e
