-- What bytes give, against what a recording is.
use Rattle.std.proofs.Common.{◌≡◌, ◌≢◌, ℕ, ◌+◌, ◌^◌, ◌≤◌, Bool, true, false, cond, Option, None, Some, Ok, Err, List, [], ◌∷◌, length, take, refl, sym, ap, ◌∙◌, subst, arith}
use Rattle.std.specs.Prelude.{Result, nat_le}
use Rattle.std.specs.Str.{is_utf8}
use Rattle.std.proofs.lemmas.Bool.Decides.{nat_tests}
use Rattle.kap_base.specs.Points.{PointValue}
use Rattle.line_points.specs.declared.fault.LineFault.{LineFault}
use Rattle.line_points.specs.declared.fault.LineFault.TheVariants as faults
use Rattle.line_points.specs.declared.mode.Mode.TheVariants as modes
use Rattle.line_points.specs.Line.{line_of}
use Rattle.recording_file.specs.declared.fault.RecFault.{RecFault}
use Rattle.recording_file.specs.declared.fault.RecFault.TheVariants as rec_faults
use Rattle.recording_file.specs.Lines.{is_long, raw_lines, closed_lines, all_lines, last_part}
use Rattle.recording_file.specs.Recording.{IsName, AreGroups, Recording, Reading, Stop, Ended, Faulty, name_of_line, at_line, unless_fault, with_first, with_line, groups, at_end, at_limit, of_whole_input, of_input_past_limit, read, reading_of}
use Rattle.recording_file.proofs.PointLaws.{not_blank}

-- ---- names

-- a name is its line
name_is : (line d : List ℕ) → name_of_line line ≡ Ok d → IsName line × (d ≡ line)
name_is line d is = by (is_long line) (is_utf8 line) refl refl is where
  by : (l u : Bool) → is_long line ≡ l → is_utf8 line ≡ u → cond l (Err faults.Long) (cond u (Ok line) (Err faults.NotUtf8)) ≡ Ok d → IsName line × (d ≡ line)
  by true u long utf8 e = absurd cc
  by false false long utf8 e = absurd cc
  by false true long utf8 e = (record { utf8 = utf8; within = grind (arith, nat_tests) }, cc)

name_ok : (line : List ℕ) → IsName line → name_of_line line ≡ Ok line
name_ok line h =
    let within = h.within in
    let short : is_long line ≡ false = grind (arith, nat_tests) in
    ap (λ t. cond t (Err faults.Long) (cond (is_utf8 line) (Ok line) (Err faults.NotUtf8))) short ∙ ap (λ t. cond t (Ok line) (Err faults.NotUtf8)) h.utf8

-- ---- a recording gives its points

groups_all : (n : ℕ) (lines : List (List ℕ)) (ps : List PointValue) → AreGroups lines ps → groups at_end n lines ≡ record { points = ps; stop = Ended }
groups_all n [] [] h = refl
groups_all n [] (p ∷ ps) h = absurd h
groups_all n (db ∷ []) ps h = absurd h
groups_all n (db ∷ rp ∷ []) ps h = absurd h
groups_all n (db ∷ rp ∷ line ∷ rest) [] h = absurd h
groups_all n (db ∷ rp ∷ line ∷ rest) (p ∷ ps) h =
    ap (λ x. unless_fault (at_line n x) (λ d. unless_fault (at_line (n + 1) (name_of_line rp)) (λ r. unless_fault (at_line (n + 1 + 1) (line_of d r modes.Recording line)) (λ o. with_line o (groups at_end (n + 1 + 1 + 1) rest))))) (name_ok db h.0)
    ∙ ap (λ x. unless_fault (at_line (n + 1) x) (λ r. unless_fault (at_line (n + 1 + 1) (line_of db r modes.Recording line)) (λ o. with_line o (groups at_end (n + 1 + 1 + 1) rest)))) (name_ok rp h.1)
    ∙ ap (λ x. unless_fault (at_line (n + 1 + 1) x) (λ o. with_line o (groups at_end (n + 1 + 1 + 1) rest))) h.2
    ∙ ap (with_first p) (groups_all (n + 1 + 1 + 1) rest ps h.3)

le_is : (a b : ℕ) → a ≤ b → nat_le a b ≡ true
le_is a b h = grind (arith, nat_tests)

pub recorded : (bytes : List ℕ) (ps : List PointValue) → Recording bytes ps → reading_of bytes ≡ record { points = ps; stop = Ended }
recorded bytes ps h =
    ap (λ t. read 1 (cond t (of_whole_input bytes) (of_input_past_limit (take (2 ^ 30) bytes)))) (le_is (length bytes) (2 ^ 30) h.within)
    ∙ groups_all 1 (all_lines (raw_lines bytes)) ps h.groups

-- ---- what gives points and ends is a recording

no_end : (fault : RecFault) → Faulty fault ≢ Ended
no_end fault e = cc

-- a name that was read, and what follows it
after_name : (n : ℕ) (line : List ℕ) (k : List ℕ → Reading) (ps : List PointValue) → unless_fault (at_line n (name_of_line line)) k ≡ record { points = ps; stop = Ended } → IsName line × (k line ≡ record { points = ps; stop = Ended })
after_name n line k ps e = by (name_of_line line) refl e where
  by : (r : Result (List ℕ) LineFault) → name_of_line line ≡ r → unless_fault (at_line n r) k ≡ record { points = ps; stop = Ended } → IsName line × (k line ≡ record { points = ps; stop = Ended })
  by (Ok d) is f = let named = name_is line d is in (named.0, ap k (sym named.1) ∙ f)
  by (Err g) is f = absurd (no_end (rec_faults.Line n g) (ap (λ (r : Reading). r.stop) f))

-- a point that was read, and what follows it
record AfterLine (db rp line : List ℕ) (rest : Reading) (ps : List PointValue) : Type 0 where
  point : PointValue
  reads : line_of db rp modes.Recording line ≡ Ok (Some point)
  others : rest ≡ record { points = rest.points; stop = Ended }
  points : point ∷ rest.points ≡ ps

after_line : (n : ℕ) (db rp line : List ℕ) (rest : Reading) (ps : List PointValue) → unless_fault (at_line n (line_of db rp modes.Recording line)) (λ o. with_line o rest) ≡ record { points = ps; stop = Ended } → AfterLine db rp line rest ps
after_line n db rp line rest ps e = by (line_of db rp modes.Recording line) refl e where
  by : (r : Result (Option PointValue) LineFault) → line_of db rp modes.Recording line ≡ r → unless_fault (at_line n r) (λ o. with_line o rest) ≡ record { points = ps; stop = Ended } → AfterLine db rp line rest ps
  by (Ok (Some p)) is f = record {
    point = p;
    reads = is;
    others = ap (λ (s : Stop). record { points = rest.points; stop = s }) (ap (λ (r : Reading). r.stop) f);
    points = ap (λ (r : Reading). r.points) f;
  }
  by (Ok None) is f = absurd (not_blank db rp line is)
  by (Err g) is f = absurd (no_end (rec_faults.Line n g) (ap (λ (r : Reading). r.stop) f))

groups_only : (n : ℕ) (lines : List (List ℕ)) (ps : List PointValue) → groups at_end n lines ≡ record { points = ps; stop = Ended } → AreGroups lines ps
groups_only n [] [] e = tt
groups_only n [] (p ∷ ps) e = let none : ◌≡◌ {A = List PointValue} [] (p ∷ ps) = ap (λ (r : Reading). r.points) e in absurd cc
groups_only n (db ∷ []) ps e = no_end _ (ap (λ (r : Reading). r.stop) (after_name n db _ ps e).1)
groups_only n (db ∷ rp ∷ []) ps e = no_end _ (ap (λ (r : Reading). r.stop) (after_name (n + 1) rp _ ps (after_name n db _ ps e).1).1)
groups_only n (db ∷ rp ∷ line ∷ rest) ps e =
    let first = after_name n db (λ d. unless_fault (at_line (n + 1) (name_of_line rp)) (λ r. unless_fault (at_line (n + 1 + 1) (line_of d r modes.Recording line)) (λ o. with_line o (groups at_end (n + 1 + 1 + 1) rest)))) ps e in
    let second = after_name (n + 1) rp (λ r. unless_fault (at_line (n + 1 + 1) (line_of db r modes.Recording line)) (λ o. with_line o (groups at_end (n + 1 + 1 + 1) rest))) ps first.1 in
    let third = after_line (n + 1 + 1) db rp line (groups at_end (n + 1 + 1 + 1) rest) ps second.1 in
    subst (AreGroups (db ∷ rp ∷ line ∷ rest)) third.points (first.0, second.0, third.reads, groups_only (n + 1 + 1 + 1) rest (groups at_end (n + 1 + 1 + 1) rest).points third.others)

-- bytes that go beyond the limit don't end
stop_later : {A : Type 0} (r : Result A RecFault) (k : A → Reading) → ((x : A) → (k x).stop ≢ Ended) → (unless_fault r k).stop ≢ Ended
stop_later (Ok x) k h e = h x e
stop_later (Err f) k h e = no_end f e

stop_line : (o : Option PointValue) (rest : Reading) → rest.stop ≢ Ended → (with_line o rest).stop ≢ Ended
stop_line None rest h e = h e
stop_line (Some p) rest h e = h e

groups_cut : (s : Bool → ℕ → Stop) → ((f : Bool) (n : ℕ) → s f n ≢ Ended) → (n : ℕ) (lines : List (List ℕ)) → (groups s n lines).stop ≢ Ended
groups_cut s cut n [] = cut true n
groups_cut s cut n (db ∷ []) = stop_later (at_line n (name_of_line db)) _ (λ d. cut false (n + 1))
groups_cut s cut n (db ∷ rp ∷ []) = stop_later (at_line n (name_of_line db)) _ (λ d. stop_later (at_line (n + 1) (name_of_line rp)) _ (λ r. cut false (n + 1 + 1)))
groups_cut s cut n (db ∷ rp ∷ line ∷ rest) =
    let others = groups_cut s cut (n + 1 + 1 + 1) rest in
    stop_later (at_line n (name_of_line db)) _ (λ d. stop_later (at_line (n + 1) (name_of_line rp)) _ (λ r.
    stop_later (at_line (n + 1 + 1) (line_of d r modes.Recording line)) _ (λ o. stop_line o (groups s (n + 1 + 1 + 1) rest) others)))

pub is_recording : (bytes : List ℕ) (ps : List PointValue) → reading_of bytes ≡ record { points = ps; stop = Ended } → Recording bytes ps
is_recording bytes ps e = by (nat_le (length bytes) (2 ^ 30)) refl e where
  by : (t : Bool) → nat_le (length bytes) (2 ^ 30) ≡ t → read 1 (cond t (of_whole_input bytes) (of_input_past_limit (take (2 ^ 30) bytes))) ≡ record { points = ps; stop = Ended } → Recording bytes ps
  by true fits f = record { within = grind (arith, nat_tests); groups = groups_only 1 (all_lines (raw_lines bytes)) ps f }
  by false beyond f =
      let some = take (2 ^ 30) bytes in
      absurd (groups_cut (at_limit (last_part (raw_lines some))) (λ first n. no_end _) 1 (closed_lines (raw_lines some)) (ap (λ (r : Reading). r.stop) f))
