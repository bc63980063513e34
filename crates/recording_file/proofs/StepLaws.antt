-- The steps of a reader, one after the other.
use Rattle.std.proofs.Common.{◌≡◌, ℕ, ◌+◌, ◌-◌, ◌^◌, ◌<◌, ◌≤◌, Bool, true, false, Option, Some, Ok, Err, List, [], ◌∷◌, ◌++◌, length, take, drop, min, refl, sym, ap, ◌∙◌, subst, append_assoc, append-nil, arith, length-append}
use Rattle.std.specs.Prelude.{Result, IsTrue, nat_lt}
use Rattle.std.specs.List.{position_or_len}
use Rattle.std.proofs.lemmas.Bool.Decides.{nat_tests}
use Rattle.std.proofs.lemmas.List.{drop-append-le, take-append-le}
use Rattle.kap_base.specs.Points.{PointValue}
use Rattle.line_points.specs.declared.fault.LineFault.{LineFault}
use Rattle.line_points.specs.declared.mode.Mode.TheVariants as modes
use Rattle.line_points.specs.Body.{without_return}
use Rattle.line_points.specs.Line.{line_of}
use Rattle.recording_file.specs.declared.fault.RecFault.TheVariants as rec_faults
use Rattle.recording_file.specs.Lines.{is_feed}
use Rattle.recording_file.specs.Recording.{Reading, LinesRead, Stop, Faulty, name_of_line, at_line, unless_fault, no_points, with_points, with_line, groups, of_input_so_far, of_input, read, reading_of, reading_so_far}
use Rattle.recording_file.specs.Finding.{ReadPlace, Stays, IsLine, Passes, room, size_with_feed}
use Rattle.recording_file.specs.Steps.{before, behind_policy, behind_database, read_policy, read_database, Ahead}
use Rattle.recording_file.proofs.FindLaws.{pos_there, nothing_more}
use Rattle.recording_file.proofs.LineLaws.{of_input_first, so_far_line}

pub not_yet : (b c : Bool) → (b ≡ true → c ≡ true) → c ≡ false → b ≡ false
not_yet true c stays is = sym (stays refl) ∙ is
not_yet false c stays is = refl

-- ---- reading on

-- what is ahead stays ahead
pub ahead_on : (R : ℕ → LinesRead → Reading) (ps : List PointValue) (a b : ReadPlace) (s t : Option (List ℕ)) → Stays a b s t → Ahead R ps a → Ahead R ps b
ahead_on R ps a b s t on h =
    let piece = on.reads.piece in
    let same : (more : List ℕ) → a.bytes ++ (piece ++ more) ≡ b.bytes ++ more = λ more. sym (append_assoc a.bytes piece more) ∙ ap (λ (l : List ℕ). l ++ more) (sym on.bytes) in
    record {
      whole = λ more none. ap (λ l. reading_of (l ++ more)) on.reads.got ∙ ap reading_of (append_assoc a.got piece more)
          ∙ h.whole (piece ++ more) (λ e. nothing_more piece more (on.reads.none e) (none (on.reads.stays_ended e)))
          ∙ ap (λ l. with_points ps (R a.line (of_input (room a) l))) (same more)
          ∙ ap (λ n. with_points ps (R a.line (of_input (2 ^ 30 - n) (b.bytes ++ more)))) (sym on.passed)
          ∙ ap (λ n. with_points ps (R n (of_input (room b) (b.bytes ++ more)))) (sym on.line);
      prefix = λ more open_still. ap (λ l. reading_so_far (l ++ more)) on.reads.got ∙ ap reading_so_far (append_assoc a.got piece more)
          ∙ h.prefix (piece ++ more) (not_yet a.ended b.ended on.reads.stays_ended open_still)
          ∙ ap (λ l. with_points ps (R a.line (of_input_so_far l))) (same more)
          ∙ ap (λ n. with_points ps (R n (of_input_so_far (b.bytes ++ more)))) (sym on.line);
    }

-- ---- a line

-- the line is the first of what is ahead, whatever follows
module _ (b : ReadPlace) (size : ℕ) (line : IsLine b size) where
  inner : (more : List ℕ) → size < length b.bytes → size ≡ position_or_len is_feed (b.bytes ++ more)
  inner more lt = line.ends ∙ sym (pos_there b.bytes more (subst (λ n. n < length b.bytes) line.ends lt))

  ahead_inner : (more : List ℕ) → size < length b.bytes → of_input (room b) (b.bytes ++ more) ≡ before (without_return (take size b.bytes)) (of_input (room b - size_with_feed size b.bytes) (drop (size + 1) b.bytes ++ more))
  ahead_inner more lt =
      let some : size < length (b.bytes ++ more) = omega (arith, length-append b.bytes more) in
      let one : min (size + 1) (length (b.bytes ++ more)) ≡ size_with_feed size b.bytes = omega (arith, length-append b.bytes more) in
      let fits : min (size + 1) (length (b.bytes ++ more)) ≤ room b = subst (λ n. n ≤ room b) (sym one) line.fits in
      of_input_first (room b) (b.bytes ++ more) size (inner more lt) (omega arith) (omega arith) fits
      ∙ ap (λ n. before (without_return (take size (b.bytes ++ more))) (of_input (room b - n) (drop (size + 1) (b.bytes ++ more)))) one
      ∙ ap (λ l. before (without_return l) (of_input (room b - size_with_feed size b.bytes) (drop (size + 1) (b.bytes ++ more)))) (take-append-le size b.bytes more (omega arith))
      ∙ ap (λ l. before (without_return (take size b.bytes)) (of_input (room b - size_with_feed size b.bytes) l)) (drop-append-le (size + 1) b.bytes more (omega arith))

  ahead_last : of_input (room b) b.bytes ≡ before (without_return (take size b.bytes)) (of_input (room b - size_with_feed size b.bytes) (drop (size + 1) b.bytes))
  ahead_last = of_input_first (room b) b.bytes size line.ends line.within line.some line.fits

  pub whole_first : (more : List ℕ) → (IsTrue b.ended → more ≡ []) → of_input (room b) (b.bytes ++ more) ≡ before (without_return (take size b.bytes)) (of_input (room b - size_with_feed size b.bytes) (drop (size + 1) b.bytes ++ more))
  whole_first more none =
      elim (nat_lt size (length b.bytes)) as (λ t. nat_lt size (length b.bytes) ≡ t → of_input (room b) (b.bytes ++ more) ≡ before (without_return (take size b.bytes)) (of_input (room b - size_with_feed size b.bytes) (drop (size + 1) b.bytes ++ more))) [
        | true ↦ λ e. ahead_inner more (grind (arith, nat_tests))
        | false ↦ λ e.
            let all_of_it : size ≡ length b.bytes = let within = line.within in grind (arith, nat_tests) in
            let nothing : more ≡ [] = none (line.last all_of_it) in
            let same : (xs : List ℕ) → xs ++ more ≡ xs = λ xs. ap (λ (m : List ℕ). xs ++ m) nothing ∙ append-nil xs in
            ap (of_input (room b)) (same b.bytes) ∙ ahead_last ∙ ap (λ l. before (without_return (take size b.bytes)) (of_input (room b - size_with_feed size b.bytes) l)) (sym (same (drop (size + 1) b.bytes)))
      ] refl

  prefix_first : (more : List ℕ) → b.ended ≡ false → of_input_so_far (b.bytes ++ more) ≡ before (without_return (take size b.bytes)) (of_input_so_far (drop (size + 1) b.bytes ++ more))
  prefix_first more open_still =
      elim (nat_lt size (length b.bytes)) as (λ t. nat_lt size (length b.bytes) ≡ t → of_input_so_far (b.bytes ++ more) ≡ before (without_return (take size b.bytes)) (of_input_so_far (drop (size + 1) b.bytes ++ more))) [
        | true ↦ λ e.
            let lt : size < length b.bytes = grind (arith, nat_tests) in
            so_far_line (b.bytes ++ more) size (inner more lt) (omega (arith, length-append b.bytes more))
            ∙ ap (λ l. before (without_return l) (of_input_so_far (drop (size + 1) (b.bytes ++ more)))) (take-append-le size b.bytes more (omega arith))
            ∙ ap (λ l. before (without_return (take size b.bytes)) (of_input_so_far l)) (drop-append-le (size + 1) b.bytes more (omega arith))
        | false ↦ λ e.
            let all_of_it : size ≡ length b.bytes = let within = line.within in grind (arith, nat_tests) in
            let over : b.ended ≡ true = line.last all_of_it in
            cc
      ] refl

-- points before points
pub points_more : (ps qs : List PointValue) (r : Reading) → with_points ps (with_points qs r) ≡ with_points (ps ++ qs) r
points_more ps qs r = ap (λ (l : List PointValue). record { points = l; stop = r.stop }) (sym (append_assoc ps qs r.points))

-- a line that gives these points was passed
module _ (R Q : ℕ → LinesRead → Reading) (ps qs : List PointValue) (b c : ReadPlace) (size : ℕ) (line : IsLine b size) (passes : Passes b c size)
    (step : (seen : LinesRead) → R b.line (before (without_return (take size b.bytes)) seen) ≡ with_points qs (Q (b.line + 1) seen)) where
  line_step : (seen : LinesRead) → with_points ps (R b.line (before (without_return (take size b.bytes)) seen)) ≡ with_points (ps ++ qs) (Q c.line seen)
  line_step seen = ap (with_points ps) (step seen) ∙ points_more ps qs (Q (b.line + 1) seen) ∙ ap (λ n. with_points (ps ++ qs) (Q n seen)) (sym passes.line)

  pub ahead_line : Ahead R ps b → Ahead Q (ps ++ qs) c
  ahead_line h =
      let behind_room : room b - size_with_feed size b.bytes ≡ room c = rw passes.passed (omega arith) in
      record {
        whole = λ more none. ap (λ l. reading_of (l ++ more)) passes.got
            ∙ h.whole more (λ e. none (passes.ended ∙ e))
            ∙ ap (λ seen. with_points ps (R b.line seen)) (whole_first b size line more (λ e. none (passes.ended ∙ e)))
            ∙ line_step (of_input (room b - size_with_feed size b.bytes) (drop (size + 1) b.bytes ++ more))
            ∙ ap (λ n. with_points (ps ++ qs) (Q c.line (of_input n (drop (size + 1) b.bytes ++ more)))) behind_room
            ∙ ap (λ l. with_points (ps ++ qs) (Q c.line (of_input (room c) (l ++ more)))) (sym passes.bytes);
        prefix = λ more open_still. ap (λ l. reading_so_far (l ++ more)) passes.got
            ∙ h.prefix more (sym passes.ended ∙ open_still)
            ∙ ap (λ seen. with_points ps (R b.line seen)) (prefix_first b size line more (sym passes.ended ∙ open_still))
            ∙ line_step (of_input_so_far (drop (size + 1) b.bytes ++ more))
            ∙ ap (λ l. with_points (ps ++ qs) (Q c.line (of_input_so_far (l ++ more)))) (sym passes.bytes);
      }

-- a line that gives no point was passed
pub ahead_name : (R Q : ℕ → LinesRead → Reading) (ps : List PointValue) (b c : ReadPlace) (size : ℕ) → IsLine b size → Passes b c size
    → ((seen : LinesRead) → R b.line (before (without_return (take size b.bytes)) seen) ≡ Q (b.line + 1) seen) → Ahead R ps b → Ahead Q ps c
ahead_name R Q ps b c size line passes step h = subst (λ l. Ahead Q l c) (append-nil ps) (ahead_line R Q ps [] b c size line passes step h)

-- ---- the lines of a group

-- the rest of a group behind its database is the rest behind its policy
pub read_behind : (stop : Bool → ℕ → Stop) (n : ℕ) (db : List ℕ) (rest : List (List ℕ)) → groups stop n (db ∷ rest) ≡ unless_fault (at_line n (name_of_line db)) (λ d. behind_database d stop (n + 1) rest)
read_behind stop n db [] = refl
read_behind stop n db (rp ∷ []) = refl
read_behind stop n db (rp ∷ line ∷ rest) = refl

further_ok : {A : Type 0} (n : ℕ) (x : Result A LineFault) (v : A) (k : A → Reading) → x ≡ Ok v → unless_fault (at_line n x) k ≡ k v
further_ok n x v k is = ap (λ y. unless_fault (at_line n y) k) is

further_err : {A : Type 0} (n : ℕ) (x : Result A LineFault) (f : LineFault) (k : A → Reading) → x ≡ Err f → unless_fault (at_line n x) k ≡ no_points (Faulty (rec_faults.Line n f))
further_err n x f k is = ap (λ y. unless_fault (at_line n y) k) is

-- a database, a policy and a point
pub group_step : (d : List ℕ) (n : ℕ) (line : List ℕ) (seen : LinesRead) → name_of_line line ≡ Ok d → read n (before line seen) ≡ read_database d (n + 1) seen
group_step d n line seen is = read_behind seen.stop n line seen.lines ∙ further_ok n (name_of_line line) d (λ d. behind_database d seen.stop (n + 1) seen.lines) is

pub database_step : (d r : List ℕ) (n : ℕ) (line : List ℕ) (seen : LinesRead) → name_of_line line ≡ Ok r → read_database d n (before line seen) ≡ read_policy d r (n + 1) seen
database_step d r n line seen is = further_ok n (name_of_line line) r (λ r. behind_policy d r seen.stop (n + 1) seen.lines) is

pub policy_step : (d r : List ℕ) (n : ℕ) (line : List ℕ) (p : PointValue) (seen : LinesRead) → line_of d r modes.Recording line ≡ Ok (Some p) → read_policy d r n (before line seen) ≡ with_points (p ∷ []) (read (n + 1) seen)
policy_step d r n line p seen is = further_ok n (line_of d r modes.Recording line) (Some p) (λ o. with_line o (groups seen.stop (n + 1) seen.lines)) is

-- and their faults
pub group_fault : (n : ℕ) (line : List ℕ) (f : LineFault) (seen : LinesRead) → name_of_line line ≡ Err f → read n (before line seen) ≡ no_points (Faulty (rec_faults.Line n f))
group_fault n line f seen is = read_behind seen.stop n line seen.lines ∙ further_err n (name_of_line line) f (λ d. behind_database d seen.stop (n + 1) seen.lines) is

pub database_fault : (d : List ℕ) (n : ℕ) (line : List ℕ) (f : LineFault) (seen : LinesRead) → name_of_line line ≡ Err f → read_database d n (before line seen) ≡ no_points (Faulty (rec_faults.Line n f))
database_fault d n line f seen is = further_err n (name_of_line line) f (λ r. behind_policy d r seen.stop (n + 1) seen.lines) is

pub policy_fault : (d r : List ℕ) (n : ℕ) (line : List ℕ) (f : LineFault) (seen : LinesRead) → line_of d r modes.Recording line ≡ Err f → read_policy d r n (before line seen) ≡ no_points (Faulty (rec_faults.Line n f))
policy_fault d r n line f seen is = further_err n (line_of d r modes.Recording line) f (λ o. with_line o (groups seen.stop (n + 1) seen.lines)) is
