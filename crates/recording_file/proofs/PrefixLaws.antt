-- What bytes give that others may follow, against what they give with these.
use Rattle.std.proofs.Common.{◌≡◌, ℕ, zero, suc, ◌+◌, ◌-◌, ◌^◌, ◌<◌, ◌≤◌, Bool, true, false, cond, Option, None, Some, Ok, Err, List, [], ◌∷◌, ◌++◌, length, take, drop, refl, sym, ap, ◌∙◌, subst, arith, length-append, length-drop}
use Rattle.std.specs.Prelude.{Result, nat_lt}
use Rattle.std.specs.List.{position_or_len}
use Rattle.std.proofs.lemmas.Bool.Decides.{nat_tests}
use Rattle.std.proofs.lemmas.List.{drop-append-le, take-append-le}
use Rattle.std.proofs.Math.Seq.{take-length}
use Rattle.kap_base.specs.Points.{PointValue}
use Rattle.line_points.specs.declared.fault.LineFault.TheVariants as faults
use Rattle.line_points.specs.declared.mode.Mode.TheVariants as modes
use Rattle.line_points.specs.Body.{without_return}
use Rattle.line_points.specs.Line.{line_of}
use Rattle.recording_file.specs.declared.fault.RecFault.{RecFault}
use Rattle.recording_file.specs.declared.fault.RecFault.TheVariants as rec_faults
use Rattle.recording_file.specs.Lines.{is_feed, is_long, raw_lines, closed_lines, last_part}
use Rattle.recording_file.specs.Recording.{Reading, LinesRead, Faulty, Undecided, GoesOn, name_of_line, at_line, unless_fault, no_points, with_first, with_line, groups, at_open, of_input, read, reading_of, reading_so_far}
use Rattle.recording_file.specs.Steps.{before, behind_policy, behind_database, Halts}
use Rattle.recording_file.proofs.FindLaws.{pos_more, pos_there}
use Rattle.recording_file.proofs.LineLaws.{some_raw, raw_line, raw_last, closed_more, last_more, of_input_line}
use Rattle.recording_file.proofs.StepLaws.{read_behind}
use Rattle.recording_file.proofs.HaltLaws.{pos_within, of_input_long}

-- ---- the lines of bytes that others follow

-- first come the lines that are closed, and then those of what stands behind them
record Split (bytes more : List ℕ) (limit : ℕ) : Type 0 where
  left : ℕ
  fits : length (last_part (raw_lines bytes)) ≤ left
  no_feed : position_or_len is_feed (last_part (raw_lines bytes)) ≡ length (last_part (raw_lines bytes))
  is : of_input limit (bytes ++ more) ≡ record {
    lines = closed_lines (raw_lines bytes) ++ (of_input left (last_part (raw_lines bytes) ++ more)).lines;
    stop = (of_input left (last_part (raw_lines bytes) ++ more)).stop;
  }

split_none : (bytes more : List ℕ) (limit : ℕ) → length bytes ≤ limit → position_or_len is_feed bytes ≡ length bytes → Split bytes more limit
split_none bytes more limit within none =
    let one = raw_last bytes none in
    record {
      left = limit;
      fits = subst (λ (r : List (List ℕ)). length (last_part r) ≤ limit) (sym one) within;
      no_feed = subst (λ (r : List (List ℕ)). position_or_len is_feed (last_part r) ≡ length (last_part r)) (sym one) none;
      is = ap (λ (r : List (List ℕ)). record { lines = closed_lines r ++ (of_input limit (last_part r ++ more)).lines; stop = (of_input limit (last_part r ++ more)).stop }) (sym one);
    }

split_more : (bytes more : List ℕ) (limit k : ℕ) → length bytes ≤ limit → k ≡ position_or_len is_feed bytes → k < length bytes → Split (drop (k + 1) bytes) more (limit - (k + 1)) → Split bytes more limit
split_more bytes more limit k within is lt rest =
    let some = some_raw (drop (k + 1) bytes) in
    let raw = raw_line bytes k is lt in
    let last : last_part (raw_lines bytes) ≡ last_part (raw_lines (drop (k + 1) bytes)) = ap last_part raw ∙ last_more (take k bytes) (raw_lines (drop (k + 1) bytes)) some in
    let closed : closed_lines (raw_lines bytes) ≡ without_return (take k bytes) ∷ closed_lines (raw_lines (drop (k + 1) bytes)) = ap closed_lines raw ∙ closed_more (take k bytes) (raw_lines (drop (k + 1) bytes)) some in
    let place : k ≡ position_or_len is_feed (bytes ++ more) = is ∙ sym (pos_there bytes more (subst (λ n. n < length bytes) is lt)) in
    record {
      left = rest.left;
      fits = subst (λ (l : List ℕ). length l ≤ rest.left) (sym last) rest.fits;
      no_feed = subst (λ (l : List ℕ). position_or_len is_feed l ≡ length l) (sym last) rest.no_feed;
      is = of_input_line limit (bytes ++ more) k place (omega (arith, length-append bytes more)) (omega arith)
          ∙ ap (λ (l : List ℕ). before (without_return l) (of_input (limit - (k + 1)) (drop (k + 1) (bytes ++ more)))) (take-append-le k bytes more (omega arith))
          ∙ ap (λ (l : List ℕ). before (without_return (take k bytes)) (of_input (limit - (k + 1)) l)) (drop-append-le (k + 1) bytes more (omega arith))
          ∙ ap (before (without_return (take k bytes))) rest.is
          ∙ ap (λ (l : List ℕ). record { lines = without_return (take k bytes) ∷ (closed_lines (raw_lines (drop (k + 1) bytes)) ++ (of_input rest.left (l ++ more)).lines); stop = (of_input rest.left (l ++ more)).stop }) (sym last)
          ∙ ap (λ (l : List (List ℕ)). record { lines = l ++ (of_input rest.left (last_part (raw_lines bytes) ++ more)).lines; stop = (of_input rest.left (last_part (raw_lines bytes) ++ more)).stop }) (sym closed);
    }

split_lines : (size : ℕ) (bytes more : List ℕ) (limit : ℕ) → length bytes ≤ size → length bytes ≤ limit → Split bytes more limit
split_lines zero bytes more limit few within = let bound = pos_within bytes in split_none bytes more limit within (omega arith)
split_lines (suc size) bytes more limit few within =
    let k = position_or_len is_feed bytes in
    elim (nat_lt k (length bytes)) as (λ t. nat_lt k (length bytes) ≡ t → Split bytes more limit) [
      | true ↦ λ e.
          let lt : k < length bytes = grind (arith, nat_tests) in
          split_more bytes more limit k within refl lt (split_lines size (drop (k + 1) bytes) more (limit - (k + 1)) (omega (arith, length-drop (k + 1) bytes)) (omega (arith, length-drop (k + 1) bytes)))
      | false ↦ λ e. let bound = pos_within bytes in split_none bytes more limit within (grind (arith, nat_tests))
    ] refl

-- ---- what groups give

go_further : {A : Type 0} (r : Result A RecFault) (k m : A → Reading) → ((x : A) → GoesOn (k x) (m x)) → GoesOn (unless_fault r k) (unless_fault r m)
go_further (Ok x) k m h = h x
go_further (Err f) k m h = record { others = []; points = refl; same = λ fault e. refl }

go_line : (o : Option PointValue) (a b : Reading) → GoesOn a b → GoesOn (with_line o a) (with_line o b)
go_line None a b h = h
go_line (Some p) a b h = record { others = h.others; points = ap (λ (l : List PointValue). p ∷ l) h.points; same = λ fault e. ap (with_first p) (h.same fault e) }

-- where a line is missing, which may be too long already
go_stop : (last : List ℕ) (first : Bool) (m : ℕ) (whole : Reading) → (is_long (without_return last) ≡ true → whole ≡ no_points (Faulty (rec_faults.Line m faults.Long))) → GoesOn (no_points (at_open last first m)) whole
go_stop last first m whole halts = record {
  others = whole.points;
  points = refl;
  same = λ fault e. elim (is_long (without_return last)) as (λ t. is_long (without_return last) ≡ t → cond t (Faulty (rec_faults.Line m faults.Long)) Undecided ≡ Faulty fault → whole ≡ no_points (cond t (Faulty (rec_faults.Line m faults.Long)) Undecided)) [
    | true ↦ λ long is. halts long
    | false ↦ λ short is. absurd cc
  ] refl e;
}

module _ (last : List ℕ) (tail : LinesRead) (halts : (m : ℕ) → is_long (without_return last) ≡ true → Halts m (Faulty (rec_faults.Line m faults.Long)) tail) where
  groups_go_on : (n : ℕ) (lines : List (List ℕ)) → GoesOn (groups (at_open last) n lines) (groups tail.stop n (lines ++ tail.lines))
  groups_go_on n [] = go_stop last true n (groups tail.stop n tail.lines) (λ long. (halts n long).group)
  groups_go_on n (db ∷ []) =
      subst (GoesOn (groups (at_open last) n (db ∷ []))) (sym (read_behind tail.stop n db tail.lines))
      (go_further (at_line n (name_of_line db)) _ _ (λ d. go_stop last false (n + 1) (behind_database d tail.stop (n + 1) tail.lines) (λ long. (halts (n + 1) long).database d)))
  groups_go_on n (db ∷ rp ∷ []) =
      subst (GoesOn (groups (at_open last) n (db ∷ rp ∷ []))) (sym (read_behind tail.stop n db (rp ∷ tail.lines)))
      (go_further (at_line n (name_of_line db)) _ _ (λ d. go_further (at_line (n + 1) (name_of_line rp)) _ _ (λ r.
      go_stop last false (n + 1 + 1) (behind_policy d r tail.stop (n + 1 + 1) tail.lines) (λ long. (halts (n + 1 + 1) long).policy d r))))
  groups_go_on n (db ∷ rp ∷ line ∷ rest) =
      let others = groups_go_on (n + 1 + 1 + 1) rest in
      go_further (at_line n (name_of_line db)) _ _ (λ d. go_further (at_line (n + 1) (name_of_line rp)) _ _ (λ r.
      go_further (at_line (n + 1 + 1) (line_of d r modes.Recording line)) _ _ (λ o. go_line o _ _ others)))

pub goes_on : (bytes more : List ℕ) → length bytes ≤ 2 ^ 30 → GoesOn (reading_so_far bytes) (reading_of (bytes ++ more))
goes_on bytes more within =
    let last = last_part (raw_lines bytes) in
    let s = split_lines (length bytes) bytes more (2 ^ 30) (omega arith) within in
    let far = pos_more last more in
    let no_feed = s.no_feed in
    let same : take (length last) (last ++ more) ≡ last = take-append-le (length last) last more (omega arith) ∙ take-length last in
    subst (λ (seen : LinesRead). GoesOn (reading_so_far bytes) (read 1 seen)) (sym s.is)
    (groups_go_on last (of_input s.left (last ++ more)) (λ m long. of_input_long m s.left (last ++ more) (length last) (omega arith) (subst (λ (l : List ℕ). is_long (without_return l) ≡ true) (sym same) long) s.fits) 1 (closed_lines (raw_lines bytes)))
