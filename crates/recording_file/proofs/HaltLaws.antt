-- Where a reader stops.
use Rattle.std.proofs.Common.{◌≡◌, ◌≢◌, ℕ, zero, suc, ◌+◌, ◌<◌, ◌≤◌, Bool, true, false, cond, not, Some, Ok, Err, List, [], ◌∷◌, ◌++◌, length, take, refl, sym, ap, ◌∙◌, subst, append-nil, arith, length-append}
use Rattle.std.specs.Prelude.{Result, IsTrue, nat_lt, nat_le, ◌==◌}
use Rattle.std.specs.List.{position_or_len}
use Rattle.std.proofs.lemmas.Bool.Decides.{nat_tests}
use Rattle.std.proofs.lemmas.List.{length-take, take-append-le}
use Rattle.std.proofs.Math.Seq.{take-length}
use Rattle.kap_base.specs.Words.{◌>>=◌}
use Rattle.kap_base.specs.Points.{PointValue}
use Rattle.line_points.specs.declared.fault.LineFault.{LineFault}
use Rattle.line_points.specs.declared.fault.LineFault.TheVariants as faults
use Rattle.line_points.specs.declared.mode.Mode.TheVariants as modes
use Rattle.line_points.specs.Body.{without_return}
use Rattle.line_points.specs.Line.{line_of, stored_of}
use Rattle.recording_file.specs.declared.fault.RecFault.{RecFault}
use Rattle.recording_file.specs.declared.fault.RecFault.TheVariants as rec_faults
use Rattle.recording_file.specs.Lines.{is_feed, is_long}
use Rattle.recording_file.specs.Recording.{Reading, LinesRead, Stop, Faulty, Undecided, name_of_line, no_points, with_points, at_open, at_limit, of_whole_input, of_input_so_far, of_input_past_limit, of_input, read, reading_so_far}
use Rattle.recording_file.specs.Finding.{ReadPlace, IsLine, IsTooLong, FindsNone, room}
use Rattle.recording_file.specs.Steps.{before, read_database, Halts, ReadsName, Ahead, StopsWith, Refuses, FaultAt}
use Rattle.recording_file.proofs.FindLaws.{pos_more, return_short}
use Rattle.recording_file.proofs.LineLaws.{raw_last, place_before, take_prefix, of_input_none, whole_line, cut_line, whole_last}
use Rattle.recording_file.proofs.StepLaws.{whole_first, group_fault, database_fault, policy_fault}

-- no line is there
halt_none : (n : ℕ) (stop : Stop) (s : Bool → ℕ → Stop) → ((f : Bool) → s f n ≡ stop) → Halts n stop (record { lines = []; stop = s })
halt_none n stop s is = record { group = ap no_points (is true); database = λ d. ap no_points (is false); policy = λ d r. ap no_points (is false) }

not_named : (line : List ℕ) → is_long line ≡ true → name_of_line line ≡ Err faults.Long
not_named line long = rw long refl

not_read : (d r line : List ℕ) → is_long line ≡ true → line_of d r modes.Recording line ≡ Err faults.Long
unfolding line_of
not_read d r line long = ap (λ t. cond t (Err faults.Long) (stored_of d r modes.Recording line >>= λ p. Ok (Some p))) long

-- the line is too long
halt_long : (n : ℕ) (line : List ℕ) (seen : LinesRead) → is_long line ≡ true → Halts n (Faulty (rec_faults.Line n faults.Long)) (before line seen)
halt_long n line seen long = record {
  group = group_fault n line faults.Long seen (not_named line long);
  database = λ d. database_fault d n line faults.Long seen (not_named line long);
  policy = λ d r. policy_fault d r n line faults.Long seen (not_read d r line long);
}

-- ---- lines that are too long, and recordings

-- the first n bytes have no line feed where none stands before n
none_within : (n : ℕ) (bytes : List ℕ) → n ≤ position_or_len is_feed bytes → position_or_len is_feed (take n bytes) ≡ length (take n bytes)
none_within zero bytes h = refl
none_within (suc n) [] h = refl
none_within (suc n) (b ∷ bytes) h =
    let above : Bool → Type 0 = λ f. suc n ≤ cond (not f) (1 + position_or_len is_feed bytes) 0 in
    elim (is_feed b) as (λ f. is_feed b ≡ f → cond (not f) (1 + position_or_len is_feed (take n bytes)) 0 ≡ suc (length (take n bytes))) [
      | true ↦ λ e. let one : suc n ≤ 0 = subst above e h in absurd (omega arith)
      | false ↦ λ e. let one : suc n ≤ 1 + position_or_len is_feed bytes = subst above e h in let rest = none_within n bytes (omega arith) in omega arith
    ] refl

return_less : (line : List ℕ) → length (without_return line) ≤ length line
return_less [] = omega arith
return_less (b ∷ []) = elim (b == 13) as (λ t. length (cond t [] (b ∷ [])) ≤ 1) [ true ↦ omega arith | false ↦ omega arith ]
return_less (b ∷ c ∷ line) = let rest = return_less (c ∷ line) in omega arith

is_more : (line : List ℕ) → 65536 < length line → is_long line ≡ true
is_more line more = grind (arith, nat_tests)

is_few : (line : List ℕ) → is_long line ≡ true → 65536 < length line
is_few line long = grind (arith, nat_tests)

-- a line whose first bytes are too many is too long
long_further : (n k : ℕ) (bytes : List ℕ) → n ≤ k → k ≤ length bytes → is_long (without_return (take n bytes)) ≡ true → is_long (without_return (take k bytes)) ≡ true
long_further n k bytes le within long =
    elim (nat_lt n k) as (λ t. nat_lt n k ≡ t → is_long (without_return (take k bytes)) ≡ true) [
      | true ↦ λ e.
          let more : n < k = grind (arith, nat_tests) in
          let big = is_few (without_return (take n bytes)) long in
          let most = return_less (take n bytes) in
          let first : length (take n bytes) ≡ n = omega (arith, length-take n bytes) in
          let second : length (take k bytes) ≡ k = omega (arith, length-take k bytes) in
          let least = return_short (take k bytes) in
          is_more (without_return (take k bytes)) (omega arith)
      | false ↦ λ e. let same : n ≡ k = grind (arith, nat_tests) in subst (λ m. is_long (without_return (take m bytes)) ≡ true) same long
    ] refl

pub pos_within : (bytes : List ℕ) → position_or_len is_feed bytes ≤ length bytes
pos_within [] = omega arith
pos_within (x ∷ xs) = let rest = pos_within xs in elim (is_feed x) as (λ f. cond (not f) (1 + position_or_len is_feed xs) 0 ≤ suc (length xs)) [ true ↦ omega arith | false ↦ omega arith ]

-- the bytes up to the limit have no line feed
cut_none : (bytes : List ℕ) → position_or_len is_feed bytes ≡ length bytes → of_input_past_limit bytes ≡ record { lines = []; stop = at_limit bytes }
cut_none bytes none = rw (raw_last bytes none) refl

so_far_none : (bytes : List ℕ) → position_or_len is_feed bytes ≡ length bytes → of_input_so_far bytes ≡ record { lines = []; stop = at_open bytes }
so_far_none bytes none = rw (raw_last bytes none) refl

module _ (n limit : ℕ) (bytes : List ℕ) (size : ℕ) (no_feed : size ≤ position_or_len is_feed bytes) (long : is_long (without_return (take size bytes)) ≡ true) where
  -- of bytes that are all
  whole_long : Halts n (Faulty (rec_faults.Line n faults.Long)) (of_whole_input bytes)
  whole_long = elim (nat_lt (position_or_len is_feed bytes) (length bytes)) as (λ t. nat_lt (position_or_len is_feed bytes) (length bytes) ≡ t → Halts n (Faulty (rec_faults.Line n faults.Long)) (of_whole_input bytes)) [
    | true ↦ λ e.
        let lt : position_or_len is_feed bytes < length bytes = grind (arith, nat_tests) in
        subst (Halts n (Faulty (rec_faults.Line n faults.Long))) (sym (whole_line bytes (position_or_len is_feed bytes) refl lt)) (halt_long n _ _ (long_further size (position_or_len is_feed bytes) bytes no_feed (omega arith) long))
    | false ↦ λ e.
        let bound = pos_within bytes in
        let none : position_or_len is_feed bytes ≡ length bytes = grind (arith, nat_tests) in
        let all_of_it : is_long (without_return bytes) ≡ true = subst (λ l. is_long (without_return l) ≡ true) (take-length bytes) (long_further size (length bytes) bytes (omega arith) (omega arith) long) in
        last_long bytes none all_of_it
  ] refl where
    last_long : (xs : List ℕ) → position_or_len is_feed xs ≡ length xs → is_long (without_return xs) ≡ true → Halts n (Faulty (rec_faults.Line n faults.Long)) (of_whole_input xs)
    last_long [] none big = absurd (let few = is_few [] big in omega arith)
    last_long (x ∷ xs) none big = subst (Halts n (Faulty (rec_faults.Line n faults.Long))) (sym (whole_last x xs none)) (halt_long n _ _ big)

  module _ (fits : size ≤ limit) (beyond : limit < length bytes) where
    -- the line goes beyond the limit
    cut_beyond : limit ≤ position_or_len is_feed bytes → Halts n (Faulty (rec_faults.Line n faults.Long)) (of_input_past_limit (take limit bytes))
    cut_beyond h =
        let big : is_long (without_return (take limit bytes)) ≡ true = long_further size limit bytes fits (omega arith) long in
        subst (Halts n (Faulty (rec_faults.Line n faults.Long))) (sym (cut_none (take limit bytes) (none_within limit bytes h)))
        (halt_none n _ (at_limit (take limit bytes)) (λ f. ap (λ t. Faulty (cond t (rec_faults.Line n faults.Long) rec_faults.Long)) big))

    -- the line ends before it
    cut_before : position_or_len is_feed bytes < limit → Halts n (Faulty (rec_faults.Line n faults.Long)) (of_input_past_limit (take limit bytes))
    cut_before h =
        let k = position_or_len is_feed bytes in
        let place : position_or_len is_feed (take limit bytes) ≡ k = place_before limit bytes h (omega arith) in
        let within : length (take limit bytes) ≡ limit = omega (arith, length-take limit bytes) in
        let first : is_long (without_return (take size (take limit bytes))) ≡ true = subst (λ l. is_long (without_return l) ≡ true) (sym (take_prefix size limit bytes fits)) long in
        subst (Halts n (Faulty (rec_faults.Line n faults.Long))) (sym (cut_line (take limit bytes) k (sym place) (omega arith))) (halt_long n _ _ (long_further size k (take limit bytes) no_feed (omega arith) first))

    cut_long : Halts n (Faulty (rec_faults.Line n faults.Long)) (of_input_past_limit (take limit bytes))
    cut_long = elim (nat_lt (position_or_len is_feed bytes) limit) as (λ t. nat_lt (position_or_len is_feed bytes) limit ≡ t → Halts n (Faulty (rec_faults.Line n faults.Long)) (of_input_past_limit (take limit bytes))) [
      | true ↦ λ e. cut_before (grind (arith, nat_tests))
      | false ↦ λ e. cut_beyond (grind (arith, nat_tests))
    ] refl

  -- a line that is too long within the limit
  pub of_input_long : size ≤ limit → Halts n (Faulty (rec_faults.Line n faults.Long)) (of_input limit bytes)
  of_input_long fits = elim (nat_le (length bytes) limit) as (λ t. nat_le (length bytes) limit ≡ t → Halts n (Faulty (rec_faults.Line n faults.Long)) (cond t (of_whole_input bytes) (of_input_past_limit (take limit bytes)))) [
    | true ↦ λ e. whole_long
    | false ↦ λ e. cut_long fits (grind (arith, nat_tests))
  ] refl

-- a line that isn't ended within the limit, and isn't too long there
of_input_past : (n limit : ℕ) (bytes : List ℕ) → limit < length bytes → limit ≤ position_or_len is_feed bytes → is_long (without_return (take limit bytes)) ≡ false → Halts n (Faulty rec_faults.Long) (of_input limit bytes)
of_input_past n limit bytes beyond none short =
    let cut_off : nat_le (length bytes) limit ≡ false = le_not (length bytes) limit beyond in
    subst (Halts n (Faulty rec_faults.Long)) (sym (ap (λ t. cond t (of_whole_input bytes) (of_input_past_limit (take limit bytes))) cut_off ∙ cut_none (take limit bytes) (none_within limit bytes none)))
    (halt_none n _ (at_limit (take limit bytes)) (λ f. ap (λ t. Faulty (cond t (rec_faults.Line n faults.Long) rec_faults.Long)) short)) where
      le_not : (a b : ℕ) → b < a → nat_le a b ≡ false
      le_not a b h = grind (arith, nat_tests)

-- bytes that don't decide
so_far_undecided : (n : ℕ) (bytes : List ℕ) → position_or_len is_feed bytes ≡ length bytes → is_long (without_return bytes) ≡ false → Halts n Undecided (of_input_so_far bytes)
so_far_undecided n bytes none short =
    subst (Halts n Undecided) (sym (so_far_none bytes none)) (halt_none n _ (at_open bytes) (λ f. ap (λ t. cond t (Faulty (rec_faults.Line n faults.Long)) Undecided) short))

-- ---- refusals

points_stopped : (ps : List PointValue) (stop : Stop) → with_points ps (no_points stop) ≡ record { points = ps; stop = stop }
points_stopped ps stop = ap (λ (l : List PointValue). record { points = l; stop = stop }) (append-nil ps)

module _ (R : ℕ → LinesRead → Reading) (ps : List PointValue) (b : ReadPlace) (h : Ahead R ps b) where
  -- what is ahead stops so, whatever follows
  stops_so : (stop : Stop) → ((more : List ℕ) → (IsTrue b.ended → more ≡ []) → R b.line (of_input (room b) (b.bytes ++ more)) ≡ no_points stop) → StopsWith ps b stop
  stops_so stop is = λ more none. h.whole more none ∙ ap (with_points ps) (is more none) ∙ points_stopped ps stop

  module _ (halts : (n : ℕ) (stop : Stop) (seen : LinesRead) → Halts n stop seen → R n seen ≡ no_points stop) where
    too_long : IsTooLong b → StopsWith ps b (Faulty (rec_faults.Line b.line faults.Long))
    too_long long = stops_so _ (λ more none.
        let far = pos_more b.bytes more in
        let no_feed = long.no_feed in
        let same : take long.size (b.bytes ++ more) ≡ take long.size b.bytes = take-append-le long.size b.bytes more long.there in
        halts b.line _ _ (of_input_long b.line (room b) (b.bytes ++ more) long.size (omega arith) (subst (λ l. is_long (without_return l) ≡ true) (sym same) long.long) long.within))

    -- no line is found
    pub fails_find : (f : RecFault) → FindsNone b f → Refuses ps b f
    fails_find (rec_faults.Line n fault) none =
        subst (λ m. StopsWith ps b (Faulty (rec_faults.Line m fault))) (sym none.0) (subst (λ g. StopsWith ps b (Faulty (rec_faults.Line b.line g))) (sym none.1) (too_long none.2))
    fails_find (rec_faults.Truncated n) none = absurd none
    fails_find rec_faults.Long none = stops_so _ (λ more over.
        let far = pos_more b.bytes more in
        let no_feed = none.no_feed in
        let beyond = none.more in
        let same : take (room b) (b.bytes ++ more) ≡ take (room b) b.bytes = take-append-le (room b) b.bytes more (omega arith) in
        halts b.line _ _ (of_input_past b.line (room b) (b.bytes ++ more) (omega (arith, length-append b.bytes more)) (omega arith) (subst (λ l. is_long (without_return l) ≡ false) (sym same) none.short)))
    fails_find rec_faults.ReadFault none = record {
      not_ended = none.1;
      undecided = ap reading_so_far (sym (append-nil b.got)) ∙ h.prefix [] none.1 ∙ ap (λ l. with_points ps (R b.line (of_input_so_far l))) (append-nil b.bytes)
          ∙ ap (with_points ps) (halts b.line _ _ (so_far_undecided b.line b.bytes none.0.no_feed none.0.short)) ∙ points_stopped ps Undecided;
    }
    fails_find rec_faults.NoMemory none = tt

  -- the line is missing
  pub stops_missing : (stop : ℕ → Stop) → ((n : ℕ) → R n (of_whole_input []) ≡ no_points (stop n)) → b.bytes ≡ [] → IsTrue b.ended → StopsWith ps b (stop b.line)
  stops_missing stop missing bytes ended = stops_so (stop b.line) (λ more none.
      ap (λ l. R b.line (of_input (room b) (l ++ more))) bytes
      ∙ ap (λ l. R b.line (of_input (room b) l)) (none ended)
      ∙ ap (R b.line) (of_input_none (room b))
      ∙ missing b.line)

  -- the line is faulty
  pub fails_line : {A : Type 0} (size n : ℕ) (found : Result A LineFault) (f : RecFault) → IsLine b size → FaultAt n found f → n ≡ b.line
      → ((e : LineFault) → e ≢ faults.NoMemory → found ≡ Err e → (seen : LinesRead) → R b.line (before (without_return (take size b.bytes)) seen) ≡ no_points (Faulty (rec_faults.Line b.line e))) → Refuses ps b f
  fails_line size n found (rec_faults.Line m e) line at is faulty =
      subst (λ l. StopsWith ps b (Faulty (rec_faults.Line l e))) (sym (at.0 ∙ is)) (stops_so _ (λ more none. ap (R b.line) (whole_first b size line more none) ∙ faulty e at.1 at.2 _))
  fails_line size n found (rec_faults.Truncated m) line at is faulty = absurd at
  fails_line size n found rec_faults.Long line at is faulty = absurd at
  fails_line size n found rec_faults.ReadFault line at is faulty = absurd at
  fails_line size n found rec_faults.NoMemory line at is faulty = tt

-- a group begins with a name, and behind its database stands another
pub group_name : ReadsName read
group_name = record { halts = λ n stop seen h. h.group; faulty = λ n line e seen is. group_fault n line e seen is }

pub database_name : (d : List ℕ) → ReadsName (read_database d)
database_name d = record { halts = λ n stop seen h. h.database d; faulty = λ n line e seen is. database_fault d n line e seen is }
