-- What stands at a gate of a log whose bodies are known.
use Rattle.std.proofs.Common.{◌≡◌, ⊎_elim, ℕ, suc, ◌+◌, ◌-◌, ◌<◌, ◌≤◌, List, [], ◌∷◌, ◌++◌, length, take, drop, refl, sym, ◌∙◌, ap, arith, append_assoc, length-append, length-drop}
use Rattle.std.specs.List.{flat_map}
use Rattle.std.specs.Prelude.{Option, Result}
use Rattle.std.specs.declared.result.Result.TheVariants.{Ok, Err}
use Rattle.std.specs.declared.option.Option.TheVariants.{Some, None}
use Rattle.std.proofs.lemmas.List.{take_at, drop_at, drop-drop}
use Rattle.std.proofs.lemmas.Grind.{flat_map-append}
use Rattle.gate_log.specs.Bodies.{magic, size_bytes, record_of, bytes_of, Fit, IsLog}
use Rattle.gate_log.specs.Marks.{IsClosed}
use Rattle.gate_log.specs.Reading.{IsRecord, IsCutOff, StandsAt, RecordAt, ShortRecordAt, BodyAt}
use Rattle.gate_log.proofs.Unique.{record_unique, size_unique, length-size_bytes}
use Rattle.gate_log.specs.declared.fault.LogFault.{LogFault}
use Rattle.gate_log.specs.declared.fault.LogFault.TheVariants.{Header, Torn, DiskFault, Long, NoMemory}

fit_after : (before after : List (List ℕ)) → Fit (before ++ after) → Fit after
fit_after [] after fit = fit
fit_after (b ∷ before) after fit = fit_after before after fit.1

-- the rest of a log, from a gate on
tail : (before after : List (List ℕ)) (file : List ℕ) (at : ℕ) (log : IsLog (before ++ after) file) → at ≡ length (bytes_of before)
    → drop at file ≡ flat_map record_of after ++ log.gate ∷ log.rest
tail before after file at log is_at =
    let whole : file ≡ bytes_of before ++ (flat_map record_of after ++ log.gate ∷ log.rest) =
    log.is
    ∙ ap (λ (l : List ℕ). (magic ++ l) ++ log.gate ∷ log.rest) (flat_map-append record_of before after)
    ∙ ap (λ (l : List ℕ). l ++ log.gate ∷ log.rest) (sym (append_assoc magic (flat_map record_of before) (flat_map record_of after)))
    ∙ append_assoc (bytes_of before) (flat_map record_of after) (log.gate ∷ log.rest) in
    ap (λ (l : List ℕ). drop at l) whole ∙ drop_at (bytes_of before) _ at (sym is_at)

-- what follows a gate where a record is and where none is
abbrev Follows : List (List ℕ) → ℕ → List ℕ → Type 0
Follows after at file = (g : ℕ) × (r : List ℕ) × (g ≡ 165 → ⊥) × Fit after × (drop at file ≡ flat_map record_of after ++ g ∷ r)

closed_is_last : (after : List (List ℕ)) (at : ℕ) (file : List ℕ) → Follows after at file → IsClosed (drop at file) → BodyAt (Ok None) after at
closed_is_last [] at file from closed = refl
closed_is_last (b ∷ after) at file from closed = absurd (closed.closed (cc (closed.is, from.4)))

-- a gate of the log isn't cut off
no_cut : (after : List (List ℕ)) (at : ℕ) (file : List ℕ) → Follows after at file → IsCutOff at file → ⊥
no_cut [] at file from cut = from.2 (cc (cut.is, from.4))
no_cut (b ∷ after) at file from cut = ⊎_elim (λ few. few_not few) (λ long. long_not long) cut.short
  where
    more : List ℕ
    more = flat_map record_of after ++ from.0 ∷ from.1

    whole : cut.rest ≡ size_bytes (length b) ++ (b ++ (flat_map record_of after ++ from.0 ∷ from.1))
    whole = ap (λ (l : List ℕ). drop 1 l) (sym cut.is ∙ from.4 ∙ append_assoc (record_of b) (flat_map record_of after) (from.0 ∷ from.1))
        ∙ append_assoc (size_bytes (length b)) b _

    total : length cut.rest ≡ 4 + length b + (length (flat_map record_of after) + suc (length from.1))
    total = omega (
      arith,
      ap (λ (l : List ℕ). length l) whole,
      length-append (size_bytes (length b)) (b ++ (flat_map record_of after ++ from.0 ∷ from.1)),
      length-append b (flat_map record_of after ++ from.0 ∷ from.1),
      length-append (flat_map record_of after) (from.0 ∷ from.1),
      length-size_bytes (length b),
    )

    few_not : length cut.rest < 4 → ⊥
    few_not few = omega (arith, total)

    long_not : (n : ℕ) × (n < 4294967296) × (take 4 cut.rest ≡ size_bytes n) × (length cut.rest ≤ 4 + n) → ⊥
    long_not long =
        let same : length b ≡ long.0 = size_unique (length b) long.0 from.3.0 long.1
        (sym (ap (λ (l : List ℕ). take 4 l) whole ∙ take_at (size_bytes (length b)) _ 4 (length-size_bytes (length b))) ∙ long.2) in
        omega (arith, total, long.3)

-- a record is the next of the bodies
record_is_next : (after : List (List ℕ)) (at next : ℕ) (file : List ℕ) (bytes : List ℕ) → Follows after at file → (found : IsRecord at next file)
    → bytes ≡ found.body → BodyAt (Ok (Some (bytes, next))) after at
record_is_next [] at next file bytes from found is = absurd (from.2 (cc (from.4, found.is)))
record_is_next (b ∷ after) at next file bytes from found is =
    let same = record_unique found.body b _ _ found.fits from.3.0
    (sym found.is ∙ from.4 ∙ append_assoc (record_of b) (flat_map record_of after) (from.0 ∷ from.1)) in (
      is ∙ same.0,
      omega (arith, found.is_next, ap (λ (l : List ℕ). length l) same.0),
    )

-- what was found at a gate, where no record was
pub record_fault : (at : ℕ) (file : List ℕ) (fault : LogFault) → StandsAt at file (Err fault) → RecordAt at file (Err fault)
record_fault at file Header stands = stands
record_fault at file (Torn offset) stands = stands
record_fault at file DiskFault stands = tt
record_fault at file Long stands = stands
record_fault at file NoMemory stands = tt

-- the same, where a record that is too long isn't read
pub short_fault : (at : ℕ) (file : List ℕ) (fault : LogFault) → StandsAt at file (Err fault) → ShortRecordAt at file (Err fault)
short_fault at file Header stands = stands
short_fault at file (Torn offset) stands = stands
short_fault at file DiskFault stands = tt
short_fault at file Long stands = absurd stands
short_fault at file NoMemory stands = tt

-- the bytes behind a gate and a length are its body
pub fetched_body : (at next : ℕ) (file bytes : List ℕ) (found : IsRecord at next file) → bytes ≡ take (next - (at + 5)) (drop (at + 5) file)
    → bytes ≡ found.body
fetched_body at next file bytes found is =
    let behind : drop (at + 5) file ≡ found.body ++ drop next file =
    sym (drop-drop 5 at file)
    ∙ ap (λ (l : List ℕ). drop 5 l) (found.is ∙ append_assoc (165 ∷ size_bytes (length found.body)) found.body (drop next file))
    ∙ drop_at (165 ∷ size_bytes (length found.body)) (found.body ++ drop next file) 5 (omega (arith, length-size_bytes (length found.body))) in
    is ∙ ap (λ (l : List ℕ). take (next - (at + 5)) l) behind ∙ take_at found.body (drop next file) (next - (at + 5)) (omega (arith, found.is_next))

module _ (before after : List (List ℕ)) (file : List ℕ) (at : ℕ) (log : IsLog (before ++ after) file) (is_at : at ≡ length (bytes_of before)) where
  follows : Follows after at file
  follows = (log.gate, log.rest, log.closed, fit_after before after log.fit, tail before after file at log is_at)

  -- what was found at the gate is the next of the bodies, or the log's end
  pub there : (result : Result (Option (List ℕ × ℕ)) LogFault) → RecordAt at file result → BodyAt result after at
  there (Ok None) found = closed_is_last after at file follows found
  there (Ok (Some next)) found = record_is_next after at next.1 file next.0 follows found.0 found.1
  there (Err Header) found = found
  there (Err (Torn offset)) found = no_cut after at file follows found.1
  there (Err DiskFault) found = tt
  there (Err Long) found = found
  there (Err NoMemory) found = tt

  pub inside : at < length file
  inside = omega (
    arith,
    ap (λ (l : List ℕ). length l) (tail before after file at log is_at),
    length-append (flat_map record_of after) (log.gate ∷ log.rest),
    length-drop at file,
  )
