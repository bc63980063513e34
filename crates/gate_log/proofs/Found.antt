-- What stands at a gate, by the bytes that were read there.
use Rattle.std.proofs.Common.{◌≡◌, inl, inr, ⊎_elim, ℕ, ◌+◌, ◌-◌, ◌<◌, ◌≤◌, min, List, [], ◌∷◌, ◌++◌, length, take, drop, sym, ◌∙◌, ap, arith, append_assoc, length-append, length-drop, take-append-drop}
use Rattle.std.proofs.lemmas.List.{take_all, take_at, drop-drop, length-take-le}
use Rattle.std.specs.declared.result.Result.TheVariants.{Err}
use Rattle.gate_log.specs.declared.fault.LogFault.{LogFault}
use Rattle.gate_log.specs.declared.fault.LogFault.TheVariants.{Header, Torn, DiskFault, Long, NoMemory}
use Rattle.gate_log.specs.Bodies.{bytes_of, size_bytes, record_of}
use Rattle.gate_log.specs.Marks.{IsClosed, IsOpen, IsWhole, IsCut}
use Rattle.gate_log.specs.Reading.{Fills, IsRecord, IsCutOff, Reached, StandsAt, EndsAt}
use Rattle.gate_log.proofs.Gate.{fit_push}
use Rattle.gate_log.proofs.Unique.{bytes_push, length-size_bytes, length-push}

module _ (gate size : ℕ) (file head : List ℕ) (count : ℕ) (is_size : size ≡ length file) (some : gate < size) (long : length head ≡ min 5 (size - gate))
    (fills : Fills gate file head count) (all : length head ≤ count) where
  -- the bytes that were read, and what is behind them
  behind : List ℕ
  behind = drop (length head) (drop gate file)

  split : drop gate file ≡ head ++ drop (length head) (drop gate file)
  split =
      let same : count ≡ length head = omega (arith, fills.full) in
      let front : head ≡ take (length head) (drop gate file) = sym (take_all count head (omega (arith, same))) ∙ fills.placed
      ∙ ap (λ (k : ℕ). take k (drop gate file)) same in
      sym (take-append-drop (length head) (drop gate file)) ∙ ap (λ (l : List ℕ). l ++ drop (length head) (drop gate file)) (sym front)

  pub closed_there : IsClosed head → IsClosed (drop gate file)
  closed_there closed = record {
    gate = closed.gate;
    rest = _;
    is = split ∙ ap (λ (l : List ℕ). l ++ drop (length head) (drop gate file)) closed.is;
    closed = closed.closed;
  }

  pub record_there : (next : ℕ) → IsWhole gate size next head → IsRecord gate next file
  record_there next whole =
      let n = whole.count in
      let five : length head ≡ 5 = omega (arith, ap (λ (l : List ℕ). length l) whole.opens.is, length-size_bytes n) in
      let rest = drop 5 (drop gate file) in
      let body_long : length (take n rest) ≡ n =
      length-take-le n rest (omega (arith, whole.is_next, whole.within, length-drop 5 (drop gate file), length-drop gate file)) in
      let last : drop n rest ≡ drop next file = drop-drop n 5 (drop gate file) ∙ drop-drop (5 + n) gate file
      ∙ ap (λ (k : ℕ). drop k file) (omega (arith, whole.is_next)) in
      record {
        body = take n rest;
        fits = omega (arith, body_long, whole.opens.fits);
        is =
            split
            ∙ ap (λ (k : ℕ). head ++ drop k (drop gate file)) five
            ∙ ap (λ (l : List ℕ). l ++ rest) (whole.opens.is ∙ ap (λ (k : ℕ). 165 ∷ size_bytes k) (sym body_long))
            ∙ ap (λ (l : List ℕ). (165 ∷ size_bytes (length (take n rest))) ++ l) (sym (take-append-drop n rest))
            ∙ sym (append_assoc (165 ∷ size_bytes (length (take n rest))) (take n rest) (drop n rest))
            ∙ ap (λ (l : List ℕ). record_of (take n rest) ++ l) last;
        is_next = omega (arith, body_long, whole.is_next);
        within = omega (arith, whole.within);
      }

  pub cut_there : IsCut gate size head → IsCutOff gate file
  cut_there cut =
      let rest = cut.rest ++ drop (length head) (drop gate file) in
      let total : length rest ≡ size - gate - 1 =
      omega (
        arith,
        is_size,
        long,
        ap (λ (l : List ℕ). length l) cut.is,
        length-append cut.rest (drop (length head) (drop gate file)),
        length-drop (length head) (drop gate file),
        length-drop gate file,
      ) in
      record {
        rest = rest;
        is = split ∙ ap (λ (l : List ℕ). l ++ drop (length head) (drop gate file)) cut.is;
        short = ⊎_elim (λ few. inl (omega (arith, few, total, long, ap (λ (l : List ℕ). length l) cut.is)))
            (λ open_at. inr (long_record open_at.0 open_at.1 open_at.2 total)) cut.short;
      }
    where
      long_record : (n : ℕ) → IsOpen n head → size ≤ gate + 5 + n → length (cut.rest ++ drop (length head) (drop gate file)) ≡ size - gate - 1
          → (m : ℕ) × (m < 4294967296) × (take 4 (cut.rest ++ drop (length head) (drop gate file)) ≡ size_bytes m)
          × (length (cut.rest ++ drop (length head) (drop gate file)) ≤ 4 + m)
      long_record n opens past total =
          let same : cut.rest ≡ size_bytes n = cc (cut.is, opens.is) in (
            n,
            opens.fits,
            ap (λ (l : List ℕ). take 4 (l ++ drop (length head) (drop gate file))) same
                ∙ take_at (size_bytes n) (drop (length head) (drop gate file)) 4 (length-size_bytes n),
            omega (arith, total, past),
          )

-- one record further
pub reached_next : (gate next : ℕ) (file : List ℕ) → Reached gate file → IsRecord gate next file → Reached next file
reached_next gate next file so_far found = record {
  bodies = so_far.bodies ++ found.body ∷ [];
  front = so_far.front ∙ ap (λ (l : List ℕ). bytes_of so_far.bodies ++ l) found.is ∙ sym (bytes_push so_far.bodies found.body (drop next file));
  at = omega (arith, found.is_next, so_far.at, length-push so_far.bodies found.body);
  fit = fit_push so_far.bodies found.body so_far.fit found.fits;
}

-- the record that was reached runs past the end
pub ends_torn : (gate : ℕ) (file : List ℕ) (fault : LogFault) → Reached gate file → StandsAt gate file (Err fault) → EndsAt file (Err fault)
ends_torn gate file Header so_far stands = stands
ends_torn gate file (Torn offset) so_far stands = record {
  bodies = so_far.bodies;
  rest = stands.1.rest;
  is = so_far.front ∙ ap (λ (l : List ℕ). bytes_of so_far.bodies ++ l) stands.1.is;
  at = stands.0 ∙ so_far.at;
  fit = so_far.fit;
  short = stands.1.short;
}
ends_torn gate file DiskFault so_far stands = tt
ends_torn gate file Long so_far stands = tt
ends_torn gate file NoMemory so_far stands = tt
