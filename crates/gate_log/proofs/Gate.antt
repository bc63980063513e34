-- What each of the two writes of a record leaves in the file.
use Rattle.std.proofs.Common.{◌≡◌, inl, inr, ⊎_elim, ℕ, ◌+◌, ◌<◌, ◌^◌, List, [], ◌∷◌, ◌++◌, length, get_or, take, drop, sym, ◌∙◌, ap, subst, arith, append_assoc, length-append, take-append-drop}
use Rattle.std.proofs.lemmas.Bool.{cases_eq}
use Rattle.std.proofs.lemmas.List.{take_at, drop_at, drop_more, take-append-le}
use Rattle.kap_io.specs.Disk.{Torn, overwritten, padded}
use Rattle.gate_log.proofs.Unique.{bytes_push}
use Rattle.gate_log.specs.Bodies.{size_bytes, bytes_of, Fit, IsLog, IsBeforeOrAfter}

pub fit_push : (bodies : List (List ℕ)) (body : List ℕ) → Fit bodies → length body < 2 ^ 32 → Fit (bodies ++ body ∷ [])
fit_push [] body fit fits = (fits, tt)
fit_push (b ∷ bodies) body fit fits = (fit.0, fit_push bodies body fit.1 fits)

-- a file of three parts, by its first n bytes, one byte and what is behind
module _ (front : List ℕ) (at gate : ℕ) (rest : List ℕ) (long : length front ≡ at) where
  file : List ℕ
  file = front ++ gate ∷ rest

  split : front ++ gate ∷ rest ≡ (front ++ gate ∷ []) ++ rest
  split = sym (append_assoc front (gate ∷ []) rest)

  longer : length (front ++ gate ∷ []) ≡ at + 1
  longer = omega (arith, long, length-append front (gate ∷ []))

  size : length (front ++ gate ∷ rest) ≡ at + 1 + length rest
  size = omega (arith, long, length-append front (gate ∷ rest))

  pub first : take (at + 1) (front ++ gate ∷ rest) ≡ front ++ gate ∷ []
  first = ap (λ (l : List ℕ). take (at + 1) l) split ∙ take_at (front ++ gate ∷ []) rest (at + 1) longer

  pub behind : drop (at + 1) (front ++ gate ∷ rest) ≡ rest
  behind = ap (λ (l : List ℕ). drop (at + 1) l) split ∙ drop_at (front ++ gate ∷ []) rest (at + 1) longer

  -- the gate stands in each outcome of a write behind it
  pub torn_behind : (n : ℕ) (c : List ℕ) → Torn (at + 1) n (front ++ gate ∷ rest) c → c ≡ front ++ gate ∷ drop (at + 1) c
  torn_behind n c torn =
      let same : take (at + 1) c ≡ take (at + 1) (front ++ gate ∷ rest) =
      subst (λ (k : ℕ). take k c ≡ take (at + 1) (front ++ gate ∷ rest)) (omega (arith, size)) torn.before in
      sym (take-append-drop (at + 1) c) ∙ ap (λ (l : List ℕ). l ++ drop (at + 1) c) (same ∙ first) ∙ append_assoc front (gate ∷ []) (drop (at + 1) c)

  pub written_behind : (piece c : List ℕ) → c ≡ overwritten (at + 1) piece (front ++ gate ∷ rest)
      → c ≡ front ++ gate ∷ (piece ++ drop (at + 1 + length piece) (front ++ gate ∷ rest))
  written_behind piece c holds =
      let tail = drop (at + 1 + length piece) (front ++ gate ∷ rest) in
      let kept : take (at + 1) (padded (at + 1) (front ++ gate ∷ rest)) ≡ front ++ gate ∷ [] =
      take-append-le (at + 1) (front ++ gate ∷ rest) _ (omega (arith, size)) ∙ first in
      holds
      ∙ ap (λ (l : List ℕ). l ++ piece ++ tail) kept
      ∙ append_assoc (front ++ gate ∷ []) piece tail
      ∙ append_assoc front (gate ∷ []) (piece ++ tail)

  -- what is behind the gate stands in each outcome of a write of the gate
  pub torn_gate : (c : List ℕ) → Torn at 1 (front ++ gate ∷ rest) c → c ≡ front ++ get_or c at 0 ∷ rest
  torn_gate c torn =
      let same : take at c ≡ take at (front ++ gate ∷ rest) = subst (λ (k : ℕ). take k c ≡ take at (front ++ gate ∷ rest)) (omega (arith, size)) torn.before in
      let more : drop at c ≡ get_or c at 0 ∷ rest = drop_more c at 0 (omega (arith, size, torn.no_shorter))
      ∙ ap (λ (l : List ℕ). get_or c at 0 ∷ l) (torn.after ∙ behind) in
      sym (take-append-drop at c) ∙ ap (λ (l : List ℕ). l ++ drop at c) (same ∙ take_at front (gate ∷ rest) at long) ∙ ap (λ (l : List ℕ). front ++ l) more

  pub written_gate : (byte : ℕ) (c : List ℕ) → c ≡ overwritten at (byte ∷ []) (front ++ gate ∷ rest) → c ≡ front ++ byte ∷ rest
  written_gate byte c holds =
      let kept : take at (padded at (front ++ gate ∷ rest)) ≡ front = take-append-le at (front ++ gate ∷ rest) _ (omega (arith, size))
      ∙ take_at front (gate ∷ rest) at long in
      holds
      ∙ ap (λ (l : List ℕ). l ++ (byte ∷ []) ++ drop (at + 1) (front ++ gate ∷ rest)) kept
      ∙ ap (λ (l : List ℕ). front ++ (byte ∷ []) ++ l) behind
      ∙ append_assoc front (byte ∷ []) rest

-- a record behind an open gate is one of the log's
pub opened : (bodies : List (List ℕ)) (body rest c : List ℕ) → Fit bodies → length body < 2 ^ 32
    → c ≡ bytes_of bodies ++ 165 ∷ (size_bytes (length body) ++ body ++ 0 ∷ rest) → IsLog (bodies ++ body ∷ []) c
opened bodies body rest c fit fits is = record {
  gate = 0;
  rest = rest;
  is = is ∙ sym (bytes_push bodies body (0 ∷ rest));
  closed = λ e. omega arith;
  fit = fit_push bodies body fit fits;
}

-- the bodies of a file whose gate is closed, or whose gate stands before a whole record
pub by_gate : (bodies : List (List ℕ)) (body : List ℕ) (gate : ℕ) (rest : List ℕ) (c : List ℕ) → Fit bodies → length body < 2 ^ 32
    → c ≡ bytes_of bodies ++ gate ∷ (size_bytes (length body) ++ body ++ 0 ∷ rest) → IsBeforeOrAfter bodies body c
by_gate bodies body gate rest c fit fits is =
    ⊎_elim (λ is_open. inr (opened bodies body rest c fit fits
    (is ∙ ap (λ (g : ℕ). bytes_of bodies ++ g ∷ (size_bytes (length body) ++ body ++ 0 ∷ rest)) is_open)))
    (λ shut. inl (record { gate = gate; rest = _; is = is; closed = shut; fit = fit })) (cases_eq gate 165)
