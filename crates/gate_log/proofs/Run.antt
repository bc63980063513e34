-- What each write of a switch leaves in the head.
use Rattle.std.proofs.Common.{◌≡◌, inl, inr, ⊎_elim, ℕ, ◌+◌, ◌≤◌, List, [], ◌∷◌, ◌++◌, length, take, drop, sym, ◌∙◌, ap, subst, arith, append_assoc, length-append, length-drop, take-append-drop}
use Rattle.std.specs.Prelude.{replicate}
use Rattle.std.proofs.lemmas.Bool.{cases_eq}
use Rattle.std.proofs.lemmas.List.{append-nil, take_all, length-replicate, replicate_more}
use Rattle.kap_io.specs.Disk.{Torn, overwritten}
use Rattle.gate_log.specs.Head.{head_magic, BeginsClosed, IsHead, IsRunOrNext, IsGated}
use Rattle.gate_log.proofs.Gate.{torn_behind, written_behind, torn_gate, written_gate}

abbrev pub front : ℕ → List ℕ
front run = head_magic ++ replicate run 165

length-front : (run : ℕ) → length (front run) ≡ 8 + run
length-front run = omega (arith, length-append head_magic (replicate run 165), length-replicate {A = ℕ} run 165)

-- one gate more
front_more : (run : ℕ) (rest : List ℕ) → front run ++ 165 ∷ rest ≡ head_magic ++ (replicate (run + 1) 165 ++ rest)
front_more run rest =
    append_assoc head_magic (replicate run 165) (165 ∷ rest)
    ∙ ap (λ (l : List ℕ). head_magic ++ l) (sym (append_assoc (replicate run 165) (165 ∷ []) rest) ∙ ap (λ (l : List ℕ). l ++ rest) (replicate_more run 165))

-- a closed gate behind the run
closed_run : (run gate : ℕ) (more file : List ℕ) → file ≡ front run ++ gate ∷ more → (gate ≡ 165 → ⊥) → IsHead run file
closed_run run gate more file is shut = record { rest = gate ∷ more; is = is ∙ append_assoc head_magic (replicate run 165) (gate ∷ more); ends = shut }

-- any gate behind the run, and a closed one or none behind that
by_gate : (run gate : ℕ) (more file : List ℕ) → file ≡ front run ++ gate ∷ more → BeginsClosed more → IsRunOrNext run file
by_gate run gate more file is shut =
    ⊎_elim (λ opened. inr (record { rest = more; is = is ∙ ap (λ (g : ℕ). front run ++ g ∷ more) opened ∙ front_more run more; ends = shut }))
    (λ closed. inl (closed_run run gate more file is closed)) (cases_eq gate 165)

-- the head has a byte behind the run
pub there : (run : ℕ) (file : List ℕ) → IsHead run file → 8 + run + 1 ≤ length file → IsGated run file
there run file head long = by_rest head.rest head.is head.ends
  where
    by_rest : (rest : List ℕ) → file ≡ head_magic ++ (replicate run 165 ++ rest) → BeginsClosed rest → IsGated run file
    by_rest [] is ends = absurd (omega (
      arith,
      long,
      ap (λ (l : List ℕ). length l) (is ∙ ap (λ (l : List ℕ). head_magic ++ l) (append-nil (replicate run 165))),
      length-replicate {A = ℕ} run 165,
    ))
    by_rest (g ∷ rest) is ends = record { gate = g; more = rest; is = is ∙ sym (append_assoc head_magic (replicate run 165) (g ∷ rest)); closed = ends }

-- it has none
missing : (run : ℕ) (file : List ℕ) → IsHead run file → length file ≤ 8 + run → file ≡ front run
missing run file head short = by_rest head.rest head.is
  where
    by_rest : (rest : List ℕ) → file ≡ head_magic ++ (replicate run 165 ++ rest) → file ≡ head_magic ++ replicate run 165
    by_rest [] is = is ∙ ap (λ (l : List ℕ). head_magic ++ l) (append-nil (replicate run 165))
    by_rest (g ∷ rest) is = absurd (omega
        (arith, short, ap (λ (l : List ℕ). length l) is, length-append (replicate run 165) (g ∷ rest), length-replicate {A = ℕ} run 165))

-- the missing gate, cut short
pub missing_torn : (run : ℕ) (file c : List ℕ) → IsHead run file → length file ≤ 8 + run → Torn (8 + run) 1 file c → IsRunOrNext run c
missing_torn run file c head short torn = by_rest (drop (8 + run) c) split long
  where
    is : file ≡ head_magic ++ replicate run 165
    is = missing run file head short

    size : length file ≡ 8 + run
    size = omega (arith, ap (λ (l : List ℕ). length l) is, length-replicate {A = ℕ} run 165)

    kept : take (8 + run) c ≡ file
    kept = subst (λ (k : ℕ). take k c ≡ take (8 + run) file) (omega (arith, size)) torn.before ∙ take_all (8 + run) file (omega (arith, size))

    split : c ≡ file ++ drop (8 + run) c
    split = sym (take-append-drop (8 + run) c) ∙ ap (λ (l : List ℕ). l ++ drop (8 + run) c) kept

    long : length (drop (8 + run) c) ≤ 1
    long = omega (arith, size, torn.no_longer, length-drop (8 + run) c)

    by_rest : (rest : List ℕ) → c ≡ file ++ rest → length rest ≤ 1 → IsRunOrNext run c
    by_rest [] whole few = inl (record {
      rest = [];
      is = whole ∙ append-nil file ∙ is
          ∙ ap (λ (l : List ℕ). head_magic ++ l) (sym (append-nil (replicate run 165)));
      ends = tt;
    })
    by_rest (g ∷ []) whole few = by_gate run g [] c (whole ∙ ap (λ (l : List ℕ). l ++ g ∷ []) is) tt
    by_rest (g ∷ h ∷ rest) whole few = absurd (omega (arith, few))

module _ (run : ℕ) (file : List ℕ) (gated : IsGated run file) where
  -- the gate behind that, cut short
  pub next_torn : (c : List ℕ) → Torn (8 + run + 1) 1 file c → IsHead run c
  next_torn c torn = closed_run run gated.gate _ c
      (torn_behind (front run) (8 + run) gated.gate gated.more (length-front run) 1 c (subst (λ (f : List ℕ). Torn (8 + run + 1) 1 f c) gated.is torn))
      gated.closed

  -- a closed gate behind the first
  pub staged : (c : List ℕ) → c ≡ overwritten (8 + run + 1) (0 ∷ []) file → (more : List ℕ) × (c ≡ front run ++ gated.gate ∷ 0 ∷ more)
  staged c holds = (
    _,
    written_behind (front run) (8 + run) gated.gate gated.more (length-front run) (0 ∷ []) c
        (subst (λ (f : List ℕ). c ≡ overwritten (8 + run + 1) (0 ∷ []) f) gated.is holds),
  )

  pub open_torn : (mid c : List ℕ) → mid ≡ overwritten (8 + run + 1) (0 ∷ []) file → Torn (8 + run) 1 mid c → IsRunOrNext run c
  open_torn mid c holds torn =
      let stage = staged mid holds in
      by_gate run _ (0 ∷ stage.0) c (torn_gate (front run) (8 + run) gated.gate (0 ∷ stage.0) (length-front run) c
      (subst (λ (f : List ℕ). Torn (8 + run) 1 f c) stage.1 torn)) (λ e. omega arith)

  pub opened : (mid c : List ℕ) → mid ≡ overwritten (8 + run + 1) (0 ∷ []) file → c ≡ overwritten (8 + run) (165 ∷ []) mid → IsHead (run + 1) c
  opened mid c holds opens =
      let stage = staged mid holds in
      record {
        rest = 0 ∷ stage.0;
        is = written_gate (front run) (8 + run) gated.gate (0 ∷ stage.0) (length-front run) 165 c
            (subst (λ (f : List ℕ). c ≡ overwritten (8 + run) (165 ∷ []) f) stage.1 opens) ∙ front_more run (0 ∷ stage.0);
        ends = λ e. omega arith;
      }
