-- Steps that were tried, and then one more.
use Rattle.std.proofs.Common.{◌≡◌, ℕ, suc, ◌+◌, ◌<◌, Bool, true, false, List, [], ◌∷◌, ◌++◌, get_or, length, take, refl, sym, subst, ◌∙◌, ap, arith}
use Rattle.std.specs.Prelude.{IsFalse, IsTrue}
use Rattle.std.proofs.lemmas.List.{take_more}
use Rattle.flow_life.specs.declared.steps.Step.{Step}
use Rattle.flow_life.specs.Playing.{PlaysBy, makes, played, skips}
use Rattle.flow_life.specs.Steps.{one_if}

module _ {A : Type 0} (Enabled : A → Step → Type 0) (Moves : Step → A → A → Type 0) (Stays : A → A → Type 0) where
  -- one step alone
  plays-one : (next : Step) (a b : A) (made : Bool) → (IsTrue made → Enabled a next) → (IsFalse made → Enabled a next → ⊥) → (IsTrue made → Moves next a b) → (IsFalse made → Stays a b)
      → PlaysBy Enabled Moves Stays (next ∷ []) a (one_if made) b
  plays-one next a b true can cannot makes-it still = makes (can refl) (makes-it refl) played
  plays-one next a b false can cannot makes-it still = skips (cannot refl) (still refl) played

  -- some steps, and then others
  plays-then : {steps : List Step} {a b : A} {n : ℕ} → PlaysBy Enabled Moves Stays steps a n b → (others : List Step) (m : ℕ) (c : A) → PlaysBy Enabled Moves Stays others b m c
      → PlaysBy Enabled Moves Stays (steps ++ others) a (n + m) c
  plays-then (played {a}) others m c q = let same : m ≡ 0 + m = omega arith in subst (λ (k : ℕ). PlaysBy Enabled Moves Stays others a k c) same q
  plays-then (makes {next} {steps} {a} {made = n} can made p) others m c q =
      let same : suc (n + m) ≡ suc n + m = omega arith in
      subst (λ (k : ℕ). PlaysBy Enabled Moves Stays (next ∷ (steps ++ others)) a k c) same (makes can made (plays-then p others m c q))
  plays-then (skips cannot same p) others m c q = skips cannot same (plays-then p others m c q)

  -- the first steps of a list, and then the one behind them
  pub plays_more : (steps : List Step) (i : ℕ) (next d : Step) (a b c : A) (n m : ℕ) (made : Bool) → i < length steps → next ≡ get_or steps i d → PlaysBy Enabled Moves Stays (take i steps) a n b
      → (IsTrue made → Enabled b next) → (IsFalse made → Enabled b next → ⊥) → (IsTrue made → Moves next b c) → (IsFalse made → Stays b c)
      → m ≡ n + one_if made → PlaysBy Enabled Moves Stays (take (i + 1) steps) a m c
  plays_more steps i next d a b c n m made lt is p can cannot makes-it still count =
      let front : take i steps ++ next ∷ [] ≡ take (i + 1) steps = ap (λ (s : Step). take i steps ++ s ∷ []) is ∙ sym (take_more steps i d lt) in
      subst (λ (l : List Step). PlaysBy Enabled Moves Stays l a m c) front
      (subst (λ (k : ℕ). PlaysBy Enabled Moves Stays (take i steps ++ next ∷ []) a k c) (sym count) (plays-then p (next ∷ []) (one_if made) c (plays-one next b c made can cannot makes-it still)))
