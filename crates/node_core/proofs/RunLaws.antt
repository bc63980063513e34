-- A machine that has been fed a part of a list.
use Rattle.std.proofs.Common.{◌≡◌, List, [], ◌∷◌, ◌++◌, ℕ, sym, ap, subst, ◌∙◌, append_assoc}
use Rattle.kap_base.specs.declared.items.Item.{Item}
use Rattle.kap_base.specs.declared.items.Effect.{Effect}
use Rattle.node_core.specs.Meaning.{Given, Input, Move, also, fold}
use Rattle.node_core.specs.Cut.{AllAtPorts}
use Rattle.node_core.specs.Laws.{also_assoc, also-nothing, nothing-also}

pub record Ran {S : Type 0} (step : S → Input → Move S) (first : S) (xs : List Input) (state : S) (out0 out : List Item) (effects0 effects : List Effect) : Type 0 where
  pub state_is : state ≡ (fold step first xs).state
  pub items : out ≡ out0 ++ (fold step first xs).given.items
  pub effects_are : effects ≡ effects0 ++ (fold step first xs).given.effects

module _ {S : Type 0} (step : S → Input → Move S) where
  fold-more : (s : S) (xs : List Input) (x : Input) → fold step s (xs ++ x ∷ []) ≡ record { state = (step (fold step s xs).state x).state; given = also (fold step s xs).given (step (fold step s xs).state x).given }
  fold-more s [] x = ap (λ (g : Given). record { state = (step s x).state; given = g }) (also-nothing (step s x).given ∙ sym (nothing-also (step s x).given))
  fold-more s (y ∷ xs) x =
      let t = step s y in
      rw (fold-more t.state xs x) (ap (λ (g : Given). record { state = (step (fold step t.state xs).state x).state; given = g }) (sym (also_assoc t.given (fold step t.state xs).given (step (fold step t.state xs).state x).given)))

  pub ran_more : (first : S) (xs : List Input) (x : Input) (state new : S) (out0 out out1 : List Item) (effects0 effects effects1 : List Effect) → Ran step first xs state out0 out effects0 effects
      → new ≡ (step state x).state → out1 ≡ out ++ (step state x).given.items → effects1 ≡ effects ++ (step state x).given.effects → Ran step first (xs ++ x ∷ []) new out0 out1 effects0 effects1
  ran_more first xs x state new out0 out out1 effects0 effects effects1 ran s i e = record {
    state_is = rw fold-more (s ∙ ap (λ (q : S). (step q x).state) ran.state_is);
    items = rw fold-more (i ∙ rw (ran.items, ran.state_is) (append_assoc out0 (fold step first xs).given.items (step (fold step first xs).state x).given.items));
    effects_are = rw fold-more (e ∙ rw (ran.effects_are, ran.state_is) (append_assoc effects0 (fold step first xs).given.effects (step (fold step first xs).state x).given.effects));
  }

pub later_ports : (ports : ℕ) (xs : List Input) (x : Input) (more : List Input) → xs ≡ x ∷ more → AllAtPorts ports xs → AllAtPorts ports more
later_ports ports xs x more e h = (subst (AllAtPorts ports) e h).1
