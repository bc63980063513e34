-- Steps of loops.
use Rattle.std.proofs.Common.{◌≡◌, ℕ, ◌+◌, List, [], ◌∷◌, ◌++◌, length, refl, sym, ap, ◌∙◌, add-zero, arith, true, false, cond, ◌==◌}
use Rattle.kap_base.specs.declared.items.Stamp.{Stamp}
use Rattle.kap_base.specs.declared.items.Body.{Body}
use Rattle.kap_base.specs.declared.items.What.{What}
use Rattle.std.proofs.lemmas.Bool.Decides.{nat_tests}
use Rattle.node_core.specs.declared.running.Tally.{Tally}
use Rattle.node_core.specs.Numbering.{items_at, item_at, effects_from, effect_at, number_at, counted}

pub items_at-more : (stamp : Stamp) (bodies : List Body) (body : Body) → items_at stamp (bodies ++ body ∷ []) ≡ items_at stamp bodies ++ item_at stamp body ∷ []
items_at-more stamp [] body = refl
items_at-more stamp (b ∷ bodies) body = ap (λ l. item_at stamp b ∷ l) (items_at-more stamp bodies body)

pub effects_from-more : (life node : ℕ) (stamp : Stamp) (seq next : ℕ) (whats : List What) (what : What) → next ≡ seq + length whats
    → effects_from life node stamp seq (whats ++ what ∷ []) ≡ effects_from life node stamp seq whats ++ effect_at life node stamp next what ∷ []
effects_from-more life node stamp seq next [] what is = ap (λ (n : ℕ). effect_at life node stamp n what ∷ []) (sym (is ∙ add-zero seq))
effects_from-more life node stamp seq next (w ∷ whats) what is =
    ap (λ l. effect_at life node stamp seq w ∷ l) (effects_from-more life node stamp (seq + 1) next whats what (omega arith))

same_test : (n next more : ℕ) → next ≡ n + more → (next == n) ≡ (more == 0)
same_test n next more e = elim (more == 0) as (λ b. (more == 0) ≡ b → (next == n) ≡ b) [
  | true ↦ λ z. grind (arith, nat_tests)
  | false ↦ λ z. grind (arith, nat_tests)
] refl

-- the tally behind effects, by the number of the next one
pub counted_to : (t : Tally) (stamp next more : ℕ) → next ≡ number_at t stamp + more → cond (next == number_at t stamp) t (record { stamp = stamp; count = next }) ≡ counted t stamp more
counted_to t stamp next more e = rw (same_test (number_at t stamp) next more e, e) refl
