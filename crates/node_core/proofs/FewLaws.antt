-- Lists that are kept as their first item and the others.
use Rattle.std.proofs.Common.{◌≡◌, ℕ, ◌+◌, List, [], ◌∷◌, ◌++◌, Option, Some, None, length, arith, refl, ap, add-zero}
use Rattle.kap_base.specs.declared.items.Stamp.{Stamp}
use Rattle.kap_base.specs.declared.items.Body.{Body}
use Rattle.kap_base.specs.declared.items.What.{What}
use Rattle.node_core.specs.FewItems.{few_items}
use Rattle.node_core.specs.Numbering.{items_at, effects_from}

pub few_more : {A : Type 0} (first : Option A) (more : List A) (item : A) → few_items first (more ++ item ∷ []) ≡ few_items first more ++ item ∷ []
few_more None more item = refl
few_more (Some x) more item = refl

pub items_at_few : (stamp : Stamp) (first : Option Body) (more : List Body) → items_at stamp (few_items first []) ++ items_at stamp more ≡ items_at stamp (few_items first more)
items_at_few stamp None more = refl
items_at_few stamp (Some body) more = refl

pub effects_from_few : (life node : ℕ) (stamp : Stamp) (seq next : ℕ) (first : Option What) (more : List What) → next ≡ seq + length (few_items first []) → effects_from life node stamp seq (few_items first []) ++ effects_from life node stamp next more ≡ effects_from life node stamp seq (few_items first more)
effects_from_few life node stamp seq next None more e = ap (λ (n : ℕ). effects_from life node stamp n more) (rw add-zero at e)
effects_from_few life node stamp seq next (Some what) more e = rw e refl

pub length_few : {A : Type 0} (seq next last : ℕ) (first : Option A) (more : List A) → next ≡ seq + length (few_items first []) → last ≡ next + length more → last ≡ seq + length (few_items first more)
length_few seq next last None more e f = omega arith
length_few seq next last (Some x) more e f = omega arith
