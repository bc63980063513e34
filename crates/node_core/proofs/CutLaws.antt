-- What a node gives for the inputs up to a stamp is what it gives for all, up to that stamp.
use Rattle.std.proofs.Common.{◌≡◌, ℕ, ◌≤◌, true, false, cond, List, [], ◌∷◌, ◌++◌, refl, sym, ◌∙◌, arith}
use Rattle.std.specs.Prelude.{nat_le}
use Rattle.std.proofs.lemmas.Bool.Decides.{nat_tests}
use Rattle.kap_base.specs.declared.items.Item.{Item}
use Rattle.kap_base.specs.declared.items.Effect.{Effect}
use Rattle.node_core.specs.Meaning.{Input, Answer, nothing, given_after}
use Rattle.node_core.specs.Cut.{inputs_up_to, items_up_to, effects_up_to, UpTo, AreStamped, AreEffectsOf, IsStamped, AllFrom, InOrder}
use Rattle.node_core.specs.Laws.{filter-append}

items-kept : (s stamp : ℕ) (items : List Item) → nat_le stamp s ≡ true → AreStamped stamp items → items_up_to s items ≡ items
items-kept s stamp [] le stamped = refl
items-kept s stamp (i ∷ items) le stamped = rw (stamped.0, le, items-kept s stamp items le stamped.1) refl

items-cut : (s stamp : ℕ) (items : List Item) → nat_le stamp s ≡ false → AreStamped stamp items → items_up_to s items ≡ []
items-cut s stamp [] le stamped = refl
items-cut s stamp (i ∷ items) le stamped = rw (stamped.0, le, items-cut s stamp items le stamped.1) refl

effects-kept : (s life node stamp : ℕ) (effects : List Effect) → nat_le stamp s ≡ true → AreEffectsOf life node stamp effects → effects_up_to s effects ≡ effects
effects-kept s life node stamp [] le are = refl
effects-kept s life node stamp (e ∷ effects) le are = rw (are.0.stamp_is, le, effects-kept s life node stamp effects le are.1) refl

effects-cut : (s life node stamp : ℕ) (effects : List Effect) → nat_le stamp s ≡ false → AreEffectsOf life node stamp effects → effects_up_to s effects ≡ []
effects-cut s life node stamp [] le are = refl
effects-cut s life node stamp (e ∷ effects) le are = rw (are.0.stamp_is, le, effects-cut s life node stamp effects le are.1) refl

-- a later stamp is above the cut too
later : (s stamp other : ℕ) → nat_le stamp s ≡ false → stamp ≤ other → nat_le other s ≡ false
later s stamp other above le = grind (arith, nat_tests)

inputs-cut : (s stamp : ℕ) (xs : List Input) → nat_le stamp s ≡ false → AllFrom stamp xs → inputs_up_to s xs ≡ []
inputs-cut s stamp [] above from = refl
inputs-cut s stamp (x ∷ xs) above from = rw (later s stamp x.1.stamp.0 above from.0, inputs-cut s stamp xs above from.1) refl

module _ (life node : ℕ) (answer : Answer) (stamped : (before : List Input) (x : Input) → IsStamped life node x.1.stamp.0 (answer before x)) where
  after-cut : (s stamp : ℕ) (before xs : List Input) → nat_le stamp s ≡ false → AllFrom stamp xs → UpTo s nothing (given_after answer before xs)
  after-cut s stamp before [] above from = record { items = refl; effects = refl }
  after-cut s stamp before (x ∷ xs) above from =
      let is = stamped before x in
      let le = later s stamp x.1.stamp.0 above from.0 in
      let rest = after-cut s stamp (before ++ x ∷ []) xs above from.1 in
      record {
        items = sym (filter-append _ (answer before x).items _ ∙ rw (items-cut s x.1.stamp.0 _ le is.items, ← rest.items) refl);
        effects = sym (filter-append _ (answer before x).effects _ ∙ rw (effects-cut s life node x.1.stamp.0 _ le is.effects, ← rest.effects) refl);
      }

  -- what is given up to a stamp is what the inputs up to it give, in a list whose stamps don't fall
  pub after_up_to : (s : ℕ) (before xs : List Input) → InOrder xs → UpTo s (given_after answer before (inputs_up_to s xs)) (given_after answer before xs)
  after_up_to s before [] ordered = record { items = refl; effects = refl }
  after_up_to s before (x ∷ xs) ordered =
      let is = stamped before x in
      elim (nat_le x.1.stamp.0 s) as (λ b. nat_le x.1.stamp.0 s ≡ b → UpTo s (given_after answer before (cond b (x ∷ inputs_up_to s xs) (inputs_up_to s xs))) (given_after answer before (x ∷ xs))) [
        | true ↦ λ le. let rest = after_up_to s (before ++ x ∷ []) xs ordered.1 in record {
          items = sym (filter-append _ (answer before x).items _ ∙ rw (items-kept s x.1.stamp.0 _ le is.items, ← rest.items) refl);
          effects = sym (filter-append _ (answer before x).effects _ ∙ rw (effects-kept s life node x.1.stamp.0 _ le is.effects, ← rest.effects) refl);
        }
        | false ↦ λ le. rw (inputs-cut s x.1.stamp.0 xs le ordered.0) (
            let rest = after-cut s x.1.stamp.0 (before ++ x ∷ []) xs le ordered.0 in record {
              items = sym (filter-append _ (answer before x).items _ ∙ rw (items-cut s x.1.stamp.0 _ le is.items, ← rest.items) refl);
              effects = sym (filter-append _ (answer before x).effects _ ∙ rw (effects-cut s life node x.1.stamp.0 _ le is.effects, ← rest.effects) refl);
            })
      ] refl
