-- What a node gives has the stamps of its inputs.
use Rattle.std.proofs.Common.{ℕ, List, [], ◌∷◌, ◌++◌, subst}
use Rattle.kap_base.specs.declared.items.Item.{Item}
use Rattle.kap_base.specs.declared.items.Effect.{Effect}
use Rattle.node_core.specs.Meaning.{Given, Input, Answer, given_after}
use Rattle.node_core.specs.Cut.{AreStamped, AreEffectsOf, IsStamped}
use Rattle.task_run.specs.Stamps.{of_item, of_effect, of_input, HaveStamp, StampsUpTo, StampsFrom, StampsRise, IsStream}
use Rattle.task_run.specs.StampLaws.{up_to_append, from_append, have_append, have_up_to, have_from, rise_append}

-- all that is given has this stamp
pub record GivenAt (stamp : ℕ) (g : Given) : Type 0 where
  pub items : HaveStamp of_item stamp g.items
  pub effects : HaveStamp of_effect stamp g.effects

-- no stamp is above this one
pub record GivenUpTo (n : ℕ) (g : Given) : Type 0 where
  pub items : StampsUpTo of_item n g.items
  pub effects : StampsUpTo of_effect n g.effects

-- no stamp is below this one
pub record GivenFrom (stamp : ℕ) (g : Given) : Type 0 where
  pub items : StampsFrom of_item stamp g.items
  pub effects : StampsFrom of_effect stamp g.effects

-- the stamps don't fall
pub record GivenRises (g : Given) : Type 0 where
  pub items : StampsRise of_item g.items
  pub effects : StampsRise of_effect g.effects

-- the stamps are those of n points and don't fall
pub record GivenStream (n : ℕ) (g : Given) : Type 0 where
  pub items : IsStream of_item n g.items
  pub effects : IsStream of_effect n g.effects

have-items : (s : ℕ) (items : List Item) → AreStamped s items → HaveStamp of_item s items
have-items s [] are = tt
have-items s (i ∷ items) are = (are.0, have-items s items are.1)

have-effects : (s life node : ℕ) (effects : List Effect) → AreEffectsOf life node s effects
    → HaveStamp of_effect s effects
have-effects s life node [] are = tt
have-effects s life node (e ∷ effects) are = (are.0.stamp_is, have-effects s life node effects are.1)

module _ (life node : ℕ) (answer : Answer) (stamped : (before : List Input) (x : Input)
    → IsStamped life node x.1.stamp.0 (answer before x)) where
  items-at : (before : List Input) (x : Input) → HaveStamp of_item x.1.stamp.0 (answer before x).items
  items-at before x = have-items x.1.stamp.0 (answer before x).items (stamped before x).items

  effects-at : (before : List Input) (x : Input) → HaveStamp of_effect x.1.stamp.0 (answer before x).effects
  effects-at before x = have-effects x.1.stamp.0 life node (answer before x).effects (stamped before x).effects

  pub after_at : (n : ℕ) (before xs : List Input) → HaveStamp of_input n xs → GivenAt n (given_after answer before xs)
  after_at n before [] at = record { items = tt; effects = tt }
  after_at n before (x ∷ xs) at =
      let rest = after_at n (before ++ x ∷ []) xs at.1 in
      record {
        items = have_append of_item n _ _
            (subst (λ (s : ℕ). HaveStamp of_item s (answer before x).items) at.0 (items-at before x)) rest.items;
        effects = have_append of_effect n _ _
            (subst (λ (s : ℕ). HaveStamp of_effect s (answer before x).effects) at.0
            (effects-at before x)) rest.effects;
      }

  pub after_up_to : (n : ℕ) (before xs : List Input) → StampsUpTo of_input n xs
      → GivenUpTo n (given_after answer before xs)
  after_up_to n before [] up_to = record { items = tt; effects = tt }
  after_up_to n before (x ∷ xs) up_to =
      let rest = after_up_to n (before ++ x ∷ []) xs up_to.1 in
      record {
        items = up_to_append of_item n _ _ (have_up_to of_item n x.1.stamp.0 _ up_to.0 (items-at before x)) rest.items;
        effects = up_to_append of_effect n _ _
            (have_up_to of_effect n x.1.stamp.0 _ up_to.0 (effects-at before x)) rest.effects;
      }

  pub after_from : (s : ℕ) (before xs : List Input) → StampsFrom of_input s xs
      → GivenFrom s (given_after answer before xs)
  after_from s before [] from = record { items = tt; effects = tt }
  after_from s before (x ∷ xs) from =
      let rest = after_from s (before ++ x ∷ []) xs from.1 in
      record {
        items = from_append of_item s _ _ (have_from of_item s x.1.stamp.0 _ from.0 (items-at before x)) rest.items;
        effects = from_append of_effect s _ _
            (have_from of_effect s x.1.stamp.0 _ from.0 (effects-at before x)) rest.effects;
      }

  pub after_rises : (before xs : List Input) → StampsRise of_input xs → GivenRises (given_after answer before xs)
  after_rises before [] rising = record { items = tt; effects = tt }
  after_rises before (x ∷ xs) rising =
      let later = after_from x.1.stamp.0 (before ++ x ∷ []) xs rising.0 in
      let rest = after_rises (before ++ x ∷ []) xs rising.1 in
      record {
        items = rise_append of_item x.1.stamp.0 _ _ (items-at before x) later.items rest.items;
        effects = rise_append of_effect x.1.stamp.0 _ _ (effects-at before x) later.effects rest.effects;
      }
