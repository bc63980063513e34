-- What has a stamp, and lists cut at a stamp.
use Rattle.std.specs.Prelude.{◌≡◌, ℕ, ◌<◌, ◌≤◌, ⊤, List, [], ◌∷◌, filter, nat_le}
use Rattle.kap_base.specs.declared.items.Item.{Item}
use Rattle.kap_base.specs.declared.items.Effect.{Effect}
use Rattle.node_core.specs.Meaning.{Given, Input}

-- the inputs up to a stamp
abbrev pub inputs_up_to : ℕ → List Input → List Input
inputs_up_to s xs = filter (λ x. nat_le x.1.stamp.0 s) xs

-- the items up to a stamp
abbrev pub items_up_to : ℕ → List Item → List Item
items_up_to s items = filter (λ i. nat_le i.stamp.0 s) items

-- and the effects
abbrev pub effects_up_to : ℕ → List Effect → List Effect
effects_up_to s effects = filter (λ e. nat_le e.stamp.0 s) effects

-- what is given up to a stamp
pub record UpTo (s : ℕ) (part whole : Given) : Type 0 where
  pub items : part.items ≡ items_up_to s whole.items
  pub effects : part.effects ≡ effects_up_to s whole.effects

-- each has this stamp
abbrev pub AreStamped : ℕ → List Item → Type 0
AreStamped stamp [] = ⊤
AreStamped stamp (i ∷ items) = (i.stamp.0 ≡ stamp) × AreStamped stamp items

-- an effect of this node in this life, with this stamp
pub record IsEffectOf (life node stamp : ℕ) (e : Effect) : Type 0 where
  pub life_is : e.life ≡ life
  pub node_is : e.node ≡ node
  pub stamp_is : e.stamp.0 ≡ stamp

-- each is an effect of this node in this life, with this stamp
abbrev pub AreEffectsOf : ℕ → ℕ → ℕ → List Effect → Type 0
AreEffectsOf life node stamp [] = ⊤
AreEffectsOf life node stamp (e ∷ effects) = IsEffectOf life node stamp e × AreEffectsOf life node stamp effects

-- all that is given has this stamp, and effects are those of this node in this life
pub record IsStamped (life node stamp : ℕ) (g : Given) : Type 0 where
  pub items : AreStamped stamp g.items
  pub effects : AreEffectsOf life node stamp g.effects

-- no stamp is below this one
abbrev pub AllFrom : ℕ → List Input → Type 0
AllFrom stamp [] = ⊤
AllFrom stamp (x ∷ xs) = (stamp ≤ x.1.stamp.0) × AllFrom stamp xs

-- no stamp is above this one
abbrev pub AllUpTo : ℕ → List Input → Type 0
AllUpTo stamp [] = ⊤
AllUpTo stamp (x ∷ xs) = (x.1.stamp.0 ≤ stamp) × AllUpTo stamp xs

-- the stamps don't fall
abbrev pub InOrder : List Input → Type 0
InOrder [] = ⊤
InOrder (x ∷ xs) = AllFrom x.1.stamp.0 xs × InOrder xs

-- each comes at a port below this number
abbrev pub AllAtPorts : ℕ → List Input → Type 0
AllAtPorts ports [] = ⊤
AllAtPorts ports (x ∷ xs) = (x.0 < ports) × AllAtPorts ports xs
