-- Lists of what has a stamp.
use Rattle.std.specs.Prelude.{◌≡◌, ℕ, ◌≤◌, ◌==◌, ⊤, List, [], ◌∷◌, filter}
use Rattle.kap_base.specs.declared.items.Item.{Item}
use Rattle.kap_base.specs.declared.items.Effect.{Effect}
use Rattle.node_core.specs.Meaning.{Input}

-- where the stamps stand
abbrev pub of_item : Item → ℕ
of_item i = i.stamp.0

-- the stamp of an effect
abbrev pub of_effect : Effect → ℕ
of_effect e = e.stamp.0

-- the stamp of what came at a port
abbrev pub of_input : Input → ℕ
of_input x = x.1.stamp.0

module _ {A : Type 0} (stamp_of : A → ℕ) where
  -- those that have a stamp
  abbrev pub with_stamp : ℕ → List A → List A
  with_stamp stamp xs = filter (λ x. stamp_of x == stamp) xs

  -- each has this stamp
  abbrev pub HaveStamp : ℕ → List A → Type 0
  HaveStamp stamp [] = ⊤
  HaveStamp stamp (x ∷ xs) = (stamp_of x ≡ stamp) × HaveStamp stamp xs

  -- no stamp is above this one
  abbrev pub StampsUpTo : ℕ → List A → Type 0
  StampsUpTo n [] = ⊤
  StampsUpTo n (x ∷ xs) = (stamp_of x ≤ n) × StampsUpTo n xs

  -- no stamp is below this one
  abbrev pub StampsFrom : ℕ → List A → Type 0
  StampsFrom stamp [] = ⊤
  StampsFrom stamp (x ∷ xs) = (stamp ≤ stamp_of x) × StampsFrom stamp xs

  -- the stamps don't fall
  abbrev pub StampsRise : List A → Type 0
  StampsRise [] = ⊤
  StampsRise (x ∷ xs) = StampsFrom (stamp_of x) xs × StampsRise xs

  -- the stamps are those of n points and don't fall
  pub record IsStream (n : ℕ) (xs : List A) : Type 0 where
    pub from_one : StampsFrom 1 xs
    pub up_to : StampsUpTo n xs
    pub rising : StampsRise xs
