-- Lists in the order of their values.
use Rattle.std.specs.Prelude.{◌≡◌, Bool, true, false, if◌then◌else◌, int_lt, List, [], ◌∷◌, ◌++◌, All}
use Rattle.select_nodes.specs.declared.readings.Rank.{Rank}
use Rattle.select_nodes.specs.declared.readings.Rank.TheVariants.{Lowest, Highest}
use Rattle.select_nodes.specs.Picks.{ReadingValue}

-- put at its place among others that came behind it: behind those that go before it
abbrev pub placed : {A : Type 0} → (A → A → Bool) → A → List A → List A
placed before x [] = x ∷ []
placed before x (y ∷ ys) = if before y x then y ∷ placed before x ys else x ∷ y ∷ ys

-- sorted: those of which none goes before the other stay in the order in which they came
abbrev pub ranked : {A : Type 0} → (A → A → Bool) → List A → List A
ranked before [] = []
ranked before (x ∷ xs) = placed before x (ranked before xs)

-- it goes before all that came earlier, and none that came later goes before it
pub record IsFirst {A : Type 0} (before : A → A → Bool) (xs : List A) (x : A) : Type 0 where
  pub earlier : List A
  pub later : List A
  pub parts : xs ≡ earlier ++ x ∷ later
  pub beats : All (λ y. before x y ≡ true) earlier
  pub stands : All (λ y. before y x ≡ false) later

-- a reading goes before one with a greater number, or before one with a lesser number
abbrev pub goes_before : Rank → ReadingValue → ReadingValue → Bool
goes_before Lowest a b = int_lt a.number b.number
goes_before Highest a b = int_lt b.number a.number

-- readings by rank; of equal numbers the earlier place comes first
abbrev pub by_rank : Rank → List ReadingValue → List ReadingValue
by_rank rank rs = ranked (goes_before rank) rs
