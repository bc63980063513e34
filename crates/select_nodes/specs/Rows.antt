-- Examples of what selects choose.
use Rattle.std.specs.Prelude.{◌≡◌, ℕ, ℤ, pos, negsuc, true, codes, List, [], ◌∷◌, ◌++◌, take, Some, None}
use Rattle.std.specs.Int.{int_wrap, w64}
use Rattle.kap_base.specs.declared.value.Value.{Value}
use Rattle.kap_base.specs.declared.value.Value.TheVariants.{Int, Bool as Truth, Str}
use Rattle.select_nodes.specs.declared.readings.Rank.TheVariants.{Lowest, Highest}
use Rattle.select_nodes.specs.Choices.{distinct, spread_in, sum_in}
use Rattle.select_nodes.specs.Picks.{ReadingValue, first}
use Rattle.select_nodes.specs.Ranks.{by_rank}

-- an integer at a time
abbrev pub at : ℕ → ℤ → ReadingValue
at time number = record { number = number; time = pos time }

-- 3, 7, 2, 7 and 2 at the times 1 to 5
abbrev pub five : List ReadingValue
five = at 1 (pos 3) ∷ at 2 (pos 7) ∷ at 3 (pos 2) ∷ at 4 (pos 7) ∷ at 5 (pos 2) ∷ []

-- the least integer of a field
abbrev pub least : ℤ
least = negsuc 9223372036854775807

-- and the greatest
abbrev pub greatest : ℤ
greatest = pos 9223372036854775807

-- the greatest first, and of equal ones the earlier place
abbrev pub TopThree : Type 0
TopThree = take 3 (by_rank Highest five) ≡ at 2 (pos 7) ∷ at 4 (pos 7) ∷ at 1 (pos 3) ∷ []

-- the least first, and of equal ones the earlier place; and no more than there are
abbrev pub BottomNine : Type 0
BottomNine =
    take 9 (by_rank Lowest five) ≡ at 3 (pos 2) ∷ at 5 (pos 2) ∷ at 1 (pos 3) ∷ at 2 (pos 7) ∷ at 4 (pos 7) ∷ []

-- `max` takes the first of the greatest
abbrev pub Greatest : Type 0
Greatest = first (by_rank Highest five) ≡ Some (at 2 (pos 7))

-- `min` takes the first of the least
abbrev pub Least : Type 0
Least = first (by_rank Lowest five) ≡ Some (at 3 (pos 2))

-- the sum of none is none
abbrev pub NoSum : Type 0
NoSum = sum_in [] ≡ None

-- the sum and the spread of integers are brought into 64 bits
abbrev pub WrappedSum : Type 0
WrappedSum = sum_in (at 1 greatest ∷ at 2 (pos 1) ∷ []) ≡ Some (int_wrap w64 (pos 9223372036854775808))

-- a spread past 64 bits wraps
abbrev pub WrappedSpread : Type 0
WrappedSpread = spread_in (at 1 least ∷ at 2 greatest ∷ []) ≡ Some (int_wrap w64 (pos 18446744073709551615))

-- 1, '1' and true are three values
abbrev pub ones : List Value
ones = Int (pos 1) ∷ Str (codes "1") ∷ Truth true ∷ []

-- values of two kinds are two values
abbrev pub Kinds : Type 0
Kinds = distinct (ones ++ ones) ≡ ones
