-- The level of a point, by the level of its group before it, and what is evaluated for it.
use Rattle.std.specs.Prelude.{Bool, false, not, nat_lt, nat_le, if◌then◌else◌, List, [], ◌∷◌, ◌++◌, map, filter, Option, Some, None, unwrap_or}
use Rattle.kap_base.specs.Levels.{level_rank}
use Rattle.kap_base.specs.declared.items.Level.{Level}
use Rattle.kap_base.specs.declared.items.Level.TheVariants.{Fine, Info, Warning, Critical}
use Rattle.alert_node.specs.declared.watch.Ask.{Ask}
use Rattle.alert_node.specs.declared.watch.Ask.TheVariants.{Expression, Reset}

-- ---- levels

-- the levels above OK, from the highest down
abbrev pub levels_down : List Level
levels_down = Critical ∷ Warning ∷ Info ∷ []

-- those above a level
abbrev pub levels_above : Level → List Level
levels_above level = filter (λ l. nat_lt (level_rank level) (level_rank l)) levels_down

-- those up to a level
abbrev pub levels_up_to : Level → List Level
levels_up_to level = filter (λ l. nat_le (level_rank l) (level_rank level)) levels_down

-- ---- the level of a point, by whether each expression and each reset is true there; one that isn't there is None

-- it is there and true
abbrev pub holds : Option Bool → Bool
holds None = false
holds (Some truth) = truth

-- it is there and not true
abbrev pub fails : Option Bool → Bool
fails None = false
fails (Some truth) = not truth

-- the first of these levels whose expression is true
abbrev pub first_true : (Ask → Option Bool) → List Level → Option Level
first_true truth [] = None
first_true truth (level ∷ levels) = if holds (truth (Expression level)) then Some level else first_true truth levels

-- the level, where its reset is there and isn't true
abbrev pub held : (Ask → Option Bool) → Level → Option Level
held truth level = if fails (truth (Reset level)) then Some level else None

-- By the level of the group so far, the first of these that there is: the highest level above it whose expression is
-- true; that level, where its reset is there and isn't true; the highest level up to it whose expression is true; OK.
abbrev pub level_of : (Ask → Option Bool) → Level → Level
level_of truth current =
    unwrap_or (first_true truth (levels_above current))
    (unwrap_or (held truth current) (unwrap_or (first_true truth (levels_up_to current)) Fine))

-- ---- what is evaluated

-- what may be evaluated at a level, in this order
abbrev pub asks_at : Level → List Ask
asks_at current = map Expression (levels_above current) ++ Reset current ∷ map Expression (levels_up_to current)

-- an expression that is true decides the level, and so does a reset that isn't
abbrev pub decides : Ask → Bool → Bool
decides (Expression level) truth = truth
decides (Reset level) truth = not truth

-- one that is there is evaluated, and the others where it doesn't decide the level
abbrev pub evaluated_first : Ask → Option Bool → List Ask → List Ask
evaluated_first ask None others = others
evaluated_first ask (Some truth) others = ask ∷ (if decides ask truth then [] else others)

-- of these, in order, those that are evaluated until the level is decided
abbrev pub evaluated : (Ask → Option Bool) → List Ask → List Ask
evaluated truth [] = []
evaluated truth (ask ∷ asks) = evaluated_first ask (truth ask) (evaluated truth asks)
