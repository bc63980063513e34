-- Expressions and resets that are evaluated one after the other.
use Rattle.std.specs.Prelude.{Bool, if◌then◌else◌, List, [], ◌∷◌, Option, Some, None}
use Rattle.kap_base.specs.declared.items.Level.{Level}
use Rattle.kap_base.specs.declared.items.Level.TheVariants.{Fine}
use Rattle.alert_node.specs.declared.watch.Ask.{Ask}
use Rattle.alert_node.specs.declared.watch.Ask.TheVariants.{Expression, Reset}
use Rattle.alert_node.specs.declared.watch.Watch.{Watch}
use Rattle.alert_node.specs.Levels.{decides}
use Rattle.alert_node.specs.Watches.{counted}

-- the level whose expression or reset it is
abbrev pub level_asked : Ask → Level
level_asked (Expression level) = level
level_asked (Reset level) = level

-- what one leaves, and behind it the others
abbrev pub after : Ask → Option Bool → (Watch → Watch) → Watch → Watch
after ask None others watch = others watch
after ask (Some truth) others watch =
    if decides ask truth then record (counted watch ask) { level = level_asked ask } else others (counted watch ask)

-- the level that these decide in order, OK where none does, and each evaluation counted
abbrev pub asked : (Ask → Option Bool) → List Ask → Watch → Watch
asked truth [] watch = record watch { level = Fine }
asked truth (ask ∷ asks) watch = after ask (truth ask) (asked truth asks) watch
