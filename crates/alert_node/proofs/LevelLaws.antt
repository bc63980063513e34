-- What expressions and resets decide one after the other is the level by the rules.
use Rattle.std.proofs.Common.{◌≡◌, Bool, true, false, List, [], ◌∷◌, ◌++◌, Option, Some, None, refl, sym, ap, ◌∙◌, append-nil, if◌then◌else◌}
use Rattle.std.specs.Prelude.{fold, map, unwrap_or}
use Rattle.kap_base.specs.declared.items.Level.{Level}
use Rattle.kap_base.specs.declared.items.Level.TheVariants.{Fine}
use Rattle.alert_node.specs.declared.watch.Ask.{Ask}
use Rattle.alert_node.specs.declared.watch.Ask.TheVariants.{Expression, Reset}
use Rattle.alert_node.specs.declared.watch.Watch.{Watch}
use Rattle.alert_node.specs.Asking.{after, asked, level_asked}
use Rattle.alert_node.specs.Levels.{asks_at, decides, evaluated, evaluated_first, fails, first_true, held, holds, level_of, levels_above, levels_up_to}
use Rattle.alert_node.specs.Watches.{counted}

-- the level that these decide in order
abbrev decided_first : Ask → Option Bool → Level → Level
decided_first ask None others = others
decided_first ask (Some truth) others = if decides ask truth then level_asked ask else others

abbrev decided : (Ask → Option Bool) → List Ask → Level
decided truth [] = Fine
decided truth (ask ∷ asks) = decided_first ask (truth ask) (decided truth asks)

-- ---- the level and the numbers apart

abbrev apart : Watch → List Ask → Level → Watch
apart watch asks level = record (fold counted watch asks) { level = level }

decided_here : (ask : Ask) (t : Bool) (others : Watch → Watch) (asks : List Ask) (level : Level) → ((watch : Watch) → others watch ≡ apart watch asks level) → (watch : Watch)
    → (if t then record (counted watch ask) { level = level_asked ask } else others (counted watch ask))
    ≡ apart watch (ask ∷ (if t then [] else asks)) (if t then level_asked ask else level)
decided_here ask true others asks level same watch = refl
decided_here ask false others asks level same watch = same (counted watch ask)

after_is : (ask : Ask) (truth : Option Bool) (others : Watch → Watch) (asks : List Ask) (level : Level) → ((watch : Watch) → others watch ≡ apart watch asks level) → (watch : Watch)
    → after ask truth others watch ≡ apart watch (evaluated_first ask truth asks) (decided_first ask truth level)
after_is ask None others asks level same watch = same watch
after_is ask (Some truth) others asks level same watch = decided_here ask (decides ask truth) others asks level same watch

asked_apart : (truth : Ask → Option Bool) (asks : List Ask) (watch : Watch) → asked truth asks watch ≡ apart watch (evaluated truth asks) (decided truth asks)
asked_apart truth [] watch = refl
asked_apart truth (ask ∷ asks) watch = after_is ask (truth ask) (asked truth asks) (evaluated truth asks) (decided truth asks) (asked_apart truth asks) watch

-- ---- the level by the rules

expression_is : (level : Level) (truth : Option Bool) (others : Level) (found : Option Level) (rest : Level) → others ≡ unwrap_or found rest
    → decided_first (Expression level) truth others ≡ unwrap_or (if holds truth then Some level else found) rest
expression_is level None others found rest e = e
expression_is level (Some true) others found rest e = refl
expression_is level (Some false) others found rest e = e

expressions_are : (truth : Ask → Option Bool) (levels : List Level) (rest : List Ask) → decided truth (map Expression levels ++ rest) ≡ unwrap_or (first_true truth levels) (decided truth rest)
expressions_are truth [] rest = refl
expressions_are truth (level ∷ levels) rest =
    expression_is level (truth (Expression level)) (decided truth (map Expression levels ++ rest)) (first_true truth levels) (decided truth rest) (expressions_are truth levels rest)

last_are : (truth : Ask → Option Bool) (levels : List Level) → decided truth (map Expression levels) ≡ unwrap_or (first_true truth levels) Fine
last_are truth levels = ap (decided truth) (sym (append-nil (map Expression levels))) ∙ expressions_are truth levels []

reset_is : (level : Level) (truth : Option Bool) (others : Level) → decided_first (Reset level) truth others ≡ unwrap_or (if fails truth then Some level else None) others
reset_is level None others = refl
reset_is level (Some true) others = refl
reset_is level (Some false) others = refl

level_is : (truth : Ask → Option Bool) (current : Level) → decided truth (asks_at current) ≡ level_of truth current
level_is truth current =
    expressions_are truth (levels_above current) (Reset current ∷ map Expression (levels_up_to current))
    ∙ ap (unwrap_or (first_true truth (levels_above current)))
    (reset_is current (truth (Reset current)) (decided truth (map Expression (levels_up_to current)))
    ∙ ap (unwrap_or (held truth current)) (last_are truth (levels_up_to current)))

pub asked_is : (truth : Ask → Option Bool) (watch : Watch)
    → asked truth (asks_at watch.level) watch ≡ record (fold counted watch (evaluated truth (asks_at watch.level))) { level = level_of truth watch.level }
asked_is truth watch = asked_apart truth (asks_at watch.level) watch ∙ ap (apart watch (evaluated truth (asks_at watch.level))) (level_is truth watch.level)
