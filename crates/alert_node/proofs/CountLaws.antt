-- The number that is kept of an expression or a reset is how often it was evaluated.
use Rattle.std.proofs.Common.{◌≡◌, ℕ, ◌+◌, Bool, false, List, [], ◌∷◌, ◌++◌, refl, sym, ap, ◌∙◌, add-zero, zero-add, add_assoc, arith, if◌then◌else◌}
use Rattle.std.specs.Prelude.{count_by, fold}
use Rattle.std.proofs.lemmas.List.Sums.{sum_by-append}
use Rattle.kap_base.specs.declared.items.Level.{Level}
use Rattle.kap_base.specs.declared.items.Level.TheVariants.{Fine, Info, Warning, Critical}
use Rattle.node_core.specs.Groups.{Came}
use Rattle.alert_node.specs.declared.alert.Alert.{Alert}
use Rattle.alert_node.specs.declared.watch.Ask.{Ask}
use Rattle.alert_node.specs.declared.watch.Ask.TheVariants.{Expression, Reset}
use Rattle.alert_node.specs.declared.watch.Counts.{Counts}
use Rattle.alert_node.specs.declared.watch.Watch.{Watch}
use Rattle.alert_node.specs.Asking.{level_asked}
use Rattle.alert_node.specs.Events.{is_fine}
use Rattle.kap_base.specs.Levels.{same_level}
use Rattle.alert_node.specs.Watches.{count_of, counted, evaluated_at, evaluations, evaluations_behind, number_of, one_more, same_ask, unwatched, watch_in, watched}

-- 1 where it holds
abbrev once : Bool → ℕ
once b = if b then 1 else 0

none_more : (n : ℕ) → n ≡ n + 0
none_more n = sym (add-zero n)

number_more : (counts : Counts) (of one : Level) → is_fine of ≡ false → number_of (one_more counts one) of ≡ number_of counts of + once (same_level of one)
number_more counts Fine one e = absurd cc
number_more counts Info Fine e = none_more counts.info
number_more counts Info Info e = refl
number_more counts Info Warning e = none_more counts.info
number_more counts Info Critical e = none_more counts.info
number_more counts Warning Fine e = none_more counts.warn
number_more counts Warning Info e = none_more counts.warn
number_more counts Warning Warning e = refl
number_more counts Warning Critical e = none_more counts.warn
number_more counts Critical Fine e = none_more counts.crit
number_more counts Critical Info e = none_more counts.crit
number_more counts Critical Warning e = none_more counts.crit
number_more counts Critical Critical e = refl

one_counted : (watch : Watch) (of one : Ask) → is_fine (level_asked of) ≡ false → count_of (counted watch one) of ≡ count_of watch of + once (same_ask of one)
one_counted watch (Expression of) (Expression one) e = number_more watch.expressions of one e
one_counted watch (Expression of) (Reset one) e = none_more (number_of watch.expressions of)
one_counted watch (Reset of) (Expression one) e = none_more (number_of watch.resets of)
one_counted watch (Reset of) (Reset one) e = number_more watch.resets of one e

-- 1 for each of these that is this one
abbrev ones : Ask → Ask → ℕ
ones of ask = once (same_ask of ask)

count_both : (of : Ask) (xs ys : List Ask) → count_by (same_ask of) (xs ++ ys) ≡ count_by (same_ask of) xs + count_by (same_ask of) ys
count_both of xs ys = sum_by-append (ones of) xs ys

count_first : (of x : Ask) (xs : List Ask) → count_by (same_ask of) (x ∷ xs) ≡ ones of x + count_by (same_ask of) xs
count_first of x xs = sum_by-append (ones of) (x ∷ []) xs ∙ ap (λ n. n + count_by (same_ask of) xs) (zero-add (ones of x))

all_counted : (of : Ask) → is_fine (level_asked of) ≡ false → (watch : Watch) (asks : List Ask) → count_of (fold counted watch asks) of ≡ count_of watch of + count_by (same_ask of) asks
all_counted of e watch [] = none_more (count_of watch of)
all_counted of e watch (ask ∷ asks) =
    all_counted of e (counted watch ask) asks
    ∙ ap (λ n. n + count_by (same_ask of) asks) (one_counted watch of ask e)
    ∙ add_assoc (count_of watch of) (ones of ask) (count_by (same_ask of) asks)
    ∙ ap (λ n. count_of watch of + n) (sym (count_first of ask asks))

-- the level is no number
at_level : (watch : Watch) (level : Level) (of : Ask) → count_of (record watch { level = level }) of ≡ count_of watch of
at_level watch level (Expression of) = refl
at_level watch level (Reset of) = refl

count_from : (alert : Alert) (of : Ask) → is_fine (level_asked of) ≡ false → (watch : Watch) (cs : List Came)
    → count_of (fold (λ w c. watched alert w c.1) watch cs) of ≡ count_of watch of + count_by (same_ask of) (evaluations_behind alert watch cs)
count_from alert of e watch [] = none_more (count_of watch of)
count_from alert of e watch (c ∷ cs) =
    let here = evaluated_at alert watch c.1 in
    let now = watched alert watch c.1 in
    count_from alert of e now cs
    ∙ ap (λ n. n + count_by (same_ask of) (evaluations_behind alert now cs)) (at_level (fold counted watch here) now.level of ∙ all_counted of e watch here)
    ∙ add_assoc (count_of watch of) (count_by (same_ask of) here) (count_by (same_ask of) (evaluations_behind alert now cs))
    ∙ ap (λ n. count_of watch of + n) (sym (count_both of here (evaluations_behind alert now cs)))

no_count : (of : Ask) → count_of unwatched of ≡ 0
no_count (Expression Fine) = refl
no_count (Expression Info) = refl
no_count (Expression Warning) = refl
no_count (Expression Critical) = refl
no_count (Reset Fine) = refl
no_count (Reset Info) = refl
no_count (Reset Warning) = refl
no_count (Reset Critical) = refl

pub count_is : (alert : Alert) (of : Ask) (points : List Came) → is_fine (level_asked of) ≡ false → count_of (watch_in alert points) of ≡ count_by (same_ask of) (evaluations alert points)
count_is alert of points e =
    let all = count_from alert of e unwatched points in
    let none = no_count of in
    omega (arith, all, none)
