-- `changeDetect`: the points at which some of a few fields change.
use Rattle.std.specs.Prelude.{◌≡◌, ℕ, Bool, true, false, not, ◌&&◌, ◌||◌, List, [], ◌∷◌, ◌++◌, map, Option, Some, None, option_map, refl}
use Rattle.std.specs.FinMap.{get}
use Rattle.std.specs.List.{list_any}
use Rattle.std.proofs.Common.{ap, sym, ◌∙◌}
use Rattle.kap_base.specs.Points.{PointValue}
use Rattle.kap_base.specs.Values.{is_same_value}
use Rattle.kap_base.specs.declared.value.Value.{Value}
use Rattle.node_core.specs.Groups.{Came, GroupAnswer}
use Rattle.node_core.specs.Meaning.{Turn, passed_if}
use Rattle.state_nodes.specs.Words.{last, last_push}

-- ---- a field

-- what stands at a field is the same: values that are, or nothing at both
abbrev pub is_same : Option Value → Option Value → Bool
is_same None None = true
is_same None (Some b) = false
is_same (Some a) None = false
is_same (Some a) (Some b) = is_same_value a b

-- what stands at a field of a point
abbrev pub value_at : PointValue → List ℕ → Option Value
value_at p name = get p.fields name

-- ---- a group

-- some of these fields differs in kind or value between two points, or is in one of them alone
abbrev pub differ : List (List ℕ) → PointValue → PointValue → Bool
differ names q p = list_any (λ name. not (is_same (value_at q name) (value_at p name))) names

-- a point is one at which some of them changes: the first of its group, or one that differs from the one before
abbrev pub is_change : List (List ℕ) → Option PointValue → PointValue → Bool
is_change names None p = true
is_change names (Some q) p = differ names q p

-- the group's point before
abbrev pub last_point : List Came → Option PointValue
last_point before = option_map (λ c. c.1) (last before)

-- what is said of a point, by the points of its group before it
abbrev pub change_detect_says : List (List ℕ) → GroupAnswer
change_detect_says names before port p = passed_if (is_change names (last_point before) p) p

-- ---- what is kept of a group: what stands at the fields of its last point

-- what stands at the listed fields
abbrev pub values_at : List (List ℕ) → PointValue → List (Option Value)
values_at names p = map (value_at p) names

-- the same of the last point, if there was one
abbrev pub last_values : List (List ℕ) → List Came → Option (List (Option Value))
last_values names points = option_map (values_at names) (last_point points)

-- each of these stands at its field
abbrev pub are_still : List (List ℕ) → List (Option Value) → PointValue → Bool
are_still [] [] p = true
are_still [] (v ∷ values) p = false
are_still (name ∷ names) [] p = false
are_still (name ∷ names) (v ∷ values) p = is_same v (value_at p name) && are_still names values p

-- a listed field differs from what was there, or nothing was
abbrev pub is_change_from : List (List ℕ) → Option (List (Option Value)) → PointValue → Bool
is_change_from names None p = true
is_change_from names (Some values) p = not (are_still names values p)

-- a step, by what is kept
abbrev pub change_detect_step : List (List ℕ) → Option (List (Option Value)) → ℕ → PointValue
    → Turn (Option (List (Option Value)))
change_detect_step names values port p =
    record { state = Some (values_at names p); said = passed_if (is_change_from names values p) p }

-- ---- laws

not-and : (a b : Bool) → not (a && b) ≡ (not a || not b)
not-and true b = refl
not-and false b = refl

still_or_differ : (names : List (List ℕ)) (q p : PointValue)
    → not (are_still names (values_at names q) p) ≡ differ names q p
still_or_differ [] q p = refl
still_or_differ (name ∷ names) q p =
    not-and (is_same (value_at q name) (value_at p name)) (are_still names (values_at names q) p)
    ∙ ap (λ (b : Bool). not (is_same (value_at q name) (value_at p name)) || b) (still_or_differ names q p)

change_is : (names : List (List ℕ)) (o : Option PointValue) (p : PointValue)
    → is_change_from names (option_map (values_at names) o) p ≡ is_change names o p
change_is names None p = refl
change_is names (Some q) p = still_or_differ names q p

made : Option (List (Option Value)) → Bool → PointValue → Turn (Option (List (Option Value)))
made values b p = record { state = values; said = passed_if b p }

-- what is kept, and what is said, of one point more
pub change_detect_goes_on : (names : List (List ℕ)) (before : List Came) (port : ℕ) (p : PointValue)
    → change_detect_step names (last_values names before) port p
    ≡ record { state = last_values names (before ++ (port, p) ∷ []); said = change_detect_says names before port p }
unfolding made
change_detect_goes_on names before port p =
    let newest : Some (values_at names p) ≡ last_values names (before ++ (port, p) ∷ []) =
    ap (λ (o : Option Came). option_map (values_at names) (option_map (λ c. c.1) o))
    (sym (last_push before (port, p))) in
    (λ i. made (newest i) (change_is names (last_point before) p i) p)
