-- `cumulativeSum`: the sum of the integers so far.
use Rattle.std.specs.Prelude.{◌≡◌, ℕ, ℤ, pos, ◌+ℤ◌, List, [], ◌∷◌, ◌++◌, codes, Option, Some, None, filter_map, fold, refl}
use Rattle.std.specs.Int.{int_wrap, w64}
use Rattle.std.proofs.Common.{ap, sym, ◌∙◌, append-nil, lit<}
use Rattle.std.proofs.lemmas.Int.{int_wrap-add_left, int_wrap_fits}
use Rattle.std.proofs.lemmas.List.Elements.{filter_map-append}
use Rattle.std.proofs.lemmas.List.Sums.{fold_push}
use Rattle.kap_base.specs.Points.{PointValue}
use Rattle.node_core.specs.declared.said.Said.{Said}
use Rattle.node_core.specs.Groups.{Came, GroupAnswer}
use Rattle.node_core.specs.Meaning.{Turn, a_drop, passed}
use Rattle.task_graph.specs.declared.spec.FieldSpec.{FieldSpec}
use Rattle.state_nodes.specs.Words.{int_at, ints_at, result_name, with_number_alone}

-- the sum of integers, brought into 64 bits
abbrev pub sum_of : List ℤ → ℤ
sum_of ns = int_wrap w64 (fold ◌+ℤ◌ (pos 0) ns)

-- the point with its sum
abbrev pub with_sum : Option (List ℕ) → ℤ → PointValue → PointValue
with_sum name sum p = with_number_alone (result_name (codes "cumulativeSum") name) sum p

-- the point with the sum up to its integer as its one field; a point without one is dropped and counted
abbrev pub summed : Option (List ℕ) → List ℤ → Option ℤ → PointValue → Said
summed name before None p = a_drop
summed name before (Some n) p = passed (with_sum name (sum_of (before ++ n ∷ [])) p)

-- what is said of a point, by the points of its group before it
abbrev pub cumulative_sum_says : FieldSpec → GroupAnswer
cumulative_sum_says spec before port p = summed spec.name (ints_at spec.field before) (int_at spec.field p) p

-- ---- what is kept of a group: its sum

-- the sum of the field so far
abbrev pub sum_in : FieldSpec → List Came → ℤ
sum_in spec points = sum_of (ints_at spec.field points)

-- the sum behind a point
abbrev pub sum_behind : ℤ → Option ℤ → ℤ
sum_behind sum None = sum
sum_behind sum (Some n) = int_wrap w64 (sum +ℤ n)

-- what is said of a point that holds a number, and of one that doesn't
abbrev pub summed_behind : Option (List ℕ) → ℤ → Option ℤ → PointValue → Said
summed_behind name sum None p = a_drop
summed_behind name sum (Some n) p = passed (with_sum name (int_wrap w64 (sum +ℤ n)) p)

-- a step, by what is kept
abbrev pub cumulative_sum_step : FieldSpec → ℤ → ℕ → PointValue → Turn ℤ
cumulative_sum_step spec sum port p =
    record { state = sum_behind sum (int_at spec.field p); said = summed_behind spec.name sum (int_at spec.field p) p }

-- ---- laws

-- before the first number the sum is 0
pub no_sum : pos 0 ≡ sum_of []
no_sum = sym (int_wrap_fits w64 (pos 0) (record { sfits = lit< tt }))

sum_push : (ns : List ℤ) (n : ℤ) → int_wrap w64 (sum_of ns +ℤ n) ≡ sum_of (ns ++ n ∷ [])
sum_push ns n = int_wrap-add_left w64 (fold ◌+ℤ◌ (pos 0) ns) n ∙ ap (int_wrap w64) (sym (fold_push ◌+ℤ◌ (pos 0) ns n))

ints_of : Option ℤ → List ℤ
ints_of o = filter_map (λ (p : Option ℤ). p) (o ∷ [])

sum_more : (ns : List ℤ) (o : Option ℤ) → sum_behind (sum_of ns) o ≡ sum_of (ns ++ ints_of o)
unfolding ints_of
sum_more ns None = ap sum_of (sym (append-nil ns))
sum_more ns (Some n) = sum_push ns n

summed_is : (name : Option (List ℕ)) (ns : List ℤ) (o : Option ℤ) (p : PointValue)
    → summed_behind name (sum_of ns) o p ≡ summed name ns o p
summed_is name ns None p = refl
summed_is name ns (Some n) p = ap (λ (sum : ℤ). passed (with_sum name sum p)) (sum_push ns n)

made : ℤ → Said → Turn ℤ
made sum said = record { state = sum; said = said }

-- what is kept, and what is said, of one point more
pub cumulative_sum_goes_on : (spec : FieldSpec) (before : List Came) (port : ℕ) (p : PointValue)
    → cumulative_sum_step spec (sum_in spec before) port p
    ≡ record { state = sum_in spec (before ++ (port, p) ∷ []); said = cumulative_sum_says spec before port p }
unfolding made ints_of
cumulative_sum_goes_on spec before port p =
    let n = int_at spec.field p in
    let ns = ints_at spec.field before in
    let sum : sum_behind (sum_of ns) n ≡ sum_in spec (before ++ (port, p) ∷ []) =
    sum_more ns n ∙ ap sum_of (sym (filter_map-append (λ (c : Came). int_at spec.field c.1) before ((port, p) ∷ []))) in
    (λ i. made (sum i) (summed_is spec.name ns n p i))
