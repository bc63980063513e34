-- What the code computes in 64 bits is what is said.
use Rattle.std.proofs.Common.{◌≡◌, ℕ, ℤ, ◌+ℤ◌, ◌-ℤ◌, List, codes, Option, Some, FitsSigned, to_z, of_z, sym, ap, ◌∙◌, subst}
use Rattle.std.specs.Int.{int_wrap, w64}
use Rattle.std.proofs.lemmas.Int.{SFits-int_wrap, to_z-of_z}
use Rattle.kap_base.specs.Points.{PointValue}
use Rattle.node_core.specs.declared.said.Said.{Said}
use Rattle.state_nodes.specs.CumulativeSums.{summed_behind, with_sum}
use Rattle.state_nodes.specs.Differences.{difference_from}
use Rattle.node_core.specs.Meaning.{passed}
use Rattle.state_nodes.specs.Words.{result_name, with_number_alone}

-- a number of 64 bits, as the code hands it on
abbrev pub handed : ℤ → ℤ
handed z = to_z w64 (of_z w64 z)

wrapped : (r z : ℤ) → r ≡ int_wrap w64 z → handed r ≡ int_wrap w64 z
wrapped r z is = to_z-of_z w64 r (subst (λ (y : ℤ). FitsSigned w64 y) (sym is) (SFits-int_wrap w64 z)) ∙ is

-- where a point has the integer n behind this sum
pub sum_said : (said : Said) (q p : PointValue) (name : Option (List ℕ)) (sum n next : ℤ) (r o : Option ℤ) → FitsSigned w64 sum → FitsSigned w64 n → r ≡ Some n → r ≡ o
    → next ≡ int_wrap w64 (handed sum +ℤ handed n) → q ≡ with_sum name (handed next) p → said ≡ passed q → said ≡ summed_behind name sum o p
sum_said said q p name sum n next r o f g some same next_is q_is said_is =
    let value : handed next ≡ int_wrap w64 (sum +ℤ n) = wrapped next (handed sum +ℤ handed n) next_is ∙ (λ i. int_wrap w64 (to_z-of_z w64 sum f i +ℤ to_z-of_z w64 n g i)) in
    let here : Some n ≡ o = sym some ∙ same in
    said_is ∙ ap passed q_is ∙ ap (λ (z : ℤ). passed (with_sum name z p)) value ∙ ap (λ (x : Option ℤ). summed_behind name sum x p) here

-- where a point has the integer n behind the integer m
pub difference_said : (said : Said) (q p : PointValue) (name : Option (List ℕ)) (m n change : ℤ) (before r o : Option ℤ) → FitsSigned w64 m → FitsSigned w64 n → before ≡ Some m → r ≡ Some n → r ≡ o
    → change ≡ int_wrap w64 (handed n -ℤ handed m) → q ≡ with_number_alone (result_name (codes "difference") name) (handed change) p → said ≡ passed q → said ≡ difference_from name before o p
difference_said said q p name m n change before r o f g some_before some same change_is q_is said_is =
    let value : handed change ≡ int_wrap w64 (n -ℤ m) = wrapped change (handed n -ℤ handed m) change_is ∙ (λ i. int_wrap w64 (to_z-of_z w64 n g i -ℤ to_z-of_z w64 m f i)) in
    let here : Some n ≡ o = sym some ∙ same in
    said_is ∙ ap passed q_is ∙ ap (λ (z : ℤ). passed (with_number_alone (result_name (codes "difference") name) z p)) value
    ∙ (λ i. difference_from name (sym some_before i) (here i) p)
