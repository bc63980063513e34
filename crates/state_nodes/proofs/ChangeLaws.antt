-- What stands at fields, and whether it still does.
use Rattle.std.proofs.Common.{◌≡◌, ℕ, Bool, true, false, not, List, [], ◌∷◌, Option, Some, None, refl, ap, ◌↔◌, IsTrue}
use Rattle.std.specs.Bool.{Decides}
use Rattle.kap_base.proofs.TestLaws.{first_of, second_of}
use Rattle.kap_base.specs.Points.{PointValue}
use Rattle.kap_base.proofs.ValueLaws.{decided, values_decided}
use Rattle.kap_base.specs.declared.value.Value.{Value}
use Rattle.state_nodes.specs.ChangeDetects.{are_still, is_change_from, is_same, value_at, values_at}

pub same_decided : (a b : Option Value) → Decides (is_same a b) (a ≡ b)
same_decided None None = (λ e. refl, λ e. refl)
same_decided None (Some b) = (λ e. absurd cc, λ e. absurd cc)
same_decided (Some a) None = (λ e. absurd cc, λ e. absurd cc)
same_decided (Some a) (Some b) = decided Some a b (is_same (Some a) (Some b)) (λ e. cc) (values_decided a b)

pub same_exactly : (a b : Option Value) → IsTrue (is_same a b) ↔ (a ≡ b)
same_exactly a b = same_decided a b

-- where all stand there still, they are what stands there
pub still_are : (names : List (List ℕ)) (values : List (Option Value)) (p : PointValue) → are_still names values p ≡ true → values ≡ values_at names p
still_are [] [] p e = refl
still_are [] (v ∷ values) p e = absurd cc
still_are (name ∷ names) [] p e = absurd cc
still_are (name ∷ names) (v ∷ values) p e =
    let here : v ≡ value_at p name = (same_decided v (value_at p name)).0 (first_of (is_same v (value_at p name)) (are_still names values p) e) in
    let rest = still_are names values p (second_of (is_same v (value_at p name)) (are_still names values p) e) in
    (λ i. here i ∷ rest i)

not_not : (b : Bool) → not b ≡ false → b ≡ true
not_not true e = refl
not_not false e = absurd cc

-- where nothing changes, what is kept is what stands there
pub kept_is : (names : List (List ℕ)) (kept : Option (List (Option Value))) (p : PointValue) → is_change_from names kept p ≡ false → kept ≡ Some (values_at names p)
kept_is names None p e = absurd cc
kept_is names (Some values) p e = ap Some (still_are names values p (not_not (are_still names values p) e))
