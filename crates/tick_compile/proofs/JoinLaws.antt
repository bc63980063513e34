-- Names are different exactly where a set of them is as long as their list; nodes that are given, and their numbers.
use Rattle.std.proofs.Common.{◌≡◌, ℕ, Bool, true, false, not, ◌&&◌, List, [], ◌∷◌, length, refl, sym, ◌∙◌, ap, eqb, eqb-true, eq-eqb}
use Rattle.std.specs.Prelude.{◌||◌, bytes_eq}
use Rattle.std.specs.Borrow.{Bor}
use Rattle.std.specs.Cmp.{both_ways, on_equiv}
use Rattle.std.specs.Cmp.Lexicographic.{nat_list_eq_equiv}
use Rattle.std.specs.HashSet as bag
use Rattle.std.specs.HashSet.{HashSet, hash_set_len}
use Rattle.std.specs.List.{AllByRecursion, IsDistinct, list_any}
use Rattle.std.proofs.lemmas.Map.Made.{IsDistinct-from_count, distinct_count-from_IsDistinct, hash_set_len-from_list}
use Rattle.task_graph.specs.Graphs.{are_different}
use Rattle.tick_compile.specs.Joins.{lent}

-- lent texts are the same
abbrev pub alike : Bor (List ℕ) → Bor (List ℕ) → Bool
alike x y = bytes_eq x.now y.now

none_alike : (x : Bor (List ℕ)) (ys : List (Bor (List ℕ))) → AllByRecursion (λ y. alike x y ≡ false) ys → list_any (bytes_eq x.now) (lent ys) ≡ false
none_alike x [] all = refl
none_alike x (y ∷ ys) all = ap (λ (b : Bool). b || list_any (bytes_eq x.now) (lent ys)) all.0 ∙ none_alike x ys all.1

no_first : (a b : Bool) → (a || b) ≡ false → a ≡ false
no_first true b is = absurd cc
no_first false b is = refl

no_second : (a b : Bool) → (a || b) ≡ false → b ≡ false
no_second true b is = absurd cc
no_second false b is = is

all_apart : (x : Bor (List ℕ)) (ys : List (Bor (List ℕ))) → list_any (bytes_eq x.now) (lent ys) ≡ false → AllByRecursion (λ y. alike x y ≡ false) ys
all_apart x [] none = tt
all_apart x (y ∷ ys) none =
    (no_first (bytes_eq x.now y.now) (list_any (bytes_eq x.now) (lent ys)) none, all_apart x ys (no_second (bytes_eq x.now y.now) (list_any (bytes_eq x.now) (lent ys)) none))

first_not : (a b : Bool) → (not a && b) ≡ true → a ≡ false
first_not true b is = absurd cc
first_not false b is = refl

second_true : (a b : Bool) → (not a && b) ≡ true → b ≡ true
second_true true b is = absurd cc
second_true false b is = is

different : (xs : List (Bor (List ℕ))) → IsDistinct alike xs → are_different (lent xs) ≡ true
unfolding IsDistinct
different [] apart = refl
different (x ∷ xs) apart = ap (λ (b : Bool). not b && are_different (lent xs)) (none_alike x xs apart.0) ∙ different xs apart.1

distinct : (xs : List (Bor (List ℕ))) → are_different (lent xs) ≡ true → IsDistinct alike xs
unfolding IsDistinct
distinct [] is = tt
distinct (x ∷ xs) is =
    let some = list_any (bytes_eq x.now) (lent xs) in
    (all_apart x xs (first_not some (are_different (lent xs)) is), distinct xs (second_true some (are_different (lent xs)) is))

-- a set of names is as long as their list exactly where no two are the same
pub counted_different : {S : Type 0} (xs : List (Bor (List ℕ))) (set : HashSet (Bor (List ℕ)) S) → bag.IsFromIterResult alike xs set
    → eqb (hash_set_len set) (length xs) ≡ are_different (lent xs)
counted_different xs set made =
    let laws = on_equiv (λ (s : Bor (List ℕ)). s.now) nat_list_eq_equiv in
    let count = hash_set_len-from_list laws xs set made in
    both_ways (eqb (hash_set_len set) (length xs)) (are_different (lent xs))
    (λ e. different xs (IsDistinct-from_count laws xs (sym count ∙ eqb-true _ _ e)))
    (λ is. eq-eqb _ _ (count ∙ distinct_count-from_IsDistinct laws xs (distinct xs is)))
