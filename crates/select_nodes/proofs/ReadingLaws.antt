-- What is read of points, one point on.
use Rattle.std.proofs.Common.{◌≡◌, ℕ, ◌+◌, ◌<◌, true, false, List, [], ◌∷◌, ◌++◌, map}
use Rattle.std.proofs.Common.{Option, Some, None, get_or, length, take, refl, sym, ap, ◌∙◌, arith, append-nil, length-append}
use Rattle.std.specs.Prelude.{ℤ, pos, ◌+ℤ◌, filter_map, fold, int_lt, unwrap_or}
use Rattle.std.specs.Cmp.{IsStrictWeakOrder}
use Rattle.std.specs.FinMap.{get}
use Rattle.std.specs.Int.{int_wrap, w64}
use Rattle.std.specs.List.{last_or}
use Rattle.std.specs.List.Sorted.{IsSortedBy, IsStableBy}
use Rattle.std.specs.Option.{option_to_list}
use Rattle.std.proofs.lemmas.Int.{ints, int_wrap-add_left}
use Rattle.std.proofs.lemmas.List.{map-append, take_more}
use Rattle.std.proofs.lemmas.List.Elements.{filter_map-append}
use Rattle.std.proofs.lemmas.List.Sums.{fold_push}
use Rattle.kap_base.specs.Points.{PointValue}
use Rattle.kap_base.specs.declared.value.Value.{Value}
use Rattle.select_nodes.specs.declared.readings.Rank.{Rank}
use Rattle.select_nodes.specs.declared.readings.Rank.TheVariants.{Lowest, Highest}
use Rattle.select_nodes.specs.Choices.{sum_in, sum_of}
use Rattle.select_nodes.specs.Picks.{PickValue, ReadingValue, first, pick_at, picks_at, reading_at, readings_at, values_at}
use Rattle.select_nodes.specs.Ranks.{by_rank, goes_before}
use Rattle.select_nodes.specs.Steps.{added, better}
use Rattle.select_nodes.proofs.RankLaws.{best_more}
use Rattle.select_nodes.proofs.SortLaws.{sorted_is_ranked}

-- ---- ranks are orders

less_one_way : (a b : ℤ) → int_lt a b ≡ true → int_lt b a ≡ false
less_one_way a b e = grind (arith, ints)

less_chain : (a b c : ℤ) → int_lt a b ≡ false → int_lt b c ≡ false → int_lt a c ≡ false
less_chain a b c e f = grind (arith, ints)

pub ranks : (rank : Rank) → IsStrictWeakOrder (goes_before rank)
ranks Lowest = record { one_way = λ x y. less_one_way x.number y.number; chain = λ x y z. less_chain x.number y.number z.number }
ranks Highest = record { one_way = λ x y. less_one_way y.number x.number; chain = λ x y z e f. less_chain z.number y.number x.number f e }

pub sorted_by_rank : (rank : Rank) (xs ys : List ReadingValue) → IsSortedBy (goes_before rank) ys → IsStableBy (goes_before rank) xs ys → ys ≡ by_rank rank xs
sorted_by_rank rank xs ys = sorted_is_ranked (goes_before rank) (ranks rank) xs ys

-- ---- one point on

one_more : {A B : Type 0} (h : A → Option B) (o : Option B) → (x : A) → h x ≡ o → filter_map h (x ∷ []) ≡ option_to_list o
one_more h None x e = rw e refl
one_more h (Some y) x e = rw e refl

pub more_at : {A B : Type 0} (h : A → Option B) (xs : List A) (i : ℕ) (x : A) → i < length xs → x ≡ get_or xs i x
    → filter_map h (take (i + 1) xs) ≡ filter_map h (take i xs) ++ option_to_list (h x)
more_at h xs i x lt is =
    ap (filter_map h) (take_more xs i x lt)
    ∙ filter_map-append h (take i xs) (get_or xs i x ∷ [])
    ∙ ap (λ y. filter_map h (take i xs) ++ filter_map h (y ∷ [])) (sym is)
    ∙ ap (λ l. filter_map h (take i xs) ++ l) (one_more h (h x) x refl)

pub best_on : (rank : Rank) (field : List ℕ) (ps : List PointValue) (i : ℕ) (p : PointValue) → i < length ps → p ≡ get_or ps i p
    → better (goes_before rank) (first (by_rank rank (readings_at field (take i ps)))) (reading_at field p)
    ≡ first (by_rank rank (readings_at field (take (i + 1) ps)))
best_on rank field ps i p lt is =
    best_more (goes_before rank) (ranks rank) (readings_at field (take i ps)) (reading_at field p)
    ∙ ap (λ (l : List ReadingValue). first (by_rank rank l)) (sym (more_at (reading_at field) ps i p lt is))

-- ---- sums and counts

sum_push : (ns : List ℤ) (n : ℤ) → sum_of (ns ++ n ∷ []) ≡ Some (int_wrap w64 (unwrap_or (sum_of ns) (pos 0) +ℤ n))
sum_push [] n = refl
sum_push (m ∷ ms) n =
    ap (λ (z : ℤ). Some (int_wrap w64 z)) (fold_push ◌+ℤ◌ (pos 0) (m ∷ ms) n)
    ∙ ap Some (sym (int_wrap-add_left w64 (fold ◌+ℤ◌ (pos 0) (m ∷ ms)) n))

sum_more : (rs : List ReadingValue) (o : Option ReadingValue) → added (sum_in rs) o ≡ sum_in (rs ++ option_to_list o)
sum_more rs None = ap sum_in (sym (append-nil rs))
sum_more rs (Some r) = sym (ap sum_of (map-append (λ (q : ReadingValue). q.number) rs (r ∷ [])) ∙ sum_push (map (λ (q : ReadingValue). q.number) rs) r.number)

pub sum_on : (field : List ℕ) (ps : List PointValue) (i : ℕ) (p : PointValue) → i < length ps → p ≡ get_or ps i p
    → added (sum_in (readings_at field (take i ps))) (reading_at field p) ≡ sum_in (readings_at field (take (i + 1) ps))
sum_on field ps i p lt is = sum_more (readings_at field (take i ps)) (reading_at field p) ∙ ap sum_in (sym (more_at (reading_at field) ps i p lt is))

pub count_on : (field : List ℕ) (ps : List PointValue) (i : ℕ) (p : PointValue) → i < length ps → p ≡ get_or ps i p
    → length (values_at field (take i ps)) + length (option_to_list (get p.fields field)) ≡ length (values_at field (take (i + 1) ps))
count_on field ps i p lt is =
    sym (length-append (values_at field (take i ps)) (option_to_list (get p.fields field)))
    ∙ ap (λ (l : List Value). length l) (sym (more_at (λ (q : PointValue). get q.fields field) ps i p lt is))

-- ---- the last of what stands at points

last_push : {A : Type 0} (o : Option A) (xs : List A) (x : A) → last_or o (xs ++ x ∷ []) ≡ Some x
last_push o [] x = refl
last_push o (y ∷ ys) x = last_push (Some y) ys x

picks_more : (field : List ℕ) (left others : List PointValue) (p : PointValue) (o : Option PickValue) → left ≡ others ++ p ∷ [] → pick_at field p ≡ o
    → picks_at field left ≡ picks_at field others ++ option_to_list o
picks_more field left others p o is here =
    ap (picks_at field) is
    ∙ filter_map-append (pick_at field) others (p ∷ [])
    ∙ ap (λ (l : List PickValue). picks_at field others ++ l) (one_more (pick_at field) o p here)

pub last_here : (field : List ℕ) (left others : List PointValue) (p : PointValue) (x : PickValue) → left ≡ others ++ p ∷ [] → pick_at field p ≡ Some x
    → last_or None (picks_at field left) ≡ Some x
last_here field left others p x is here = ap (last_or None) (picks_more field left others p (Some x) is here) ∙ last_push None (picks_at field others) x

pub last_on : (field : List ℕ) (left others : List PointValue) (p : PointValue) → left ≡ others ++ p ∷ [] → pick_at field p ≡ None
    → last_or None (picks_at field others) ≡ last_or None (picks_at field left)
last_on field left others p is none = ap (last_or None) (sym (picks_more field left others p None is none ∙ append-nil (picks_at field others)))
