-- Merged messages, barriers aside, are the items merged by their stamps.
use Rattle.std.proofs.Common.{◌≡◌, ℕ, zero, suc, ◌+◌, ◌*◌, ◌≤◌, ◌<◌, ◌==◌, true, false, cond, ltb, filter, leb, List, [], ◌∷◌, ◌++◌, map, length, get_or, refl, sym, ap, ◌∙◌, inl, inr, ⊎_elim, ltb-true, ltb-false, arith}
use Rattle.std.specs.Prelude.{⊤, slice_index_or}
use Rattle.std.specs.List.{AllByRecursion as Each, AllZip}
use Rattle.std.proofs.lemmas.Bool.Decides.{nat_tests}
use Rattle.kap_base.specs.declared.items.Item.{Item}
use Rattle.kap_base.specs.declared.items.Msg.{Msg}
use Rattle.kap_base.specs.declared.items.Msg.TheVariants as messages
use Rattle.kap_base.specs.declared.items.Stamp.{Stamp}
use Rattle.node_core.specs.Meaning.{Input}
use Rattle.merge_node.specs.Merge.{AreMergeable, Entry, Lists, barriers, from_parent, gathered, items, items_from, merge, of_barriers, of_parent, placed, rank, sorted}
use Rattle.merge_node.specs.Merge.{AreOrdered as StandInOrder, PrecedesAll as StandsBefore}
use Rattle.merge_node.proofs.OrderLaws.{merge_has, merge_ordered}
use Rattle.flow_cells.specs.Outs.{item_msgs}
use Rattle.flow_cells.specs.Runs.{inputs}
use Rattle.task_run.specs.Merging.{merged}
use Rattle.task_run.specs.Order.{AreOrdered, PrecedesAll, from_port}
use Rattle.task_run.proofs.OrderLaws.{merged_has, merged_ordered}
use Rattle.task_run.specs.Stamps.{IsStream, of_item}
use Rattle.flow_core.proofs.PortLaws.{same_by_ports}

-- ---- the order

inputs-before : (k : ℕ) (x : Item) (xs : List Entry) → StandsBefore (k, messages.Item x) xs → PrecedesAll (k, x) (inputs xs)
inputs-before k x [] h = tt
inputs-before k x ((p, messages.Item y) ∷ xs) h = (
  ⊎_elim (λ (lt : 2 * x.stamp.0 < 2 * y.stamp.0). inl (omega arith)) (λ (same : (2 * x.stamp.0 ≡ 2 * y.stamp.0) × (k ≤ p)). let e : 2 * x.stamp.0 ≡ 2 * y.stamp.0 = same.0 in inr (omega arith, same.1)) h.0,
  inputs-before k x xs h.1,
)
inputs-before k x ((p, messages.Barrier b) ∷ xs) h = inputs-before k x xs h.1

inputs-ordered : (xs : List Entry) → StandInOrder xs → AreOrdered (inputs xs)
inputs-ordered [] h = tt
inputs-ordered ((k, messages.Item x) ∷ xs) h = (inputs-before k x xs h.0, inputs-ordered xs h.1)
inputs-ordered ((k, messages.Barrier b) ∷ xs) h = inputs-ordered xs h.1

-- ---- of each parent

parent-items : (k : ℕ) (xs : List Entry) → item_msgs (from_port k (inputs xs)) ≡ items (from_parent k xs)
parent-items k [] = refl
parent-items k ((p, messages.Item x) ∷ xs) = elim (p == k) as (λ b. item_msgs (map (λ (y : Input). y.1) (cond b ((p, x) ∷ filter (λ (y : Input). y.0 == k) (inputs xs)) (filter (λ (y : Input). y.0 == k) (inputs xs)))) ≡ items (cond b (messages.Item x ∷ from_parent k xs) (from_parent k xs))) [
  | true ↦ ap (λ (l : List Msg). messages.Item x ∷ l) (parent-items k xs)
  | false ↦ parent-items k xs
]
parent-items k ((p, messages.Barrier b) ∷ xs) = parent-items k xs

-- the items among messages, by themselves
abbrev unwrapped : List Msg → List Item
unwrapped [] = []
unwrapped (messages.Item x ∷ l) = x ∷ unwrapped l
unwrapped (messages.Barrier b ∷ l) = unwrapped l

unwrapped-items : (xs : List Item) → unwrapped (item_msgs xs) ≡ xs
unwrapped-items [] = refl
unwrapped-items (x ∷ xs) = ap (λ (l : List Item). x ∷ l) (unwrapped-items xs)

-- the same messages are of the same items
pub same_items : (xs ys : List Item) → item_msgs xs ≡ item_msgs ys → xs ≡ ys
same_items xs ys e = sym (unwrapped-items xs) ∙ ap unwrapped e ∙ unwrapped-items ys

-- ---- no other parents

-- an item comes from a parent below this number
abbrev IsUnder : ℕ → Entry → Type 0
IsUnder n (p, messages.Item x) = p < n
IsUnder n (p, messages.Barrier b) = ⊤

under-append : (n : ℕ) (xs ys : List Entry) → Each (IsUnder n) xs → Each (IsUnder n) ys → Each (IsUnder n) (xs ++ ys)
under-append n [] ys a b = b
under-append n (x ∷ xs) ys a b = (a.0, under-append n xs ys a.1 b)

under-placed : (n : ℕ) (x : Entry) (ys : List Entry) → IsUnder n x → Each (IsUnder n) ys → Each (IsUnder n) (placed x ys)
under-placed n x [] h a = (h, tt)
under-placed n x (y ∷ ys) h a = elim (leb (rank x.1) (rank y.1)) as (λ b. Each (IsUnder n) (cond b (x ∷ y ∷ ys) (y ∷ placed x ys))) [
  | true ↦ (h, a)
  | false ↦ (a.0, under-placed n x ys h a.1)
]

under-sorted : (n : ℕ) (xs : List Entry) → Each (IsUnder n) xs → Each (IsUnder n) (sorted xs)
under-sorted n [] a = tt
under-sorted n (x ∷ xs) a = under-placed n x (sorted xs) a.0 (under-sorted n xs a.1)

under-parent : (n k : ℕ) (l : List Msg) → k < n → Each (IsUnder n) (of_parent k (items l))
under-parent n k [] lt = tt
under-parent n k (messages.Item x ∷ l) lt = (lt, under-parent n k l lt)
under-parent n k (messages.Barrier b ∷ l) lt = under-parent n k l lt

under-items : (n k : ℕ) (ls : Lists) → k + length ls ≤ n → Each (IsUnder n) (items_from k ls)
under-items n k [] le = tt
under-items n k (l ∷ ls) le = under-append n (of_parent k (items l)) (items_from (k + 1) ls) (under-parent n k l (omega arith)) (under-items n (k + 1) ls (omega arith))

under-barriers : (n : ℕ) (bs : List Stamp) → Each (IsUnder n) (of_barriers bs)
under-barriers n [] = tt
under-barriers n (b ∷ bs) = (tt, under-barriers n bs)

merge-under : (ls : Lists) → Each (IsUnder (length ls)) (merge ls)
unfolding merge
merge-under ls = under-sorted (length ls) (gathered ls) (under-append (length ls) (of_barriers (barriers (slice_index_or ls 0 []))) (items_from 0 ls) (under-barriers (length ls) (barriers (slice_index_or ls 0 []))) (under-items (length ls) 0 ls (omega arith)))

none-past : (n k : ℕ) (xs : List Entry) → n ≤ k → Each (IsUnder n) xs → from_port k (inputs xs) ≡ []
none-past n k [] le h = refl
none-past n k ((p, messages.Item x) ∷ xs) le h =
    let lt : p < n = h.0 in
    let other : (p == k) ≡ false = grind (arith, nat_tests) in
    rw other (none-past n k xs le h.1)
none-past n k ((p, messages.Barrier b) ∷ xs) le h = none-past n k xs le h.1

-- ---- the merge

-- messages that are, barriers aside, these items, whose stamps are those of m points and don't fall
pub record HasItems (m : ℕ) (l : List Msg) (xs : List Item) : Type 0 where
  pub items : items l ≡ item_msgs xs
  pub stream : IsStream of_item m xs

no-items : (m : ℕ) → HasItems m [] []
no-items m = record { items = refl; stream = record { from_one = tt; up_to = tt; rising = tt } }

items-at : (m : ℕ) (ls : Lists) (lists : List (List Item)) (k : ℕ) → AllZip (HasItems m) ls lists → HasItems m (get_or ls k []) (get_or lists k [])
items-at m [] [] k h = no-items m
items-at m [] (xs ∷ lists) k h = absurd h
items-at m (l ∷ ls) [] k h = absurd h
items-at m (l ∷ ls) (xs ∷ lists) zero h = h.0
items-at m (l ∷ ls) (xs ∷ lists) (suc k) h = items-at m ls lists k h.1

past-none : (ls : Lists) (k : ℕ) → length ls ≤ k → get_or ls k [] ≡ []
past-none [] k le = refl
past-none (l ∷ ls) zero le = absurd (omega arith)
past-none (l ∷ ls) (suc k) le = past-none ls k (omega arith)

merge-port : (bs : List Stamp) (ls : Lists) (k : ℕ) → AreMergeable bs ls → item_msgs (from_port k (inputs (merge ls))) ≡ items (get_or ls k [])
merge-port bs ls k are = elim (ltb k (length ls)) as (λ b. ltb k (length ls) ≡ b → item_msgs (from_port k (inputs (merge ls))) ≡ items (get_or ls k [])) [
  | true ↦ λ t. parent-items k (merge ls) ∙ ap items (merge_has bs ls k are (ltb-true k (length ls) t))
  | false ↦ λ t.
      let le : length ls ≤ k = ltb-false k (length ls) t in
      ap item_msgs (none-past (length ls) k (merge ls) le (merge-under ls)) ∙ ap items (sym (past-none ls k le))
] refl

-- barriers aside, lists that are in order with the same barriers are merged as their items are by stamps
pub inputs_merged : (m : ℕ) (bs : List Stamp) (ls : Lists) (lists : List (List Item)) → AreMergeable bs ls → AllZip (HasItems m) ls lists → inputs (merge ls) ≡ merged m lists
inputs_merged m bs ls lists are h =
    same_by_ports (inputs (merge ls)) (merged m lists) (inputs-ordered (merge ls) (merge_ordered ls)) (merged_ordered m lists)
    (λ k. let at = items-at m ls lists k h in
    same_items (from_port k (inputs (merge ls))) (get_or lists k []) (merge-port bs ls k are ∙ at.items) ∙ sym (merged_has m k lists at.stream))
