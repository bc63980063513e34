-- In whatever order calls are made: what they have given is the front of what is merged of the whole lists, and in the end all of it.
use Rattle.std.proofs.Common.{◌≡◌, ℕ, zero, suc, ◌+◌, true, List, [], ◌∷◌, ◌++◌, drop, Option, Some, None, refl, sym, ap, subst, ◌∙◌, append-nil, arith}
use Rattle.std.specs.Prelude.{⊤, slice_index_or}
use mathlib.Core.List.{IsPrefix}
use Rattle.kap_base.specs.declared.items.Stamp.{Stamp}
use Rattle.kap_base.specs.declared.items.Msg.{Msg}
use Rattle.kap_base.specs.declared.items.Msg.TheVariants as messages
use Rattle.merge_node.specs.Merge.{Lists, Entry, items, barriers, of_parent, of_barriers, items_from, sorted, merge, AreMergeable, IsClosed, AreClosed}
use Rattle.merge_node.specs.declared.fronts.Front.{Front}
use Rattle.merge_node.specs.Buffers.{has_empty, least, front, without_front, without_fronts, Taken, taken, next_by, next, Merges, done, more, Calls, AreFronts}
use Rattle.merge_node.proofs.BufferLaws.{join, next-by, merges-join, merges-same, calls-merge, some-same}
use Rattle.merge_node.proofs.FrontLaws.{empty-none}
use Rattle.merge_node.proofs.MergeLaws.{merges-merge}

-- ---- the front

-- what came later
record Later (ls ws : Lists) : Type 0 where
  ys : Lists
  is : join ls ys ≡ ws

later : (ls ws : Lists) → AreFronts ls ws → Later ls ws
later [] [] are = record { ys = []; is = refl }
later [] (w ∷ ws) are = absurd are
later (l ∷ ls) [] are = absurd are
later (l ∷ ls) (w ∷ ws) are =
    let r = later ls ws are.1 in
    record { ys = are.0.0 ∷ r.ys; is = ap (λ (x : List Msg). x ∷ join ls r.ys) are.0.1 ∙ ap (λ (x : Lists). w ∷ x) r.is }

-- what calls have given so far is the front of what is merged of the whole lists
pub calls_front : (bs : List Stamp) (all whole buffered : Lists) (given : List Entry) → Calls all given buffered → AreFronts all whole → AreMergeable bs whole → IsPrefix given (merge whole)
calls_front bs all whole buffered given calls fronts are =
    let r = later all whole fronts in
    let merges : Merges whole given (join buffered r.ys) = subst (λ (ws : Lists). Merges ws given (join buffered r.ys)) r.is (merges-join r.ys (calls-merge calls)) in
    let f = merges-merge bs are merges in
    (merge (join buffered r.ys), sym f.is)

-- ---- the end

closed-rest : (l : List Msg) → IsClosed l → IsClosed (drop 1 l)
closed-rest [] h = tt
closed-rest (messages.Item x ∷ l) h = h.1
closed-rest (messages.Barrier b ∷ l) h = h

closed-front : (k : ℕ) (ls : Lists) → AreClosed ls → AreClosed (without_front k ls)
closed-front k [] h = tt
closed-front zero (l ∷ ls) h = (closed-rest l h.0, h.1)
closed-front (suc k) (l ∷ ls) h = (h.0, closed-front k ls h.1)

closed-fronts : (ls : Lists) → AreClosed ls → AreClosed (without_fronts ls)
closed-fronts [] h = tt
closed-fronts (l ∷ ls) h = (closed-rest l h.0, closed-fronts ls h.1)

closed-taken : (k : ℕ) (o : Option Msg) (rest : Lists) (t : Taken) → AreClosed rest → taken k o rest ≡ Some t → AreClosed t.rest
closed-taken k None rest t h e = absurd cc
closed-taken k (Some m) rest t h e = subst (λ (x : Taken). AreClosed x.rest) (some-same (record { parent = k; msg = m; rest = rest }) t e) h

closed-by : (ls : Lists) (o : Option Front) (t : Taken) → AreClosed ls → next_by o ls ≡ Some t → AreClosed t.rest
closed-by ls None t h e = closed-taken 0 (front 0 ls) (without_fronts ls) t (closed-fronts ls h) e
closed-by ls (Some f) t h e = closed-taken f.parent (front f.parent ls) (without_front f.parent ls) t (closed-front f.parent ls h) e

-- where a barrier stands behind each item, one does behind each item that is left
pub merges-closed : {ls left : Lists} {given : List Entry} → AreClosed ls → Merges ls given left → AreClosed left
merges-closed h done = h
merges-closed {ls = ls} h (more t e m) = merges-closed (closed-by ls (least 0 ls) t h (next-by ls t e)) m

-- where a list is empty no list has a barrier
empty-barriers : (bs : List Stamp) (ls : Lists) → AreMergeable bs ls → has_empty ls ≡ true → bs ≡ []
empty-barriers bs [] are h = absurd cc
empty-barriers bs ([] ∷ ls) are h = sym are.0.0
empty-barriers bs ((m ∷ l) ∷ ls) are h = empty-barriers bs ls are.1 h

closed-nothing : (l : List Msg) → IsClosed l → barriers l ≡ [] → l ≡ []
closed-nothing [] h e = refl
closed-nothing (messages.Item x ∷ l) h e = absurd (h.0 e)
closed-nothing (messages.Barrier b ∷ l) h e = absurd cc

-- each list is empty
abbrev pub AreEmpty : Lists → Type 0
AreEmpty [] = ⊤
AreEmpty (l ∷ ls) = (l ≡ []) × AreEmpty ls

closed-empty : (ls : Lists) → AreMergeable [] ls → AreClosed ls → AreEmpty ls
closed-empty [] are h = tt
closed-empty (l ∷ ls) are h = (closed-nothing l h.0 are.0.0, closed-empty ls are.1 h.1)

-- where nothing is next, nothing is left
pub stuck-empty : (bs : List Stamp) (ls : Lists) → AreMergeable bs ls → AreClosed ls → next ls ≡ None → AreEmpty ls
stuck-empty bs [] are h stuck = tt
stuck-empty bs (l ∷ ls) are h stuck =
    let none : bs ≡ [] = empty-barriers bs (l ∷ ls) are (empty-none (l ∷ ls) stuck (omega arith)) in
    closed-empty (l ∷ ls) (subst (λ (b : List Stamp). AreMergeable b (l ∷ ls)) none are) h

no-items : (k : ℕ) (ls : Lists) → AreEmpty ls → items_from k ls ≡ []
no-items k [] h = refl
no-items k (l ∷ ls) h = ap (λ (x : List Msg). of_parent k (items x) ++ items_from (k + 1) ls) h.0 ∙ no-items (k + 1) ls h.1

first-empty : (ls : Lists) → AreEmpty ls → slice_index_or ls 0 [] ≡ []
first-empty [] h = refl
first-empty (l ∷ ls) h = h.0

merge-empty : (ls : Lists) → AreEmpty ls → merge ls ≡ []
unfolding merge
merge-empty ls h =
    ap (λ (l : List Msg). sorted (of_barriers (barriers l) ++ items_from 0 ls)) (first-empty ls h) ∙ ap sorted (no-items 0 ls h)

-- lists that are closed are merged whole
pub merges-whole : (bs : List Stamp) (ls left : Lists) (given : List Entry) → AreMergeable bs ls → AreClosed ls → Merges ls given left → next left ≡ None → given ≡ merge ls
merges-whole bs ls left given are closed merges stuck =
    let f = merges-merge bs are merges in
    let empty : AreEmpty left = stuck-empty f.left_barriers left f.are (merges-closed closed merges) stuck in
    sym (f.is ∙ ap (λ (xs : List Entry). given ++ xs) (merge-empty left empty) ∙ append-nil given)

-- where calls have given all they can of whole closed lists, that is what is merged of them
pub calls_whole : (bs : List Stamp) (whole buffered : Lists) (given : List Entry) → Calls whole given buffered → AreMergeable bs whole → AreClosed whole → next buffered ≡ None → given ≡ merge whole
calls_whole bs whole buffered given calls are closed stuck = merges-whole bs whole buffered given are closed (calls-merge calls) stuck

-- what is given in the end is the same in whatever order calls are made
pub calls_same : (all left right : Lists) (given other : List Entry) → Calls all given left → Calls all other right → next left ≡ None → next right ≡ None → given ≡ other
calls_same all left right given other one two stuck stuck' = merges-same (calls-merge one) stuck (calls-merge two) stuck'
