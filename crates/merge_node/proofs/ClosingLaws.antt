-- Lists of which each has the same barriers, and one behind each item, are merged to their end, whatever the stamps are.
use Rattle.std.proofs.Common.{◌≡◌, ℕ, zero, suc, ◌+◌, ◌<◌, true, false, cond, ltb, List, [], ◌∷◌, length, drop, Option, Some, None, refl, sym, ap, subst, ◌∙◌, inl, inr, ⊎_elim, arith}
use Rattle.std.specs.Prelude.{⊤, ◌⊎◌}
use Rattle.std.specs.List.{AllByRecursion as Each}
use Rattle.kap_base.specs.declared.items.Item.{Item}
use Rattle.kap_base.specs.declared.items.Msg.{Msg}
use Rattle.kap_base.specs.declared.items.Msg.TheVariants as messages
use Rattle.kap_base.specs.declared.items.Stamp.{Stamp}
use Rattle.merge_node.specs.Merge.{AllClosedBy, Entry, IsClosed, IsClosedBy, Lists, barriers}
use Rattle.merge_node.specs.declared.fronts.Front.{Front}
use Rattle.merge_node.specs.Buffers.{Merges, Taken, done, front, has_empty, least, lower, more, next, next_by, taken, without_front, without_fronts}
use Rattle.merge_node.proofs.BufferLaws.{next-by, next-full, next-less, some-same}
use Rattle.merge_node.proofs.CallLaws.{AreEmpty}
use Rattle.merge_node.proofs.FrontLaws.{empty-none}

-- ---- which message is next

lower-cases : (a : Front) (o : Option Front) (f : Front) → lower (Some a) o ≡ Some f → (f ≡ a) ⊎ (o ≡ Some f)
lower-cases a None f e = inl (sym cc)
lower-cases a (Some b) f e = elim (ltb b.stamp.0 a.stamp.0) as (λ t. cond t (Some b) (Some a) ≡ Some f → (f ≡ a) ⊎ (Some b ≡ Some f)) [
  | true ↦ λ h. inr h
  | false ↦ λ h. inl (sym cc)
] e

lower-some : (a : Front) (o : Option Front) → lower (Some a) o ≡ None → ⊥
lower-some a None e = absurd cc
lower-some a (Some b) e = elim (ltb b.stamp.0 a.stamp.0) as (λ t. cond t (Some b) (Some a) ≡ None → ⊥) [
  | true ↦ λ h. absurd cc
  | false ↦ λ h. absurd cc
] e

-- the least front is an item
record Least (k : ℕ) (ls : Lists) (f : Front) : Type 0 where
  i : ℕ
  item : Item
  parent : f.parent ≡ k + i
  at : front i ls ≡ Some (messages.Item item)

least-behind : (k : ℕ) (l : List Msg) (ls : Lists) (f : Front) → Least (k + 1) ls f → Least k (l ∷ ls) f
least-behind k l ls f r = record { i = suc r.i; item = r.item; parent = (let p : f.parent ≡ k + 1 + r.i = r.parent in omega (arith, p)); at = r.at }

least-item : (k : ℕ) (ls : Lists) (f : Front) → least k ls ≡ Some f → Least k ls f
least-item k [] f e = absurd cc
least-item k ([] ∷ ls) f e = least-behind k [] ls f (least-item (k + 1) ls f e)
least-item k ((messages.Barrier b ∷ l) ∷ ls) f e = least-behind k (messages.Barrier b ∷ l) ls f (least-item (k + 1) ls f e)
least-item k ((messages.Item x ∷ l) ∷ ls) f e = ⊎_elim
    (λ here. record { i = 0; item = x; parent = ap (λ (y : Front). y.parent) here ∙ omega arith; at = refl })
    (λ rest. least-behind k (messages.Item x ∷ l) ls f (least-item (k + 1) ls f rest))
    (lower-cases (record { parent = k; stamp = x.stamp }) (least (k + 1) ls) f e)

-- without an item in front the lists have the same barriers, and there are some
without-item : (i : ℕ) (bs : List Stamp) (x : Item) (ls : Lists) → AllClosedBy bs ls → front i ls ≡ Some (messages.Item x) → AllClosedBy bs (without_front i ls) × (bs ≡ [] → ⊥)
without-item i bs x [] h e = absurd cc
without-item zero bs x ([] ∷ ls) h e = absurd cc
without-item zero bs x ((messages.Item y ∷ l) ∷ ls) h e = ((record { barriers = h.0.barriers; closed = h.0.closed.1 }, h.1), λ none. h.0.closed.0 (h.0.barriers ∙ none))
without-item zero bs x ((messages.Barrier b ∷ l) ∷ ls) h e = absurd cc
without-item (suc i) bs x (l ∷ ls) h e = let r = without-item i bs x ls h.1 e in ((h.0, r.0), r.1)

-- where each list begins with a barrier, it is the same one
without-barrier : (k : ℕ) (b : Stamp) (bs : List Stamp) (ls : Lists) → AllClosedBy (b ∷ bs) ls → has_empty ls ≡ false → least k ls ≡ None → AllClosedBy bs (without_fronts ls)
without-barrier k b bs [] h full e = tt
without-barrier k b bs ([] ∷ ls) h full e = absurd cc
without-barrier k b bs ((messages.Item x ∷ l) ∷ ls) h full e = absurd (lower-some (record { parent = k; stamp = x.stamp }) (least (k + 1) ls) e)
without-barrier k b bs ((messages.Barrier c ∷ l) ∷ ls) h full e =
    let same : c ∷ barriers l ≡ b ∷ bs = h.0.barriers in
    (record { barriers = ap (drop 1) same; closed = h.0.closed }, without-barrier (k + 1) b bs ls h.1 full e)

-- what is next, and what is left
data Next (bs : List Stamp) (t : Taken) : Type 0 where
  item : (x : Item) → t.msg ≡ messages.Item x → AllClosedBy bs t.rest → (bs ≡ [] → ⊥) → Next bs t
  barrier : (b : Stamp) (rest : List Stamp) → t.msg ≡ messages.Barrier b → bs ≡ b ∷ rest → AllClosedBy rest t.rest → Next bs t

next-item : (bs : List Stamp) (ls : Lists) (f : Front) (t : Taken) → AllClosedBy bs ls → least 0 ls ≡ Some f → next_by (Some f) ls ≡ Some t → Next bs t
next-item bs ls f t h e by =
    let r = least-item 0 ls f e in
    let p : f.parent ≡ 0 + r.i = r.parent in
    let at : front f.parent ls ≡ Some (messages.Item r.item) = subst (λ (n : ℕ). front n ls ≡ Some (messages.Item r.item)) (omega (arith, p)) r.at in
    let x : Taken = record { parent = f.parent; msg = messages.Item r.item; rest = without_front f.parent ls } in
    let is_x : x ≡ t = some-same x t (sym (ap (λ (o : Option Msg). taken f.parent o (without_front f.parent ls)) at) ∙ by) in
    let rest = without-item f.parent bs r.item ls h at in
    subst (λ (y : Taken). Next bs y) is_x (item r.item refl rest.0 rest.1)

next-barrier : (bs : List Stamp) (ls : Lists) (t : Taken) → AllClosedBy bs ls → has_empty ls ≡ false → least 0 ls ≡ None → next_by None ls ≡ Some t → Next bs t
next-barrier bs [] t h full e by = absurd cc
next-barrier bs ([] ∷ ls) t h full e by = absurd cc
next-barrier bs ((messages.Item x ∷ l) ∷ ls) t h full e by = absurd (lower-some (record { parent = 0; stamp = x.stamp }) (least (0 + 1) ls) e)
next-barrier bs ((messages.Barrier b ∷ l) ∷ ls) t h full e by =
    let whole : Lists = (messages.Barrier b ∷ l) ∷ ls in
    let is : b ∷ barriers l ≡ bs = h.0.barriers in
    let x : Taken = record { parent = 0; msg = messages.Barrier b; rest = without_fronts whole } in
    let is_x : x ≡ t = some-same x t by in
    let rest = without-barrier 0 b (barriers l) whole (subst (λ (q : List Stamp). Each (IsClosedBy q) whole) (sym is) h) full e in
    subst (λ (y : Taken). Next bs y) is_x (barrier b (barriers l) refl (sym is) rest)

next-of : (bs : List Stamp) (ls : Lists) (t : Taken) → AllClosedBy bs ls → next ls ≡ Some t → Next bs t
next-of bs ls t h e = by (least 0 ls) refl (next-by ls t e)
  where
    by : (o : Option Front) → least 0 ls ≡ o → next_by o ls ≡ Some t → Next bs t
    by None q r = next-barrier bs ls t h (next-full ls t e) q r
    by (Some f) q r = next-item bs ls f t h q r

-- ---- merged to the end

-- the barriers among entries, and that one stands behind each item
abbrev pub entry_barriers : List Entry → List Stamp
entry_barriers [] = []
entry_barriers ((k, messages.Item x) ∷ xs) = entry_barriers xs
entry_barriers ((k, messages.Barrier b) ∷ xs) = b ∷ entry_barriers xs

-- a barrier stands behind each item among entries
abbrev pub EntriesClosed : List Entry → Type 0
EntriesClosed [] = ⊤
EntriesClosed ((k, messages.Item x) ∷ xs) = (entry_barriers xs ≡ [] → ⊥) × EntriesClosed xs
EntriesClosed ((k, messages.Barrier b) ∷ xs) = EntriesClosed xs

-- merged to the end: these barriers once each, one behind each item, and nothing left
pub record ClosedMerge (bs : List Stamp) (ms : List Entry) (left : Lists) : Type 0 where
  pub barriers : entry_barriers ms ≡ bs
  pub closed : EntriesClosed ms
  pub empty : AreEmpty left

no-barriers : (bs : List Stamp) (ls : Lists) → AllClosedBy bs ls → has_empty ls ≡ true → bs ≡ []
no-barriers bs [] h e = absurd cc
no-barriers bs ([] ∷ ls) h e = sym h.0.barriers
no-barriers bs ((m ∷ l) ∷ ls) h e = no-barriers bs ls h.1 e

closed-none : (l : List Msg) → IsClosed l → barriers l ≡ [] → l ≡ []
closed-none [] h e = refl
closed-none (messages.Item x ∷ l) h e = absurd (h.0 e)
closed-none (messages.Barrier b ∷ l) h e = absurd cc

all-nothing : (ls : Lists) → AllClosedBy [] ls → AreEmpty ls
all-nothing [] h = tt
all-nothing (l ∷ ls) h = (closed-none l h.0.closed h.0.barriers, all-nothing ls h.1)

stuck-nothing : (bs : List Stamp) (ls : Lists) → AllClosedBy bs ls → 0 < length ls → next ls ≡ None → (bs ≡ []) × AreEmpty ls
stuck-nothing bs ls h some stuck =
    let none : bs ≡ [] = no-barriers bs ls h (empty-none ls stuck some) in
    (none, all-nothing ls (subst (λ (q : List Stamp). AllClosedBy q ls) none h))

closed-next : (bs : List Stamp) (t : Taken) (ms : List Entry) (left : Lists) → ((cs : List Stamp) → AllClosedBy cs t.rest → ClosedMerge cs ms left) → Next bs t → ClosedMerge bs ((t.parent, t.msg) ∷ ms) left
closed-next bs t ms left rest (item x is closed some) =
    let r = rest bs closed in
    subst (λ (q : Msg). ClosedMerge bs ((t.parent, q) ∷ ms) left) (sym is) (record { barriers = r.barriers; closed = ((λ none. some (sym r.barriers ∙ none)), r.closed); empty = r.empty })
closed-next bs t ms left rest (barrier b cs is bars closed) =
    let r = rest cs closed in
    subst (λ (q : Msg). ClosedMerge bs ((t.parent, q) ∷ ms) left) (sym is) (record { barriers = ap (λ (l : List Stamp). b ∷ l) r.barriers ∙ sym bars; closed = r.closed; empty = r.empty })

-- merged to the end, they give each barrier once, one behind each item, and nothing is left
pub merged-closed : {ls left : Lists} {ms : List Entry} (bs : List Stamp) → AllClosedBy bs ls → 0 < length ls → Merges ls ms left → next left ≡ None → ClosedMerge bs ms left
merged-closed {ls = ls} bs h some done stuck = let r = stuck-nothing bs ls h some stuck in record { barriers = sym r.0; closed = tt; empty = r.1 }
merged-closed {ls = ls} {left = left} bs h some (more {ms = ms} t e m) stuck =
    let p : length t.rest ≡ length ls = (next-less ls t e).parents in
    closed-next bs t ms left (λ cs closed. merged-closed cs closed (omega (arith, p, some)) m stuck) (next-of bs ls t h e)
