-- What is given of buffers is the front of the lists merged as a whole.
use Rattle.std.proofs.Common.{◌≡◌, ℕ, zero, suc, ◌+◌, ◌*◌, ◌<◌, ◌≤◌, true, false, cond, ltb, List, [], ◌∷◌, ◌++◌, length, drop, Option, Some, None, refl, sym, ap, subst, ◌∙◌, append_assoc, inl, inr, ⊎_elim, arith}
use Rattle.std.specs.Prelude.{⊤, ◌⊎◌, slice_index_or}
use Rattle.std.proofs.lemmas.Bool.{ltb-true, ltb-false}
use Rattle.kap_base.specs.declared.items.Item.{Item}
use Rattle.kap_base.specs.declared.items.Stamp.{Stamp}
use Rattle.kap_base.specs.declared.items.Msg.{Msg}
use Rattle.kap_base.specs.declared.items.Msg.TheVariants as messages
use Rattle.merge_node.specs.Merge.{Lists, Entry, rank, items, barriers, of_parent, of_barriers, items_from, gathered, sorted, merge, RisesFrom, AreMergeable}
use Rattle.merge_node.specs.declared.fronts.Front.{Front}
use Rattle.merge_node.specs.Buffers.{has_empty, lower, least, front, without_front, without_fronts, Taken, taken, next_by, next, Merges, done, more}
use Rattle.merge_node.proofs.BufferLaws.{next-full, next-by, some-same}
use Rattle.merge_node.proofs.RankLaws.{AllAbove, above-append, above-odd, above-items, above-barriers, above-items_from, AllRise, sorted-front, rises-less}

-- ---- the first barrier, and the least front

-- the first barrier stands at this rank or behind it
abbrev Within : ℕ → List Stamp → Type 0
Within r [] = ⊤
Within r (b ∷ bs) = r ≤ 2 * b.0 + 1

within-rises : (r : ℕ) (l : List Msg) → RisesFrom r l → Within r (barriers l)
within-rises r [] h = tt
within-rises r (messages.Item x ∷ l) h = within-rises r l (rises-less r (rank (messages.Item x)) l h.0 h.1)
within-rises r (messages.Barrier b ∷ l) h = h.0

within-odd : (s : ℕ) (bs : List Stamp) → Within (2 * s) bs → Within (2 * s + 1) bs
within-odd s [] h = tt
within-odd s (b ∷ bs) h = let k : 2 * s ≤ 2 * b.0 + 1 = h in omega (arith, k)

-- the least front stands at this rank or behind it
abbrev Reaches : ℕ → Option Front → Type 0
Reaches r None = ⊤
Reaches r (Some f) = r ≤ 2 * f.stamp.0

reaches-first : (r : ℕ) (f : Front) (o : Option Front) → Reaches r (lower (Some f) o) → r ≤ 2 * f.stamp.0
reaches-first r f None q = q
reaches-first r f (Some g) q = elim (ltb g.stamp.0 f.stamp.0) as (λ t. ltb g.stamp.0 f.stamp.0 ≡ t → Reaches r (cond t (Some g) (Some f)) → r ≤ 2 * f.stamp.0) [
  | true ↦ λ e h. let lt : g.stamp.0 < f.stamp.0 = ltb-true _ _ e in let le : r ≤ 2 * g.stamp.0 = h in omega (arith, lt, le)
  | false ↦ λ e h. h
] refl q

reaches-rest : (r : ℕ) (f : Front) (o : Option Front) → Reaches r (lower (Some f) o) → Reaches r o
reaches-rest r f None q = tt
reaches-rest r f (Some g) q = elim (ltb g.stamp.0 f.stamp.0) as (λ t. ltb g.stamp.0 f.stamp.0 ≡ t → Reaches r (cond t (Some g) (Some f)) → r ≤ 2 * g.stamp.0) [
  | true ↦ λ e h. h
  | false ↦ λ e h. let le : f.stamp.0 ≤ g.stamp.0 = ltb-false _ _ e in let low : r ≤ 2 * f.stamp.0 = h in omega (arith, le, low)
] refl q

-- no message stands before the least front and the first barrier
all-rise : (r k : ℕ) (bs : List Stamp) (ls : Lists) → AreMergeable bs ls → Within r bs → Reaches r (least k ls) → has_empty ls ≡ false → AllRise r ls
all-rise r k bs [] are w q e = tt
all-rise r k bs ([] ∷ ls) are w q e = absurd cc
all-rise r k bs ((messages.Item x ∷ l) ∷ ls) are w q e =
    let f : Front = record { parent = k; stamp = x.stamp } in
    ((reaches-first r f (least (k + 1) ls) q, are.0.1.1), all-rise r (k + 1) bs ls are.1 w (reaches-rest r f (least (k + 1) ls) q) e)
all-rise r k bs ((messages.Barrier b ∷ l) ∷ ls) are w q e =
    let first : Within r (b ∷ barriers l) = subst (Within r) (sym are.0.0) w in
    ((first, are.0.1.1), all-rise r (k + 1) bs ls are.1 w q e)

-- ---- an item is next

lower-cases : (a : Front) (o : Option Front) (f : Front) → lower (Some a) o ≡ Some f → ((f ≡ a) × Reaches (2 * a.stamp.0) o) ⊎ ((o ≡ Some f) × (f.stamp.0 < a.stamp.0))
lower-cases a None f e = inl (sym cc, tt)
lower-cases a (Some b) f e = elim (ltb b.stamp.0 a.stamp.0) as (λ t. ltb b.stamp.0 a.stamp.0 ≡ t → cond t (Some b) (Some a) ≡ Some f → ((f ≡ a) × (2 * a.stamp.0 ≤ 2 * b.stamp.0)) ⊎ ((Some b ≡ Some f) × (f.stamp.0 < a.stamp.0))) [
  | true ↦ λ t h.
      let same : b ≡ f = cc in
      let lt : b.stamp.0 < a.stamp.0 = ltb-true _ _ t in
      inr (h, subst (λ (y : Front). y.stamp.0 < a.stamp.0) same lt)
  | false ↦ λ t h. let same : a ≡ f = cc in let le : a.stamp.0 ≤ b.stamp.0 = ltb-false _ _ t in inl (sym same, omega (arith, le))
] refl e

-- where the least item stands among the items of parents that are numbered from k on
record Found (k : ℕ) (ls : Lists) (f : Front) : Type 0 where
  i : ℕ
  item : Item
  pre : List Entry
  post : List Entry
  parent : f.parent ≡ k + i
  stamp : item.stamp ≡ f.stamp
  at : front i ls ≡ Some (messages.Item item)
  whole : items_from k ls ≡ pre ++ (f.parent, messages.Item item) ∷ post
  rest : items_from k (without_front i ls) ≡ pre ++ post
  before : AllAbove (2 * f.stamp.0 + 1) pre
  behind : AllAbove (2 * f.stamp.0) post
  within : i < length ls

found-here : (k : ℕ) (bs : List Stamp) (x : Item) (l : List Msg) (ls : Lists) → AreMergeable bs ((messages.Item x ∷ l) ∷ ls) → has_empty ls ≡ false → Reaches (2 * x.stamp.0) (least (k + 1) ls)
    → Found k ((messages.Item x ∷ l) ∷ ls) (record { parent = k; stamp = x.stamp })
found-here k bs x l ls are e q =
    let w : Within (2 * x.stamp.0) bs = subst (Within (2 * x.stamp.0)) are.0.0 (within-rises (2 * x.stamp.0) l are.0.1.1) in
    record {
      i = 0;
      item = x;
      pre = [];
      post = of_parent k (items l) ++ items_from (k + 1) ls;
      parent = omega arith;
      stamp = refl;
      at = refl;
      whole = refl;
      rest = refl;
      before = tt;
      behind = above-append (2 * x.stamp.0) (of_parent k (items l)) (items_from (k + 1) ls) (above-items k (2 * x.stamp.0) l are.0.1.1)
          (above-items_from (k + 1) (2 * x.stamp.0) ls (all-rise (2 * x.stamp.0) (k + 1) bs ls are.1 w q e));
      within = omega arith;
    }

found-later : (k : ℕ) (l : List Msg) (ls : Lists) (f : Front) → RisesFrom (2 * f.stamp.0 + 1) l → Found (k + 1) ls f → Found k (l ∷ ls) f
found-later k l ls f h r =
    let own = of_parent k (items l) in
    let p : f.parent ≡ k + 1 + r.i = r.parent in
    let lt : r.i < length ls = r.within in
    record {
      i = suc r.i;
      item = r.item;
      pre = own ++ r.pre;
      post = r.post;
      parent = omega (arith, p);
      stamp = r.stamp;
      at = r.at;
      whole = ap (λ (xs : List Entry). own ++ xs) r.whole ∙ sym (append_assoc own r.pre ((f.parent, messages.Item r.item) ∷ r.post));
      rest = ap (λ (xs : List Entry). own ++ xs) r.rest ∙ sym (append_assoc own r.pre r.post);
      before = above-append (2 * f.stamp.0 + 1) own r.pre (above-items k (2 * f.stamp.0 + 1) l h) r.before;
      behind = r.behind;
      within = omega (arith, lt);
    }

-- the first barrier stands behind the least front
least-within : (k : ℕ) (bs : List Stamp) (ls : Lists) (f : Front) → AreMergeable bs ls → least k ls ≡ Some f → Within (2 * f.stamp.0 + 1) bs
least-within k bs [] f are e = absurd cc
least-within k bs ([] ∷ ls) f are e = least-within (k + 1) bs ls f are.1 e
least-within k bs ((messages.Barrier b ∷ l) ∷ ls) f are e = least-within (k + 1) bs ls f are.1 e
least-within k bs ((messages.Item x ∷ l) ∷ ls) f are e = ⊎_elim
    (λ here.
    let w : Within (2 * x.stamp.0) bs = subst (Within (2 * x.stamp.0)) are.0.0 (within-rises (2 * x.stamp.0) l are.0.1.1) in
    subst (λ (y : Front). Within (2 * y.stamp.0 + 1) bs) (sym here.0) (within-odd x.stamp.0 bs w))
    (λ rest. least-within (k + 1) bs ls f are.1 rest.0)
    (lower-cases (record { parent = k; stamp = x.stamp }) (least (k + 1) ls) f e)

found : (k : ℕ) (bs : List Stamp) (ls : Lists) (f : Front) → AreMergeable bs ls → has_empty ls ≡ false → least k ls ≡ Some f → Found k ls f
found k bs [] f are h e = absurd cc
found k bs ([] ∷ ls) f are h e = absurd cc
found k bs ((messages.Barrier b ∷ l) ∷ ls) f are h e =
    let w : Within (2 * f.stamp.0 + 1) (b ∷ barriers l) = subst (Within (2 * f.stamp.0 + 1)) (sym are.0.0) (least-within (k + 1) bs ls f are.1 e) in
    found-later k (messages.Barrier b ∷ l) ls f (w, are.0.1.1) (found (k + 1) bs ls f are.1 h e)
found k bs ((messages.Item x ∷ l) ∷ ls) f are h e = ⊎_elim
    (λ here. subst (λ (y : Front). Found k ((messages.Item x ∷ l) ∷ ls) y) (sym here.0) (found-here k bs x l ls are h here.1))
    (λ rest.
    let lt : f.stamp.0 < x.stamp.0 = rest.1 in
    found-later k (messages.Item x ∷ l) ls f (omega (arith, lt), are.0.1.1) (found (k + 1) bs ls f are.1 h rest.0))
    (lower-cases (record { parent = k; stamp = x.stamp }) (least (k + 1) ls) f e)

-- ---- one message of the whole

first-barriers : (bs : List Stamp) (ls : Lists) → AreMergeable bs ls → 0 < length ls → barriers (slice_index_or ls 0 []) ≡ bs
first-barriers bs [] are lt = absurd (omega arith)
first-barriers bs (l ∷ ls) are lt = are.0.0

-- without the front of a list that begins with an item the lists can still be merged
mergeable-item : (i : ℕ) (bs : List Stamp) (x : Item) (ls : Lists) → AreMergeable bs ls → front i ls ≡ Some (messages.Item x) → AreMergeable bs (without_front i ls)
mergeable-item i bs x [] are e = tt
mergeable-item zero bs x ([] ∷ ls) are e = absurd cc
mergeable-item zero bs x ((messages.Item y ∷ l) ∷ ls) are e = ((are.0.0, rises-less 0 (rank (messages.Item y)) l (omega arith) are.0.1.1), are.1)
mergeable-item zero bs x ((messages.Barrier b ∷ l) ∷ ls) are e = absurd cc
mergeable-item (suc i) bs x (l ∷ ls) are e = (are.0, mergeable-item i bs x ls are.1 e)

without_front-some : (i : ℕ) (ls : Lists) → i < length ls → 0 < length (without_front i ls)
without_front-some i [] lt = absurd (omega arith)
without_front-some zero (l ∷ ls) lt = omega arith
without_front-some (suc i) (l ∷ ls) lt = omega arith

-- what is merged of lists begins with the message that is next, and goes on with what is merged of the rest
pub record OneMore (ls : Lists) (t : Taken) : Type 0 where
  pub left_barriers : List Stamp
  pub are : AreMergeable left_barriers t.rest
  pub is : merge ls ≡ (t.parent, t.msg) ∷ merge t.rest

item-more : (bs : List Stamp) (ls : Lists) (f : Front) (t : Taken) → AreMergeable bs ls → has_empty ls ≡ false → least 0 ls ≡ Some f → next_by (Some f) ls ≡ Some t → OneMore ls t
unfolding merge
item-more bs ls f t are full e by =
    let r = found 0 bs ls f are full e in
    let p : f.parent ≡ 0 + r.i = r.parent in
    let i_is : r.i ≡ f.parent = omega (arith, p) in
    let at : front f.parent ls ≡ Some (messages.Item r.item) = subst (λ (n : ℕ). front n ls ≡ Some (messages.Item r.item)) i_is r.at in
    let rest : items_from 0 (without_front f.parent ls) ≡ r.pre ++ r.post = subst (λ (n : ℕ). items_from 0 (without_front n ls) ≡ r.pre ++ r.post) i_is r.rest in
    let lt : r.i < length ls = r.within in
    let lt' : f.parent < length ls = omega (arith, p, lt) in
    let x : Taken = record { parent = f.parent; msg = messages.Item r.item; rest = without_front f.parent ls } in
    let is_x : x ≡ t = some-same x t (sym (ap (λ (o : Option Msg). taken f.parent o (without_front f.parent ls)) at) ∙ by) in
    let still : AreMergeable bs (without_front f.parent ls) = mergeable-item f.parent bs r.item ls are at in
    let bars : barriers (slice_index_or ls 0 []) ≡ bs = first-barriers bs ls are (omega arith) in
    let bars' : barriers (slice_index_or (without_front f.parent ls) 0 []) ≡ bs = first-barriers bs (without_front f.parent ls) still (without_front-some f.parent ls lt') in
    let low : AllRise (2 * f.stamp.0) ls = all-rise (2 * f.stamp.0) 0 bs ls are (within-even f bs (least-within 0 bs ls f are e)) (subst (Reaches (2 * f.stamp.0)) (sym e) (omega arith)) full in
    let front_bars : AllAbove (2 * f.stamp.0 + 1) (of_barriers bs) = above-odd f.stamp.0 bs (bars-above (2 * f.stamp.0) bs ls are low (omega arith)) in
    let rank_is : rank (messages.Item r.item) ≡ 2 * f.stamp.0 = ap (λ (s : Stamp). 2 * s.0) r.stamp in
    let whole : gathered ls ≡ (of_barriers bs ++ r.pre) ++ (f.parent, messages.Item r.item) ∷ r.post =
    ap (λ (b : List Stamp). of_barriers b ++ items_from 0 ls) bars ∙ ap (λ (xs : List Entry). of_barriers bs ++ xs) r.whole
    ∙ sym (append_assoc (of_barriers bs) r.pre ((f.parent, messages.Item r.item) ∷ r.post)) in
    let whole' : gathered (without_front f.parent ls) ≡ (of_barriers bs ++ r.pre) ++ r.post =
    ap (λ (b : List Stamp). of_barriers b ++ items_from 0 (without_front f.parent ls)) bars' ∙ ap (λ (xs : List Entry). of_barriers bs ++ xs) rest
    ∙ sym (append_assoc (of_barriers bs) r.pre r.post) in
    let before : AllAbove (rank (messages.Item r.item) + 1) (of_barriers bs ++ r.pre) =
    subst (λ (n : ℕ). AllAbove (n + 1) (of_barriers bs ++ r.pre)) (sym rank_is) (above-append (2 * f.stamp.0 + 1) (of_barriers bs) r.pre front_bars r.before) in
    let behind : AllAbove (rank (messages.Item r.item)) r.post = subst (λ (n : ℕ). AllAbove n r.post) (sym rank_is) r.behind in
    subst (λ (y : Taken). OneMore ls y) is_x (record {
      left_barriers = bs;
      are = still;
      is = ap sorted whole ∙ sorted-front (of_barriers bs ++ r.pre) (f.parent, messages.Item r.item) r.post before behind
          ∙ ap (λ (xs : List Entry). (f.parent, messages.Item r.item) ∷ sorted xs) (sym whole');
    })
  where
    within-even : (f : Front) (bs : List Stamp) → Within (2 * f.stamp.0 + 1) bs → Within (2 * f.stamp.0) bs
    within-even f [] w = tt
    within-even f (b ∷ bs) w = let h : 2 * f.stamp.0 + 1 ≤ 2 * b.0 + 1 = w in omega (arith, h)

    bars-above : (r : ℕ) (bs : List Stamp) (ls : Lists) → AreMergeable bs ls → AllRise r ls → 0 < length ls → AllAbove r (of_barriers bs)
    bars-above r bs [] are rise lt = absurd (omega arith)
    bars-above r bs (l ∷ ls) are rise lt = subst (λ (b : List Stamp). AllAbove r (of_barriers b)) are.0.0 (above-barriers r l rise.0)

-- ---- a barrier is next

lower-some : (a : Front) (o : Option Front) → lower (Some a) o ≡ None → ⊥
lower-some a None e = absurd cc
lower-some a (Some b) e = elim (ltb b.stamp.0 a.stamp.0) as (λ t. cond t (Some b) (Some a) ≡ None → ⊥) [
  | true ↦ λ h. absurd cc
  | false ↦ λ h. absurd cc
] e

-- each list begins with the barrier
mergeable-barrier : (k : ℕ) (b : Stamp) (bs : List Stamp) (ls : Lists) → AreMergeable (b ∷ bs) ls → has_empty ls ≡ false → least k ls ≡ None → AreMergeable bs (without_fronts ls)
mergeable-barrier k b bs [] are h e = tt
mergeable-barrier k b bs ([] ∷ ls) are h e = absurd cc
mergeable-barrier k b bs ((messages.Item x ∷ l) ∷ ls) are h e = absurd (lower-some (record { parent = k; stamp = x.stamp }) (least (k + 1) ls) e)
mergeable-barrier k b bs ((messages.Barrier c ∷ l) ∷ ls) are h e =
    let same : c ∷ barriers l ≡ b ∷ bs = are.0.0 in
    let rest : barriers l ≡ bs = ap (drop 1) same in
    ((rest, rises-less 0 (rank (messages.Barrier c)) l (omega arith) are.0.1.1), mergeable-barrier (k + 1) b bs ls are.1 h e)

-- and has the same items without it
items-without : (k n : ℕ) (ls : Lists) → has_empty ls ≡ false → least n ls ≡ None → items_from k (without_fronts ls) ≡ items_from k ls
items-without k n [] h e = refl
items-without k n ([] ∷ ls) h e = absurd cc
items-without k n ((messages.Item x ∷ l) ∷ ls) h e = absurd (lower-some (record { parent = n; stamp = x.stamp }) (least (n + 1) ls) e)
items-without k n ((messages.Barrier b ∷ l) ∷ ls) h e = ap (λ (xs : List Entry). of_parent k (items l) ++ xs) (items-without (k + 1) (n + 1) ls h e)

barrier-more : (bs : List Stamp) (ls : Lists) (t : Taken) → AreMergeable bs ls → has_empty ls ≡ false → least 0 ls ≡ None → next_by None ls ≡ Some t → OneMore ls t
unfolding merge
barrier-more bs [] t are full e by = absurd cc
barrier-more bs ([] ∷ ls) t are full e by = absurd cc
barrier-more bs ((messages.Item x ∷ l) ∷ ls) t are full e by = absurd (lower-some (record { parent = 0; stamp = x.stamp }) (least (0 + 1) ls) e)
barrier-more bs ((messages.Barrier b ∷ l) ∷ ls) t are full e by =
    let all : Lists = (messages.Barrier b ∷ l) ∷ ls in
    let are' : AreMergeable (b ∷ barriers l) all = subst (λ (c : List Stamp). AreMergeable c all) (sym are.0.0) are in
    let x : Taken = record { parent = 0; msg = messages.Barrier b; rest = without_fronts all } in
    let is_x : x ≡ t = some-same x t by in
    let rise : AllRise (2 * b.0 + 1) all = all-rise (2 * b.0 + 1) 0 (b ∷ barriers l) all are' (omega arith) (subst (Reaches (2 * b.0 + 1)) (sym e) tt) full in
    let behind : AllAbove (2 * b.0 + 1) (of_barriers (barriers l) ++ items_from 0 all) =
    above-append (2 * b.0 + 1) (of_barriers (barriers l)) (items_from 0 all) (above-barriers (2 * b.0 + 1) l are.0.1.1) (above-items_from 0 (2 * b.0 + 1) all rise) in
    subst (λ (y : Taken). OneMore all y) is_x (record {
      left_barriers = barriers l;
      are = mergeable-barrier 0 b (barriers l) all are' full e;
      is = sorted-front [] (0, messages.Barrier b) (of_barriers (barriers l) ++ items_from 0 all) tt behind
          ∙ ap (λ (xs : List Entry). (0, messages.Barrier b) ∷ sorted (of_barriers (barriers l) ++ xs)) (sym (items-without 0 0 all full e));
    })

more-by : (bs : List Stamp) (ls : Lists) (o : Option Front) (t : Taken) → AreMergeable bs ls → has_empty ls ≡ false → least 0 ls ≡ o → next_by o ls ≡ Some t → OneMore ls t
more-by bs ls None t are full e by = barrier-more bs ls t are full e by
more-by bs ls (Some f) t are full e by = item-more bs ls f t are full e by

-- the message that is next comes first of what is merged, and the rest is merged of what is left
pub next-more : (bs : List Stamp) (ls : Lists) (t : Taken) → AreMergeable bs ls → next ls ≡ Some t → OneMore ls t
next-more bs ls t are e = more-by bs ls (least 0 ls) t are (next-full ls t e) refl (next-by ls t e)

-- ---- all that is given

-- what is merged of lists is what is given, and then what is merged of the mergeable lists that are left
pub record GoesOn (ls : Lists) (given : List Entry) (left : Lists) : Type 0 where
  pub left_barriers : List Stamp
  pub are : AreMergeable left_barriers left
  pub is : merge ls ≡ given ++ merge left

-- what is given of lists is the front of what is merged of them, and the rest is merged of what is left
pub merges-merge : {ls left : Lists} {given : List Entry} (bs : List Stamp) → AreMergeable bs ls → Merges ls given left → GoesOn ls given left
merges-merge bs are done = record { left_barriers = bs; are = are; is = refl }
merges-merge {ls = ls} bs are (more t e h) =
    let one = next-more bs ls t are e in
    let rest = merges-merge one.left_barriers one.are h in
    record { left_barriers = rest.left_barriers; are = rest.are; is = one.is ∙ ap (λ (xs : List Entry). (t.parent, t.msg) ∷ xs) rest.is }
