-- Lists that are cut at a barrier are merged up to it, and then behind it.
use Rattle.std.proofs.Common.{◌≡◌, ◌<◌, suc, List, [], ◌∷◌, ◌++◌, length, None, refl, sym, ap, subst, ◌∙◌, arith}
use Rattle.std.specs.List.{AllZip}
use Rattle.kap_base.specs.declared.items.Msg.{Msg}
use Rattle.kap_base.specs.declared.items.Msg.TheVariants as messages
use Rattle.kap_base.specs.declared.items.Stamp.{Stamp}
use Rattle.merge_node.specs.Merge.{AllClosedBy, AreClosed, AreMergeable, AreOrdered, Entry, IsClosed, IsClosedBy, Lists, RisesFrom, barriers}
use Rattle.merge_node.specs.Buffers.{Merges, next}
use Rattle.merge_node.proofs.BufferLaws.{Ahead, join, merges-ahead, merges-join, merges-length, merges-same}
use Rattle.merge_node.proofs.CallLaws.{AreEmpty, merges-whole}
use Rattle.merge_node.proofs.ClosingLaws.{EntriesClosed, entry_barriers, merged-closed}
use Rattle.merge_node.proofs.OrderLaws.{merge_ordered}
use Rattle.flow_core.proofs.MessageLaws.{barriers-append}
use Rattle.flow_life.specs.GraphLaws.{merge-all}

-- ---- one list

-- a list in order has a front that is closed by the first barriers, and then a list that is closed by the others
pub record IsCut (bs cs : List Stamp) (whole behind : List Msg) : Type 0 where
  pub front : List Msg
  pub is : whole ≡ front ++ behind
  pub closed : IsClosedBy bs front
  pub rest : IsClosedBy cs behind
  pub rises : RisesFrom 0 whole

closed-append : (f b : List Msg) → IsClosed f → IsClosed b → IsClosed (f ++ b)
closed-append [] b h k = k
closed-append (messages.Item x ∷ f) b h k = ((λ e. h.0 (no-front (barriers f) (barriers b) (sym (barriers-append f b) ∙ e))), closed-append f b h.1 k)
  where
    no-front : (xs ys : List Stamp) → xs ++ ys ≡ [] → xs ≡ []
    no-front [] ys e = refl
    no-front (x ∷ xs) ys e = absurd cc
closed-append (messages.Barrier c ∷ f) b h k = closed-append f b h k

-- ---- lists

-- the fronts of lists
record Fronts (bs cs : List Stamp) (ls qs : Lists) : Type 0 where
  fronts : Lists
  is : ls ≡ join fronts qs
  closed : AllClosedBy bs fronts
  rest : AllClosedBy cs qs
  mergeable : AreMergeable (bs ++ cs) ls
  all_closed : AreClosed ls
  count : length fronts ≡ length ls
  same : length qs ≡ length ls

fronts-of : (bs cs : List Stamp) (ls qs : Lists) → AllZip (IsCut bs cs) ls qs → Fronts bs cs ls qs
fronts-of bs cs [] [] z = record { fronts = []; is = refl; closed = tt; rest = tt; mergeable = tt; all_closed = tt; count = refl; same = refl }
fronts-of bs cs [] (q ∷ qs) z = absurd z
fronts-of bs cs (l ∷ ls) [] z = absurd z
fronts-of bs cs (l ∷ ls) (q ∷ qs) z =
    let r = fronts-of bs cs ls qs z.1 in
    let c = z.0 in
    let has : barriers l ≡ bs ++ cs =
    ap barriers c.is ∙ barriers-append c.front q ∙ ap (λ (s : List Stamp). s ++ barriers q) c.closed.barriers ∙ ap (λ (s : List Stamp). bs ++ s) c.rest.barriers in
    record {
      fronts = c.front ∷ r.fronts;
      is = ap (λ (x : List Msg). x ∷ ls) c.is ∙ ap (λ (x : Lists). (c.front ++ q) ∷ x) r.is;
      closed = (c.closed, r.closed);
      rest = (c.rest, r.rest);
      mergeable = ((has, c.rises), r.mergeable);
      all_closed = (subst IsClosed (sym c.is) (closed-append c.front q c.closed.closed c.rest.closed), r.all_closed);
      count = ap suc r.count;
      same = ap suc r.same;
    }

join-empty : (left qs : Lists) → AreEmpty left → length qs ≡ length left → join left qs ≡ qs
join-empty [] [] h e = refl
join-empty [] (q ∷ qs) h e = absurd cc
join-empty (l ∷ left) [] h e = absurd cc
join-empty (l ∷ left) (q ∷ qs) h e =
    let tail : length qs ≡ length left = omega (arith, e) in
    ap (λ (x : List Msg). (x ++ q) ∷ join left qs) h.0 ∙ ap (λ (x : Lists). q ∷ x) (join-empty left qs h.1 tail)

-- a merged list in order: a front that is closed by the first barriers, and then what is closed by the others
pub record MergedCut (bs cs : List Stamp) (ms ns : List Entry) : Type 0 where
  pub front : List Entry
  pub is : ms ≡ front ++ ns
  pub front_barriers : entry_barriers front ≡ bs
  pub front_closed : EntriesClosed front
  pub rest_barriers : entry_barriers ns ≡ cs
  pub rest_closed : EntriesClosed ns
  pub ordered : AreOrdered ms

-- what is merged of lists is what is merged of their fronts, and then what is merged of what is behind
pub merged_cut : (bs cs : List Stamp) (ls qs : Lists) (ms ns : List Entry) (left rest : Lists) → AllZip (IsCut bs cs) ls qs → 0 < length ls
    → Merges ls ms left → next left ≡ None → Merges qs ns rest → next rest ≡ None → MergedCut bs cs ms ns
merged_cut bs cs ls qs ms ns left rest z some whole stuck behind end =
    let f = fronts-of bs cs ls qs z in
    let fronts = f.fronts in
    let count : length fronts ≡ length ls = f.count in
    let same : length qs ≡ length ls = f.same in
    let m = merge-all fronts in
    let c = merged-closed bs f.closed (omega (arith, count, some)) m.merges m.stuck in
    let d = merged-closed cs f.rest (omega (arith, same, some)) behind end in
    let none : join m.rest qs ≡ qs = join-empty m.rest qs c.empty (same ∙ sym count ∙ sym (merges-length m.merges)) in
    let here : Merges ls m.merged qs = subst (λ (x : Lists). Merges x m.merged qs) (sym f.is) (subst (λ (x : Lists). Merges (join fronts qs) m.merged x) none (merges-join qs m.merges)) in
    let a : Ahead qs left m.merged ms = merges-ahead here whole stuck in
    record {
      front = m.merged;
      is = a.whole ∙ ap (λ (l : List Entry). m.merged ++ l) (merges-same a.merged stuck behind end);
      front_barriers = c.barriers;
      front_closed = c.closed;
      rest_barriers = d.barriers;
      rest_closed = d.closed;
      ordered = subst AreOrdered (sym (merges-whole (bs ++ cs) ls left ms f.mergeable f.all_closed whole stuck)) (merge_ordered ls);
    }
