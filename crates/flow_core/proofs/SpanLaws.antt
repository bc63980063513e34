-- A load goes on with what the nodes of a graph gave before: barriers aside, what each gives out then is what it gives for more points.
use Rattle.std.proofs.Common.{◌≡◌, ℕ, zero, suc, ◌≤◌, ◌<◌, List, [], ◌∷◌, ◌++◌, map, length, get_or, refl, sym, ap, subst, ◌∙◌, arith}
use Rattle.std.specs.List.{AllByRecursion as Each, AllZip}
use Rattle.kap_base.specs.declared.items.Item.{Item}
use Rattle.kap_base.specs.declared.items.Msg.{Msg}
use Rattle.kap_base.specs.declared.items.Stamp.{Stamp}
use Rattle.node_core.specs.Meaning.{Answer, Given, Input, Move, fold, given, given_after}
use Rattle.node_core.specs.Cut.{IsStamped}
use Rattle.node_core.specs.Laws.{given-append}
use Rattle.merge_node.specs.Merge.{AreClosed, AreMergeable, AreOrdered, Entry, IsClosed, IsClosedBy, Lists, RisesFrom, barriers, items, merge}
use Rattle.merge_node.proofs.OrderLaws.{merge_ordered}
use Rattle.merge_node.specs.Buffers.{Merges}
use Rattle.merge_node.proofs.CallLaws.{merges-whole}
use Rattle.merge_node.proofs.RankLaws.{AllAbove}
use Rattle.merge_node.proofs.ClosingLaws.{merged-closed}
use Rattle.flow_cells.specs.Outs.{item_msgs}
use Rattle.flow_cells.specs.Runs.{Run, begun, inputs, run}
use Rattle.flow_cells.specs.Promises.{run_effects, run_items, run_state}
use Rattle.task_run.specs.Merging.{merged}
use Rattle.task_run.specs.Graphs.{Placed, lists_of, node_gives, outs_of}
use Rattle.task_run.specs.Active.{Active, placed}
use Rattle.task_run.specs.Stamps.{StampsFrom, of_input, of_item}
use Rattle.task_run.specs.GivenLaws.{after_from, after_rises, after_up_to}
use Rattle.task_run.specs.Growth.{merged_up_to}
use Rattle.task_run.specs.Order.{from_port}
use Rattle.task_run.proofs.OrderLaws.{merged_has, merged_ordered}
use Rattle.task_run.specs.MoreLaws.{Part, fold-append, mores, olds, out_at, whole, wholes}
use Rattle.flow_core.specs.Loads.{IsPlanOf}
use Rattle.flow_core.proofs.MergedLaws.{HasItems, inputs_merged}
use Rattle.flow_core.proofs.PortLaws.{GrowsBy, IsSpan, from_by_ports, from_less, merged_above, merged_grows, ordered_rises}
use Rattle.flow_core.proofs.RunLaws.{given_behind, run_said, said, said_barriers, said_closed, said_rises}
use Rattle.flow_life.specs.Streams.{IsStream, Plan, run_from, streams_at, streams_into}

-- a list of messages of a load: these items, in order, with these barriers, one behind each item
pub record IsInto (m : ℕ) (bs : List Stamp) (l : List Msg) (xs : List Item) : Type 0 where
  pub has : HasItems m l xs
  pub barriers : barriers l ≡ bs
  pub rises : RisesFrom 0 l
  pub closed : IsClosed l

into-items : (m : ℕ) (bs : List Stamp) (ls : Lists) (lists : List (List Item)) → AllZip (IsInto m bs) ls lists → AllZip (HasItems m) ls lists
into-items m bs [] [] z = tt
into-items m bs [] (xs ∷ lists) z = absurd z
into-items m bs (l ∷ ls) [] z = absurd z
into-items m bs (l ∷ ls) (xs ∷ lists) z = (z.0.has, into-items m bs ls lists z.1)

into-mergeable : (m : ℕ) (bs : List Stamp) (ls : Lists) (lists : List (List Item)) → AllZip (IsInto m bs) ls lists → AreMergeable bs ls
into-mergeable m bs [] [] z = tt
into-mergeable m bs [] (xs ∷ lists) z = absurd z
into-mergeable m bs (l ∷ ls) [] z = absurd z
into-mergeable m bs (l ∷ ls) (xs ∷ lists) z = ((z.0.barriers, z.0.rises), into-mergeable m bs ls lists z.1)

into-closed : (m : ℕ) (bs : List Stamp) (ls : Lists) (lists : List (List Item)) → AllZip (IsInto m bs) ls lists → AreClosed ls
into-closed m bs [] [] z = tt
into-closed m bs [] (xs ∷ lists) z = absurd z
into-closed m bs (l ∷ ls) [] z = absurd z
into-closed m bs (l ∷ ls) (xs ∷ lists) z = (z.0.closed, into-closed m bs ls lists z.1)

into-closed_by : (m : ℕ) (bs : List Stamp) (ls : Lists) (lists : List (List Item)) → AllZip (IsInto m bs) ls lists → Each (IsClosedBy bs) ls
into-closed_by m bs [] [] z = tt
into-closed_by m bs [] (xs ∷ lists) z = absurd z
into-closed_by m bs (l ∷ ls) [] z = absurd z
into-closed_by m bs (l ∷ ls) (xs ∷ lists) z = (record { barriers = z.0.barriers; closed = z.0.closed }, into-closed_by m bs ls lists z.1)

-- what a node gave for n points and gives for more, up to m; and what it gives out at the load that has them
pub record Carries (n m : ℕ) (bs : List Stamp) (t : Part) (s : List Msg) : Type 0 where
  pub span : IsSpan of_item n m t.old.items t.more.items
  pub into : IsInto m bs s t.more.items

nothing-grows : (n m : ℕ) → GrowsBy n m [] [] []
nothing-grows n m = record {
  span = record { low = record { from_one = tt; up_to = tt; rising = tt }; high = record { from_one = tt; up_to = tt; rising = tt }; above = tt };
  is = refl;
}

module _ (n m : ℕ) (bs : List Stamp) where
  part-grows : (ts : List Part) (ss : List (List Msg)) (i : ℕ) → AllZip (Carries n m bs) ts ss → GrowsBy n m (out_at (olds ts) i) (out_at (mores ts) i) (out_at (wholes ts) i)
  part-grows [] ss i z = nothing-grows n m
  part-grows (t ∷ ts) [] i z = absurd z
  part-grows (t ∷ ts) (s ∷ ss) zero z = record { span = z.0.span; is = refl }
  part-grows (t ∷ ts) (s ∷ ss) (suc i) z = part-grows ts ss i z.1

  into-at : (ts : List Part) (ss later : List (List Msg)) (i : ℕ) → i < length ts → AllZip (Carries n m bs) ts ss → IsInto m bs (get_or (ss ++ later) i []) (out_at (mores ts) i)
  into-at [] ss later i lt z = absurd (omega arith)
  into-at (t ∷ ts) [] later i lt z = absurd z
  into-at (t ∷ ts) (s ∷ ss) later zero lt z = z.0.into
  into-at (t ∷ ts) (s ∷ ss) later (suc i) lt z = into-at ts ss later i (omega arith) z.1

  -- one more carries its part
  pub carries-more : (ts : List Part) (ss : List (List Msg)) (t : Part) (s : List Msg) → AllZip (Carries n m bs) ts ss → Carries n m bs t s → AllZip (Carries n m bs) (ts ++ t ∷ []) (ss ++ s ∷ [])
  carries-more [] [] t s z c = (c, tt)
  carries-more [] (y ∷ ss) t s z c = absurd z
  carries-more (x ∷ ts) [] t s z c = absurd z
  carries-more (x ∷ ts) (y ∷ ss) t s z c = (z.0, carries-more ts ss t s z.1 c)

  -- ---- the lists that a node takes

  module _ (src : Part) (source : List Msg) (from : Carries n m bs src source) (ts : List Part) (ss : List (List Msg)) (z : AllZip (Carries n m bs) ts ss) where
    abbrev pub lists-old : List ℕ → List (List Item)
    lists-old parents = lists_of src.old.items (outs_of (olds ts)) parents

    abbrev pub lists-more : List ℕ → List (List Item)
    lists-more parents = lists_of src.more.items (outs_of (mores ts)) parents

    abbrev pub lists-new : List ℕ → List (List Item)
    lists-new parents = lists_of (whole src).items (outs_of (wholes ts)) parents

    picks-grow : (parents : List ℕ) (k : ℕ) → GrowsBy n m (get_or (map (out_at (olds ts)) parents) k []) (get_or (map (out_at (mores ts)) parents) k []) (get_or (map (out_at (wholes ts)) parents) k [])
    picks-grow [] k = nothing-grows n m
    picks-grow (p ∷ parents) zero = part-grows ts ss p z
    picks-grow (p ∷ parents) (suc k) = picks-grow parents k

    lists-grow : (parents : List ℕ) (k : ℕ) → GrowsBy n m (get_or (lists-old parents) k []) (get_or (lists-more parents) k []) (get_or (lists-new parents) k [])
    lists-grow [] zero = record { span = from.span; is = refl }
    lists-grow [] (suc k) = nothing-grows n m
    lists-grow (p ∷ parents) k = picks-grow (p ∷ parents) k

    picks-into : (later : List (List Msg)) (parents : List ℕ) → Each (λ (q : ℕ). q < length ts) parents → AllZip (IsInto m bs) (streams_at (ss ++ later) parents) (map (out_at (mores ts)) parents)
    picks-into later [] h = tt
    picks-into later (p ∷ parents) h = (into-at ts ss later p h.0 z, picks-into later parents h.1)

    lists-into : (later : List (List Msg)) (parents : List ℕ) → Each (λ (q : ℕ). q < length ts) parents → AllZip (IsInto m bs) (streams_into (ss ++ later) parents source) (lists-more parents)
    lists-into later [] h = (from.into, tt)
    lists-into later (p ∷ parents) h = picks-into later (p ∷ parents) h

    some-list : (later : List (List Msg)) (parents : List ℕ) → 0 < length (streams_into (ss ++ later) parents source)
    some-list later [] = omega arith
    some-list later (p ∷ parents) = omega arith

    module _ {P S : Type 0} (answer : P → Answer) (life number : P → ℕ) (stamped : (p : P) (before : List Input) (x : Input) → IsStamped (life p) (number p) x.1.stamp.0 (answer p before x))
        (first : P → S) (step : P → S → Input → Move S) (folds : (p : P) (xs : List Input) → (fold (step p) (first p) xs).given ≡ given (answer p) xs) (le : n ≤ m) where
      -- what a node gave and gives, where these are the parts of the earlier ones
      abbrev pub part : Placed P → Part
      part d =
          let xs = merged n (lists-old d.parents) in
          record { old = given (answer d.spec) xs; more = given_after (answer d.spec) xs (merged m (lists-more d.parents)) }

      new-merged : (parents : List ℕ) → merged m (lists-new parents) ≡ merged n (lists-old parents) ++ merged m (lists-more parents)
      new-merged parents = merged_grows n m (lists-old parents) (lists-more parents) (lists-new parents) le (lists-grow parents)

      -- all that it gives is both
      pub part-whole : (d : Placed P) → whole (part d) ≡ node_gives answer m (whole src).items (wholes ts) d
      part-whole d =
          sym (given-append (answer d.spec) [] (merged n (lists-old d.parents)) (merged m (lists-more d.parents)))
          ∙ ap (λ (xs : List Input). given (answer d.spec) xs) (sym (new-merged d.parents))

      old-from : (parents : List ℕ) → StampsFrom of_input 1 (merged n (lists-old parents))
      old-from parents = from_by_ports 1 (merged n (lists-old parents)) (λ k. merged-port k)
        where
          merged-port : (k : ℕ) → StampsFrom of_item 1 (from_port k (merged n (lists-old parents)))
          merged-port k = let g = lists-grow parents k in subst (λ (l : List Item). StampsFrom of_item 1 l) (sym (merged_has n k (lists-old parents) g.span.low)) g.span.low.from_one

      -- it has its stamps
      part-span : (d : Placed P) → IsSpan of_item n m (part d).old.items (part d).more.items
      part-span d =
          let a = answer d.spec in
          let xs = merged n (lists-old d.parents) in
          let ys = merged m (lists-more d.parents) in
          let is = stamped d.spec in
          let above : StampsFrom of_input (suc n) ys = merged_above n m (lists-old d.parents) (lists-more d.parents) (lists-new d.parents) (lists-grow d.parents) in
          record {
            low = record {
              from_one = (after_from (life d.spec) (number d.spec) a is 1 [] xs (old-from d.parents)).items;
              up_to = (after_up_to (life d.spec) (number d.spec) a is n [] xs (merged_up_to n (lists-old d.parents))).items;
              rising = (after_rises (life d.spec) (number d.spec) a is [] xs (ordered_rises xs (merged_ordered n (lists-old d.parents)))).items;
            };
            high = record {
              from_one = (after_from (life d.spec) (number d.spec) a is 1 xs ys (from_less of_input 1 (suc n) ys (omega arith) above)).items;
              up_to = (after_up_to (life d.spec) (number d.spec) a is m xs ys (merged_up_to m (lists-more d.parents))).items;
              rising = (after_rises (life d.spec) (number d.spec) a is xs ys (ordered_rises ys (merged_ordered m (lists-more d.parents)))).items;
            };
            above = (after_from (life d.spec) (number d.spec) a is (suc n) xs ys above).items;
          }

      -- ---- a node runs

      -- what its run on its merged streams makes of it
      pub record IsRun (a : Active P S) (p : Plan S) (s : List Msg) (xs : List Entry) : Type 0 where
        pub state : (run_from p xs).state ≡ (fold (step a.spec) (first a.spec) (merged m (lists-new a.parents))).state
        pub effects : (run_from p xs).effects ≡ (part (placed a)).more.effects
        pub carries : Carries n m bs (part (placed a)) s

      into-same : (later : List (List Msg)) (p : Plan S) (parents : List ℕ) → p.parents ≡ parents → (p.parents ≡ [] → p.source ≡ source) → streams_into (ss ++ later) p.parents p.source ≡ streams_into (ss ++ later) parents source
      into-same later p parents e h = by p.parents refl h ∙ ap (λ (ps : List ℕ). streams_into (ss ++ later) ps source) e
        where
          by : (ps : List ℕ) → p.parents ≡ ps → (ps ≡ [] → p.source ≡ source) → streams_into (ss ++ later) ps p.source ≡ streams_into (ss ++ later) ps source
          by [] e h = ap (λ (l : List Msg). l ∷ []) (h refl)
          by (q ∷ ps) e h = refl

      -- a node that runs on its merged streams goes on with what it gave
      pub run-is : (later : List (List Msg)) (a : Active P S) (p : Plan S) (s : List Msg) (whole_stream : IsStream (ss ++ later) p s)
          → IsPlanOf step source a p → Each (λ (q : ℕ). q < length ts) p.parents
          → a.state ≡ (fold (step a.spec) (first a.spec) (merged n (lists-old a.parents))).state
          → IsRun a p s whole_stream.merged
      run-is later a p s t of below at =
          let xs = merged n (lists-old a.parents) in
          let ys = merged m (lists-more a.parents) in
          let ls = streams_into (ss ++ later) a.parents source in
          let same : streams_into (ss ++ later) p.parents p.source ≡ ls = into-same later p a.parents of.parents_are of.source_is in
          let under : Each (λ (q : ℕ). q < length ts) a.parents = subst (λ (ps : List ℕ). Each (λ (q : ℕ). q < length ts) ps) of.parents_are below in
          let into : AllZip (IsInto m bs) ls (lists-more a.parents) = lists-into later a.parents under in
          let merges = subst (λ (l : Lists). Merges l t.merged t.rest) same t.merges in
          let mergeable = into-mergeable m bs ls (lists-more a.parents) into in
          let is : t.merged ≡ merge ls = merges-whole bs ls t.rest t.merged mergeable (into-closed m bs ls (lists-more a.parents) into) merges t.stuck in
          let took : inputs t.merged ≡ ys = ap inputs is ∙ inputs_merged m bs ls (lists-more a.parents) mergeable (into-items m bs ls (lists-more a.parents) into) in
          let closed = merged-closed bs (into-closed_by m bs ls (lists-more a.parents) into) (some-list later a.parents) merges t.stuck in
          let ordered : AreOrdered t.merged = subst AreOrdered (sym is) (merge_ordered ls) in
          let r : Run S = run (step a.spec) (begun a.state p.passed) t.merged in
          let runs : run_from p t.merged ≡ r = ap (λ (f : S → Input → Move S). run f (begun p.start p.passed) t.merged) of.step_is ∙ ap (λ (q : S). run (step a.spec) (begun q p.passed) t.merged) of.start_is in
          let behind : (fold (step a.spec) a.state (inputs t.merged)).given ≡ (part (placed a)).more =
          ap (λ (l : List Input). (fold (step a.spec) a.state l).given) took
          ∙ ap (λ (q : S). (fold (step a.spec) q ys).given) at
          ∙ given_behind (step a.spec) (first a.spec) (answer a.spec) (folds a.spec) xs ys in
          let state : r.state ≡ (fold (step a.spec) (first a.spec) (merged m (lists-new a.parents))).state =
          run_state (step a.spec) (begun a.state p.passed) t.merged
          ∙ ap (λ (l : List Input). (fold (step a.spec) a.state l).state) took
          ∙ ap (λ (q : S). (fold (step a.spec) q ys).state) at
          ∙ ap (λ (mv : Move S). mv.state) (sym (fold-append (step a.spec) (first a.spec) xs ys))
          ∙ ap (λ (l : List Input). (fold (step a.spec) (first a.spec) l).state) (sym (new-merged a.parents)) in
          let out : s ≡ said (step a.spec) a.state t.merged = t.is ∙ ap (λ (q : Run S). q.outs) runs ∙ run_said (step a.spec) (begun a.state p.passed) t.merged in
          record {
            state = ap (λ (q : Run S). q.state) runs ∙ state;
            effects = ap (λ (q : Run S). q.effects) runs ∙ run_effects (step a.spec) (begun a.state p.passed) t.merged ∙ ap (λ (g : Given). g.effects) behind;
            carries = record {
              span = part-span (placed a);
              into = record {
                has = record {
                  items = ap items (t.is ∙ ap (λ (q : Run S). q.outs) runs) ∙ run_items (step a.spec) (begun a.state p.passed) t.merged ∙ ap (λ (g : Given). item_msgs g.items) behind;
                  stream = (part-span (placed a)).high;
                };
                barriers = ap barriers out ∙ said_barriers (step a.spec) a.state t.merged ∙ closed.barriers;
                rises = subst (RisesFrom 0) (sym out) (said_rises (step a.spec) (life a.spec) (number a.spec) (answer a.spec) (stamped a.spec) (first a.spec) (folds a.spec) 0 xs a.state t.merged at (above-zero t.merged) ordered);
                closed = subst IsClosed (sym out) (said_closed (step a.spec) a.state t.merged closed.closed);
              };
            };
          }
        where
          above-zero : (es : List Entry) → AllAbove 0 es
          above-zero [] = tt
          above-zero (e ∷ es) = (omega arith, above-zero es)
