-- A load that begins leaves cells that are ready, and counts anew.
use Rattle.std.proofs.Common.{◌≡◌, ℕ, zero, suc, ◌<◌, Bool, List, [], ◌∷◌, map, length, Some, refl, sym, ap, subst, ◌∙◌, arith}
use Rattle.std.specs.List.{AllByRecursion as Each, AllZip}
use Rattle.kap_base.specs.declared.items.Msg.{Msg}
use Rattle.node_core.specs.declared.node.Node.{Ghosts}
use Rattle.merge_node.specs.Merge.{IsClosed, IsClosedBy, barriers}
use Rattle.edge_queue.specs.Edges.{known, received, sent}
use Rattle.edge_queue.proofs.EdgeLaws.{IsEdge-loaded, IsSettled-loaded, TailLoads-capacity}
use Rattle.flow_cells.specs.declared.parts.OutEdge.{OutEdge}
use Rattle.flow_cells.specs.declared.parts.InEdge.{InEdge}
use Rattle.flow_cells.specs.declared.parts.CellParts.{CellParts}
use Rattle.flow_cells.specs.Kept.{Keeps}
use Rattle.flow_cells.specs.Loads.{Begins, InLoads, IsOwn, NothingWaits, OutLoads}
use Rattle.flow_cells.specs.Looks.{IsQuiet}
use Rattle.flow_life.proofs.BeforeLaws.{befores-loaded}
use Rattle.flow_life.specs.Places.{Both, in_of, out_of}
use Rattle.flow_life.proofs.PlaceLaws.{CellOfIn, Other, both-left, both-right, cell-of_in, each-get, each-of, zip-both}
use Rattle.flow_life.specs.Streams.{Plan, plan_of, plans_of}
use Rattle.flow_life.specs.Wired.{Feeds, IsFed, IsReady, IsUnspent, IsWired, outs_of, parents_of, sum_by_out, sum_of_all}
use Rattle.flow_life.specs.Steps.{AreQuiet, HasEmptyBuffers, moves_of, received_count, sent_count}
use Rattle.flow_life.proofs.RestLaws.{buffers_empty, quiet-in, quiet-out}
use Rattle.flow_life.specs.Graphs.{IsClosedFor, IsLoaded}
use Rattle.flow_life.specs.Loads.{CanLoad, HasInputs, IsGathered, LoadsFrom, SeesSame, has_inner, own_of, plan_now}

froms-loaded : (ins new : List InEdge) → AllZip InLoads ins new → map (λ (e : InEdge). e.from) new ≡ map (λ (e : InEdge). e.from) ins
froms-loaded [] [] z = refl
froms-loaded [] (e ∷ new) z = absurd z
froms-loaded (e ∷ ins) [] z = absurd z
froms-loaded (e ∷ ins) (f ∷ new) z = ap (λ (n : ℕ). n ∷ map (λ (x : InEdge). x.from) new) z.0.from ∙ ap (λ (l : List ℕ). e.from ∷ l) (froms-loaded ins new z.1)

count-loaded : (outs new : List OutEdge) → AllZip OutLoads outs new → length new ≡ length outs
count-loaded [] [] z = refl
count-loaded [] (o ∷ new) z = absurd z
count-loaded (o ∷ outs) [] z = absurd z
count-loaded (o ∷ outs) (p ∷ new) z = ap suc (count-loaded outs new z.1)

received-none : (ins new : List InEdge) → AllZip InLoads ins new → received_count new ≡ 0
received-none [] [] z = refl
received-none [] (e ∷ new) z = absurd z
received-none (e ∷ ins) [] z = absurd z
received-none (e ∷ ins) (f ∷ new) z =
    let a : length (received f.head) ≡ 0 = ap length z.0.head.received in
    let b : received_count new ≡ 0 = received-none ins new z.1 in
    omega (arith, a, b)

sent-none : (outs new : List OutEdge) → AllZip OutLoads outs new → sent_count new ≡ 0
sent-none [] [] z = refl
sent-none [] (o ∷ new) z = absurd z
sent-none (o ∷ outs) [] z = absurd z
sent-none (o ∷ outs) (p ∷ new) z =
    let a : length (sent p.tail) ≡ 0 = ap length z.0.tail.sent in
    let b : sent_count new ≡ 0 = sent-none outs new z.1 in
    omega (arith, a, b)

closed-own : (source : List Msg) → IsClosed source → IsClosedBy (barriers source) source
closed-own source closed = record { barriers = refl; closed = closed }

closed-for : (ins : List InEdge) (source : List Msg) → IsClosed source → IsClosedFor (barriers source) (map (λ (e : InEdge). e.from) ins) (own_of ins source)
closed-for [] source closed = closed-own source closed
closed-for (e ∷ ins) source closed = tt

-- nothing is for any cell
pub none-own : (ins : List InEdge) → IsOwn ins []
none-own [] = tt
none-own (e ∷ ins) = refl

-- all is for a cell without inputs
pub all-own : (ins : List InEdge) (source : List Msg) → length ins ≡ 0 → IsOwn ins source
all-own [] source h = tt
all-own (e ∷ ins) source h = absurd (omega (arith, h))

own-none : (ins : List InEdge) (source : List Msg) → 0 < length ins → own_of ins source ≡ []
own-none [] source h = absurd (omega (arith, h))
own-none (e ∷ ins) source h = refl

own-all : (ins : List InEdge) (source : List Msg) → length ins ≡ 0 → own_of ins source ≡ source
own-all [] source h = refl
own-all (e ∷ ins) source h = absurd (omega (arith, h))

-- nothing is for cells with inputs
pub sees-none : {N : Type 0} (source other : List Msg) (cells : List (CellParts N)) → Each HasInputs cells → Each (SeesSame source other) cells
sees-none source other [] h = tt
sees-none source other (c ∷ cells) h = (own-none c.ins.items source h.0 ∙ sym (own-none c.ins.items other h.0), sees-none source other cells h.1)

-- in equal lists each cell sees the same
pub sees-equal : {N : Type 0} (source other : List Msg) (cells : List (CellParts N)) → other ≡ source → Each (SeesSame source other) cells
sees-equal source other [] e = tt
sees-equal source other (c ∷ cells) e = (ap (own_of c.ins.items) (sym e), sees-equal source other cells e)

-- a cell with inputs, which began with nothing, began as any load has it begin
pub loads-child : {N : Type 0} (keeps : Bool) (source : List Msg) (c d : CellParts N) → HasInputs c → Begins [] keeps c d → LoadsFrom keeps source c d
loads-child keeps source c d h b = subst (λ (l : List Msg). Begins l keeps c d) (sym (own-none c.ins.items source h)) b

-- and a stream's begins with all
pub loads-stream : {N : Type 0} (keeps : Bool) (source : List Msg) (c d : CellParts N) → length c.ins.items ≡ 0 → Begins source keeps c d → LoadsFrom keeps source c d
loads-stream keeps source c d h b = subst (λ (l : List Msg). Begins l keeps c d) (sym (own-all c.ins.items source h)) b

-- a load of what cells see the same is the same load
pub loads-same : {N : Type 0} (keeps : Bool) (source other : List Msg) (cells cells' : List (CellParts N)) → Each (SeesSame source other) cells → AllZip (LoadsFrom keeps other) cells cells' → AllZip (LoadsFrom keeps source) cells cells'
loads-same keeps source other [] [] s z = tt
loads-same keeps source other [] (d ∷ cells') s z = absurd z
loads-same keeps source other (c ∷ cells) [] s z = absurd z
loads-same keeps source other (c ∷ cells) (d ∷ cells') s z = (subst (λ (l : List Msg). Begins l keeps c d) (sym s.0) z.0, loads-same keeps source other cells cells' s.1 z.1)

-- both ends of a list of cells, place by place
module _ {N : Type 0} (keeps : Bool) (source : List Msg) where
  loads-in : (cells cells' : List (CellParts N)) (n m : ℕ) → AllZip (LoadsFrom keeps source) cells cells' → Both InLoads (in_of cells n m) (in_of cells' n m)
  loads-in [] [] n m z = tt
  loads-in [] (d ∷ cells') n m z = absurd z
  loads-in (c ∷ cells) [] n m z = absurd z
  loads-in (c ∷ cells) (d ∷ cells') zero m z = zip-both InLoads c.ins.items d.ins.items m z.0.ins
  loads-in (c ∷ cells) (d ∷ cells') (suc n) m z = loads-in cells cells' n m z.1

  loads-out : (cells cells' : List (CellParts N)) (n m : ℕ) → AllZip (LoadsFrom keeps source) cells cells' → Both OutLoads (out_of cells n m) (out_of cells' n m)
  loads-out [] [] n m z = tt
  loads-out [] (d ∷ cells') n m z = absurd z
  loads-out (c ∷ cells) [] n m z = absurd z
  loads-out (c ∷ cells) (d ∷ cells') zero m z = zip-both OutLoads c.core.outs.items d.core.outs.items m z.0.outs
  loads-out (c ∷ cells) (d ∷ cells') (suc n) m z = loads-out cells cells' n m z.1

  parents-loaded : (cells cells' : List (CellParts N)) → AllZip (LoadsFrom keeps source) cells cells' → parents_of cells' ≡ parents_of cells
  parents-loaded [] [] z = refl
  parents-loaded [] (d ∷ cells') z = absurd z
  parents-loaded (c ∷ cells) [] z = absurd z
  parents-loaded (c ∷ cells) (d ∷ cells') z = ap (λ (l : List ℕ). l ∷ parents_of cells') (froms-loaded c.ins.items d.ins.items z.0.ins) ∙ ap (λ (ls : List (List ℕ)). map (λ (e : InEdge). e.from) c.ins.items ∷ ls) (parents-loaded cells cells' z.1)

  counts-loaded : (cells cells' : List (CellParts N)) → AllZip (LoadsFrom keeps source) cells cells' → outs_of cells' ≡ outs_of cells
  counts-loaded [] [] z = refl
  counts-loaded [] (d ∷ cells') z = absurd z
  counts-loaded (c ∷ cells) [] z = absurd z
  counts-loaded (c ∷ cells) (d ∷ cells') z = ap (λ (n : ℕ). n ∷ outs_of cells') (count-loaded c.core.outs.items d.core.outs.items z.0.outs) ∙ ap (λ (l : List ℕ). length c.core.outs.items ∷ l) (counts-loaded cells cells' z.1)

  unspent-loaded : (cells cells' : List (CellParts N)) → AllZip (LoadsFrom keeps source) cells cells' → Each IsUnspent cells → Each IsUnspent cells'
  unspent-loaded [] [] z e = tt
  unspent-loaded [] (d ∷ cells') z e = absurd z
  unspent-loaded (c ∷ cells) [] z e = absurd z
  unspent-loaded (c ∷ cells) (d ∷ cells') z e = (z.0.spent ∙ e.0, unspent-loaded cells cells' z.1 e.1)

  -- the edges of cells that are quiet stay wired where a load begins
  wired-loaded : (cells cells' : List (CellParts N)) → IsWired cells → AreQuiet cells → AllZip (LoadsFrom keeps source) cells cells' → IsWired cells'
  wired-loaded cells cells' w quiet z = record {
    ins = λ n m y at.
        let o : Other (λ x. InLoads x y) (in_of cells n m) = both-left InLoads (in_of cells n m) (in_of cells' n m) y (loads-in cells cells' n m z) at in
        let e : InEdge = o.value in
        let l : InLoads e y = o.fact in
        let f : IsFed cells n m e = w.ins n m e o.is in
        let p : Other (OutLoads f.out) (out_of cells' e.from e.out) = both-right OutLoads (out_of cells e.from e.out) (out_of cells' e.from e.out) f.out (loads-out cells cells' e.from e.out z) f.at in
        let q : OutLoads f.out p.value = p.fact in
        let c : CellOfIn cells n m e = cell-of_in cells n m e o.is in
        let none : known e.head ≡ [] = quiet-in c.cell m e (each-get IsQuiet cells n c.cell c.at quiet) c.here in
        record {
          out = p.value;
          at = subst (λ (a : ℕ). out_of cells' a y.out ≡ Some p.value) (sym l.from) (subst (λ (a : ℕ). out_of cells' e.from a ≡ Some p.value) (sym l.out) p.is);
          before = subst (λ (a : ℕ). a < n) (sym l.from) f.before;
          edge = IsEdge-loaded f.out.tail p.value.tail e.head y.head f.edge f.settled none q.tail l.head;
          settled = IsSettled-loaded f.out.tail p.value.tail e.head y.head f.settled q.tail l.head;
          child = q.child ∙ f.child;
          input = q.input ∙ f.input;
          some = subst (λ (a : ℕ). 0 < a) (sym (TailLoads-capacity f.out.tail p.value.tail q.tail)) f.some;
        };
    outs = λ n m y at.
        let o : Other (λ x. OutLoads x y) (out_of cells n m) = both-left OutLoads (out_of cells n m) (out_of cells' n m) y (loads-out cells cells' n m z) at in
        let x : OutEdge = o.value in
        let l : OutLoads x y = o.fact in
        let h : Feeds cells n m x = w.outs n m x o.is in
        let p : Other (InLoads h.edge) (in_of cells' x.child x.input) = both-right InLoads (in_of cells x.child x.input) (in_of cells' x.child x.input) h.edge (loads-in cells cells' x.child x.input z) h.at in
        let q : InLoads h.edge p.value = p.fact in
        record {
          edge = p.value;
          at = subst (λ (a : ℕ). in_of cells' a y.input ≡ Some p.value) (sym l.child) (subst (λ (a : ℕ). in_of cells' x.child a ≡ Some p.value) (sym l.input) p.is);
          from = q.from ∙ h.from;
          out = q.out ∙ h.out;
        };
    even = λ f. ap (sum_of_all f) (parents-loaded cells cells' z) ∙ w.even f ∙ sym (ap (sum_by_out f 0) (counts-loaded cells cells' z));
  }

  -- nothing was sent or received since a load that begins
  pub moves-loaded : (cells cells' : List (CellParts N)) → AllZip (LoadsFrom keeps source) cells cells' → moves_of cells' ≡ 0
  moves-loaded [] [] z = refl
  moves-loaded [] (d ∷ cells') z = absurd z
  moves-loaded (c ∷ cells) [] z = absurd z
  moves-loaded (c ∷ cells) (d ∷ cells') z =
      let a : received_count d.ins.items ≡ 0 = received-none c.ins.items d.ins.items z.0.ins in
      let b : sent_count d.core.outs.items ≡ 0 = sent-none c.core.outs.items d.core.outs.items z.0.outs in
      let r : moves_of cells' ≡ 0 = moves-loaded cells cells' z.1 in
      omega (arith, a, b, r)

module _ {N P S : Type 0} (g : Ghosts N P S) where
  all-closed : (source : List Msg) (cells : List (CellParts N)) → IsClosed source → Each (λ (p : Plan S). IsClosedFor (barriers source) p.parents p.source) (map (plan_now g source) cells)
  all-closed source [] closed = tt
  all-closed source (c ∷ cells) closed = (closed-for c.ins.items source closed, all-closed source cells closed)

  -- cells that are ready and quiet, behind a load that ended, can be loaded anew
  pub can-load : (cells : List (CellParts N)) → IsReady g cells → AreQuiet cells → IsLoaded (plans_of g cells) → Each IsGathered cells → Each CanLoad cells
  can-load cells r quiet loaded gathered = each-of CanLoad cells (λ n c at.
      let q : IsQuiet c = each-get IsQuiet cells n c at quiet in
      record {
        unspent = each-get IsUnspent cells n c at r.unspent;
        empty = each-get HasEmptyBuffers cells n c at (buffers_empty g cells r quiet loaded);
        sent = each-of NothingWaits c.core.outs.items (λ i o here. quiet-out c i o q here);
        gathered = each-get IsGathered cells n c at gathered;
      })

  -- a load that began leaves cells that are ready
  pub ready-loaded : (does : Bool) (source : List Msg) (cells cells' : List (CellParts N)) → IsReady g cells → AreQuiet cells → Each (Keeps g) cells' → AllZip (LoadsFrom does source) cells cells' → IsReady g cells'
  ready-loaded does source cells cells' r quiet keeps z = record {
    keeps = keeps;
    unspent = unspent-loaded does source cells cells' z r.unspent;
    wired = wired-loaded does source cells cells' r.wired quiet z;
  }

  plan-loaded : (source : List Msg) (c d : CellParts N) → LoadsFrom (has_inner source) source c d → plan_of g d ≡ plan_now g source c
  plan-loaded source c d b = rw (b.node, b.passed, b.source, b.kept, froms-loaded c.ins.items d.ins.items b.ins, befores-loaded c.ins.items d.ins.items b.ins) refl

  -- each node begins in the state in which it is
  pub plans-loaded : (source : List Msg) (cells cells' : List (CellParts N)) → AllZip (LoadsFrom (has_inner source) source) cells cells' → plans_of g cells' ≡ map (plan_now g source) cells
  plans-loaded source [] [] z = refl
  plans-loaded source [] (d ∷ cells') z = absurd z
  plans-loaded source (c ∷ cells) [] z = absurd z
  plans-loaded source (c ∷ cells) (d ∷ cells') z = ap (λ (p : Plan S). p ∷ plans_of g cells') (plan-loaded source c d z.0) ∙ ap (λ (ps : List (Plan S)). plan_now g source c ∷ ps) (plans-loaded source cells cells' z.1)

  -- a load with a barrier behind each point
  pub loaded-closed : (source : List Msg) (cells cells' : List (CellParts N)) → IsClosed source → AllZip (LoadsFrom (has_inner source) source) cells cells' → IsLoaded (plans_of g cells')
  loaded-closed source cells cells' closed z =
      subst IsLoaded (sym (plans-loaded source cells cells' z)) (record { barriers = barriers source; closed = all-closed source cells closed })
