-- Every graph has its streams, and only these: each node's is made of those before it.
use Rattle.std.proofs.Common.{◌≡◌, ℕ, zero, suc, ◌+◌, ◌<◌, List, [], ◌∷◌, ◌++◌, map, length, get_or, Option, Some, None, refl, sym, ap, subst, ◌∙◌, append_assoc, length-append, arith}
use Rattle.std.specs.List.{AllByRecursion as Each, AllZip}
use Rattle.kap_base.specs.declared.items.Msg.{Msg}
use Rattle.merge_node.specs.Merge.{AreClosed, AreMergeable, Entry, Lists, merge}
use Rattle.merge_node.specs.Buffers.{Merges, Taken, done, more, next}
use Rattle.merge_node.proofs.BufferLaws.{merges-same, next-less, total}
use Rattle.flow_cells.specs.declared.parts.InEdge.{InEdge}
use Rattle.flow_cells.specs.declared.parts.CellParts.{CellParts}
use Rattle.node_core.specs.declared.node.Node.{Ghosts}
use Rattle.std.specs.Prelude.{slice_get}
use Rattle.kap_base.specs.declared.items.Stamp.{Stamp}
use Rattle.merge_node.proofs.CallLaws.{merges-whole}
use Rattle.flow_life.specs.Places.{in_of}
use Rattle.flow_life.specs.Wired.{IsWired}
use Rattle.flow_life.specs.Lives.{IsLife}
use Rattle.flow_life.specs.Streams.{AreStreams, IsStream, Plan, plans_of, run_from, streams_at, streams_into}
use Rattle.flow_life.specs.Graphs.{HasStreams, IsGraph, IsGraphFrom}

-- all that is determined of lists
pub record Merged (ls : Lists) : Type 0 where
  pub merged : List Entry
  pub rest : Lists
  pub merges : Merges ls merged rest
  pub stuck : next rest ≡ None

-- the next message, or none
data Looked (ls : Lists) : Type 0 where
  none : next ls ≡ None → Looked ls
  some : (t : Taken) → next ls ≡ Some t → Looked ls

looked-of : (ls : Lists) (o : Option Taken) → next ls ≡ o → Looked ls
looked-of ls None e = none e
looked-of ls (Some t) e = some t e

merge-by : (n : ℕ) (ls : Lists) → total ls < n → Looked ls → Merged ls
merge-by zero ls lt l = absurd (omega (arith, lt))
merge-by (suc n) ls lt (none e) = record { merged = []; rest = ls; merges = done; stuck = e }
merge-by (suc n) ls lt (some t e) =
    let fewer : total t.rest < total ls = (next-less ls t e).fewer in
    let r = merge-by n t.rest (omega (arith, lt, fewer)) (looked-of t.rest (next t.rest) refl) in
    record { merged = (t.parent, t.msg) ∷ r.merged; rest = r.rest; merges = more t e r.merges; stuck = r.stuck }

pub merge-all : (ls : Lists) → Merged ls
merge-all ls = merge-by (suc (total ls)) ls (omega arith) (looked-of ls (next ls) refl)

get-front : (xs ys : List (List Msg)) (i : ℕ) → i < length xs → get_or (xs ++ ys) i [] ≡ get_or xs i []
get-front [] ys i lt = absurd (omega (arith, lt))
get-front (x ∷ xs) ys zero lt = refl
get-front (x ∷ xs) ys (suc i) lt = get-front xs ys i (omega (arith, lt))

-- what comes behind changes no stream before
at-front : (xs ys : List (List Msg)) (ps : List ℕ) → Each (λ (p : ℕ). p < length xs) ps
    → streams_at (xs ++ ys) ps ≡ streams_at xs ps
at-front xs ys [] h = refl
at-front xs ys (p ∷ ps) h = ap (λ (l : List Msg). l ∷ streams_at (xs ++ ys) ps) (get-front xs ys p h.0)
    ∙ ap (λ (ls : Lists). get_or xs p [] ∷ ls) (at-front xs ys ps h.1)

into-front : (xs ys : List (List Msg)) (ps : List ℕ) (source : List Msg) → Each (λ (p : ℕ). p < length xs) ps
    → streams_into (xs ++ ys) ps source ≡ streams_into xs ps source
into-front xs ys [] source h = refl
into-front xs ys (p ∷ ps) source h = at-front xs ys (p ∷ ps) h

module _ {S : Type 0} where
  -- what a node gives out in whole, where these are the streams of the nodes before it
  abbrev pub stream_of : List (List Msg) → Plan S → List Msg
  stream_of known p = (run_from p (merge-all (streams_into known p.parents p.source)).merged).outs

  -- it is a stream
  pub stream-is : (known : List (List Msg)) (p : Plan S) → IsStream known p (stream_of known p)
  stream-is known p =
      let m = merge-all (streams_into known p.parents p.source) in
      record { merged = m.merged; rest = m.rest; merges = m.merges; stuck = m.stuck; is = refl }

  -- a stream stays one, whatever comes behind
  pub stays : (ss ys : List (List Msg)) (p : Plan S) (s : List Msg) → Each (λ (q : ℕ). q < length ss) p.parents
      → IsStream ss p s → IsStream (ss ++ ys) p s
  stays ss ys p s h t = record {
    merged = t.merged;
    rest = t.rest;
    merges = subst (λ (ls : Lists). Merges ls t.merged t.rest) (sym (into-front ss ys p.parents p.source h)) t.merges;
    stuck = t.stuck;
    is = t.is;
  }

  -- the streams of the nodes behind some, whose streams are known
  record Solved (ss : List (List Msg)) (plans : List (Plan S)) : Type 0 where
    rest : List (List Msg)
    are : AllZip (IsStream (ss ++ rest)) plans rest

  solve : (n : ℕ) (ss : List (List Msg)) (plans : List (Plan S)) → length ss ≡ n → IsGraphFrom n plans → Solved ss plans
  solve n ss [] len graph = record { rest = []; are = tt }
  solve n ss (p ∷ ps) len graph =
      let s = stream_of ss p in
      let here : IsStream ss p s = stream-is ss p in
      let r = solve (suc n) (ss ++ s ∷ []) ps (length-append ss (s ∷ []) ∙ omega (arith, len)) graph.1 in
      let same : (ss ++ s ∷ []) ++ r.rest ≡ ss ++ s ∷ r.rest = append_assoc ss (s ∷ []) r.rest in
      record {
        rest = s ∷ r.rest;
        are = (
          stays ss (s ∷ r.rest) p s (subst (λ (k : ℕ). Each (λ (q : ℕ). q < k) p.parents) (sym len) graph.0) here,
          subst (λ (l : List (List Msg)). AllZip (IsStream l) ps r.rest) same r.are,
        );
      }

  -- every graph has its streams
  pub graph_streams : (plans : List (Plan S)) → IsGraph plans → HasStreams plans
  graph_streams plans graph = let r = solve 0 [] plans refl graph in record { streams = r.rest; are = r.are }

  only-behind : (n : ℕ) (ss : List (List Msg)) (plans : List (Plan S)) (xs ys : List (List Msg)) → length ss ≡ n
      → IsGraphFrom n plans → AllZip (IsStream (ss ++ xs)) plans xs → AllZip (IsStream (ss ++ ys)) plans ys → xs ≡ ys
  only-behind n ss [] [] [] len graph a b = refl
  only-behind n ss [] [] (y ∷ ys) len graph a b = absurd b
  only-behind n ss [] (x ∷ xs) ys len graph a b = absurd a
  only-behind n ss (p ∷ ps) [] ys len graph a b = absurd a
  only-behind n ss (p ∷ ps) (x ∷ xs) [] len graph a b = absurd b
  only-behind n ss (p ∷ ps) (x ∷ xs) (y ∷ ys) len graph a b =
      let h : Each (λ (q : ℕ). q < length ss) p.parents = subst (λ (k : ℕ). Each (λ (q : ℕ). q < k) p.parents)
      (sym len) graph.0 in
      let into = streams_into ss p.parents p.source in
      let u : Merges into a.0.merged a.0.rest = subst (λ (ls : Lists). Merges ls a.0.merged a.0.rest)
      (into-front ss (x ∷ xs) p.parents p.source h) a.0.merges in
      let v : Merges into b.0.merged b.0.rest = subst (λ (ls : Lists). Merges ls b.0.merged b.0.rest)
      (into-front ss (y ∷ ys) p.parents p.source h) b.0.merges in
      let same : a.0.merged ≡ b.0.merged = merges-same u a.0.stuck v b.0.stuck in
      let here : x ≡ y = a.0.is ∙ ap (λ (m : List Entry). (run_from p m).outs) same ∙ sym b.0.is in
      let behind : xs
      ≡ ys = only-behind (suc n) (ss ++ x ∷ []) ps xs ys (length-append ss (x ∷ []) ∙ omega (arith, len)) graph.1
      (subst (λ (l : List (List Msg)). AllZip (IsStream l) ps xs) (sym (append_assoc ss (x ∷ []) xs)) a.1)
      (subst (λ (l : List (List Msg)). AllZip (IsStream l) ps ys) (sym (append_assoc ss (x ∷ []) ys))
      (subst (λ (z : List Msg). AllZip (IsStream (ss ++ z ∷ ys)) ps ys) (sym here) b.1)) in
      ap (λ (z : List Msg). z ∷ xs) here ∙ ap (λ (l : List (List Msg)). y ∷ l) behind

  -- and no others
  pub only_streams : (plans : List (Plan S)) (xs ys : List (List Msg)) → IsGraph plans → AreStreams plans xs
      → AreStreams plans ys → xs ≡ ys
  only_streams plans xs ys graph a b = only-behind 0 [] plans xs ys refl graph a b

  -- where the streams of its parents are in order, what a node handles in whole is their merge
  pub merged_whole : (bs : List Stamp) (ss : List (List Msg)) (p : Plan S) (s : List Msg) → (t : IsStream ss p s)
      → AreMergeable bs (streams_into ss p.parents p.source) → AreClosed (streams_into ss p.parents p.source)
      → t.merged ≡ merge (streams_into ss p.parents p.source)
  merged_whole bs ss p s t mergeable closed =
      merges-whole bs (streams_into ss p.parents p.source) t.rest t.merged mergeable closed t.merges t.stuck

module _ {N P S : Type 0} (g : Ghosts N P S) where
  earlier : (ins : List InEdge) (n : ℕ) → ((k : ℕ) (e : InEdge) → slice_get ins k ≡ Some e → e.from < n)
      → Each (λ (q : ℕ). q < n) (map (λ (e : InEdge). e.from) ins)
  earlier [] n h = tt
  earlier (e ∷ ins) n h = (h 0 e refl, earlier ins n (λ k x at. h (suc k) x at))

  graph-from : (n : ℕ) (cells : List (CellParts N))
      → ((j k : ℕ) (e : InEdge) → in_of cells j k ≡ Some e → e.from < n + j) → IsGraphFrom n (plans_of g cells)
  graph-from n [] h = tt
  graph-from n (c ∷ cells) h = (
    earlier c.ins.items n (λ k e at. let lt : e.from < n + 0 = h 0 k e at in
        omega (arith, lt)),
    graph-from (suc n) cells (λ j k e at. let lt : e.from < n + suc j = h (suc j) k e at in
        omega (arith, lt)),
  )

  -- the nodes of cells whose edges are wired are those of a graph
  pub wired-graph : (cells : List (CellParts N)) → IsWired cells → IsGraph (plans_of g cells)
  wired-graph cells w =
      graph-from 0 cells (λ j k e at. let lt : e.from < j = (w.ins j k e at).before in omega (arith, lt))

  -- so are those of a life
  pub life_graph : (cells : List (CellParts N)) → IsLife g cells → IsGraph (plans_of g cells)
  life_graph cells l = wired-graph cells l.ready.wired
