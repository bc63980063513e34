-- A load that begins leaves a cell that keeps what a cell keeps.
use Rattle.std.proofs.Common.{◌≡◌, suc, ◌<◌, ◌≤◌, List, [], ◌∷◌, ◌++◌, length, map, None, refl, sym, ap, subst, ◌∙◌, append-nil, append_assoc, arith}
use Rattle.std.specs.List.{AllByRecursion as Each, AllZip}
use Rattle.kap_base.specs.declared.items.Msg.{Msg}
use Rattle.node_core.specs.declared.node.Node.{Ghosts}
use Rattle.merge_node.specs.Merge.{Lists}
use Rattle.merge_node.specs.Buffers.{Merges, next, put}
use Rattle.merge_node.proofs.BufferLaws.{merges-length}
use Rattle.edge_queue.specs.Edges.{received}
use Rattle.edge_queue.specs.Moves.{TailLoads}
use Rattle.flow_cells.specs.declared.parts.InEdge.{InEdge}
use Rattle.flow_cells.specs.declared.parts.OutEdge.{OutEdge}
use Rattle.flow_cells.specs.declared.parts.Core.{Core}
use Rattle.flow_cells.specs.Runs.{begun}
use Rattle.flow_cells.specs.Kept.{IsAt, KeptBy, received_of}
use Rattle.flow_cells.specs.Handled.{Handles, Waits}
use Rattle.flow_cells.specs.HandledLaws.{Handles-none, Handles-put}
use Rattle.flow_cells.specs.Made.{IsFresh, IsNothing}
use Rattle.flow_cells.specs.Loads.{InLoads, IsOwn, OutLoads, with_source}

both-empty : (xs ys : Lists) → Each IsNothing xs → Each IsNothing ys → length xs ≡ length ys → xs ≡ ys
both-empty [] [] a b h = refl
both-empty [] (y ∷ ys) a b h = absurd (omega (arith, h))
both-empty (x ∷ xs) [] a b h = absurd (omega (arith, h))
both-empty (x ∷ xs) (y ∷ ys) a b h =
    ap (λ (l : List Msg). l ∷ xs) (a.0 ∙ sym b.0) ∙ ap (λ (ls : Lists). y ∷ ls) (both-empty xs ys a.1 b.1 (omega (arith, h)))

fresh-nothing : (ins : List InEdge) → Each IsFresh ins → Each IsNothing (map (λ (i : InEdge). received i.head) ins)
fresh-nothing [] h = tt
fresh-nothing (e ∷ ins) h = (h.0, fresh-nothing ins h.1)

heads-long : (ins new : List InEdge) → AllZip InLoads ins new → length (map (λ (i : InEdge). received i.head) ins) ≡ length (map (λ (i : InEdge). received i.head) new)
heads-long [] [] z = refl
heads-long [] (n ∷ new) z = absurd z
heads-long (e ∷ ins) [] z = absurd z
heads-long (e ∷ ins) (n ∷ new) z = ap suc (heads-long ins new z.1)

with_source-none : (ls : Lists) → with_source [] ls ≡ ls
with_source-none [] = refl
with_source-none (l ∷ ls) = ap (λ (x : List Msg). x ∷ ls) (append-nil l)

-- the points and barriers of a load are what a stream received, and others received nothing yet
pub loaded-lists : (ins new : List InEdge) (old source : List Msg) (buffer : Lists) → length buffer ≡ length (received_of ins old) → Each IsNothing buffer → AllZip InLoads ins new → Each IsFresh new → IsOwn ins source
    → with_source source buffer ≡ received_of new source
loaded-lists [] (n ∷ new) old source buffer len none z fresh own = absurd z
loaded-lists (e ∷ ins) [] old source buffer len none z fresh own = absurd z
loaded-lists [] [] old source [] len none z fresh own = absurd (omega (arith, len))
loaded-lists [] [] old source (l ∷ []) len none z fresh own = ap (λ (x : List Msg). (x ++ source) ∷ []) none.0
loaded-lists [] [] old source (l ∷ k ∷ ls) len none z fresh own = absurd (omega (arith, len))
loaded-lists (e ∷ ins) (n ∷ new) old source buffer len none z fresh own =
    ap (λ (s : List Msg). with_source s buffer) own ∙ with_source-none buffer
    ∙ both-empty buffer (map (λ (i : InEdge). received i.head) (n ∷ new)) none (fresh-nothing (n ∷ new) fresh) (len ∙ heads-long (e ∷ ins) (n ∷ new) z)

-- there is at least one list of received messages
pub some-received : (ins : List InEdge) (source : List Msg) → 0 < length (received_of ins source)
some-received [] source = omega arith
some-received (e ∷ ins) source = omega arith

-- there are as many lists with the points and barriers of a load as without
pub with_source-length : (source : List Msg) (ls : Lists) → length (with_source source ls) ≡ length ls
with_source-length source [] = refl
with_source-length source (l ∷ ls) = refl

-- one point or barrier more of a load is one message more of the first parent
with_source-more : (source : List Msg) (m : Msg) (ls : Lists) → with_source (source ++ m ∷ []) ls ≡ put 0 m (with_source source ls)
with_source-more source m [] = refl
with_source-more source m (l ∷ ls) = ap (λ (x : List Msg). x ∷ ls) (sym (append_assoc l source (m ∷ [])))

loads_waits : (a b c : OutEdge) → OutLoads a b → Waits b c → OutLoads a c
loads_waits a b c l w = record { tail = subst (TailLoads a.tail) (sym w.tail) l.tail; child = w.child ∙ l.child; input = w.input ∙ l.input }

-- a load begins at each out, and then more waits
pub loads-waits : (xs ys zs : List OutEdge) → AllZip OutLoads xs ys → AllZip Waits ys zs → AllZip OutLoads xs zs
loads-waits [] [] [] p q = tt
loads-waits [] [] (z ∷ zs) p q = absurd q
loads-waits [] (y ∷ ys) zs p q = absurd p
loads-waits (x ∷ xs) [] zs p q = absurd p
loads-waits (x ∷ xs) (y ∷ ys) [] p q = absurd q
loads-waits (x ∷ xs) (y ∷ ys) (z ∷ zs) p q = (loads_waits x y z p.0 q.0, loads-waits xs ys zs p.1 q.1)

module _ {N P S : Type 0} (g : Ghosts N P S) where
  -- a load that began, and all that is determined handled, leave a core that keeps what a cell keeps
  pub load-keeps : (base first last : Core N) (lists b e : Lists) → base ≡ first → IsAt g (g.spec first.node) (begun (g.state first.node) first.passed) first → Handles g first b last e → b ≡ lists → next e ≡ None → length b ≤ g.ports (g.spec first.node) → KeptBy g base lists e last
  load-keeps base first last lists b e same at h is stuck ports =
      let long : length e ≡ length b = merges-length h.merged in
      subst (λ (c : Core N). KeptBy g c lists e last) (sym same) (record {
        handled = h.handled;
        merged = subst (λ (ls : Lists). Merges ls h.handled e) is h.merged;
        stuck = stuck;
        at = h.at (begun (g.state first.node) first.passed) at;
        ports = omega (arith, long, ports);
        keeps = h.keeps;
      })

  -- points and barriers of a load that were handled, and the rest of them
  pub record Loading (source rest : List Msg) (c : Core N) (b : Lists) (d : Core N) (e : Lists) : Type 0 where
    pub before : List Msg
    pub whole : before ++ rest ≡ source
    pub handles : Handles g c (with_source before b) d e

  -- none of them was handled yet
  pub Loading-none : (source : List Msg) (c : Core N) (b : Lists) → Loading source source c b c b
  Loading-none source c b = record {
    before = [];
    whole = refl;
    handles = subst (λ (ls : Lists). Handles g c ls c b) (sym (with_source-none b)) (Handles-none g c b);
  }

  -- one more was handled
  pub Loading-more : (source rest : List Msg) (m : Msg) (c : Core N) (b : Lists) (d : Core N) (e : Lists) (d' : Core N) (e' : Lists) → Loading source (m ∷ rest) c b d e → Handles g d (put 0 m e) d' e' → Loading source rest c b d' e'
  Loading-more source rest m c b d e d' e' l h = record {
    before = l.before ++ m ∷ [];
    whole = append_assoc l.before (m ∷ []) rest ∙ l.whole;
    handles = subst (λ (ls : Lists). Handles g c ls d' e') (sym (with_source-more l.before m b)) (Handles-put g c d (with_source l.before b) e 0 m d' e' l.handles h);
  }
