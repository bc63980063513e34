-- What an edge had carried before the last load stays until the next one, which makes it all that the edge has carried.
use Rattle.std.proofs.Common.{◌≡◌, ℕ, List, [], ◌∷◌, ◌++◌, length, set, take, Some, refl, sym, ap, ◌∙◌, append-nil}
use Rattle.std.proofs.Math.Seq.{take-length}
use Rattle.std.proofs.lemmas.List.{take-append-drop, take-append-le}
use Rattle.std.specs.Prelude.{slice_get}
use Rattle.std.specs.List.{AllZip}
use mathlib.Core.List.{IsPrefix}
use Rattle.kap_base.specs.declared.items.Msg.{Msg}
use Rattle.rtrb.specs.Ring.{received as popped}
use Rattle.edge_queue.specs.declared.ends.Head.{Head}
use Rattle.edge_queue.specs.Edges.{received, ring_received}
use Rattle.edge_queue.specs.Moves.{HeadLoads, SameHead}
use Rattle.flow_cells.specs.declared.parts.InEdge.{InEdge}
use Rattle.flow_cells.specs.Loads.{InLoads}
use Rattle.flow_cells.specs.Moved.{Came}
use Rattle.flow_cells.specs.Moves.{Still, TakesAt}
use Rattle.flow_life.proofs.PlaceLaws.{map-set, zip-map}
use Rattle.flow_life.specs.Streams.{befores_of, received_before, rings_of}

-- ---- one edge

-- what an edge has carried is what it had carried before the last load and what it has carried since
pub received-whole : (h : Head) → received_before h ++ received h ≡ ring_received h
received-whole h = take-append-drop (length (popped h.base.value)) (popped h.consumer)

before-same : (a b : Head) → SameHead a b → IsPrefix (ring_received a) (ring_received b) → received_before b ≡ received_before a
before-same a b s p =
    ap (λ c. take (length (popped c)) (ring_received b)) s.base
    ∙ ap (take (length (popped a.base.value))) (sym p.1)
    ∙ take-append-le (length (popped a.base.value)) (ring_received a) p.0 a.grown

before-loaded : (a b : Head) → HeadLoads a b → received_before b ≡ ring_received a
before-loaded a b l =
    ap (λ c. take (length (popped c)) (popped b.consumer)) l.base
    ∙ ap (λ c. take (length (popped a.consumer)) (popped c)) l.ring
    ∙ take-length (popped a.consumer)

came-before : (a b : InEdge) → Came a b → received_before b.head ≡ received_before a.head
came-before a b c = before-same a.head b.head c.head c.ring_received

still-before : (a b : InEdge) → Still a b → received_before b.head ≡ received_before a.head
still-before a b s = before-same a.head b.head s.head.same ([], append-nil (ring_received a.head) ∙ sym s.head.ring_received)

taken-before : (m : Msg) (a b : InEdge) → TakesAt m a b → received_before b.head ≡ received_before a.head
taken-before m a b t = before-same a.head b.head t.head.same (m ∷ [], sym t.head.ring_received)

-- ---- the inputs of a cell

-- more may have been taken from each
pub befores-came : (ins new : List InEdge) → AllZip Came ins new → befores_of new ≡ befores_of ins
befores-came ins new z = zip-map (λ (e : InEdge). received_before e.head) Came came-before ins new z

-- nothing was taken
pub befores-still : (ins new : List InEdge) → AllZip Still ins new → befores_of new ≡ befores_of ins
befores-still ins new z = zip-map (λ (e : InEdge). received_before e.head) Still still-before ins new z

-- one was looked at
pub befores-looked : (ins : List InEdge) (k : ℕ) (a b : InEdge) → slice_get ins k ≡ Some a → Still a b → befores_of (set ins k b) ≡ befores_of ins
befores-looked ins k a b at s = map-set (λ (e : InEdge). received_before e.head) ins k a b at (still-before a b s)

-- a message was taken from one
pub befores-taken : (m : Msg) (ins : List InEdge) (k : ℕ) (a b : InEdge) → slice_get ins k ≡ Some a → TakesAt m a b → befores_of (set ins k b) ≡ befores_of ins
befores-taken m ins k a b at t = map-set (λ (e : InEdge). received_before e.head) ins k a b at (taken-before m a b t)

-- a load began
pub befores-loaded : (ins new : List InEdge) → AllZip InLoads ins new → befores_of new ≡ rings_of ins
befores-loaded [] [] z = refl
befores-loaded [] (e ∷ new) z = absurd z
befores-loaded (e ∷ ins) [] z = absurd z
befores-loaded (e ∷ ins) (f ∷ new) z = ap (λ (l : List Msg). l ∷ befores_of new) (before-loaded e.head f.head z.0.head) ∙ ap (λ (ls : List (List Msg)). ring_received e.head ∷ ls) (befores-loaded ins new z.1)
