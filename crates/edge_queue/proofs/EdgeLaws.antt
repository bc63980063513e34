-- What stays of an edge whatever its ends do, and what a settled one tells.
use Rattle.std.proofs.Common.{◌≡◌, ℕ, zero, suc, ◌+◌, ◌<◌, ◌≤◌, List, [], ◌∷◌, ◌++◌, length, drop, refl, sym, ◌∙◌, ap, subst, arith, append-nil, length-append}
use Rattle.kap_base.specs.declared.items.Msg.{Msg}
use Rattle.rtrb.specs.Ring.{IsPair, known_free, known_items, producer_capacity, received as popped, sent as pushed}
use Rattle.edge_queue.specs.declared.ends.Head.{Head}
use Rattle.edge_queue.specs.declared.ends.Tail.{Tail}
use Rattle.edge_queue.specs.Edges.{IsEdge, IsPaired, IsSettled, edge_capacity, free, known, received, ring_received, ring_sent, sent}
use Rattle.edge_queue.specs.Moves.{HeadLoads, HeadLooked, Puts, SameHead, SameTail, TailLoads, TailLooked, Takes}

-- ---- the same ends

-- every tail is the same tail as itself
pub SameTail-refl : (a : Tail) → SameTail a a
SameTail-refl a = record { ring = ((refl, refl, refl, refl), refl); base = refl }

-- every head is the same head as itself
pub SameHead-refl : (a : Head) → SameHead a a
SameHead-refl a = record { ring = ((refl, refl, refl, refl), refl); base = refl }

-- two moves that each leave a tail the same leave it the same together
pub SameTail-trans : {a b c : Tail} → SameTail a b → SameTail b c → SameTail a c
SameTail-trans p q = record { ring = ((cc, cc, cc, cc), cc); base = q.base ∙ p.base }

-- two moves that each leave a head the same leave it the same together
pub SameHead-trans : {a b c : Head} → SameHead a b → SameHead b c → SameHead a c
SameHead-trans p q = record { ring = ((cc, cc, cc, cc), cc); base = q.base ∙ p.base }

-- a look that finds nothing new leaves a tail as it is
pub TailLooked-refl : (a : Tail) → TailLooked a a
TailLooked-refl a = record { same = SameTail-refl a; ring_sent = refl; sent = refl; free = omega arith }

-- a look that finds nothing new leaves a head as it is
pub HeadLooked-refl : (a : Head) → HeadLooked a a
HeadLooked-refl a = record { same = SameHead-refl a; ring_received = refl; received = refl; known = ([], append-nil (known a)) }

-- two looks of a tail, one after the other, are one look
pub TailLooked-trans : {a b c : Tail} → TailLooked a b → TailLooked b c → TailLooked a c
TailLooked-trans {a = a} {b = b} {c = c} p q = record {
  same = SameTail-trans p.same q.same;
  ring_sent = q.ring_sent ∙ p.ring_sent;
  sent = q.sent ∙ p.sent;
  free = let x : free a ≤ free b = p.free in let y : free b ≤ free c = q.free in omega (arith, x, y);
}

-- a message was put behind a look
pub Puts-looked : {msg : Msg} {a b c : Tail} → TailLooked a b → Puts msg b c → Puts msg a c
Puts-looked {msg = msg} {a = a} {b = b} {c = c} l p = record {
  same = SameTail-trans l.same p.same;
  ring_sent = p.ring_sent ∙ ap (λ (xs : List Msg). xs ++ msg ∷ []) l.ring_sent;
  sent = p.sent ∙ ap (λ (xs : List Msg). xs ++ msg ∷ []) l.sent;
  free = let x : free a ≤ free b = l.free in let y : free b ≤ free c + 1 = p.free in omega (arith, x, y);
}

-- the same tail has the same capacity
pub SameTail-capacity : {a b : Tail} → SameTail a b → edge_capacity b ≡ edge_capacity a
SameTail-capacity s = s.ring.1

-- ends that stay themselves stay those of one edge
pub IsPaired-same : {t t' : Tail} {h h' : Head} → IsPaired t h → SameTail t t' → SameHead h h' → IsPaired t' h'
IsPaired-same p a b = (cc, cc, cc, cc)

-- ends that stay themselves, and keep their loads, stay those of one edge and its load
pub IsEdge-same : {t t' : Tail} {h h' : Head} → IsEdge t h → SameTail t t' → SameHead h h' → IsEdge t' h'
IsEdge-same e a b = record {
  pair = IsPaired-same e.pair a b;
  loaded = rw (a.base, b.base) e.loaded;
}

-- an edge stays settled while nothing is put or taken and no message more is known
pub IsSettled-looked : {t t' : Tail} {h h' : Head} → IsSettled t h → TailLooked t t' → ring_received h' ≡ ring_received h → known h' ≡ known h → IsSettled t' h'
IsSettled-looked {t = t} {t' = t'} {h = h} {h' = h'} s e taken same =
    let long : length (known h') ≡ length (known h) = ap length same in
    let cap : edge_capacity t' ≡ edge_capacity t = SameTail-capacity e.same in
    let room : length (known h) ≤ edge_capacity t = s.room in
    let places : edge_capacity t ≤ free t + length (known h) = s.free in
    let more : free t ≤ free t' = e.free in
    record {
      order = ap (λ (l : List Msg). l ++ known h') taken ∙ ap (λ (l : List Msg). ring_received h ++ l) same ∙ s.order ∙ sym e.ring_sent;
      room = omega (arith, long, cap, room);
      free = omega (arith, long, cap, places, more);
    }

-- ---- since the last load

drop-front : (n : ℕ) (xs ys : List Msg) → n ≤ length xs → drop n (xs ++ ys) ≡ drop n xs ++ ys
drop-front zero xs ys h = refl
drop-front (suc n) [] ys h = absurd (omega (arith, h))
drop-front (suc n) (x ∷ xs) ys h = drop-front n xs ys (omega (arith, h))

length-drop : (n : ℕ) (xs : List Msg) → n ≤ length xs → length (drop n xs) + n ≡ length xs
length-drop zero xs h = omega arith
length-drop (suc n) [] h = absurd (omega (arith, h))
length-drop (suc n) (x ∷ xs) h = let r : length (drop n xs) + n ≡ length xs = length-drop n xs (omega (arith, h)) in omega (arith, r)

-- what was received since the load, and then what is on the edge, are what was sent since the load
pub settled_since : (t : Tail) (h : Head) → IsEdge t h → IsSettled t h → received h ++ known h ≡ sent t
settled_since t h e s =
    sym (drop-front (length (popped h.base.value)) (popped h.consumer) (known h) h.grown)
    ∙ ap (drop (length (popped h.base.value))) s.order
    ∙ ap (λ (n : ℕ). drop n (pushed t.producer)) (sym e.loaded)

-- where nothing is on an edge, both lists are equal
pub settled_empty : (t : Tail) (h : Head) → IsSettled t h → known h ≡ [] → length (ring_sent t) ≡ length (ring_received h)
settled_empty t h s none =
    let all : length (ring_received h ++ known h) ≡ length (ring_sent t) = ap length s.order in
    let one : length (ring_received h ++ known h) ≡ length (ring_received h) + length (known h) = length-append (ring_received h) (known h) in
    let zero_is : length (known h) ≡ 0 = ap length none in
    omega (arith, all, one, zero_is)

-- a load on an edge with nothing on it
pub IsEdge-loaded : (t t' : Tail) (h h' : Head) → IsEdge t h → IsSettled t h → known h ≡ [] → TailLoads t t' → HeadLoads h h' → IsEdge t' h'
IsEdge-loaded t t' h h' e s none a b = record {
  pair = subst (λ p. IsPair p h'.consumer) (sym a.ring) (subst (λ c. IsPair t.producer c) (sym b.ring) e.pair);
  loaded = rw (a.base, b.base) (settled_empty t h s none);
}

-- the capacity of an edge is the same behind the start of a load
pub TailLoads-capacity : (t t' : Tail) → TailLoads t t' → edge_capacity t' ≡ edge_capacity t
TailLoads-capacity t t' a = ap (λ p. producer_capacity p) a.ring

-- a settled edge is settled behind the start of a load
pub IsSettled-loaded : (t t' : Tail) (h h' : Head) → IsSettled t h → TailLoads t t' → HeadLoads h h' → IsSettled t' h'
IsSettled-loaded t t' h h' s a b =
    let sent_is : ring_sent t' ≡ ring_sent t = ap (λ p. pushed p) a.ring in
    let received_is : ring_received h' ≡ ring_received h = ap (λ c. popped c) b.ring in
    let known_is : known h' ≡ known h = ap (λ c. known_items c) b.ring in
    let long : length (known h') ≡ length (known h) = ap length known_is in
    let cap : edge_capacity t' ≡ edge_capacity t = ap (λ p. producer_capacity p) a.ring in
    let same : free t' ≡ free t = ap (λ p. known_free p) a.ring in
    let room : length (known h) ≤ edge_capacity t = s.room in
    let places : edge_capacity t ≤ free t + length (known h) = s.free in
    record {
      order = ap (λ (l : List Msg). l ++ known h') received_is ∙ ap (λ (l : List Msg). ring_received h ++ l) known_is ∙ s.order ∙ sym sent_is;
      room = omega (arith, long, cap, room);
      free = omega (arith, long, cap, same, places);
    }

-- ---- what settling again shows

known-length : (t : Tail) (h : Head) → IsSettled t h → length (ring_received h) + length (known h) ≡ length (ring_sent t)
known-length t h s = sym (length-append (ring_received h) (known h)) ∙ ap length s.order

-- a message was put only where there was room
pub put_had_room : (msg : Msg) (t put after : Tail) (h later : Head) → IsSettled t h → Puts msg t put → TailLooked put after → HeadLooked h later → IsSettled after later → length (known h) < edge_capacity t
put_had_room msg t put after h later s p a b s' =
    let x : length (ring_received h) + length (known h) ≡ length (ring_sent t) = known-length t h s in
    let y : length (ring_received later) + length (known later) ≡ length (ring_sent after) = known-length after later s' in
    let r : length (ring_received later) ≡ length (ring_received h) = ap length b.ring_received in
    let m : length (ring_sent after) ≡ length (ring_sent t ++ msg ∷ []) = ap length (a.ring_sent ∙ p.ring_sent) in
    let n : length (ring_sent t ++ msg ∷ []) ≡ length (ring_sent t) + 1 = length-append (ring_sent t) (msg ∷ []) in
    let c : edge_capacity after ≡ edge_capacity t = SameTail-capacity (SameTail-trans p.same a.same) in
    let room : length (known later) ≤ edge_capacity after = s'.room in
    omega (arith, x, y, r, m, n, c, room)

-- a message was taken only where one was
pub taken_was_there : (msg : Msg) (t after : Tail) (h taken later : Head) → IsSettled t h → Takes msg h taken → TailLooked t after → HeadLooked taken later → IsSettled after later → 0 < length (known h)
taken_was_there msg t after h taken later s p a b s' =
    let x : length (ring_received h) + length (known h) ≡ length (ring_sent t) = known-length t h s in
    let y : length (ring_received later) + length (known later) ≡ length (ring_sent after) = known-length after later s' in
    let r : length (ring_received later) ≡ length (ring_received h ++ msg ∷ []) = ap length (b.ring_received ∙ p.ring_received) in
    let n : length (ring_received h ++ msg ∷ []) ≡ length (ring_received h) + 1 = length-append (ring_received h) (msg ∷ []) in
    let m : length (ring_sent after) ≡ length (ring_sent t) = ap length a.ring_sent in
    omega (arith, x, y, r, m, n)
