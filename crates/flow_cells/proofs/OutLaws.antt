-- What stays of outs, and what waits there.
use Rattle.std.proofs.Common.{◌≡◌, ℕ, zero, suc, ◌<◌, List, [], ◌∷◌, ◌++◌, map, length, get_or, set, reverse, Some, refl, sym, ap, subst, ◌∙◌, append-nil, append_assoc, arith}
use Rattle.std.specs.Prelude.{slice_get}
use Rattle.std.specs.List.{AllByRecursion as Each, AllZip}
use Rattle.std.proofs.lemmas.List.{reverse-append}
use Rattle.kap_base.specs.declared.items.Item.{Item}
use Rattle.kap_base.specs.declared.items.Msg.{Msg}
use Rattle.kap_base.specs.declared.items.Msg.TheVariants as messages
use Rattle.edge_queue.specs.Edges.{sent}
use Rattle.flow_cells.specs.declared.parts.OutEdge.{OutEdge}
use Rattle.flow_cells.specs.Outs.{item_msgs, with_unsent}
use Rattle.flow_cells.specs.Kept.{IsGiven}
use Rattle.flow_cells.specs.Handled.{Waits}

-- ---- places of two lists

-- a list with itself is related place by place, where each element is to itself
pub zip-refl : {A : Type 0} (R : A → A → Type 0) → ((x : A) → R x x) → (xs : List A) → AllZip R xs xs
zip-refl R r [] = tt
zip-refl R r (x ∷ xs) = (r x, zip-refl R r xs)

-- three lists that are related place by place, one after the other, are so from the first to the third
pub zip-trans : {A : Type 0} (R : A → A → Type 0) → ((x y z : A) → R x y → R y z → R x z) → (xs ys zs : List A) → AllZip R xs ys → AllZip R ys zs → AllZip R xs zs
zip-trans R t [] [] [] p q = tt
zip-trans R t [] [] (z ∷ zs) p q = absurd q
zip-trans R t [] (y ∷ ys) zs p q = absurd p
zip-trans R t (x ∷ xs) [] zs p q = absurd p
zip-trans R t (x ∷ xs) (y ∷ ys) [] p q = absurd q
zip-trans R t (x ∷ xs) (y ∷ ys) (z ∷ zs) p q = (t x y z p.0 q.0, zip-trans R t xs ys zs p.1 q.1)

-- lists that are related place by place are so by each weaker relation
pub zip-weaker : {A B : Type 0} (R Q : A → B → Type 0) → ((x : A) (y : B) → R x y → Q x y) → (xs : List A) (ys : List B) → AllZip R xs ys → AllZip Q xs ys
zip-weaker R Q f [] [] p = tt
zip-weaker R Q f [] (y ∷ ys) p = absurd p
zip-weaker R Q f (x ∷ xs) [] p = absurd p
zip-weaker R Q f (x ∷ xs) (y ∷ ys) p = (f x y p.0, zip-weaker R Q f xs ys p.1)

-- one place changes
pub zip-set : {A : Type 0} (R : A → A → Type 0) → ((x : A) → R x x) → (xs : List A) (i : ℕ) (y d : A) → i < length xs → R (get_or xs i d) y → AllZip R xs (set xs i y)
zip-set R r [] i y d h p = absurd (omega arith)
zip-set R r (x ∷ xs) zero y d h p = (p, zip-refl R r xs)
zip-set R r (x ∷ xs) (suc i) y d h p = (r x, zip-set R r xs i y d (omega arith) p)

-- what holds of each element, and of a new one, holds of each where the new one is put at a place
pub each-set : {A : Type 0} (P : A → Type 0) (xs : List A) (i : ℕ) (y : A) → Each P xs → P y → Each P (set xs i y)
each-set P [] i y p q = tt
each-set P (x ∷ xs) zero y p q = (q, p.1)
each-set P (x ∷ xs) (suc i) y p q = (p.0, each-set P xs i y p.1 q)

-- what holds of each element holds of the one at a place
pub each-at : {A : Type 0} (P : A → Type 0) (xs : List A) (i : ℕ) (d : A) → i < length xs → Each P xs → P (get_or xs i d)
each-at P [] i d h p = absurd (omega arith)
each-at P (x ∷ xs) zero d h p = p.0
each-at P (x ∷ xs) (suc i) d h p = each-at P xs i d (omega arith) p.1

-- a place at which an element stands is within the list
pub get-within : {A : Type 0} (xs : List A) (i : ℕ) (x : A) → slice_get xs i ≡ Some x → i < length xs
get-within [] i x e = absurd cc
get-within (y ∷ xs) zero x e = omega arith
get-within (y ∷ xs) (suc i) x e = let h : i < length xs = get-within xs i x e in omega (arith, h)

-- at a place within a list an element stands
pub get-here : {A : Type 0} (xs : List A) (i : ℕ) (d : A) → i < length xs → slice_get xs i ≡ Some (get_or xs i d)
get-here [] i d h = absurd (omega arith)
get-here (x ∷ xs) zero d h = refl
get-here (x ∷ xs) (suc i) d h = get-here xs i d (omega arith)

-- ---- what waits

-- two lists of messages that come to wait are one list of both
pub with_unsent-twice : (a b : List Msg) (outs : List OutEdge) → map (with_unsent b) (map (with_unsent a) outs) ≡ map (with_unsent (a ++ b)) outs
with_unsent-twice a b [] = refl
with_unsent-twice a b (o ∷ outs) =
    ap (λ (q : List Msg). record o { unsent = q } ∷ map (with_unsent b) (map (with_unsent a) outs)) (append_assoc o.unsent a b)
    ∙ ap (λ (os : List OutEdge). with_unsent (a ++ b) o ∷ os) (with_unsent-twice a b outs)

-- where no message comes to wait, the outs stay
pub with_unsent-none : (outs : List OutEdge) → map (with_unsent []) outs ≡ outs
with_unsent-none [] = refl
with_unsent-none (o ∷ outs) =
    ap (λ (q : List Msg). record o { unsent = q } ∷ map (with_unsent []) outs) (append-nil o.unsent)
    ∙ ap (λ (os : List OutEdge). o ∷ os) (with_unsent-none outs)

-- one item more waits at each out
pub items_more : (rest left : List Item) (x : Item) (outs new : List OutEdge) → rest ≡ left ++ x ∷ [] → new ≡ map (with_unsent (messages.Item x ∷ [])) outs
    → map (with_unsent (item_msgs (reverse left))) new ≡ map (with_unsent (item_msgs (reverse rest))) outs
items_more rest left x outs new is made =
    ap (map (with_unsent (item_msgs (reverse left)))) made
    ∙ with_unsent-twice (messages.Item x ∷ []) (item_msgs (reverse left)) outs
    ∙ ap (λ (l : List Item). map (with_unsent (item_msgs l)) outs) (sym (reverse-append left (x ∷ [])) ∙ ap reverse (sym is))

given_waits : (given ms : List Msg) (o : OutEdge) → IsGiven given o → IsGiven (given ++ ms) (with_unsent ms o)
given_waits given ms o h = sym (append_assoc (sent o.tail) o.unsent ms) ∙ ap (λ (l : List Msg). l ++ ms) h

-- what was given out and waits at each out
pub given-more : (given ms : List Msg) (outs : List OutEdge) → Each (IsGiven given) outs → Each (IsGiven (given ++ ms)) (map (with_unsent ms) outs)
given-more given ms [] h = tt
given-more given ms (o ∷ outs) h = (given_waits given ms o h.0, given-more given ms outs h.1)

-- an out is an out of the same edge as itself
pub Waits-refl : (o : OutEdge) → Waits o o
Waits-refl o = record { tail = refl; child = refl; input = refl }

-- where more may wait at an out, and then more, the out is still of the same edge
pub Waits-trans : (a b c : OutEdge) → Waits a b → Waits b c → Waits a c
Waits-trans a b c p q = record { tail = q.tail ∙ p.tail; child = q.child ∙ p.child; input = q.input ∙ p.input }

-- outs at which more messages wait are those of the same edges
pub waits-more : (ms : List Msg) (outs : List OutEdge) → AllZip Waits outs (map (with_unsent ms) outs)
waits-more ms [] = tt
waits-more ms (o ∷ outs) = (record { tail = refl; child = refl; input = refl }, waits-more ms outs)

-- outs that have only got more messages to wait are those of the same edges
pub waits_by : (ms : List Msg) (outs new : List OutEdge) → new ≡ map (with_unsent ms) outs → AllZip Waits outs new
waits_by ms outs new e = subst (AllZip Waits outs) (sym e) (waits-more ms outs)

-- messages that come to wait at each out come behind what was given out
pub given_by : (given ms : List Msg) (outs new : List OutEdge) → new ≡ map (with_unsent ms) outs → Each (IsGiven given) outs → Each (IsGiven (given ++ ms)) new
given_by given ms outs new e h = subst (Each (IsGiven (given ++ ms))) (sym e) (given-more given ms outs h)
