-- Merged lists stand in order, and have just what the lists have.
use Rattle.std.proofs.Common.{◌≡◌, ℕ, zero, suc, ◌+◌, ◌≤◌, ◌<◌, ◌==◌, true, false, cond, List, [], ◌∷◌, ◌++◌, map, length, refl, sym, ap, subst, ◌∙◌, append-nil, append_assoc, inl, inr, ⊎_elim, get_or, arith}
use Rattle.std.specs.Prelude.{⊤, flat_map}
use Rattle.std.proofs.lemmas.Bool.Decides.{nat_tests}
use Rattle.std.proofs.lemmas.List.{map-append}
use Rattle.std.proofs.lemmas.List.Elements.{filter-append}
use Rattle.std.proofs.lemmas.List.Concat.{flat_map-append}
use Rattle.kap_base.specs.declared.items.Item.{Item}
use Rattle.node_core.specs.Meaning.{Given, Input, Answer, nothing, given}
use Rattle.node_core.specs.Cut.{IsStamped}
use Rattle.task_run.specs.Merging.{stamps, items_with, at_port, at_ports, inputs_with, merged}
use Rattle.task_run.specs.Stamps.{of_item, of_effect, of_input, StampsUpTo, StampsFrom, StampsRise, IsStream}
use Rattle.task_run.specs.StampLaws.{from_append, stream_by_stamp}
use Rattle.task_run.specs.GivenLaws.{GivenStream, after_from, after_up_to, after_rises}
use Rattle.task_run.specs.Lives.{effects_with}
use Rattle.task_run.specs.Order.{PrecedesAll, AreOrdered, from_port}
use Rattle.task_run.specs.Growth.{merged_up_to}
use Rattle.task_run.specs.Graphs.{Placed, stamped_from, outs_of, lists_of, node_gives, gives_behind, graph_gives}
use Rattle.task_run.specs.Plans.{AreBelow}
use Rattle.kap_base.specs.Points.{PointValue}

-- ---- the order

-- each has this stamp and a port from here on
abbrev AreFrom : ℕ → ℕ → List Input → Type 0
AreFrom stamp port [] = ⊤
AreFrom stamp port (x ∷ xs) = ((x.1.stamp.0 ≡ stamp) × (port ≤ x.0)) × AreFrom stamp port xs

from-append : (s port : ℕ) (xs ys : List Input) → AreFrom s port xs → AreFrom s port ys → AreFrom s port (xs ++ ys)
from-append s port [] ys a b = b
from-append s port (x ∷ xs) ys a b = (a.0, from-append s port xs ys a.1 b)

from-port : (s p port : ℕ) (items : List Item) → p ≤ port → AreFrom s p (at_port port (items_with s items))
from-port s p port [] le = tt
from-port s p port (i ∷ items) le = elim (i.stamp.0 == s) as (λ b. (i.stamp.0 == s) ≡ b → AreFrom s p (at_port port (cond b (i ∷ items_with s items) (items_with s items)))) [
  | true ↦ λ e. let same : i.stamp.0 ≡ s = grind (arith, nat_tests) in ((same, le), from-port s p port items le)
  | false ↦ λ e. from-port s p port items le
] refl

from-ports : (s p port : ℕ) (lists : List (List Item)) → p ≤ port → AreFrom s p (at_ports port (map (items_with s) lists))
from-ports s p port [] le = tt
from-ports s p port (l ∷ lists) le = from-append s p _ _ (from-port s p port l le) (from-ports s p (port + 1) lists (omega arith))

pub precedes-append : (x : Input) (xs ys : List Input) → PrecedesAll x xs → PrecedesAll x ys → PrecedesAll x (xs ++ ys)
precedes-append x [] ys a b = b
precedes-append x (y ∷ xs) ys a b = (a.0, precedes-append x xs ys a.1 b)

precedes-from : (s port : ℕ) (x : Input) (xs : List Input) → x.1.stamp.0 ≡ s → x.0 ≤ port → AreFrom s port xs → PrecedesAll x xs
precedes-from s port x [] e le from = tt
precedes-from s port x (y ∷ xs) e le from =
    let low : port ≤ y.0 = from.0.1 in
    (inr (e ∙ sym from.0.0, omega arith), precedes-from s port x xs e le from.1)

-- the items of one list at its port, and what comes at later ports
ordered-port : (s port : ℕ) (items : List Item) (rest : List Input) → AreFrom s (port + 1) rest → AreOrdered rest → AreOrdered (at_port port (items_with s items) ++ rest)
ordered-port s port [] rest from ordered = ordered
ordered-port s port (i ∷ items) rest from ordered = elim (i.stamp.0 == s) as (λ b. (i.stamp.0 == s) ≡ b → AreOrdered (at_port port (cond b (i ∷ items_with s items) (items_with s items)) ++ rest)) [
  | true ↦ λ e.
      let same : i.stamp.0 ≡ s = grind (arith, nat_tests) in (
        precedes-append (port, i) _ _
            (precedes-from s port (port, i) _ same (omega arith) (from-port s port port items (omega arith)))
            (precedes-from s (port + 1) (port, i) rest same (omega arith) from),
        ordered-port s port items rest from ordered,
      )
  | false ↦ λ e. ordered-port s port items rest from ordered
] refl

ordered-ports : (s port : ℕ) (lists : List (List Item)) → AreOrdered (at_ports port (map (items_with s) lists))
ordered-ports s port [] = tt
ordered-ports s port (l ∷ lists) = ordered-port s port l _ (from-ports s (port + 1) (port + 1) lists (omega arith)) (ordered-ports s (port + 1) lists)

precedes-later : (n p : ℕ) (x : Input) (ys : List Input) → x.1.stamp.0 ≤ n → AreFrom (suc n) p ys → PrecedesAll x ys
precedes-later n p x [] le from = tt
precedes-later n p x (y ∷ ys) le from =
    let later : y.1.stamp.0 ≡ suc n = from.0.0 in
    (inl (omega arith), precedes-later n p x ys le from.1)

ordered-later : (n p : ℕ) (xs ys : List Input) → StampsUpTo of_input n xs → AreOrdered xs → AreFrom (suc n) p ys → AreOrdered ys → AreOrdered (xs ++ ys)
ordered-later n p [] ys up_to a from b = b
ordered-later n p (x ∷ xs) ys up_to a from b =
    (precedes-append x xs ys a.0 (precedes-later n p x ys up_to.0 from), ordered-later n p xs ys up_to.1 a.1 from b)

-- by stamp, and with one stamp by port
pub merged_ordered : (n : ℕ) (lists : List (List Item)) → AreOrdered (merged n lists)
merged_ordered zero lists = tt
merged_ordered (suc n) lists =
    rw (flat_map-append, append-nil)
    (ordered-later n 0 (merged n lists) (inputs_with (suc n) lists) (merged_up_to n lists) (merged_ordered n lists) (from-ports (suc n) 0 0 lists (omega arith)) (ordered-ports (suc n) 0 lists))

-- ---- each list is there

from_port-append : (k : ℕ) (xs ys : List Input) → from_port k (xs ++ ys) ≡ from_port k xs ++ from_port k ys
from_port-append k xs ys = rw (filter-append, map-append) refl

same-port : (k : ℕ) (items : List Item) → from_port k (at_port k items) ≡ items
same-port k [] = refl
same-port k (i ∷ items) = let same : (k == k) ≡ true = grind (arith, nat_tests) in rw same (ap (λ (l : List Item). i ∷ l) (same-port k items))

other-port : (k port : ℕ) (items : List Item) → k < port → from_port k (at_port port items) ≡ []
other-port k port [] lt = refl
other-port k port (i ∷ items) lt = let other : (port == k) ≡ false = grind (arith, nat_tests) in rw other (other-port k port items lt)

lower-port : (k port : ℕ) (items : List Item) → port < k → from_port k (at_port port items) ≡ []
lower-port k port [] lt = refl
lower-port k port (i ∷ items) lt = let other : (port == k) ≡ false = grind (arith, nat_tests) in rw other (lower-port k port items lt)

no-port : (k port : ℕ) (lists : List (List Item)) → k < port → from_port k (at_ports port lists) ≡ []
no-port k port [] lt = refl
no-port k port (l ∷ lists) lt = from_port-append k (at_port port l) (at_ports (port + 1) lists) ∙ rw (other-port k port l lt) (no-port k (port + 1) lists (omega arith))

-- at the port of a list stands this list
at-port : (k i port : ℕ) (lists : List (List Item)) → k ≡ port + i → from_port k (at_ports port lists) ≡ get_or lists i []
at-port k i port [] e = refl
at-port k zero port (l ∷ lists) e =
    let same : port ≡ k = omega arith in
    from_port-append k (at_port port l) (at_ports (port + 1) lists)
    ∙ rw (same, same-port k l, no-port k (k + 1) lists (omega arith)) (append-nil l)
at-port k (suc i) port (l ∷ lists) e =
    from_port-append k (at_port port l) (at_ports (port + 1) lists)
    ∙ rw (lower-port k port l (omega arith)) (at-port k i (port + 1) lists (omega arith))

get-with : (s i : ℕ) (lists : List (List Item)) → get_or (map (items_with s) lists) i [] ≡ items_with s (get_or lists i [])
get-with s i [] = refl
get-with s zero (l ∷ lists) = refl
get-with s (suc i) (l ∷ lists) = get-with s i lists

merged-port : (k n : ℕ) (lists : List (List Item)) → from_port k (merged n lists) ≡ flat_map (λ s. items_with s (get_or lists k [])) (stamps n)
merged-port k zero lists = refl
merged-port k (suc n) lists =
    ap (from_port k) (flat_map-append (λ s. inputs_with s lists) (stamps n) (suc n ∷ []))
    ∙ from_port-append k (merged n lists) (inputs_with (suc n) lists ++ [])
    ∙ rw (append-nil, merged-port k n lists, at-port k k 0 (map (items_with (suc n)) lists) (omega arith), get-with (suc n) k lists)
    (sym (flat_map-append (λ s. items_with s (get_or lists k [])) (stamps n) (suc n ∷ [])
    ∙ ap (λ (l : List Item). flat_map (λ s. items_with s (get_or lists k [])) (stamps n) ++ l) (append-nil (items_with (suc n) (get_or lists k [])))))

-- each list is what came at its port, where its stamps are those of n points and don't fall
pub merged_has : (n k : ℕ) (lists : List (List Item)) → IsStream of_item n (get_or lists k []) → from_port k (merged n lists) ≡ get_or lists k []
merged_has n k lists is = merged-port k n lists ∙ stream_by_stamp of_item n (get_or lists k []) is

-- ---- what nodes give out are such lists

precedes-all-from : (s : ℕ) (x : Input) (xs : List Input) → s ≤ x.1.stamp.0 → PrecedesAll x xs → StampsFrom of_input s xs
precedes-all-from s x [] le h = tt
precedes-all-from s x (y ∷ xs) le h = (
  ⊎_elim (λ (p : x.1.stamp.0 < y.1.stamp.0). omega arith) (λ (q : (x.1.stamp.0 ≡ y.1.stamp.0) × (x.0 ≤ y.0)). let same = q.0 in omega arith) h.0,
  precedes-all-from s x xs le h.1,
)

ordered-rises : (xs : List Input) → AreOrdered xs → StampsRise of_input xs
ordered-rises [] ordered = tt
ordered-rises (x ∷ xs) ordered = (precedes-all-from x.1.stamp.0 x xs (omega arith) ordered.0, ordered-rises xs ordered.1)

are-from-all : (s t p : ℕ) (xs : List Input) → s ≤ t → AreFrom t p xs → StampsFrom of_input s xs
are-from-all s t p [] le from = tt
are-from-all s t p (x ∷ xs) le from = let same = from.0.0 in ((omega arith), are-from-all s t p xs le from.1)

merged-from : (n : ℕ) (lists : List (List Item)) → StampsFrom of_input 1 (merged n lists)
merged-from zero lists = tt
merged-from (suc n) lists =
    rw (flat_map-append, append-nil) (from_append of_input 1 (merged n lists) _ (merged-from n lists) (are-from-all 1 (suc n) 0 _ (omega arith) (from-ports (suc n) 0 0 lists (omega arith))))

module _ (life node : ℕ) (answer : Answer) (stamped : (before : List Input) (x : Input) → IsStamped life node x.1.stamp.0 (answer before x)) where
  -- what a node gives for merged lists
  pub given-stream : (n : ℕ) (lists : List (List Item)) → GivenStream n (given answer (merged n lists))
  given-stream n lists =
      let from = after_from life node answer stamped 1 [] (merged n lists) (merged-from n lists) in
      let up_to = after_up_to life node answer stamped n [] (merged n lists) (merged_up_to n lists) in
      let rises = after_rises life node answer stamped [] (merged n lists) (ordered-rises (merged n lists) (merged_ordered n lists)) in
      record {
        items = record { from_one = from.items; up_to = up_to.items; rising = rises.items };
        effects = record { from_one = from.effects; up_to = up_to.effects; rising = rises.effects };
      }

module _ {P : Type 0} (answer : P → Answer) (life number : P → ℕ) (stamped : (p : P) (before : List Input) (x : Input) → IsStamped (life p) (number p) x.1.stamp.0 (answer p before x)) where
  behind-stream : (n : ℕ) (points : List Item) (earlier : List Given) (nodes : List (Placed P)) (k : ℕ) → GivenStream n (get_or (gives_behind answer n points earlier nodes) k nothing)
  behind-stream n points earlier [] k = record { items = record { from_one = tt; up_to = tt; rising = tt }; effects = record { from_one = tt; up_to = tt; rising = tt } }
  behind-stream n points earlier (node ∷ nodes) zero = given-stream (life node.spec) (number node.spec) (answer node.spec) (stamped node.spec) n (lists_of points (outs_of earlier) node.parents)
  behind-stream n points earlier (node ∷ nodes) (suc k) = behind-stream n points (earlier ++ node_gives answer n points earlier node ∷ []) nodes k

  -- what each node of a graph gives
  pub gives_are_streams : (points : List PointValue) (nodes : List (Placed P)) (k : ℕ) → GivenStream (length points) (get_or (graph_gives answer points nodes) k nothing)
  gives_are_streams points nodes k = behind-stream (length points) (stamped_from 1 points) [] nodes k

  out-of : (gives : List Given) (k : ℕ) → get_or (outs_of gives) k [] ≡ (get_or gives k nothing).items
  out-of [] k = refl
  out-of (g ∷ gives) zero = refl
  out-of (g ∷ gives) (suc k) = out-of gives k

  -- what each node of a graph gives out
  pub outs_are_streams : (points : List PointValue) (nodes : List (Placed P)) (k : ℕ) → IsStream of_item (length points) (get_or (outs_of (graph_gives answer points nodes)) k [])
  outs_are_streams points nodes k =
      subst (λ (items : List Item). IsStream of_item (length points) items) (sym (out-of (graph_gives answer points nodes) k)) (gives_are_streams points nodes k).items

  -- the effects of each node, stamp by stamp, are all that it gives
  pub effects_by_stamp : (points : List PointValue) (nodes : List (Placed P)) (k : ℕ)
      → flat_map (λ s. effects_with s (get_or (graph_gives answer points nodes) k nothing).effects) (stamps (length points)) ≡ (get_or (graph_gives answer points nodes) k nothing).effects
  effects_by_stamp points nodes k = stream_by_stamp of_effect (length points) (get_or (graph_gives answer points nodes) k nothing).effects (gives_are_streams points nodes k).effects

  -- ---- each node by its parents

  out-early : (earlier later : List Given) (i : ℕ) → i < length earlier → get_or (outs_of (earlier ++ later)) i [] ≡ get_or (outs_of earlier) i []
  out-early [] later i lt = absurd (omega arith)
  out-early (g ∷ earlier) later zero lt = refl
  out-early (g ∷ earlier) later (suc i) lt = out-early earlier later i (omega arith)

  picked-early : (earlier later : List Given) (ps : List ℕ) → AreBelow (length earlier) ps → map (λ i. get_or (outs_of (earlier ++ later)) i []) ps ≡ map (λ i. get_or (outs_of earlier) i []) ps
  picked-early earlier later [] below = refl
  picked-early earlier later (p ∷ ps) below = rw (out-early earlier later p below.0, picked-early earlier later ps below.1) refl

  lists-early : (points : List Item) (earlier later : List Given) (ps : List ℕ) → AreBelow (length earlier) ps → lists_of points (outs_of (earlier ++ later)) ps ≡ lists_of points (outs_of earlier) ps
  lists-early points earlier later [] below = refl
  lists-early points earlier later (p ∷ ps) below = picked-early earlier later (p ∷ ps) below

  length-one : (earlier : List Given) (g : Given) → length (earlier ++ g ∷ []) ≡ suc (length earlier)
  length-one [] g = refl
  length-one (x ∷ earlier) g = ap suc (length-one earlier g)

  get-here : (earlier : List Given) (g : Given) (later : List Given) → get_or (earlier ++ g ∷ later) (length earlier) nothing ≡ g
  get-here [] g later = refl
  get-here (x ∷ earlier) g later = get-here earlier g later

  behind-parents : (n : ℕ) (points : List Item) (earlier : List Given) (nodes : List (Placed P)) (at i : ℕ) (d : Placed P) → at ≡ length earlier → i < length nodes → AreBelow (at + i) (get_or nodes i d).parents
      → get_or (earlier ++ gives_behind answer n points earlier nodes) (at + i) nothing ≡ node_gives answer n points (earlier ++ gives_behind answer n points earlier nodes) (get_or nodes i d)
  behind-parents n points earlier [] at i d is lt below = absurd (omega arith)
  behind-parents n points earlier (node ∷ nodes) at zero d is lt below =
      let g = node_gives answer n points earlier node in
      let later = gives_behind answer n points (earlier ++ g ∷ []) nodes in
      let here : at + 0 ≡ length earlier = omega arith in
      ap (λ (k : ℕ). get_or (earlier ++ g ∷ later) k nothing) here
      ∙ get-here earlier g later
      ∙ ap (λ (ls : List (List Item)). given (answer node.spec) (merged n ls)) (sym (lists-early points earlier (g ∷ later) node.parents (subst (λ (k : ℕ). AreBelow k node.parents) here below)))
  behind-parents n points earlier (node ∷ nodes) at (suc i) d is lt below =
      let g = node_gives answer n points earlier node in
      let later = gives_behind answer n points (earlier ++ g ∷ []) nodes in
      let next : at + suc i ≡ suc at + i = omega arith in
      let whole : earlier ++ g ∷ [] ++ later ≡ earlier ++ g ∷ later = append_assoc earlier (g ∷ []) later in
      let rest = behind-parents n points (earlier ++ g ∷ []) nodes (suc at) i d (ap suc is ∙ sym (length-one earlier g)) (omega arith) (subst (λ (k : ℕ). AreBelow k (get_or nodes i d).parents) next below) in
      ap (λ (k : ℕ). get_or (earlier ++ g ∷ later) k nothing) next
      ∙ subst (λ (gs : List Given). get_or gs (suc at + i) nothing ≡ node_gives answer n points gs (get_or nodes i d)) whole rest

  -- what a node gives is its function of what its parents give out, merged
  pub gives_by_parents : (points : List PointValue) (nodes : List (Placed P)) (i : ℕ) (d : Placed P) → i < length nodes → AreBelow i (get_or nodes i d).parents
      → get_or (graph_gives answer points nodes) i nothing ≡ node_gives answer (length points) (stamped_from 1 points) (graph_gives answer points nodes) (get_or nodes i d)
  gives_by_parents points nodes i d lt below =
      let same : 0 + i ≡ i = omega arith in
      subst (λ (k : ℕ). get_or (graph_gives answer points nodes) k nothing ≡ node_gives answer (length points) (stamped_from 1 points) (graph_gives answer points nodes) (get_or nodes i d)) same
      (behind-parents (length points) (stamped_from 1 points) [] nodes 0 i d refl lt (subst (λ (k : ℕ). AreBelow k (get_or nodes i d).parents) (sym same) below))
