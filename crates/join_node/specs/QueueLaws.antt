-- Sets and queues: what waits behind full sets, and what a point makes of it.
use Rattle.std.proofs.Common.{◌≡◌, ℕ, zero, suc, ◌+◌, ◌-◌, ◌<◌, ◌==◌, Bool, true, false, cond, ◌&&◌, not, List, [], ◌∷◌, ◌++◌, map, filter, length, replicate, Option, Some, None, is_some, slice_get, refl, sym, ap, ◌∙◌, arith, append-nil}
use Rattle.std.proofs.lemmas.List.{map-append}
use Rattle.std.proofs.lemmas.Bool.Decides.{nat_tests}
use Rattle.kap_base.specs.Points.{PointValue}
use Rattle.node_core.specs.Groups.{Came}
use Rattle.node_core.specs.Laws.{filter-append}
use Rattle.join_node.specs.Queues.{Placed, emptied, has_points, is_ready, place, push, rests, settled, waiting, waiting_in}
use Rattle.join_node.specs.Sets.{Columns, Set, columns, is_full, is_open, most, numbers_from, points_at, set_at, sets}

and-false : (a b : Bool) → b ≡ false → (a && b) ≡ false
and-false true b e = e
and-false false b e = refl

-- nothing is both true and false
pub no_both : (b : Bool) → b ≡ true → b ≡ false → ⊥
no_both b t f = absurd cc

-- ---- sets, one after the other

-- without the first points the numbers are lower by one
pub set_rest : (k : ℕ) (cols : Columns) → set_at (suc k) cols ≡ set_at k (rests cols)
set_rest k [] = refl
set_rest k ([] ∷ cols) = ap (λ (s : Set). None ∷ s) (set_rest k cols)
set_rest k ((p ∷ ps) ∷ cols) = ap (λ (s : Set). slice_get ps k ∷ s) (set_rest k cols)

numbers-map : {A : Type 0} (f : ℕ → A) (k n : ℕ)
    → map f (numbers_from (suc k) n) ≡ map (λ i. f (suc i)) (numbers_from k n)
numbers-map f k zero = refl
numbers-map f k (suc n) = ap (λ l. f (suc k) ∷ l) (numbers-map f (suc k) n)

most-rests : (cols : Columns) → most (rests cols) ≡ most cols - 1
most-rests [] = refl
most-rests ([] ∷ cols) = omega (arith, most-rests cols)
most-rests ((p ∷ ps) ∷ cols) = omega (arith, most-rests cols)

most-some : (cols : Columns) → has_points cols ≡ true → 0 < most cols
most-some [] e = absurd cc
most-some ([] ∷ cols) e = omega (arith, most-some cols e)
most-some ((p ∷ ps) ∷ cols) e = omega arith

most-none : (cols : Columns) → has_points cols ≡ false → most cols ≡ 0
most-none [] e = refl
most-none ([] ∷ cols) e = omega (arith, most-none cols e)
most-none ((p ∷ ps) ∷ cols) e = absurd cc

-- the first set, and the others
pub sets_next : (cols : Columns) → has_points cols ≡ true → sets cols ≡ set_at 0 cols ∷ sets (rests cols)
sets_next cols e =
    let long : most cols ≡ suc (most (rests cols)) = omega (arith, most-some cols e, most-rests cols) in
    ap (λ (n : ℕ). map (λ k. set_at k cols) (numbers_from 0 n)) long
    ∙ ap (λ (l : List Set). set_at 0 cols ∷ l) (numbers-map (λ k. set_at k cols) 0 (most (rests cols))
    ∙ (λ i. map (λ k. set_rest k cols i) (numbers_from 0 (most (rests cols)))))

-- where no parent has a point there are no sets
pub sets_none : (cols : Columns) → has_points cols ≡ false → sets cols ≡ []
sets_none cols e = ap (λ (n : ℕ). map (λ k. set_at k cols) (numbers_from 0 n)) (most-none cols e)

-- ---- full sets, and open ones

-- where the first set isn't full, none is
not_full : (k : ℕ) (cols : Columns) → is_ready cols ≡ false → is_full (set_at k cols) ≡ false
not_full k [] e = absurd cc
not_full k ([] ∷ cols) e = refl
not_full k ((p ∷ ps) ∷ cols) e =
    and-false (is_some (slice_get (p ∷ ps) k)) (is_full (set_at k cols)) (not_full k cols e)

first_open : (s : Set) (ss : List Set) → is_full s ≡ false → filter is_open (s ∷ ss) ≡ s ∷ filter is_open ss
first_open s ss e = ap (λ (b : Bool). cond (not b) (s ∷ filter is_open ss) (filter is_open ss)) e

first_full : (s : Set) (ss : List Set) → is_full s ≡ true → filter is_open (s ∷ ss) ≡ filter is_open ss
first_full s ss e = ap (λ (b : Bool). cond (not b) (s ∷ filter is_open ss) (filter is_open ss)) e

all_open : (cols : Columns) → is_ready cols ≡ false → (ks : List ℕ)
    → filter is_open (map (λ k. set_at k cols) ks) ≡ map (λ k. set_at k cols) ks
all_open cols e [] = refl
all_open cols e (k ∷ ks) = first_open (set_at k cols) (map (λ k. set_at k cols) ks) (not_full k cols e)
    ∙ ap (λ (l : List Set). set_at k cols ∷ l) (all_open cols e ks)

open_in : (ps : List PointValue) (others : Columns) → filter is_open (sets (ps ∷ others)) ≡ sets (waiting_in ps others)
open_in [] others = all_open ([] ∷ others) refl (numbers_from 0 (most ([] ∷ others)))
open_in (p ∷ ps) others =
    elim (is_ready others) as
    (λ b. is_ready others ≡ b
    → filter is_open (sets ((p ∷ ps) ∷ others))
    ≡ sets (cond b (waiting_in ps (rests others)) ((p ∷ ps) ∷ others))) [
      | true ↦ λ e. ap (filter is_open) (sets_next ((p ∷ ps) ∷ others) refl)
          ∙ first_full (set_at 0 ((p ∷ ps) ∷ others)) (sets (ps ∷ rests others)) e
          ∙ open_in ps (rests others)
      | false ↦ λ e. all_open ((p ∷ ps) ∷ others) e (numbers_from 0 (most ((p ∷ ps) ∷ others)))
    ] refl

-- The sets that aren't full are those of the points that wait.
pub open_wait : (cols : Columns) → filter is_open (sets cols) ≡ sets (waiting cols)
open_wait [] = refl
open_wait (ps ∷ others) = open_in ps others

-- ---- a point behind those of its parent

-- how many points the parent has
abbrev pub len_at : ℕ → Columns → ℕ
len_at port [] = 0
len_at zero (ps ∷ cols) = length ps
len_at (suc port) (ps ∷ cols) = len_at port cols

ready_push : (q : ℕ) (p : PointValue) (cols : Columns) → is_ready cols ≡ true → is_ready (push q p cols) ≡ true
ready_push q p [] e = refl
ready_push zero p ([] ∷ cols) e = absurd cc
ready_push zero p ((x ∷ ps) ∷ cols) e = e
ready_push (suc q) p ([] ∷ cols) e = absurd cc
ready_push (suc q) p ((x ∷ ps) ∷ cols) e = ready_push q p cols e

rests_push : (q : ℕ) (p : PointValue) (cols : Columns) → is_ready cols ≡ true
    → rests (push q p cols) ≡ push q p (rests cols)
rests_push q p [] e = refl
rests_push zero p ([] ∷ cols) e = absurd cc
rests_push zero p ((x ∷ ps) ∷ cols) e = refl
rests_push (suc q) p ([] ∷ cols) e = absurd cc
rests_push (suc q) p ((x ∷ ps) ∷ cols) e = ap (λ (l : Columns). ps ∷ l) (rests_push q p cols e)

-- where it makes the first set full, its parent had no point
first_push : (q : ℕ) (p : PointValue) (cols : Columns) → is_ready cols ≡ false → is_ready (push q p cols) ≡ true
    → len_at q cols ≡ 0
first_push q p [] e f = refl
first_push zero p ([] ∷ cols) e f = refl
first_push zero p ((x ∷ ps) ∷ cols) e f = absurd (no_both (is_ready cols) f e)
first_push (suc q) p ([] ∷ cols) e f = absurd cc
first_push (suc q) p ((x ∷ ps) ∷ cols) e f = first_push q p cols e f

spent_push : (q : ℕ) (p : PointValue) (cols : Columns) → is_ready cols ≡ false → is_ready (push q p cols) ≡ true
    → is_ready (rests (push q p cols)) ≡ false
spent_push q p [] e f = absurd cc
spent_push zero p ([] ∷ cols) e f = refl
spent_push zero p ((x ∷ ps) ∷ cols) e f = absurd (no_both (is_ready cols) f e)
spent_push (suc q) p ([] ∷ cols) e f = absurd cc
spent_push (suc q) p ((x ∷ ps) ∷ cols) e f =
    and-false (is_some (slice_get ps 0)) (is_ready (rests (push q p cols))) (spent_push q p cols e f)

ready_len : (q : ℕ) (cols : Columns) → is_ready cols ≡ true → q < length cols
    → len_at q cols ≡ suc (len_at q (rests cols))
ready_len q [] e lt = absurd (omega arith)
ready_len zero ([] ∷ cols) e lt = absurd cc
ready_len zero ((x ∷ ps) ∷ cols) e lt = refl
ready_len (suc q) ([] ∷ cols) e lt = absurd cc
ready_len (suc q) ((x ∷ ps) ∷ cols) e lt = ready_len q cols e (omega arith)

length-rests : (cols : Columns) → length (rests cols) ≡ length cols
length-rests [] = refl
length-rests (ps ∷ cols) = ap suc (length-rests cols)

-- ---- what a point makes of what waits

abbrev placed : Columns → Option Set → Placed
placed queues filled = record { queues = queues; filled = filled }

settled_waits : (cols : Columns) → is_ready cols ≡ false → settled cols ≡ placed cols None
settled_waits cols e = ap (λ (b : Bool). cond b (placed (rests cols) (Some (set_at 0 cols))) (placed cols None)) e

-- a set, where it is full
abbrev pub if_full : Set → Option Set
if_full s = cond (is_full s) (Some s) None

is_some_full : (s : Set) → is_full s ≡ true → if_full s ≡ Some s
is_some_full s e = ap (λ (b : Bool). cond b (Some s) None) e

is_no_full : (s : Set) → is_full s ≡ false → if_full s ≡ None
is_no_full s e = ap (λ (b : Bool). cond b (Some s) None) e

waits_first : (ps : List PointValue) (others : Columns) → is_ready others ≡ false → waiting_in ps others ≡ ps ∷ others
waits_first [] others e = refl
waits_first (p ∷ ps) others e = ap (λ (b : Bool). cond b (waiting_in ps (rests others)) ((p ∷ ps) ∷ others)) e

waits_more : (p : PointValue) (ps : List PointValue) (others : Columns) → is_ready others ≡ true
    → waiting_in (p ∷ ps) others ≡ waiting_in ps (rests others)
waits_more p ps others e = ap (λ (b : Bool). cond b (waiting_in ps (rests others)) ((p ∷ ps) ∷ others)) e

-- of the first parent
place_first : (p : PointValue) (ps : List PointValue) (others : Columns)
    → place 0 p (waiting_in ps others)
    ≡ placed (waiting_in (ps ++ p ∷ []) others) (if_full (set_at (length ps) ((ps ++ p ∷ []) ∷ others)))
place_first p [] others =
    let s : Set = Some p ∷ set_at 0 others in
    elim (is_ready others) as
    (λ b. ◌≡◌ {A = Placed} (cond b (placed ([] ∷ rests others) (Some s)) (placed ((p ∷ []) ∷ others) None))
    (placed (cond b ([] ∷ rests others) ((p ∷ []) ∷ others)) (cond b (Some s) None))) [
      | true ↦ refl
      | false ↦ refl
    ]
place_first p (x ∷ ps) others =
    let more : Columns = (x ∷ (ps ++ p ∷ [])) ∷ others in
    elim (is_ready others) as
    (λ b. is_ready others ≡ b → ◌≡◌ {A = Placed} (place 0 p (cond b (waiting_in ps (rests others)) ((x ∷ ps) ∷ others)))
    (placed (cond b (waiting_in (ps ++ p ∷ []) (rests others)) more) (if_full (set_at (suc (length ps)) more)))) [
      | true ↦ λ e. place_first p ps (rests others)
          ∙ ap (λ (s : Set). placed (waiting_in (ps ++ p ∷ []) (rests others)) (if_full s))
          (sym (set_rest (length ps) more))
      | false ↦ λ e. settled_waits more e
          ∙ ap (λ (o : Option Set). placed more o)
          (sym (is_no_full (set_at (suc (length ps)) more) (not_full (suc (length ps)) more e)))
    ] refl

-- of a later one
place_later : (q : ℕ) (p : PointValue) (ps : List PointValue) (others : Columns) → q < length others
    → place (suc q) p (waiting_in ps others)
    ≡ placed (waiting_in ps (push q p others)) (if_full (set_at (len_at q others) (ps ∷ push q p others)))
place_later q p [] others lt = refl
place_later q p (x ∷ ps) others lt =
    let more : Columns = push q p others in
    let all : Columns = (x ∷ ps) ∷ more in
    elim (is_ready others) as
    (λ b. is_ready others ≡ b
    → ◌≡◌ {A = Placed} (place (suc q) p (cond b (waiting_in ps (rests others)) ((x ∷ ps) ∷ others)))
    (placed (waiting_in (x ∷ ps) more) (if_full (set_at (len_at q others) all)))) [
      | true ↦ λ e.
          let same : rests more ≡ push q p (rests others) = rests_push q p others e in
          let long : len_at q others ≡ suc (len_at q (rests others)) = ready_len q others e lt in
          let waits : waiting_in (x ∷ ps) more
          ≡ waiting_in ps (push q p (rests others)) = waits_more x ps more (ready_push q p others e)
          ∙ ap (waiting_in ps) same in
          let own : set_at (len_at q others) all ≡ set_at (len_at q (rests others)) (ps ∷ push q p (rests others)) =
          ap (λ (k : ℕ). set_at k all) long ∙ set_rest (len_at q (rests others)) all
          ∙ ap (λ (l : Columns). set_at (len_at q (rests others)) (ps ∷ l)) same in
          place_later q p ps (rests others) (omega (arith, length-rests others))
          ∙ sym (λ i. placed (waits i) (if_full (own i)))
      | false ↦ λ e.
          elim (is_ready more) as
          (λ r. is_ready more ≡ r
          → ◌≡◌ {A = Placed} (cond r (placed (ps ∷ rests more) (Some (set_at 0 all))) (placed all None))
          (placed (cond r (waiting_in ps (rests more)) all) (if_full (set_at (len_at q others) all)))) [
            | true ↦ λ r.
                let none : len_at q others ≡ 0 = first_push q p others e r in
                let full : if_full (set_at (len_at q others) all)
                ≡ Some (set_at 0 all) = ap (λ (k : ℕ). if_full (set_at k all)) none
                ∙ is_some_full (set_at 0 all) r in
                sym (λ i. placed (waits_first ps (rests more) (spent_push q p others e r) i) (full i))
            | false ↦ λ r. ap (λ (o : Option Set). placed all o)
                (sym (is_no_full (set_at (len_at q others) all) (not_full (len_at q others) all r)))
          ] refl
    ] refl

places : (q : ℕ) (p : PointValue) (cols : Columns) → q < length cols
    → place q p (waiting cols) ≡ placed (waiting (push q p cols)) (if_full (set_at (len_at q cols) (push q p cols)))
places q p [] lt = absurd (omega arith)
places zero p (ps ∷ others) lt = place_first p ps others
places (suc q) p (ps ∷ others) lt = place_later q p ps others (omega arith)

-- ---- of each parent its points

-- those of so many parents, from one on
abbrev pub columns_from : ℕ → ℕ → List Came → Columns
columns_from k n cs = map (λ port. points_at port cs) (numbers_from k n)

points-more : (port q : ℕ) (cs : List Came) (p : PointValue) → points_at port (cs ++ (q, p) ∷ []) ≡ points_at port cs
    ++ cond (q == port) (p ∷ []) []
points-more port q cs p =
    ap (map (λ (c : Came). c.1)) (filter-append (λ (c : Came). c.0 == port) cs ((q, p) ∷ []))
    ∙ map-append (λ (c : Came). c.1) (filter (λ (c : Came). c.0 == port) cs)
    (filter (λ (c : Came). c.0 == port) ((q, p) ∷ []))
    ∙ elim (q == port) as (λ b. points_at port cs
    ++ map (λ (c : Came). c.1) (cond b ((q, p) ∷ []) []) ≡ points_at port cs ++ cond b (p ∷ []) []) [
      | true ↦ refl
      | false ↦ refl
    ]

other_port : (q port : ℕ) → q < port → (q == port) ≡ false
other_port q port lt = grind (arith, nat_tests)

later_port : (q port j : ℕ) → q ≡ port + suc j → (q == port) ≡ false
later_port q port j is = grind (arith, nat_tests)

-- a test of equal ports is true
pub same_port : (q port : ℕ) → q ≡ port → (q == port) ≡ true
same_port q port is = grind (arith, nat_tests)

points-other : (port q : ℕ) (cs : List Came) (p : PointValue) → (q == port) ≡ false
    → points_at port (cs ++ (q, p) ∷ []) ≡ points_at port cs
points-other port q cs p e = points-more port q cs p ∙ ap (λ (b : Bool). points_at port cs ++ cond b (p ∷ []) []) e
    ∙ append-nil (points_at port cs)

-- a point of a parent comes behind those that the parent gave before
pub points_own : (port q : ℕ) (cs : List Came) (p : PointValue) → (q == port) ≡ true
    → points_at port (cs ++ (q, p) ∷ []) ≡ points_at port cs ++ p ∷ []
points_own port q cs p e = points-more port q cs p ∙ ap (λ (b : Bool). points_at port cs ++ cond b (p ∷ []) []) e

-- later parents have no more points
columns-below : (k n q : ℕ) (cs : List Came) (p : PointValue) → q < k
    → columns_from k n (cs ++ (q, p) ∷ []) ≡ columns_from k n cs
columns-below k zero q cs p lt = refl
columns-below k (suc n) q cs p lt =
    (λ i. points-other k q cs p (other_port q k lt) i ∷ columns-below (suc k) n q cs p (omega arith) i)

columns-at : (k n q j : ℕ) (cs : List Came) (p : PointValue) → q ≡ k + j → j < n
    → columns_from k n (cs ++ (q, p) ∷ []) ≡ push j p (columns_from k n cs)
columns-at k zero q j cs p is lt = absurd (omega arith)
columns-at k (suc n) q zero cs p is lt =
    (λ i. points_own k q cs p (same_port q k (omega arith)) i ∷ columns-below (suc k) n q cs p (omega arith) i)
columns-at k (suc n) q (suc j) cs p is lt =
    (λ i. points-other k q cs p (later_port q k j is) i ∷ columns-at (suc k) n q j cs p (omega arith) (omega arith) i)

columns-push : (n q : ℕ) (cs : List Came) (p : PointValue) → q < n
    → columns n (cs ++ (q, p) ∷ []) ≡ push q p (columns n cs)
columns-push n q cs p lt = columns-at 0 n q q cs p (omega arith) lt

length-columns : (k n : ℕ) (cs : List Came) → length (columns_from k n cs) ≡ n
length-columns k zero cs = refl
length-columns k (suc n) cs = ap suc (length-columns (suc k) n cs)

len-columns : (k n q j : ℕ) (cs : List Came) → q ≡ k + j → j < n
    → len_at j (columns_from k n cs) ≡ length (points_at q cs)
len-columns k zero q j cs is lt = absurd (omega arith)
len-columns k (suc n) q zero cs is lt = ap (λ (i : ℕ). length (points_at i cs)) (omega arith)
len-columns k (suc n) q (suc j) cs is lt = len-columns (suc k) n q j cs (omega arith) (omega arith)

-- With one more point: what waits, and the point's set, where it is full.
pub place_is : (n q : ℕ) (cs : List Came) (p : PointValue) → q < n
    → place q p (waiting (columns n cs)) ≡ record {
      queues = waiting (columns n (cs ++ (q, p) ∷ []));
      filled = if_full
          (set_at (length (points_at q cs)) (columns n (cs ++ (q, p) ∷ [])));
    }
place_is n q cs p lt =
    let more : push q p (columns n cs) ≡ columns n (cs ++ (q, p) ∷ []) = sym (columns-push n q cs p lt) in
    places q p (columns n cs) (omega (arith, length-columns 0 n cs))
    ∙ (λ i. placed (waiting (more i)) (if_full (set_at (len-columns 0 n q q cs (omega arith) lt i) (more i))))

-- ---- no points

none_at : (k n : ℕ) → columns_from k n [] ≡ replicate n []
none_at k zero = refl
none_at k (suc n) = ap (λ (l : Columns). [] ∷ l) (none_at (suc k) n)

none_wait : (n : ℕ) → waiting (replicate n []) ≡ replicate n []
none_wait zero = refl
none_wait (suc n) = refl

-- where nothing came, nothing waits
pub no_columns : (n : ℕ) → replicate n [] ≡ waiting (columns n [])
no_columns n = sym (ap waiting (none_at 0 n) ∙ none_wait n)

-- emptied queues are the same with and without their first points
pub emptied_rests : (cols : Columns) → emptied (rests cols) ≡ emptied cols
emptied_rests [] = refl
emptied_rests (ps ∷ cols) = ap (λ (l : Columns). [] ∷ l) (emptied_rests cols)

emptied-in : (ps : List PointValue) (others : Columns) → emptied (waiting_in ps others) ≡ [] ∷ emptied others
emptied-in [] others = refl
emptied-in (p ∷ ps) others =
    elim (is_ready others) as
    (λ b. emptied (cond b (waiting_in ps (rests others)) ((p ∷ ps) ∷ others)) ≡ [] ∷ emptied others) [
      | true ↦ emptied-in ps (rests others) ∙ ap (λ (l : Columns). [] ∷ l) (emptied_rests others)
      | false ↦ refl
    ]

emptied-waiting : (cols : Columns) → emptied (waiting cols) ≡ emptied cols
emptied-waiting [] = refl
emptied-waiting (ps ∷ others) = emptied-in ps others

emptied-columns : (k n : ℕ) (cs : List Came) → emptied (columns_from k n cs) ≡ replicate n []
emptied-columns k zero cs = refl
emptied-columns k (suc n) cs = ap (λ (l : Columns). [] ∷ l) (emptied-columns (suc k) n cs)

-- emptied queues are those where nothing came
pub emptied_is : (n : ℕ) (cs : List Came) → emptied (waiting (columns n cs)) ≡ waiting (columns n [])
emptied_is n cs = emptied-waiting (columns n cs) ∙ emptied-columns 0 n cs ∙ no_columns n
