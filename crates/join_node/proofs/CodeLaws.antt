-- What loops and calls do, as the machine says it.
use Rattle.std.proofs.Common.{◌≡◌, ℕ, zero, suc, ◌+◌, ◌<◌, true, false, List, [], ◌∷◌, ◌++◌, map, length, drop, take, set, get_or, Result, Ok, Err, OnOk, refl, sym, ap, ◌∙◌, arith, append_assoc, append-nil, flat_map, ℤ}
use Rattle.kap_base.proofs.LoopLaws.{same_there}
use Rattle.kap_base.specs.Points.{PointValue}
use Rattle.kap_base.specs.declared.items.Body.{Body}
use Rattle.task_graph.specs.declared.spec.JoinSpec.{JoinSpec}
use Rattle.join_node.specs.QueueLaws.{sets_next, sets_none}
use Rattle.join_node.specs.Queues.{has_points, push, rests}
use Rattle.join_node.specs.Results.{result_of}
use Rattle.join_node.specs.Sets.{Columns, Set, set_at, sets}

-- what is seen of the items up to one, and of that one
more-seen : {A B : Type 0} (g : A → B) (xs : List A) (i : ℕ) (d : A) → i < length xs → map g (take (suc i) xs) ≡ map g (take i xs) ++ g (get_or xs i d) ∷ []
more-seen g [] i d lt = absurd (omega arith)
more-seen g (x ∷ xs) zero d lt = refl
more-seen g (x ∷ xs) (suc i) d lt = ap (λ l. g x ∷ l) (more-seen g xs i d (omega arith))

pub seen : {A B : Type 0} (f : A → A) (g : A → B) (xs now : List A) (i : ℕ) (d : A) (old : List B) (new : B) → i < length xs
    → now ≡ map f (take i xs) ++ drop i xs → old ≡ map g (take i xs)
    → new ≡ g (get_or now i d) → old ++ new ∷ [] ≡ map g (take (i + 1) xs)
seen f g xs now i d old new lt is so_far made =
    let same : get_or now i d ≡ get_or xs i d = ap (λ l. get_or l i d) is ∙ same_there f xs i d lt in
    let one : suc i ≡ i + 1 = omega arith in
    (λ k. so_far k ++ (made ∙ ap g same) k ∷ []) ∙ sym (more-seen g xs i d lt) ∙ ap (λ (n : ℕ). map g (take n xs)) one

-- bytes in front of others stay
pub fronts : (a m n rest : List ℕ) → m ≡ a ++ rest → take (length m) n ≡ m → take (length a) n ≡ a
fronts [] m n rest is h = refl
fronts (x ∷ a) [] n rest is h = absurd cc
fronts (x ∷ a) (y ∷ m) [] rest is h = absurd cc
fronts (x ∷ a) (y ∷ m) (z ∷ n) rest is h =
    let first : z ≡ x = ap (λ l. get_or l 0 0) (h ∙ is) in
    let others : m ≡ a ++ rest = ap (drop 1) is in
    (λ k. first k ∷ fronts a m n rest others (ap (drop 1) h) k)

-- a point was put behind those of its parent
pushed : (port : ℕ) (p : PointValue) (queues : Columns) (d new : List PointValue) → port < length queues → new ≡ get_or queues port d ++ p ∷ []
    → set queues port new ≡ push port p queues
pushed port p [] d new lt is = absurd (omega arith)
pushed zero p (ps ∷ queues) d new lt is = ap (λ (l : List PointValue). l ∷ queues) is
pushed (suc port) p (ps ∷ queues) d new lt is = ap (λ (l : Columns). ps ∷ l) (pushed port p queues d new (omega arith) is)

pub pushed_ok : {A E : Type 0} (r : Result A E) (port : ℕ) (p : PointValue) (queues : Columns) (d new : List PointValue) → port < length queues
    → OnOk r (new ≡ get_or queues port d ++ p ∷ []) → OnOk r (set queues port new ≡ push port p queues)
pushed_ok (Ok x) port p queues d new lt is = pushed port p queues d new lt is
pushed_ok (Err e) port p queues d new lt is = is

-- or it has no parent
pub pushed_out : (port : ℕ) (p : PointValue) (queues : Columns) → (port < length queues → ⊥) → push port p queues ≡ queues
pushed_out port p [] out = refl
pushed_out zero p (ps ∷ queues) out = absurd (out (omega arith))
pushed_out (suc port) p (ps ∷ queues) out = ap (λ (l : Columns). ps ∷ l) (pushed_out port p queues (λ lt. out (omega arith)))

-- ---- the sets of queues, one after the other

pub sets_shorter : (queues others : Columns) → has_points queues ≡ true → others ≡ rests queues → length (sets others) < length (sets queues)
sets_shorter queues others some is = let next = ap length (sets_next queues some) in rw is (omega (arith, next))

pub sets_go_on : (j : JoinSpec) (time : ℤ) (queues others : Columns) (s : Set) (old new all : List Body) → has_points queues ≡ true → s ≡ set_at 0 queues
    → others ≡ rests queues → new ≡ old ++ result_of j time s
    → old ++ flat_map (result_of j time) (sets queues) ≡ all → new ++ flat_map (result_of j time) (sets others) ≡ all
sets_go_on j time queues others s old new all some own is more so_far =
    (λ i. (more ∙ ap (λ (x : Set). old ++ result_of j time x) own) i ++ flat_map (result_of j time) (sets (is i)))
    ∙ append_assoc old (result_of j time (set_at 0 queues)) (flat_map (result_of j time) (sets (rests queues)))
    ∙ ap (λ (l : List Set). old ++ flat_map (result_of j time) l) (sym (sets_next queues some))
    ∙ so_far

pub sets_end : (j : JoinSpec) (time : ℤ) (queues : Columns) (old all : List Body) → has_points queues ≡ false
    → old ++ flat_map (result_of j time) (sets queues) ≡ all → old ≡ all
sets_end j time queues old all none so_far = sym (append-nil old) ∙ ap (λ (l : List Set). old ++ flat_map (result_of j time) l) (sym (sets_none queues none))
    ∙ so_far
