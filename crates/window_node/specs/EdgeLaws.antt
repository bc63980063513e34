-- What a window with edges keeps is what its definition asks of the whole list.
use Rattle.std.specs.Prelude.{◌≡◌, ℕ, zero, suc, ◌%◌, ◌<◌, true, false, cond, List, [], ◌∷◌, ◌++◌, filter, Option, Some, refl}
use Rattle.std.specs.Prelude.{ℤ, pos, negsuc, ◌+ℤ◌, ◌-ℤ◌, ◌≤ℤ◌, ◌<ℤ◌, int_le}
use Rattle.std.proofs.Common.{sym, ap, ◌∙◌, arith}
use Rattle.std.specs.Int.{int_rem_euclid}
use Rattle.std.proofs.lemmas.Int.{ints}
use Rattle.kap_base.specs.Points.{PointValue}
use Rattle.kap_base.specs.Times.{trunc, year_one}
use Rattle.node_core.specs.declared.said.Said.{Said}
use Rattle.node_core.specs.Groups.{Came}
use Rattle.node_core.specs.Laws.{filter-append}
use Rattle.node_core.specs.Meaning.{Turn}
use Rattle.window_node.specs.declared.edges.EdgeWindow.{EdgeWindow}
use Rattle.window_node.specs.Batches.{points_in, times}
use Rattle.window_node.specs.Edges.{truncated, following, first_edge, next_edge, edge_behind, edge_of, is_live, takes, emitted, edge_says, edges_say, EdgeKept, edge_kept, edges_kept, still_live, edge_step}
use Rattle.window_node.specs.Lists.{le_fact, le_test, and_first, one_of, filter_twice, points_more}

-- ---- truncated times

-- a remainder is below the divisor
pub remainder_high : (z : ℤ) (d : ℕ) → int_rem_euclid z (pos (suc d)) <ℤ pos (suc d)
remainder_high (pos a) d = let lt : a % suc d < suc d = omega arith in omega (arith, ints)
remainder_high (negsuc a) d = let lt : a % suc d < suc d = omega arith in omega (arith, ints)

-- no duration lies from a truncated time to the time
pub truncated_near : (time : ℤ) (d : ℕ) → time ≤ℤ (truncated (time +ℤ pos d) d)
unfolding trunc
truncated_near time zero = omega (arith, ints)
truncated_near time (suc d) =
    let high = remainder_high ((time +ℤ pos (suc d)) -ℤ year_one) d in omega (arith, ints, high)

-- ---- edges

-- the next edge isn't before the point
pub behind_point : (w : EdgeWindow) (time : ℤ) → time ≤ℤ following w time
behind_point w time = one_of (λ e. time ≤ℤ e) w.align _ _ (truncated_near time w.every) (omega (arith, ints))

-- the next edge behind one point more
pub edge_more : (w : EdgeWindow) (edge : ℤ) (ps : List PointValue) (p : PointValue)
    → edge_behind w edge (times (ps ++ p ∷ [])) ≡ next_edge w (edge_behind w edge (times ps)) p.time
edge_more w edge [] p = refl
edge_more w edge (q ∷ ps) p = edge_more w (next_edge w edge q.time) ps p

-- ---- live points

later_le : (edge time next period t : ℤ) → edge ≤ℤ time → time ≤ℤ next → (next -ℤ period) ≤ℤ t
    → int_le (edge -ℤ period) t ≡ true
later_le edge time next period t a b c = le_test (edge -ℤ period) t (omega (arith, ints))

-- what a later edge can take, the edge before it can take
live_before : (w : EdgeWindow) (edge : ℤ) (p q : PointValue) → int_le edge p.time ≡ true
    → is_live w (following w p.time) q ≡ true → is_live w edge q ≡ true
live_before w edge p q passed live =
    later_le edge p.time (following w p.time) (pos w.period) q.time (le_fact edge p.time passed) (behind_point w p.time)
    (le_fact (following w p.time -ℤ pos w.period) q.time live)

-- a point that a later edge can take is kept, and no other
pub live_is : (w : EdgeWindow) (edge : ℤ) (p : PointValue) (before : List PointValue)
    → still_live w edge p (filter (is_live w edge) before)
    ≡ filter (is_live w (next_edge w edge p.time)) (before ++ p ∷ [])
unfolding next_edge
live_is w edge p before =
    elim (int_le edge p.time) as (λ b. int_le edge p.time ≡ b
    → cond b (filter (is_live w (following w p.time)) (filter (is_live w edge) before)
    ++ filter (is_live w (following w p.time)) (p ∷ [])) (filter (is_live w edge) before
    ++ filter (is_live w edge) (p ∷ []))
    ≡ filter (is_live w (cond b (following w p.time) edge)) (before ++ p ∷ [])) [
      | true ↦ λ passed.
          ap (λ l. l ++ filter (is_live w (following w p.time)) (p ∷ []))
          (filter_twice _ _ (λ q live. live_before w edge p q passed live) before)
          ∙ sym (filter-append _ before (p ∷ []))
      | false ↦ λ passed. sym (filter-append _ before (p ∷ []))
    ] refl

-- an edge takes none but live points
pub emitted_live : (w : EdgeWindow) (edge : ℤ) (p : PointValue) (before : List PointValue)
    → emitted w edge p (filter (is_live w edge) before) ≡ emitted w edge p before
emitted_live w edge p before =
    rw (filter_twice (takes w edge) (is_live w edge) (λ q both. and_first _ _ both) before) refl

-- ---- the machine goes on as the definition says

-- a turn, by its parts
abbrev turn_to : ℤ → ℤ → List PointValue → Said → Turn (Option EdgeKept)
turn_to first edge live said = record { state = Some (record { first = first; edge = edge; live = live }); said = said }

edges_go_on : (w : EdgeWindow) (before : List PointValue) (port : ℕ) (p : PointValue)
    → edge_step w (edges_kept w before) port p
    ≡ record { state = edges_kept w (before ++ p ∷ []); said = edges_say w before p }
edges_go_on w [] port p = refl
edges_go_on w (q ∷ qs) port p =
    let edge = edge_of w q qs in
    let live = filter (is_live w edge) (q ∷ qs) in
    ap (λ (l : List PointValue). turn_to q.time (next_edge w edge p.time) l (emitted w edge p live))
    (live_is w edge p (q ∷ qs))
    ∙ ap (λ (e : ℤ). turn_to q.time e (filter (is_live w e) (q ∷ (qs ++ p ∷ []))) (emitted w edge p live))
    (sym (edge_more w (first_edge w q.time) qs p))
    ∙ ap (turn_to q.time (edge_of w q (qs ++ p ∷ []))
    (filter (is_live w (edge_of w q (qs ++ p ∷ []))) (q ∷ (qs ++ p ∷ [])))) (emitted_live w edge p (q ∷ qs))

-- what is kept, and what is said, of one point more
pub edge_goes_on : (w : EdgeWindow) (before : List Came) (port : ℕ) (p : PointValue)
    → edge_step w (edge_kept w before) port p
    ≡ record { state = edge_kept w (before ++ (port, p) ∷ []); said = edge_says w before port p }
edge_goes_on w before port p = rw (points_more before port p) (edges_go_on w (points_in before) port p)
