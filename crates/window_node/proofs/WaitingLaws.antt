-- Which edge waits, and that all points so far are before it.
use Rattle.std.proofs.Common.{◌≡◌, ℕ, zero, suc, ◌<◌, Bool, true, false, cond, List, [], ◌∷◌, inl, inr, refl, sym, ap, subst, arith}
use Rattle.std.specs.Prelude.{ℤ, pos, ◌+ℤ◌, ◌-ℤ◌, ◌≤ℤ◌, ◌<ℤ◌, int_le}
use Rattle.std.specs.List.{All}
use Rattle.std.proofs.lemmas.Int.{ints}
use Rattle.std.proofs.lemmas.List.Elements.{All-nil, All-cons}
use Rattle.kap_base.specs.Points.{PointValue}
use Rattle.kap_base.specs.Times.{trunc, year_one}
use Rattle.window_node.specs.declared.edges.EdgeWindow.{EdgeWindow}
use Rattle.window_node.specs.Batches.{times}
use Rattle.window_node.specs.Edges.{truncated, following, first_edge, next_edge, edge_behind, edge_of}
use Rattle.window_node.specs.EdgeLaws.{remainder_high}
use Rattle.window_node.specs.Lists.{le_fact, above_fact, one_of}
use Rattle.window_node.specs.Waiting.{Waits}

-- ---- by which point it was set

-- a time at which the first edge waits, in front of others
waits_more : (w : EdgeWindow) (start t : ℤ) (ts : List ℤ) (edge : ℤ) → (b : Bool) → int_le start t ≡ b → Waits w (cond b (following w t) start) ts edge → Waits w start (t ∷ ts) edge
unfolding next_edge
waits_more w start t ts edge true e (inl h) = inr (record { before = []; time = t; behind = ts; parts = refl; emits = le_fact start t e; next = h.0; waits = h.1 })
waits_more w start t ts edge false e (inl h) =
    let below : t <ℤ edge = subst (λ (z : ℤ). t <ℤ z) (sym h.0) (above_fact start t e) in
    inl (h.0, All-cons (λ (x : ℤ). x <ℤ edge) t ts below h.1)
waits_more w start t ts edge b e (inr s) = inr (record {
  before = t ∷ s.before;
  time = s.time;
  behind = s.behind;
  parts = ap (λ (l : List ℤ). t ∷ l) s.parts;
  emits = subst (λ (c : Bool). edge_behind w (cond c (following w t) start) s.before ≤ℤ s.time) (sym e) s.emits;
  next = s.next;
  waits = s.waits;
})

waits : (w : EdgeWindow) (start : ℤ) (ts : List ℤ) → Waits w start ts (edge_behind w start ts)
unfolding next_edge
waits w start [] = inl (refl, All-nil (λ (x : ℤ). x <ℤ start))
waits w start (t ∷ ts) = waits_more w start t ts (edge_behind w start (t ∷ ts)) (int_le start t) refl (waits w (next_edge w start t) ts)

pub edge_waits : (w : EdgeWindow) (first : PointValue) (others : List PointValue) → Waits w (first_edge w first.time) (times others) (edge_of w first others)
edge_waits w first others = waits w (first_edge w first.time) (times others)

-- ---- all points are before it

-- less than a duration lies from a truncated time to the time
truncated_below : (time : ℤ) (d : ℕ) → 0 < d → time <ℤ (truncated time d +ℤ pos d)
unfolding trunc
truncated_below time zero h = absurd (omega arith)
truncated_below time (suc d) h = let high = remainder_high (time -ℤ year_one) d in omega (arith, ints, high)

behind_time : (w : EdgeWindow) (time : ℤ) → 0 < w.every → time <ℤ following w time
behind_time w time some =
    let near = truncated_below (time +ℤ pos w.every) w.every some in
    one_of (λ e. time <ℤ e) w.align _ _ (omega (arith, ints, near)) (omega (arith, ints))

behind_first : (w : EdgeWindow) (time : ℤ) → 0 < w.every → 0 < w.period → time <ℤ first_edge w time
behind_first w time some long =
    let near = truncated_below (time +ℤ pos w.period) w.every some in
    one_of (λ e. time <ℤ e) w.fill_period _ _ (one_of (λ e. time <ℤ e) w.align _ _ (omega (arith, ints, near)) (omega (arith, ints))) (behind_time w time some)

module _ (w : EdgeWindow) (some : 0 < w.every) where
  -- the next edge is behind the edge and the time
  rises : (edge time : ℤ) (b : Bool) → int_le edge time ≡ b → (edge ≤ℤ cond b (following w time) edge) × (time <ℤ cond b (following w time) edge)
  rises edge time true e = let le = le_fact edge time e in let lt = behind_time w time some in (omega (arith, ints), lt)
  rises edge time false e = (omega (arith, ints), above_fact edge time e)

  edge_rises : (edge time : ℤ) → (edge ≤ℤ next_edge w edge time) × (time <ℤ next_edge w edge time)
  unfolding next_edge
  edge_rises edge time = rises edge time (int_le edge time) refl

  rises_along : (edge : ℤ) (ts : List ℤ) → edge ≤ℤ edge_behind w edge ts
  rises_along edge [] = omega (arith, ints)
  rises_along edge (t ∷ ts) = let one = (edge_rises edge t).0 in let rest = rises_along (next_edge w edge t) ts in omega (arith, ints, one, rest)

  all_before : (edge : ℤ) (ts : List ℤ) → All (λ t. t <ℤ edge_behind w edge ts) ts
  all_before edge [] = All-nil (λ (x : ℤ). x <ℤ edge)
  all_before edge (t ∷ ts) =
      let one = (edge_rises edge t).1 in
      let rest = rises_along (next_edge w edge t) ts in
      All-cons (λ (x : ℤ). x <ℤ edge_behind w (next_edge w edge t) ts) t ts (omega (arith, ints, one, rest)) (all_before (next_edge w edge t) ts)

pub points_before : (w : EdgeWindow) (first : PointValue) (others : List PointValue) → 0 < w.every → 0 < w.period → All (λ t. t <ℤ edge_of w first others) (times (first ∷ others))
points_before w first others some long =
    let one = behind_first w first.time some long in
    let rest = rises_along w some (first_edge w first.time) (times others) in
    All-cons (λ (x : ℤ). x <ℤ edge_of w first others) first.time (times others) (omega (arith, ints, one, rest)) (all_before w some (first_edge w first.time) (times others))
