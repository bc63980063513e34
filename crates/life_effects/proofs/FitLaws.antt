-- Behind any records the lives of a store fit its points.
use Rattle.std.proofs.Common.{◌≡◌, ℕ, ◌+◌, ◌≤◌, Bool, true, false, cond, List, [], ◌∷◌, ◌++◌, length, Option, None, Some, length-append, arith}
use Rattle.std.specs.Prelude.{IfSome}
use Rattle.std.specs.List.{list_any}
use Rattle.store_records.specs.Held.{Held, after, begun, end_life, ended, is_enabled, is_open_of, life_from, life_of, nothing, points_in, task_of}
use Rattle.store_records.specs.Histories.{held, held_from, next_gate}
use Rattle.store_records.specs.declared.rec.Rec.{Rec}
use Rattle.store_records.specs.declared.rec.Rec.TheVariants as kinds
use Rattle.store_records.specs.declared.task.Life.{Life}
use Rattle.store_records.specs.declared.task.StoredTask.{StoredTask}
use Rattle.life_effects.specs.Effects.{LifeFits, LivesFit}

last-more : (n m : ℕ) (last : Option ℕ) → n ≤ m → IfSome last (λ k. k ≤ n) → IfSome last (λ k. k ≤ m)
last-more n m None le h = tt
last-more n m (Some k) le h = let low : k ≤ n = h in omega (arith, low, le)

pub fits-more : (n m : ℕ) (lives : List Life) → n ≤ m → LivesFit n lives → LivesFit m lives
fits-more n m [] le h = tt
fits-more n m (life ∷ lives) le h =
    let low : life.first ≤ n + 1 = h.0.began in
    (record { first = h.0.first; began = omega (arith, low, le); ended = last-more n m life.last le h.0.ended }, fits-more n m lives le h.1)

fits-append : (n : ℕ) (xs ys : List Life) → LivesFit n xs → LivesFit n ys → LivesFit n (xs ++ ys)
fits-append n [] ys a b = b
fits-append n (x ∷ xs) ys a b = (a.0, fits-append n xs ys a.1 b)

fits-ended : (n : ℕ) (life : Life) → LifeFits n life → LifeFits n (record life { last = Some n })
fits-ended n life h = record { first = h.first; began = h.began; ended = omega arith }

fits-end : (id : List ℕ) (n : ℕ) (lives : List Life) → LivesFit n lives → LivesFit n (end_life id n lives)
fits-end id n [] h = tt
fits-end id n (life ∷ lives) h = elim (list_any (is_open_of id) lives) as (λ b. LivesFit n (cond b (life ∷ end_life id n lives) (cond (is_open_of id life) (record life { last = Some n }) life ∷ lives))) [
  | true ↦ (h.0, fits-end id n lives h.1)
  | false ↦ elim (is_open_of id life) as (λ b. LivesFit n (cond b (record life { last = Some n }) life ∷ lives)) [
    | true ↦ (fits-ended n life h.0, h.1)
    | false ↦ h
  ]
]

fits-from : (n : ℕ) (task : StoredTask) → LifeFits n (life_from n task)
fits-from n task = record { first = omega arith; began = omega arith; ended = tt }

fits-of : (n : ℕ) (task : Option StoredTask) → LivesFit n (life_of n task)
fits-of n None = tt
fits-of n (Some task) = elim (task.enabled) as (λ b. LivesFit n (cond b [] (life_from n task ∷ []))) [
  | true ↦ tt
  | false ↦ (fits-from n task, tt)
]

fits-begun : (n at : ℕ) (r : Rec) (tasks : List StoredTask) → LivesFit n (begun n at r tasks)
fits-begun n at (kinds.Define id script enabled) tasks = elim enabled as (λ b. LivesFit n (cond b (life_from n (record { id = id; script = script; enabled = b; define_at = at }) ∷ []) [])) [
  | true ↦ (fits-from n (record { id = id; script = script; enabled = true; define_at = at }), tt)
  | false ↦ tt
]
fits-begun n at (kinds.Enable id) tasks = fits-of n (task_of id tasks)
fits-begun n at (kinds.Disable id) tasks = tt
fits-begun n at (kinds.Delete id) tasks = tt
fits-begun n at (kinds.Batch db rp points) tasks = tt
fits-begun n at (kinds.Trans ts) tasks = tt
fits-begun n at (kinds.Snap points trans states) tasks = tt

fits-if : (b : Bool) (id : List ℕ) (n : ℕ) (lives : List Life) → LivesFit n lives → LivesFit n (cond b (end_life id n lives) lives)
fits-if true id n lives h = fits-end id n lives h
fits-if false id n lives h = h

fits-left : (n : ℕ) (r : Rec) (tasks : List StoredTask) (lives : List Life) → LivesFit n lives → LivesFit n (ended n r tasks lives)
fits-left n (kinds.Define id script enabled) tasks lives h = h
fits-left n (kinds.Enable id) tasks lives h = h
fits-left n (kinds.Disable id) tasks lives h = fits-if (is_enabled id tasks) id n lives h
fits-left n (kinds.Delete id) tasks lives h = fits-if (is_enabled id tasks) id n lives h
fits-left n (kinds.Batch db rp points) tasks lives h = h
fits-left n (kinds.Trans ts) tasks lives h = h
fits-left n (kinds.Snap points trans states) tasks lives h = h

-- behind one more record
pub fits_after : (h : Held) (at : ℕ) (r : Rec) → LivesFit (length h.points) h.lives → LivesFit (length (after h at r).points) (after h at r).lives
fits_after h at r fit =
    let n = length h.points in
    let long : length (h.points ++ points_in r) ≡ n + length (points_in r) = length-append h.points (points_in r) in
    fits-more n (length (h.points ++ points_in r)) (ended n r h.tasks h.lives ++ begun n at r h.tasks) (omega (arith, long))
    (fits-append n (ended n r h.tasks h.lives) (begun n at r h.tasks) (fits-left n r h.tasks h.lives fit) (fits-begun n at r h.tasks))

fits-behind : (h : Held) (at : ℕ) (rs : List Rec) → LivesFit (length h.points) h.lives → LivesFit (length (held_from h at rs).points) (held_from h at rs).lives
fits-behind h at [] fit = fit
fits-behind h at (r ∷ rs) fit = fits-behind (after h at r) (next_gate at r) rs (fits_after h at r fit)

-- behind any records
pub held_fits : (rs : List Rec) → LivesFit (length (held rs).points) (held rs).lives
held_fits rs = fits-behind nothing 8 rs tt
