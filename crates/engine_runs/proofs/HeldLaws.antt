-- The lives of a store behind records: where they begin, and what they are later.
use Rattle.std.proofs.Common.{◌≡◌, ℕ, ◌+◌, ◌<◌, ◌≤◌, Bool, true, false, not, cond, List, [], ◌∷◌, ◌++◌, length, Option, None, Some, refl, sym, ap, subst, ◌∙◌, append-nil, append_assoc, length-append, arith}
use Rattle.std.specs.Prelude.{bytes_eq, is_some}
use Rattle.std.specs.List.{AllByRecursion as Each, list_any}
use Rattle.kap_base.proofs.TestLaws.{second_of}
use Rattle.kap_base.specs.Points.{PointValue}
use Rattle.life_effects.proofs.FitLaws.{fits_after}
use Rattle.life_effects.specs.Effects.{LifeFits, LivesFit}
use Rattle.store_records.specs.Held.{Held, after, begun, end_life, ended, is_enabled, is_open, is_open_of, life_from, life_of, nothing, points_in, task_of}
use Rattle.store_records.specs.Histories.{end_from, first_gate, held, held_from, next_gate}
use Rattle.store_records.specs.declared.rec.Rec.{Rec}
use Rattle.store_records.specs.declared.rec.Rec.TheVariants as kinds
use Rattle.store_records.specs.declared.task.Life.{Life}
use Rattle.store_records.specs.declared.task.StoredTask.{StoredTask}
use Rattle.engine_runs.specs.Later.{AreLater, IsLastLater, IsLater}
use Rattle.engine_runs.specs.Spans.{FirstsRise}
use Rattle.engine_runs.proofs.SpanLaws.{each_to}

-- ---- a life that ends keeps its first stamp

each-ended : (Q : ℕ → Type 0) (id : List ℕ) (n : ℕ) (lives : List Life) → Each (λ l. Q l.first) lives → Each (λ l. Q l.first) (end_life id n lives)
each-ended Q id n [] h = tt
each-ended Q id n (life ∷ lives) h = elim (list_any (is_open_of id) lives) as (λ b. Each (λ l. Q l.first) (cond b (life ∷ end_life id n lives) (cond (is_open_of id life) (record life { last = Some n }) life ∷ lives))) [
  | true ↦ (h.0, each-ended Q id n lives h.1)
  | false ↦ elim (is_open_of id life) as (λ b. Each (λ l. Q l.first) (cond b (record life { last = Some n }) life ∷ lives)) [
    | true ↦ h
    | false ↦ h
  ]
]

rise-ended : (id : List ℕ) (n : ℕ) (lives : List Life) → FirstsRise lives → FirstsRise (end_life id n lives)
rise-ended id n [] h = tt
rise-ended id n (life ∷ lives) h = elim (list_any (is_open_of id) lives) as (λ b. FirstsRise (cond b (life ∷ end_life id n lives) (cond (is_open_of id life) (record life { last = Some n }) life ∷ lives))) [
  | true ↦ (each-ended (λ m. life.first ≤ m) id n lives h.0, rise-ended id n lives h.1)
  | false ↦ elim (is_open_of id life) as (λ b. FirstsRise (cond b (record life { last = Some n }) life ∷ lives)) [
    | true ↦ h
    | false ↦ h
  ]
]

rise-if : (b : Bool) (id : List ℕ) (n : ℕ) (lives : List Life) → FirstsRise lives → FirstsRise (cond b (end_life id n lives) lives)
rise-if true id n lives h = rise-ended id n lives h
rise-if false id n lives h = h

rise-left : (n : ℕ) (r : Rec) (tasks : List StoredTask) (lives : List Life) → FirstsRise lives → FirstsRise (ended n r tasks lives)
rise-left n (kinds.Define id script enabled) tasks lives h = h
rise-left n (kinds.Enable id) tasks lives h = h
rise-left n (kinds.Disable id) tasks lives h = rise-if (is_enabled id tasks) id n lives h
rise-left n (kinds.Delete id) tasks lives h = rise-if (is_enabled id tasks) id n lives h
rise-left n (kinds.Batch db rp points) tasks lives h = h
rise-left n (kinds.Trans ts) tasks lives h = h
rise-left n (kinds.Snap points trans states) tasks lives h = h

each-if : (Q : ℕ → Type 0) (b : Bool) (id : List ℕ) (n : ℕ) (lives : List Life) → Each (λ l. Q l.first) lives → Each (λ l. Q l.first) (cond b (end_life id n lives) lives)
each-if Q true id n lives h = each-ended Q id n lives h
each-if Q false id n lives h = h

each-left : (Q : ℕ → Type 0) (n : ℕ) (r : Rec) (tasks : List StoredTask) (lives : List Life) → Each (λ l. Q l.first) lives → Each (λ l. Q l.first) (ended n r tasks lives)
each-left Q n (kinds.Define id script enabled) tasks lives h = h
each-left Q n (kinds.Enable id) tasks lives h = h
each-left Q n (kinds.Disable id) tasks lives h = each-if Q (is_enabled id tasks) id n lives h
each-left Q n (kinds.Delete id) tasks lives h = each-if Q (is_enabled id tasks) id n lives h
each-left Q n (kinds.Batch db rp points) tasks lives h = h
each-left Q n (kinds.Trans ts) tasks lives h = h
each-left Q n (kinds.Snap points trans states) tasks lives h = h

-- ---- those that begin

-- just one or none begins, behind the points
pub record Begin (n : ℕ) (lives : List Life) : Type 0 where
  pub rise : FirstsRise lives
  pub firsts : Each (λ l. l.first ≡ n + 1) lives

begin-one : (n : ℕ) (task : StoredTask) → Begin n (life_from n task ∷ [])
begin-one n task = record { rise = (tt, tt); firsts = (refl, tt) }

begin-none : (n : ℕ) → Begin n []
begin-none n = record { rise = tt; firsts = tt }

begin-of : (n : ℕ) (task : Option StoredTask) → Begin n (life_of n task)
begin-of n None = begin-none n
begin-of n (Some task) = elim (task.enabled) as (λ b. Begin n (cond b [] (life_from n task ∷ []))) [
  | true ↦ begin-none n
  | false ↦ begin-one n task
]

begins : (n at : ℕ) (r : Rec) (tasks : List StoredTask) → Begin n (begun n at r tasks)
begins n at (kinds.Define id script enabled) tasks = elim enabled as (λ b. Begin n (cond b (life_from n (record { id = id; script = script; enabled = b; define_at = at }) ∷ []) [])) [
  | true ↦ begin-one n (record { id = id; script = script; enabled = true; define_at = at })
  | false ↦ begin-none n
]
begins n at (kinds.Enable id) tasks = begin-of n (task_of id tasks)
begins n at (kinds.Disable id) tasks = begin-none n
begins n at (kinds.Delete id) tasks = begin-none n
begins n at (kinds.Batch db rp points) tasks = begin-none n
begins n at (kinds.Trans ts) tasks = begin-none n
begins n at (kinds.Snap points trans states) tasks = begin-none n

-- ---- first stamps

each-append : {A : Type 0} (Q : A → Type 0) (xs ys : List A) → Each Q xs → Each Q ys → Each Q (xs ++ ys)
each-append Q [] ys a b = b
each-append Q (x ∷ xs) ys a b = (a.0, each-append Q xs ys a.1 b)

rise-append : (m : ℕ) (xs ys : List Life) → FirstsRise xs → Each (λ l. l.first ≤ m) xs → FirstsRise ys → Each (λ l. m ≤ l.first) ys → FirstsRise (xs ++ ys)
rise-append m [] ys a low b high = b
rise-append m (x ∷ xs) ys a low b high =
    let first : x.first ≤ m = low.0 in
    (each-append (λ l. x.first ≤ l.first) xs ys a.0 (each_to (λ (l : Life). m ≤ l.first) (λ l. x.first ≤ l.first) ys (λ l (le : m ≤ l.first). omega (arith, le, first)) high), rise-append m xs ys a.1 low.1 b high)

rise-after : (h : Held) (at : ℕ) (r : Rec) → LivesFit (length h.points) h.lives → FirstsRise h.lives → FirstsRise (after h at r).lives
rise-after h at r fit rise =
    let n = length h.points in
    let new = begins n at r h.tasks in
    let low = each_to (LifeFits n) (λ l. l.first ≤ n + 1) h.lives (λ l f. f.began) fit in
    rise-append (n + 1) (ended n r h.tasks h.lives) (begun n at r h.tasks) (rise-left n r h.tasks h.lives rise) (each-left (λ m. m ≤ n + 1) n r h.tasks h.lives low)
    new.rise (each_to (λ (l : Life). l.first ≡ n + 1) (λ l. n + 1 ≤ l.first) (begun n at r h.tasks) (λ l (e : l.first ≡ n + 1). omega (arith, e)) new.firsts)

rise-behind : (h : Held) (at : ℕ) (rs : List Rec) → LivesFit (length h.points) h.lives → FirstsRise h.lives → FirstsRise (held_from h at rs).lives
rise-behind h at [] fit rise = rise
rise-behind h at (r ∷ rs) fit rise = rise-behind (after h at r) (next_gate at r) rs (fits_after h at r fit) (rise-after h at r fit rise)

-- behind any records the first stamps of lives don't fall
pub held_rise : (rs : List Rec) → FirstsRise (held rs).lives
held_rise rs = rise-behind nothing first_gate rs tt tt

-- ---- later

-- the last stamp of one that was open
onward-of-open : (last later : Option ℕ) (k : ℕ) → IsLastLater k last later → not (is_some later) ≡ true → last ≡ None
onward-of-open None later k h e = refl
onward-of-open (Some l) later k h e = absurd (none-some later l h e)
  where
    none-some : (later : Option ℕ) (l : ℕ) → later ≡ Some l → not (is_some later) ≡ true → ⊥
    none-some None l h e = absurd cc
    none-some (Some m) l h e = absurd cc

later-ends : (k n : ℕ) (life later : Life) → k ≤ n → IsLater k life later → is_open later ≡ true → IsLater k life (record later { last = Some n })
later-ends k n life later le h e =
    let was : life.last ≡ None = onward-of-open life.last later.last k h.last e in
    record { task = h.task; script = h.script; first = h.first; last = subst (λ (l : Option ℕ). IsLastLater k l (Some n)) (sym was) le }

later-ended : (k n : ℕ) (id : List ℕ) (lives others : List Life) → k ≤ n → AreLater k lives others → AreLater k lives (end_life id n others)
later-ended k n id [] others le h = each-ended (λ m. k < m) id n others h
later-ended k n id (life ∷ lives) [] le h = absurd h
later-ended k n id (life ∷ lives) (later ∷ others) le h = elim (list_any (is_open_of id) others) as (λ b. AreLater k (life ∷ lives) (cond b (later ∷ end_life id n others) (cond (is_open_of id later) (record later { last = Some n }) later ∷ others))) [
  | true ↦ (h.0, later-ended k n id lives others le h.1)
  | false ↦ elim (is_open_of id later) as (λ b. is_open_of id later ≡ b → AreLater k (life ∷ lives) (cond b (record later { last = Some n }) later ∷ others)) [
    | true ↦ λ e. (later-ends k n life later le h.0 (second_of (bytes_eq later.task id) (is_open later) e), h.1)
    | false ↦ λ e. h
  ] refl
]

later-if : (b : Bool) (k n : ℕ) (id : List ℕ) (lives others : List Life) → k ≤ n → AreLater k lives others → AreLater k lives (cond b (end_life id n others) others)
later-if true k n id lives others le h = later-ended k n id lives others le h
later-if false k n id lives others le h = h

later-left : (k n : ℕ) (r : Rec) (tasks : List StoredTask) (lives others : List Life) → k ≤ n → AreLater k lives others → AreLater k lives (ended n r tasks others)
later-left k n (kinds.Define id script enabled) tasks lives others le h = h
later-left k n (kinds.Enable id) tasks lives others le h = h
later-left k n (kinds.Disable id) tasks lives others le h = later-if (is_enabled id tasks) k n id lives others le h
later-left k n (kinds.Delete id) tasks lives others le h = later-if (is_enabled id tasks) k n id lives others le h
later-left k n (kinds.Batch db rp points) tasks lives others le h = h
later-left k n (kinds.Trans ts) tasks lives others le h = h
later-left k n (kinds.Snap points trans states) tasks lives others le h = h

later-more : (k : ℕ) (lives others more : List Life) → AreLater k lives others → Each (λ l. k < l.first) more → AreLater k lives (others ++ more)
later-more k [] others more h new = each-append (λ (l : Life). k < l.first) others more h new
later-more k (life ∷ lives) [] more h new = absurd h
later-more k (life ∷ lives) (later ∷ others) more h new = (h.0, later-more k lives others more h.1 new)

later-after : (k : ℕ) (lives : List Life) (h : Held) (at : ℕ) (r : Rec) → k ≤ length h.points → AreLater k lives h.lives → AreLater k lives (after h at r).lives
later-after k lives h at r le are =
    let n = length h.points in
    later-more k lives (ended n r h.tasks h.lives) (begun n at r h.tasks) (later-left k n r h.tasks lives h.lives le are)
    (each_to (λ (l : Life). l.first ≡ n + 1) (λ l. k < l.first) (begun n at r h.tasks) (λ l (e : l.first ≡ n + 1). omega (arith, e, le)) (begins n at r h.tasks).firsts)

later-behind : (k : ℕ) (lives : List Life) (h : Held) (at : ℕ) (rs : List Rec) → k ≤ length h.points → AreLater k lives h.lives → AreLater k lives (held_from h at rs).lives
later-behind k lives h at [] le are = are
later-behind k lives h at (r ∷ rs) le are =
    let long : length (h.points ++ points_in r) ≡ length h.points + length (points_in r) = length-append h.points (points_in r) in
    later-behind k lives (after h at r) (next_gate at r) rs (omega (arith, long, le)) (later-after k lives h at r le are)

last-same : (k : ℕ) (last : Option ℕ) → IsLastLater k last last
last-same k None = tt
last-same k (Some l) = refl

later-same : (k : ℕ) (lives : List Life) → AreLater k lives lives
later-same k [] = tt
later-same k (life ∷ lives) = (record { task = refl; script = refl; first = refl; last = last-same k life.last }, later-same k lives)

held-split : (h : Held) (at : ℕ) (xs ys : List Rec) → held_from h at (xs ++ ys) ≡ held_from (held_from h at xs) (end_from at xs) ys
held-split h at [] ys = refl
held-split h at (x ∷ xs) ys = held-split (after h at x) (next_gate at x) xs ys

-- behind more records
pub held_later : (before behind : List Rec) → AreLater (length (held before).points) (held before).lives (held (before ++ behind)).lives
held_later before behind =
    let h = held before in
    subst (λ (x : Held). AreLater (length h.points) h.lives x.lives) (sym (held-split nothing first_gate before behind))
    (later-behind (length h.points) h.lives h (end_from first_gate before) behind (omega arith) (later-same (length h.points) h.lives))

points-from : (h : Held) (at : ℕ) (rs : List Rec) → (more : List PointValue) × ((held_from h at rs).points ≡ h.points ++ more)
points-from h at [] = ([], sym (append-nil h.points))
points-from h at (r ∷ rs) =
    let rest = points-from (after h at r) (next_gate at r) rs in
    (points_in r ++ rest.0, rest.1 ∙ append_assoc h.points (points_in r) rest.0)

-- and the points are those before and more
pub held_points : (before behind : List Rec) → (more : List PointValue) × ((held (before ++ behind)).points ≡ (held before).points ++ more)
held_points before behind =
    let rest = points-from (held before) (end_from first_gate before) behind in
    (rest.0, ap (λ (x : Held). x.points) (held-split nothing first_gate before behind) ∙ rest.1)
