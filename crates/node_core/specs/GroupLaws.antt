-- What holds in one group holds in all.
use Rattle.std.proofs.Common.{◌≡◌, ℕ, true, false, cond, List, [], ◌∷◌, ◌++◌, Some, refl, sym, ap, ◌∙◌, append_assoc, append-nil}
use Rattle.std.specs.Prelude.{filter, bytes_eq}
use Rattle.std.specs.FinMap.{get, insert, get-insert, get-empty}
use Rattle.std.proofs.lemmas.Cmp.{nat_list_cmp_total}
use Rattle.std.proofs.lemmas.Map.Text.{is_eq-slice_cmp}
use Rattle.std.proofs.lemmas.Slice.Eq.{bytes_eq-Decides}
use Rattle.kap_base.specs.Maps.{KeyMap, byte_order}
use Rattle.kap_base.specs.Points.{PointValue}
use Rattle.kap_base.specs.declared.items.Body.{Body}
use Rattle.kap_base.specs.declared.items.Body.TheVariants as bodies
use Rattle.node_core.specs.Meaning.{Arrival, Turn, silence}
use Rattle.node_core.specs.Laws.{filter-append}
use Rattle.node_core.specs.Keys.{group_key}
use Rattle.node_core.specs.Groups.{Came, is_point, point_in, points, points_of, GroupAnswer, answer_to, in_groups, cell_or}
use Rattle.node_core.specs.Machine.{step_of, group_step, no_groups, kept_at, KeptCells}

points-append : (xs ys : List Arrival) → points (xs ++ ys) ≡ points xs ++ points ys
points-append [] ys = refl
points-append (x ∷ xs) ys = rw (points-append xs ys, append_assoc) refl

-- one more arrival
points_of-more : (key : List ℕ) (before : List Arrival) (x : Arrival)
    → points_of key (before ++ x ∷ []) ≡ points_of key before
    ++ filter (λ c. bytes_eq key (group_key c.1)) (point_in x.0 x.1)
points_of-more key before x =
    rw (points-append before (x ∷ []), append-nil) (filter-append _ (points before) (point_in x.0 x.1))

module _ {C : Type 0} (kept : List Came → C) where
  -- a group that has a point has a cell
  kept_at-some : (before : List Came) (c : Came) → kept_at kept (before ++ c ∷ []) ≡ Some (kept (before ++ c ∷ []))
  kept_at-some [] c = refl
  kept_at-some (d ∷ before) c = refl

  cell_or-kept : (cs : List Came) → cell_or (kept []) (kept_at kept cs) ≡ kept cs
  cell_or-kept [] = refl
  cell_or-kept (c ∷ cs) = refl

same_bytes : (a b : List ℕ) → bytes_eq a b ≡ true → a ≡ b
same_bytes a b e = (bytes_eq-Decides a b).0 e

-- ---- what a rule owes, and what follows for all groups

module _ {C : Type 0} (step : C → ℕ → PointValue → Turn C) (kept : List Came → C) (answer : GroupAnswer)
    (goes_on : (before : List Came) (port : ℕ) (p : PointValue)
    → step (kept before) port p ≡ record { state = kept (before ++ (port, p) ∷ []); said = answer before port p }) where
  -- the group's own step
  turn_at : (before : List Arrival) (cells : KeyMap C) (port : ℕ) (p : PointValue) → KeptCells kept before cells
      → step (cell_or (kept []) (get cells (group_key p))) port p
      ≡ record {
        state = kept (points_of (group_key p) before ++ (port, p) ∷ []);
        said = answer (points_of (group_key p) before) port p;
      }
  turn_at before cells port p k =
      rw (k (group_key p), cell_or-kept kept (points_of (group_key p) before)) (goes_on _ port p)

  -- the cells of all groups after a point
  cells-point : (before : List Arrival) (cells : KeyMap C) (port : ℕ) (p : PointValue) → KeptCells kept before cells
      → (key : List ℕ)
      → get (insert cells (group_key p) (kept (points_of (group_key p) before ++ (port, p) ∷ []))) key
      ≡ kept_at kept (points_of key (before ++ (port, bodies.Point p) ∷ []))
  cells-point before cells port p k key =
      get-insert nat_list_cmp_total cells (group_key p) _ key
      ∙ rw (is_eq-slice_cmp key (group_key p), points_of-more key before (port, bodies.Point p), k key)
      (elim (bytes_eq key (group_key p)) as (λ b. bytes_eq key (group_key p) ≡ b
      → cond b (Some (kept (points_of (group_key p) before ++ (port, p) ∷ [])))
      (kept_at kept (points_of key before)) ≡ kept_at kept (points_of key before ++ cond b ((port, p) ∷ []) [])) [
        | true ↦ λ e. rw (kept_at-some kept (points_of key before) (port, p))
            (ap (λ q. Some (kept (points_of q before ++ (port, p) ∷ []))) (sym (same_bytes key (group_key p) e)))
        | false ↦ λ e. rw append-nil refl
      ] refl)

  said-body : (before : List Arrival) (cells : KeyMap C) (port : ℕ) (body : Body) → KeptCells kept before cells
      → (step_of (kept []) step cells port body).said ≡ answer_to answer before port body
  said-body before cells port (bodies.Point p) k = ap (λ t. t.said) (turn_at before cells port p k)
  said-body before cells port (bodies.Batch b) k = refl

  state-body : (before : List Arrival) (cells : KeyMap C) (port : ℕ) (body : Body) → KeptCells kept before cells
      → KeptCells kept (before ++ (port, body) ∷ []) (step_of (kept []) step cells port body).state
  state-body before cells port (bodies.Point p) k key =
      rw (turn_at before cells port p k) (cells-point before cells port p k key)
  state-body before cells port (bodies.Batch b) k key =
      rw (points_of-more key before (port, bodies.Batch b), append-nil) (k key)

  pub groups_say : (before : List Arrival) (cells : KeyMap C) (x : Arrival) → KeptCells kept before cells
      → (group_step (kept []) step cells x).said ≡ in_groups answer before x
  groups_say before cells x k = said-body before cells x.0 x.1 k

  pub groups_go_on : (before : List Arrival) (cells : KeyMap C) (x : Arrival) → KeptCells kept before cells
      → KeptCells kept (before ++ x ∷ []) (group_step (kept []) step cells x).state
  groups_go_on before cells x k = state-body before cells x.0 x.1 k

  pub groups_begin : KeptCells kept [] no_groups
  groups_begin key = get-empty byte_order key

-- a batch
groups-batch : {C : Type 0} (first : C) (step : C → ℕ → PointValue → Turn C) (cells : KeyMap C) (port : ℕ) (body : Body)
    → is_point body ≡ false → step_of first step cells port body ≡ record { state = cells; said = silence }
groups-batch first step cells port (bodies.Point p) e = absurd cc
groups-batch first step cells port (bodies.Batch b) e = refl

-- a batch changes no group
pub groups_stay : {C : Type 0} (first : C) (step : C → ℕ → PointValue → Turn C) (cells : KeyMap C) (x : Arrival)
    → is_point x.1 ≡ false → group_step first step cells x ≡ record { state = cells; said = silence }
groups_stay first step cells x e = groups-batch first step cells x.0 x.1 e
