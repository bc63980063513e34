-- A point stands in its own set.
use Rattle.std.proofs.Common.{◌≡◌, ℕ, zero, suc, ◌+◌, ◌<◌, false, List, [], ◌∷◌, ◌++◌, length, Some, slice_get, refl, ap, ◌∙◌, arith}
use Rattle.kap_base.specs.Points.{PointValue}
use Rattle.node_core.specs.Groups.{Came}
use Rattle.task_graph.specs.declared.spec.JoinSpec.{JoinSpec}
use Rattle.join_node.specs.JoinLaws.{with_own}
use Rattle.join_node.specs.Joins.{is_late, on_time, own_set, parents, rounded, with_time}
use Rattle.join_node.specs.QueueLaws.{columns_from, points_own, same_port}
use Rattle.join_node.specs.Sets.{columns, points_at, set_at}

last-there : {A : Type 0} (xs : List A) (x : A) → slice_get (xs ++ x ∷ []) (length xs) ≡ Some x
last-there [] x = refl
last-there (y ∷ xs) x = last-there xs x

-- a set has at a parent's place that parent's point of its number
set-place : (k i n q j : ℕ) (cs : List Came) → q ≡ i + j → j < n → slice_get (set_at k (columns_from i n cs)) j ≡ Some (slice_get (points_at q cs) k)
set-place k i zero q j cs is lt = absurd (omega arith)
set-place k i (suc n) q zero cs is lt = ap (λ (port : ℕ). Some (slice_get (points_at port cs) k)) (omega arith)
set-place k i (suc n) q (suc j) cs is lt = set-place k (suc i) n q j cs (omega arith) (omega arith)

pub in_own_set : (j : JoinSpec) (before : List Came) (port : ℕ) (p : PointValue) → port < parents j → is_late j before (port, p) ≡ false
    → slice_get (own_set j before (port, p)) port ≡ Some (Some p)
in_own_set j before port p lt fresh =
    let c : Came = (port, p) in
    let old : List Came = with_time j (rounded j c) (on_time j before) in
    let k = length (points_at port old) in
    ap (λ (cs : List Came). slice_get (set_at k (columns (parents j) cs)) port) (with_own j before c fresh)
    ∙ set-place k 0 (parents j) port port (old ++ c ∷ []) (omega arith) lt
    ∙ ap (λ (ps : List PointValue). Some (slice_get ps k)) (points_own port port old p (same_port port port refl))
    ∙ ap Some (last-there (points_at port old) p)
