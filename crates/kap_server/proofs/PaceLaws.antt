-- How many points the next epoch may have.
use Rattle.std.proofs.Common.{◌≡◌, ℕ, false, ◌-◌, ◌<◌, List, [], ◌++◌, length, refl, sym, ap, ◌∙◌, append-nil, arith}
use Rattle.std.specs.Prelude.{nat_le}
use Rattle.std.proofs.lemmas.Bool.Decides.{nat_tests}
use Rattle.std.proofs.lemmas.List.{append_cancel_left}
use Rattle.kap_base.specs.Points.{PointValue}
use Rattle.kap_base.specs.declared.items.Effect.{Effect}
use Rattle.node_core.specs.Meaning.{Answer}
use Rattle.task_run.specs.Graphs.{Placed}
use Rattle.task_run.specs.Lives.{effects_of}
use Rattle.net_run.specs.Paces.{next_limit}
use Rattle.kap_server.specs.Paces.{Paces}

-- where nothing was done, as many as before
idle : (limit : ℕ) → 0 < limit → limit ≡ next_limit limit 0 0 0
idle limit some =
    let full : nat_le limit 0 ≡ false = grind (arith, nat_tests) in
    rw full refl

module _ {P : Type 0} (answer : P → Answer) (lives : List (List (Placed P))) where
  -- no points do nothing
  pub paces_none : (points new : List PointValue) (due : List ℕ) (limit : ℕ) → new ≡ [] → 0 < limit → Paces answer lives points new due due limit limit
  paces_none points new due limit none some effects on =
      let same : effects_of answer lives points ++ [] ≡ effects_of answer lives points ++ effects =
      append-nil (effects_of answer lives points) ∙ ap (effects_of answer lives) (sym (append-nil points) ∙ ap (λ (l : List PointValue). points ++ l) (sym none)) ∙ on in
      let nothing : effects ≡ [] = sym (append_cancel_left (effects_of answer lives points) [] effects same) in
      let still : length due - length due ≡ 0 = omega arith in
      rw (none, nothing, still) (idle limit some)

  -- the effects of an epoch are those that the run gave
  pub paces_on : (points new : List PointValue) (ran : List Effect) (due due_after : List ℕ) (limit next : ℕ) → effects_of answer lives (points ++ new) ≡ effects_of answer lives points ++ ran
      → next ≡ next_limit limit (length new) (length ran) (length due_after - length due) → Paces answer lives points new due due_after limit next
  paces_on points new ran due due_after limit next gave is effects on =
      is ∙ ap (λ (l : List Effect). next_limit limit (length new) (length l) (length due_after - length due)) (append_cancel_left (effects_of answer lives points) ran effects (sym gave ∙ on))
