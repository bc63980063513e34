use Rattle.std.proofs.Common.{◌≡◌, List, ℕ, Option, Some, None, ap, ◌∙◌, subst}
use Rattle.std.specs.Prelude.{position, slice_set}
use Rattle.store_records.specs.Held.{is_called}
use Rattle.store_records.specs.declared.task.StoredTask.{StoredTask}
use Rattle.store_kept.proofs.Places.{a_place, enabled_nowhere, enabled_there, no_place}
use Rattle.store_kept.proofs.tasks.set_enabled.Goals as goal

pub returns-in-Some : goal.returns-in-Some
returns-in-Some c =
    let id = c.args.id.now in
    let tasks = c.args.tasks.now.items in
    let found = subst (λ (l : List StoredTask). ◌≡◌ {A = Option ℕ} (Some c.in-Some.at) (position (is_called id) l)) c.deref.ensures.value c.in-Some.ensures in
    let place = a_place (is_called id) tasks c.in-Some.at found in
    ap (λ (t : StoredTask). slice_set tasks c.in-Some.at (record t { enabled = c.args.enabled })) c.index_mut.ensures.value
    ∙ enabled_there id c.args.enabled tasks c.in-Some.at c.index_mut.result.now place.0 place.1

pub returns-in-None : goal.returns-in-None
returns-in-None c =
    let id = c.args.id.now in
    let tasks = c.args.tasks.now.items in
    let found = subst (λ (l : List StoredTask). ◌≡◌ {A = Option ℕ} None (position (is_called id) l)) c.deref.ensures.value c.in-None.ensures in
    enabled_nowhere id c.args.enabled tasks (no_place (is_called id) tasks found)
