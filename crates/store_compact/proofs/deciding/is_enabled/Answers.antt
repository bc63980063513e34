use Rattle.std.proofs.Common.{refl}
use Rattle.store_records.specs.Held.{is_called}
use Rattle.store_kept.proofs.Places.{a_place, no_place, task_nowhere, task_there}
use Rattle.store_compact.proofs.deciding.is_enabled.Goals as goal

pub returns-in-Some : goal.returns-in-Some
returns-in-Some c =
    let place = a_place (is_called c.args.id.now) c.args.tasks.now c.in-Some.at c.in-Some.ensures in
    rw (task_there c.args.id.now c.args.tasks.now c.in-Some.at c.index-tasks-at.result place.0 place.1) refl

pub returns-in-None : goal.returns-in-None
returns-in-None c = rw (task_nowhere c.args.id.now c.args.tasks.now (no_place (is_called c.args.id.now) c.args.tasks.now c.in-None.ensures)) refl
