use Rattle.std.proofs.Common.{◌≡◌, length}
use Rattle.store_records.specs.Held.{task_of}
use Rattle.engine_asks.proofs.tasks.task_of.Given as goal

-- the task is among the others
abbrev pub invariant-looking : goal.invariant-looking
invariant-looking l = task_of l.id l.rest ≡ task_of l.id l.tasks

abbrev pub decreases-looking : goal.decreases-looking
decreases-looking l = length l.rest
