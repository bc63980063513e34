use Rattle.std.proofs.Common.{◌≡◌, ◌++◌, drop, map}
use Rattle.json.specs.Tree.{items_tokens}
use Rattle.serde_json.specs.View.{items_of}
use Rattle.serde_json.specs.Written.{items_outline}
use Rattle.reply_bodies.specs.Values.{stored_value}
use Rattle.reply_bodies.proofs.tasks.put_tasks.Given as goal

-- the values of the other tasks are still to be put
abbrev pub invariant-putting : goal.invariant-putting
invariant-putting l = record {
  rest : l.writer.tokens ++ items_tokens (items_outline (items_of (map stored_value (drop l.task-index l.tasks))))
      ≡ l.fn.writer.tokens ++ items_tokens (items_outline (items_of (map stored_value l.tasks)));
  before : l.writer.before ≡ l.fn.writer.before;
}
