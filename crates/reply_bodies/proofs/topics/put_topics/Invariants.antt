use Rattle.std.proofs.Common.{◌≡◌, ◌++◌, map}
use Rattle.std.specs.FinMap.{entries}
use Rattle.json.specs.Tree.{items_tokens}
use Rattle.serde_json.specs.View.{items_of}
use Rattle.serde_json.specs.Written.{items_outline}
use Rattle.reply_bodies.specs.Values.{entry_value}
use Rattle.reply_bodies.proofs.topics.put_topics.Given as goal

-- the values of the other topics are still to be put
abbrev pub invariant-putting : goal.invariant-putting
invariant-putting l = record {
  rest : l.writer.tokens ++ items_tokens (items_outline (items_of (map entry_value l.topic-iterator)))
      ≡ l.fn.writer.tokens ++ items_tokens (items_outline (items_of (map entry_value (entries l.levels))));
  before : l.writer.before ≡ l.fn.writer.before;
}
