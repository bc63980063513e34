use Rattle.std.proofs.Common.{◌≡◌, ◌++◌, map}
use Rattle.std.specs.FinMap.{entries}
use Rattle.json.specs.Tree.{items_tokens}
use Rattle.serde_json.specs.View.{items_of}
use Rattle.serde_json.specs.Written.{items_outline}
use Rattle.reply_bodies.specs.Values.{id_value}
use Rattle.reply_bodies.proofs.topics.put_ids.Given as goal

-- the values of the other ids are still to be put
abbrev pub invariant-putting : goal.invariant-putting
invariant-putting l = record {
  rest : l.writer.tokens ++ items_tokens (items_outline (items_of (map id_value l.id-iterator)))
      ≡ l.fn.writer.tokens ++ items_tokens (items_outline (items_of (map id_value (entries l.ids))));
  before : l.writer.before ≡ l.fn.writer.before;
}
