use Rattle.std.proofs.Common.{◌≡◌, ◌++◌}
use Rattle.topic_store.proofs.reader.put_shared.Given as goal

abbrev pub invariant-sharing : goal.invariant-sharing
invariant-sharing l = l.shared.items ≡ l.initial.shared.items ++ l.yielded
