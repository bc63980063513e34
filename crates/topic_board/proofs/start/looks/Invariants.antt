use Rattle.std.proofs.Common.{◌≡◌, length}
use Rattle.std.specs.List.{All}
use Rattle.topic_board.specs.Values.{IsNew}
use Rattle.topic_board.proofs.start.looks.Given as goal

abbrev pub invariant-looks : goal.invariant-looks
invariant-looks g l = record {
  count : length l.looks.items ≡ l.counter;
  new : All IsNew l.looks.items;
}
