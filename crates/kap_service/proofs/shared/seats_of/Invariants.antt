use Rattle.std.proofs.Common.{◌≡◌, ◌+◌, length}
use Rattle.std.specs.List.{All, sum_by}
use Rattle.topic_board.specs.Values.{IsNew}
use Rattle.kap_service.specs.Kept.{IsNewSeat}
use Rattle.kap_service.specs.Values.{Seats}
use Rattle.kap_service.proofs.shared.seats_of.Given as goal

abbrev pub invariant-seats : goal.invariant-seats
invariant-seats g l = record {
  count : length l.seats.items + length l.look-iterator.rest.items ≡ length l.fn.looks.items;
  looks : All IsNew l.look-iterator.rest.items;
  first_parts : l.first.parts + length l.seats.items ≡ l.initial.first.parts;
  second_parts : l.second.parts + length l.seats.items ≡ l.initial.second.parts;
  first_amount : l.first.amount ≡ l.initial.first.amount;
  second_amount : l.second.amount ≡ 0;
  new : All IsNewSeat l.seats.items;
  told : All (λ (s : Seats). s.told ≡ l.told) l.seats.items;
  changes : sum_by (λ (s : Seats). s.changes) l.seats.items ≡ 0;
  faults : sum_by (λ (s : Seats). s.faults) l.seats.items ≡ 0;
}
