use Rattle.std.proofs.Common.{◌≡◌, ◌+◌, length}
use Rattle.std.specs.List.{sum_by}
use Rattle.kap_service.specs.Values.{Seats}
use Rattle.kap_service.proofs.shared.gather.Given as goal

-- what is gathered and what is still out
abbrev pub invariant-gathering : goal.invariant-gathering
invariant-gathering g l = record {
  first_parts : l.first.parts + length l.seat-iterator.rest.items ≡ l.initial.first.parts + length l.fn.seats.items;
  second_parts : l.second.parts + length l.seat-iterator.rest.items ≡ l.initial.second.parts + length l.fn.seats.items;
  first : l.first.amount + sum_by (λ (s : Seats). s.changes) l.seat-iterator.rest.items
      ≡ l.initial.first.amount + sum_by (λ (s : Seats). s.changes) l.fn.seats.items;
  second : l.second.amount + sum_by (λ (s : Seats). s.faults) l.seat-iterator.rest.items
      ≡ l.initial.second.amount + sum_by (λ (s : Seats). s.faults) l.fn.seats.items;
}
