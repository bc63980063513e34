use Rattle.std.proofs.Common.{◌≡◌, ◌+◌, length}
use Rattle.service_tests.proofs.doors.posts_of.Given as goal

abbrev pub invariant-seats : goal.invariant-seats
invariant-seats g l = length l.posts.items + length l.seat-iterator.rest.items ≡ length l.fn.seats.items
