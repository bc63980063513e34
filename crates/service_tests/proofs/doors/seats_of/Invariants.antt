use Rattle.std.proofs.Common.{◌≡◌, ◌+◌, length}
use Rattle.service_tests.proofs.doors.seats_of.Given as goal

abbrev pub invariant-posts : goal.invariant-posts
invariant-posts g l = length l.seats.items + length l.post-iterator.rest.items ≡ length l.fn.posts.items
