use Rattle.std.proofs.Common.{◌≡◌, ◌+◌, length}
use Rattle.socket_service.proofs.seats.posts_of.Given as goal

-- there is a post for each seat that was taken
abbrev pub invariant-posts : goal.invariant-posts
invariant-posts g l = record {
  count : length l.posts.items + length l.seat-iterator.rest.items ≡ length l.fn.seats.items;
}
