use Rattle.std.proofs.Common.{◌≡◌, ◌<◌, ◌-◌, ◌^◌, ℕ, true, false, min, take, slice_index_or}
use Rattle.std.specs.List.{sum_by}
use Rattle.kap_service.proofs.posts.total.Given as goal

abbrev pub invariant-posts : goal.invariant-posts
invariant-posts g l = record {
  links : l.links ≡ min (sum_by (λ p. p.links) (take l.post-index l.posts)) (2 ^ 64 - 1);
  failed : l.door_failed ≡ true
      → (i : ℕ) × (i < l.post-index) × ((d : _) → (slice_index_or l.posts i d).failed ≡ true);
  fine : l.door_failed ≡ false → (i : ℕ) (d : _) → i < l.post-index → (slice_index_or l.posts i d).failed ≡ false;
}
