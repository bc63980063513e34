use Rattle.std.proofs.Common.{◌≡◌, length, map}
use Rattle.std.specs.Prelude.{string_bytes}
use Rattle.kap_server.specs.Words.{are_pairs}
use Rattle.kap_server.proofs.words.are_pairs.Given as goal

-- the words are pairs exactly where those that are left are
abbrev pub invariant-pairing : goal.invariant-pairing
invariant-pairing l = record {
  same : are_pairs (map string_bytes l.words) ≡ are_pairs (map string_bytes l.rest);
}

abbrev pub decreases-pairing : goal.decreases-pairing
decreases-pairing l = length l.rest
