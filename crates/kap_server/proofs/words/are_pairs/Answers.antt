use Rattle.std.proofs.Common.{◌∙◌, sym}
use Rattle.std.specs.Prelude.{string_bytes}
use Rattle.kap_server.proofs.WordLaws.{one_word}
use Rattle.kap_server.proofs.words.are_pairs.Goals as goal

pub returns-in-len1 : goal.returns-in-len1
returns-in-len1 c = sym (c.pairing.invariant.same ∙ one_word string_bytes c.pairing.rest.now c.in-len1.len_at_least c.in-len1.len_below)
