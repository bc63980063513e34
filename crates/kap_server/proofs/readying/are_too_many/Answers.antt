use Rattle.std.proofs.Common.{map, ◌∙◌, sym, ap}
use Rattle.std.specs.Prelude.{nat_le, string_bytes}
use Rattle.std.proofs.lemmas.List.{length-map}
use Rattle.kap_server.proofs.WordLaws.{many_words}
use Rattle.kap_server.proofs.readying.are_too_many.Goals as goal

pub returns : goal.returns
returns c = ap (nat_le 130) (sym (length-map c.args.words.now string_bytes)) ∙ many_words (map string_bytes c.args.words.now)
