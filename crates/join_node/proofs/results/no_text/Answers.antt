use Rattle.std.proofs.Common.{◌∙◌}
use Rattle.join_node.proofs.FieldLaws.{no_line}
use Rattle.join_node.proofs.results.no_text.Goals as goal

pub returns-clause-line : goal.returns-clause-line
returns-clause-line c = no_line c.from_string.result (c.from_string.ensures.text ∙ c.new.ensures.bytes) c.from_string.ensures.utf8
