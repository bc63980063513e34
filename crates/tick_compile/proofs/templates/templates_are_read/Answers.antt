use Rattle.tick_compile.proofs.TemplateLaws.{fault_is_read, parts_are_read}
use Rattle.tick_compile.proofs.templates.templates_are_read.Goals as goal

pub returns-clause-parts : goal.returns-clause-parts
returns-clause-parts c = parts_are_read

pub returns-clause-fault : goal.returns-clause-fault
returns-clause-fault c = fault_is_read
