use Rattle.std.proofs.Common.{sym, ◌∙◌}
use Rattle.store_records.proofs.OrderLaws.{defines_valid}
use Rattle.store_kept.proofs.taking.is_definable.Goals as goal

pub returns-clause-valid : goal.returns-clause-valid
returns-clause-valid c may = defines_valid c.args.id.now c.args.script.now c.args.tasks.now (sym c.may_define.ensures ∙ may)
