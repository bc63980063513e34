use Rattle.std.proofs.Common.{◌≡◌, true, sym, subst}
use Rattle.kap_server.specs.Changing.{IsScriptFault}
use Rattle.kap_server.specs.Readying.{is_pattern_refused}
use Rattle.kap_server.specs.declared.status.Status.{Status}
use Rattle.kap_server.proofs.ChangeLaws.{script_fault, script_rose}
use Rattle.kap_server.proofs.changing.script_of.Goals as goal

pub returns-in-Err-clause-fault : goal.returns-in-Err-clause-fault
returns-in-Err-clause-fault g c =
    let refused = g.P.Patterns.refused c.compile.new.pats in
    subst (IsScriptFault refused c.args.bytes.now) (sym c.from.ensures) (script_fault refused c.args.bytes.now c.in-Err.fault c.in-Err.ensures.fault)

pub returns-in-Err-clause-rose : goal.returns-in-Err-clause-rose
returns-in-Err-clause-rose g c = λ told.
    script_rose (g.P.Patterns.refusals c.args.pats.now) (g.P.Patterns.refusals c.compile.new.pats) c.in-Err.fault c.in-Err.ensures.rose (subst (λ (s : Status). is_pattern_refused s ≡ true) c.from.ensures told)
