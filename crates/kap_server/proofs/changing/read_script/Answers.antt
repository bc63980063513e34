use Rattle.std.proofs.lemmas.Result.{IfErr-weaker}
use Rattle.kap_server.specs.Changing.{IsScriptFault, ReadsScript}
use Rattle.kap_server.proofs.ChangeLaws.{fault_reads}
use Rattle.kap_server.proofs.changing.read_script.Goals as goal

pub returns-clause-fault : goal.returns-clause-fault
returns-clause-fault g c =
    let refused = g.P.Patterns.refused c.script_of.new.pats in
    let s = g.S.Source.left c.args.input.now in
    let t = g.S.Source.left c.read_all.new.input in
    let text = c.in_ok-bytes.bytes in
    IfErr-weaker c.script_of.result (IsScriptFault refused text) (ReadsScript refused s t)
    (λ status why. fault_reads refused text s t status c.in_ok-bytes.ensures.all.1 c.in_ok-bytes.ensures.all.0 why) (rw c.as_slice.ensures at c.script_of.ensures.fault)
