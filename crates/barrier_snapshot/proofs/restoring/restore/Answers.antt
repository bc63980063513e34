use Rattle.std.proofs.Common.{◌∙◌, Err, ap, sym}
use Rattle.state_code.specs.declared.fault.CodeFault.TheVariants.{At}
use Rattle.barrier_snapshot.proofs.LifeLaws.{few_parents, same_place}
use Rattle.barrier_snapshot.proofs.restoring.restore.Goals as goal

pub make_behind-requires-clause-few : goal.make_behind-requires-clause-few
make_behind-requires-clause-few g c = few_parents g.N.Node c.args.plans.items c.in-Ok.loaded.items c.in-Ok.ensures.ok.same c.requires.few

pub returns-in-Err-At-clause-named : goal.returns-in-Err-At-clause-named
returns-in-Err-At-clause-named g c = λ offset e.
    let fault = c.in-Err-At.field-0-is ∙ ap At (sym c.in-Err-At.offset-is ∙ same_place _ offset e) in
    c.in-Err-At.ensures.named offset (ap Err fault)
