use Rattle.std.specs.HashSet as bag
use Rattle.std.proofs.lemmas.Iterator.{YieldsList-from_slice}
use Rattle.std.proofs.lemmas.Iterator.Adapters.{fact_from_collect}
use Rattle.std.proofs.lemmas.Iterator.Consumers.{YieldsList-from_copied}
use Rattle.std.proofs.lemmas.Result.{IfOk-at_ok}
use Rattle.tick_compile.proofs.JoinLaws.{alike, counted_different}
use Rattle.tick_compile.proofs.joins.all_differ.Goals as goal

pub returns : goal.returns
returns c =
    let all_yielded = YieldsList-from_copied (YieldsList-from_slice c.args.texts.now cc) in
    let collected = fact_from_collect (λ texts set. bag.IsFromIterResult alike texts set) c.collect.result c.collect.ensures.ran all_yielded in
    let made = IfOk-at_ok (λ set. bag.IsFromIterResult alike c.args.texts.now set) c.in_ok-set.was collected in
    rw c.len.ensures.len (counted_different c.args.texts.now c.in_ok-set.set made)
