use Rattle.std.proofs.Common.{None, map, inr, sym, subst, arith}
use Rattle.std.specs.Prelude.{string_bytes}
use Rattle.std.proofs.lemmas.List.{length-map}
use Rattle.flow_core.specs.Gathering.{LivesRise}
use Rattle.kap_server.specs.Words.{pairs_of}
use Rattle.kap_server.proofs.ReadyLaws.{lives_rise}
use Rattle.kap_server.proofs.WordLaws.{words_of_pairs}
use Rattle.kap_server.proofs.RunLaws.{not_ok, not_write_fault, refused_or_out}
use Rattle.kap_server.proofs.generating.write_summary.Goals as goal

pub add_tasks-requires : goal.add_tasks-requires
add_tasks-requires g c =
    let few = c.requires.few in
    let high = (words_of_pairs (map string_bytes c.args.words.now)).1 in
    let same = length-map c.args.words.now string_bytes in
    omega (arith, few, high, same)

pub returns-clause-summed : goal.returns-clause-summed
returns-clause-summed g c =
    let why = rw c.new.ensures.items at c.in-Err.ensures.err in
    inr (refused_or_out _ _ c.in-Err.status None _ why)

pub returns-clause-write_fault : goal.returns-clause-write_fault
returns-clause-write_fault g c =
    let why = rw c.new.ensures.items at c.in-Err.ensures.err in
    λ e. absurd (not_write_fault _ _ c.in-Err.status why e)

pub summarize-requires-clause-rise : goal.summarize-requires-clause-rise
summarize-requires-clause-rise g c κs within =
    let node = g.N.Node in
    let adds = rw (c.new.ensures.items, c.new-2.ensures.items) at c.in-Ok.ensures.ok in
    subst (LivesRise node.life node.number 1) (sym adds.plans_are)
    (lives_rise g.N.ScriptNode.planned node.ports node.life node.number (g.met.N.ScriptNode g.world.𝓛 g.world.𝓜 g.world.𝓡 (λ s x. x, λ x. x, λ x. x, λ x. x)).sits 1 (pairs_of (map string_bytes c.args.words.now)) adds.tasks)

pub returns-clause-net : goal.returns-clause-net
returns-clause-net g c =
    let why = rw c.new.ensures.items at c.in-Err.ensures.err in
    λ e. absurd (not_ok _ _ c.in-Err.status why e)
