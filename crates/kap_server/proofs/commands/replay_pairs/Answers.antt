use Rattle.std.proofs.Common.{map, inl, inr, sym, subst, arith}
use Rattle.std.specs.Prelude.{string_bytes}
use Rattle.std.proofs.lemmas.List.{length-map}
use Rattle.flow_core.specs.Gathering.{LivesRise}
use Rattle.kap_server.specs.Words.{pairs_of}
use Rattle.kap_server.proofs.NetLaws.{holds_tasks}
use Rattle.kap_server.proofs.ReadyLaws.{lives_rise}
use Rattle.kap_server.proofs.WordLaws.{words_of_pairs}
use Rattle.kap_server.proofs.RunLaws.{not_ok, not_read_fault, not_write_fault, refused_or_out, runs_tasks}
use Rattle.kap_server.proofs.commands.replay_pairs.Goals as goal

pub add_tasks-requires : goal.add_tasks-requires
add_tasks-requires g c =
    let few = c.requires.few in
    let high = (words_of_pairs (map string_bytes c.args.words.now)).1 in
    let same = length-map c.args.words.now string_bytes in
    omega (arith, few, high, same)

pub replay-requires-clause-rise : goal.replay-requires-clause-rise
replay-requires-clause-rise g c κs within =
    let node = g.N.Node in
    let adds = rw (c.new.ensures.items, c.new-2.ensures.items) at c.in-Ok.ensures.ok in
    subst (LivesRise node.life node.number 1) (sym adds.plans_are)
    (lives_rise g.N.ScriptNode.planned node.ports node.life node.number (g.met.N.ScriptNode g.world.𝓛 g.world.𝓜 g.world.𝓡 (λ s x. x, λ x. x, λ x. x, λ x. x)).sits 1 (pairs_of (map string_bytes c.args.words.now)) adds.tasks)

pub returns-in-Ok-clause-ran : goal.returns-in-Ok-clause-ran
returns-in-Ok-clause-ran g c =
    let adds = rw (c.new.ensures.items, c.new-2.ensures.items) at c.in-Ok.ensures.ok in
    let replayed = rw c.deref.ensures.value at c.replay.ensures.replayed in
    inl (runs_tasks _ _ _ _ _ c.args.options.counts _ c.replay.result _ _ _ _ _ _ adds replayed)

pub returns-in-Err-clause-ran : goal.returns-in-Err-clause-ran
returns-in-Err-clause-ran g c =
    let why = rw c.new.ensures.items at c.in-Err.ensures.err in
    inr (refused_or_out _ _ c.in-Err.status _ _ why)

pub returns-in-Err-clause-read : goal.returns-in-Err-clause-read
returns-in-Err-clause-read g c =
    let why = rw c.new.ensures.items at c.in-Err.ensures.err in
    λ e. absurd (not_ok _ _ c.in-Err.status why e)

pub returns-in-Err-clause-read_fault : goal.returns-in-Err-clause-read_fault
returns-in-Err-clause-read_fault g c =
    let why = rw c.new.ensures.items at c.in-Err.ensures.err in
    λ e. absurd (not_read_fault _ _ c.in-Err.status why e)

pub returns-in-Err-clause-write_fault : goal.returns-in-Err-clause-write_fault
returns-in-Err-clause-write_fault g c =
    let why = rw c.new.ensures.items at c.in-Err.ensures.err in
    λ e. absurd (not_write_fault _ _ c.in-Err.status why e)

pub returns-in-Ok-clause-net : goal.returns-in-Ok-clause-net
returns-in-Ok-clause-net g c = λ ok.
    let adds = rw (c.new.ensures.items, c.new-2.ensures.items) at c.in-Ok.ensures.ok in
    holds_tasks g.N.Node g.N.ScriptNode.planned _ _ _ adds _ _ (c.replay.ensures.net ok)

pub returns-in-Err-clause-net : goal.returns-in-Err-clause-net
returns-in-Err-clause-net g c =
    let why = rw c.new.ensures.items at c.in-Err.ensures.err in
    λ e. absurd (not_ok _ _ c.in-Err.status why e)
