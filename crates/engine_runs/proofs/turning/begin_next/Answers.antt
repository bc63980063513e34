use Rattle.std.proofs.Common.{refl}
use Rattle.std.specs.Prelude.{None}
use Rattle.engine_runs.proofs.TurnLaws.{next_began, next_passed}
use Rattle.engine_runs.proofs.turning.begin_next.Goals as goal

pub returns-then-has_ended_by-clause-runs : goal.returns-then-has_ended_by-clause-runs
returns-then-has_ended_by-clause-runs g c = λ lives tasks before long are at away began r.
    next_passed g.N.Node g.N.ScriptNode.planned lives tasks before c.args.points c.args.names.now.items c.pass_life.new.names.items c.in_ok-pass_life.ensures.0 c.args.net.now c.args.life.now long at away began (c.if-has_ended_by.ensures.yes refl) c.in_ok-pass_life.ensures.1 r

pub returns-in-Ok-clause-runs : goal.returns-in-Ok-clause-runs
returns-in-Ok-clause-runs g c = λ lives tasks before long are at away began r.
    next_began g.N.Node g.N.ScriptNode.planned lives tasks (c.scripts_have_one_answer.ensures.task None) before c.args.points c.args.names.now.items c.begin_life.new.names.items c.args.net.now c.begin_life.new.net c.args.life.now long are at away began (c.if-has_ended_by.ensures.no refl)
    c.in-Ok.ensures.numbers c.in-Ok.ensures.stands c.in-Ok.ensures.names c.in-Ok.ensures.rested r
