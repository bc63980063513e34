use Rattle.std.proofs.Common.{ℕ, ◌+◌, ◌<◌, length, map, sym, subst, ◌∙◌}
use Rattle.std.specs.List.{AllByRecursion as Each}
use Rattle.flow_core.specs.Nets.{numbers_of}
use Rattle.engine_runs.specs.Spans.{HasEndedBy, IsOnward, last_of}
use Rattle.engine_runs.proofs.PlaceLaws.{removed_less}
use Rattle.engine_runs.proofs.TurnLaws.{lives_ended, lives_onward}
use Rattle.engine_runs.proofs.turning.end_lives.Goals as goal

pub ending-preserved : goal.ending-preserved
ending-preserved g c = record {
  unspent = c.end.ensures.spent;
  rest = c.end.ensures.rest;
  none = c.end.ensures.gathered;
  last = c.end.ensures.last ∙ c.ending.invariant.last;
  runs = λ tasks before names long r.
      lives_ended g.N.Node g.N.ScriptNode.planned c.args.lives.now tasks before names c.ending.net c.end.new.self c.in-Some.number (c.ending.invariant.runs tasks before names long r) c.end.ensures.ends
      (subst (λ (k : ℕ). HasEndedBy k (last_of c.args.lives.now c.in-Some.number)) long c.in-Some.ensures.1) c.end.ensures.rest c.end.ensures.gathered c.end.ensures.last c.end.ensures.spent;
}

pub ending-smaller : goal.ending-smaller
ending-smaller g c = subst (λ ls. length ls < length c.ending.net.lives) (sym c.end.ensures.ends.is) (removed_less c.ending.net.lives c.end.ensures.ends.place c.end.ensures.ends.within)

pub returns-clause-runs : goal.returns-clause-runs
returns-clause-runs g c = λ tasks before names long r.
    lives_onward g.N.Node g.N.ScriptNode.planned c.args.lives.now tasks before 0 1 names c.ending.net (c.ending.invariant.runs tasks before names long r)
    (subst (λ (k : ℕ). Each (IsOnward (k + 1)) (map (last_of c.args.lives.now) (numbers_of c.ending.net.lives))) long
    (subst (λ ls. Each (IsOnward (c.args.points + 1)) (map (last_of c.args.lives.now) (numbers_of ls))) c.lives.ensures.lives c.in_default.ensures))
