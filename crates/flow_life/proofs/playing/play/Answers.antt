use Rattle.std.proofs.Common.{◌≡◌, ◌+◌, refl, subst, ap, sym, ◌∙◌, arith}
use Rattle.std.proofs.lemmas.List.{take_all}
use Rattle.flow_life.proofs.PlayLaws.{plays_more}
use Rattle.flow_life.specs.Playing.{Plays, played}
use Rattle.flow_life.specs.Settling.{Grows}
use Rattle.flow_life.specs.Steps.{IsEnabled, one_if}
use Rattle.flow_life.proofs.StreamLaws.{carries_prefixes}
use Rattle.flow_life.specs.Trying.{SameEnabled}
use Rattle.flow_life.proofs.playing.play.Goals as goal
use Rattle.flow_life.proofs.playing.play.Goals.{else-branch, then-branch}

pub playing-init : goal.playing-init
playing-init g c = record {
  made = omega arith;
  life = c.requires;
  plans = refl;
  specs = refl;
  gathered = refl;
  rooms = refl;
  plays = played;
  count = omega arith;
}

pub playing-preserved : goal.playing-preserved
playing-preserved g c =
    let before = c.playing.invariant in
    let made = c.in_ok-step.field-0 in
    let e = c.in_ok-step.ensures in
    let count : c.if-branch.made ≡ c.playing.made + one_if made =
    elim c.if-branch.branch [
      | then-branch w ↦ w.made-is ∙ ap (λ b. c.playing.made + one_if b) (sym w.if-branch.true)
      | else-branch w ↦ let none : c.playing.made ≡ c.playing.made + 0 = omega arith in w.made-is ∙ none ∙ ap (λ b. c.playing.made + one_if b) (sym w.if-branch.false)
    ] in
    record {
      made = elim c.if-branch.branch [ then-branch w ↦ omega (arith, w.made-is, before.made) | else-branch w ↦ omega (arith, w.made-is, before.made) ];
      life = e.life;
      plans = e.plans ∙ before.plans;
      specs = e.specs ∙ before.specs;
      gathered = e.gathered ∙ before.gathered;
      rooms = e.rooms ∙ before.rooms;
      plays = plays_more IsEnabled Grows SameEnabled c.args.steps.now c.playing.next-index _ _ _ _ _ _ _ made c.playing-test.true refl before.plays e.yes e.no e.grows e.still count;
      count = omega (arith, e.count, before.count, count);
    }

pub returns-clause-plays : goal.returns-clause-plays
returns-clause-plays g c = subst (λ steps. Plays steps c.args.cells.now c.playing.made c.playing.cells) (take_all _ _ c.playing-test.false) c.playing.invariant.plays

pub returns-clause-prefixes : goal.returns-clause-prefixes
returns-clause-prefixes g c = carries_prefixes g.N.Node c.playing.cells c.playing.invariant.life.ready
