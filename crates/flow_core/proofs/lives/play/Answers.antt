use Rattle.std.proofs.Common.{◌≡◌, ◌+◌, refl, ap, sym, ◌∙◌, arith}
use Rattle.flow_life.proofs.PlayLaws.{plays_more}
use Rattle.flow_life.specs.Playing.{played}
use Rattle.flow_life.specs.Steps.{one_if}
use Rattle.flow_core.proofs.DoneLaws.{gathers_none, gathers_then}
use Rattle.flow_core.specs.Nets.{EnabledIn, GrowsIn}
use Rattle.flow_core.specs.Running.{SameEnabledIn}
use Rattle.flow_core.proofs.lives.play.Goals as goal
use Rattle.flow_core.proofs.lives.play.Goals.{else-branch, then-branch}

pub playing-init : goal.playing-init
playing-init g c = record {
  made = omega arith;
  numbers = refl;
  sound = c.requires;
  plans = refl;
  specs = refl;
  rooms = refl;
  ends = refl;
  plays = played;
  count = omega arith;
  gathers = gathers_none _ _;
}

pub playing-preserved : goal.playing-preserved
playing-preserved g c =
    let before = c.playing.invariant in
    let made = c.in_ok-step.field-0 in
    let e = c.in_ok-step.ensures in
    let count : c.if-branch.made ≡ c.playing.made + one_if made =
    elim c.if-branch.branch [
      | then-branch w ↦ w.made-is ∙ ap (λ b. c.playing.made + one_if b) (sym w.if-branch.true)
      | else-branch w ↦ let none : c.playing.made ≡ c.playing.made + 0 = omega arith in w.made-is ∙ none ∙ ap (λ b. c.playing.made + one_if b) (sym w.if-branch.false)
    ] in
    record {
      made = elim c.if-branch.branch [ then-branch w ↦ omega (arith, w.made-is, before.made) | else-branch w ↦ omega (arith, w.made-is, before.made) ];
      numbers = e.numbers ∙ before.numbers;
      sound = e.sound;
      plans = e.plans ∙ before.plans;
      specs = e.specs ∙ before.specs;
      rooms = e.rooms ∙ before.rooms;
      ends = e.ends ∙ before.ends;
      plays = plays_more EnabledIn GrowsIn SameEnabledIn c.args.steps.now c.playing.next-index _ _ _ _ _ _ _ made c.playing-test.true refl before.plays e.yes e.no e.grows e.still count;
      count = omega (arith, e.count, before.count, count);
      gathers = gathers_then _ _ _ _ _ _ before.gathers e.gathers;
    }
