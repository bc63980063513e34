use Rattle.std.proofs.Common.{◌≡◌, ◌+◌, ℕ, sym, ap, ◌∙◌}
use Rattle.flow_life.specs.Left.{left_of}
use Rattle.flow_life.proofs.LeftLaws.{left-same}
use Rattle.flow_life.proofs.ListingLaws.{ends-gathered}
use Rattle.flow_life.specs.Steps.{one_if}
use Rattle.flow_life.proofs.RoomLaws.{rooms_gathered}
use Rattle.flow_core.proofs.DoneLaws.{idle_gathers, step_gathers}
use Rattle.flow_core.proofs.LivesLaws.{grows_gathered}
use Rattle.flow_core.proofs.lives.step_life.Goals as goal

pub returns-then-not-made-clause-gathers : goal.returns-then-not-made-clause-gathers
returns-then-not-made-clause-gathers g c =
    idle_gathers _ _ _ c.requires.sound.gathered (c.in_ok-made.ensures.idle c.if-not-made.true c.requires.sound.gathered) c.in_ok-made.ensures.gathered

pub returns-clause-grows : goal.returns-clause-grows
returns-clause-grows g c = λ _. grows_gathered c.args.next _ _ _ c.in_ok-gather_from.ensures.gathers (c.in_ok-made.ensures.grows c.if-not-made.false)

pub returns-clause-gathers : goal.returns-clause-gathers
returns-clause-gathers g c = step_gathers _ _ _ _ _ c.requires.sound.gathered c.in_ok-made.ensures.gathered c.in_ok-gather_from.ensures.gathers c.in_ok-gather_from.ensures.given

pub returns-clause-ends : goal.returns-clause-ends
returns-clause-ends g c = ends-gathered _ _ c.in_ok-gather_from.ensures.gathers ∙ c.in_ok-made.ensures.ends

pub returns-clause-left : goal.returns-clause-left
returns-clause-left g c =
    let mid = left_of g.N.Node c.step.new.self.cells in
    let new = left_of g.N.Node c.gather_from.new.self.cells in
    let first : left_of g.N.Node c.args.life.now.life.cells ≡ mid + 1 = c.in_ok-made.ensures.left ∙ ap (λ b. mid + one_if b) c.if-not-made.false in
    let same : new ≡ mid = left-same g.N.Node _ _ c.in_ok-gather_from.ensures.plans c.in_ok-gather_from.ensures.count in
    first ∙ ap (λ (n : ℕ). n + 1) (sym same)

pub returns-clause-rooms : goal.returns-clause-rooms
returns-clause-rooms g c = rooms_gathered _ _ c.in_ok-gather_from.ensures.gathers ∙ c.in_ok-made.ensures.rooms
