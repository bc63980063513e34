use Rattle.std.proofs.Common.{◌≡◌, ◌+◌, List, subst, false, [], ◌∷◌, ◌++◌, sym, ap, ◌∙◌, refl}
use Rattle.kap_base.specs.Points.{PointValue}
use Rattle.recording_file.specs.declared.got.GivenPoints.{GivenPoints}
use Rattle.recording_file.specs.Got.{points_of}
use Rattle.recording_file.specs.Recording.{read}
use Rattle.recording_file.specs.Reading.{ReaderState}
use Rattle.recording_file.specs.Finding.{FindsEnd, CountRises}
use Rattle.recording_file.specs.Steps.{GivesPoint, StandsAt}
use Rattle.recording_file.proofs.StandLaws.{stands_on, stands_more, gives_state, ends_state}
use Rattle.recording_file.proofs.reader.Reader.next.Goals as goal

pub invariant_of-self : goal.invariant_of-self
invariant_of-self g c =
    let ps = points_of c.self.inside.given in
    let point = c.in-Ok-Some.point in
    let gives : GivesPoint read c.self.inside.lines c.next_point-next.new.lines point = rw c.in-Ok-Some.field-0-is at c.in-Ok-Some.ensures.point in
    let rises : CountRises c.self.inside.lines c.next_point-next.new.lines = rw c.in-Ok-Some.field-0-is at c.in-Ok-Some.ensures.count_rises in
    let line : c.next_point-next.new.lines.line ≡ c.self.inside.lines.line + 3 = rw c.in-Ok-Some.field-0-is at c.in-Ok-Some.ensures.line in
    let all : points_of c.of-before.result.value ++ c.of.result.value ∷ [] ≡ ps ++ point ∷ [] =
    ap (λ (b : GivenPoints). points_of b ++ c.of.result.value ∷ []) c.of-before.ensures ∙ ap (λ (q : PointValue). ps ++ q ∷ []) c.of.ensures in (
      λ fresh. subst (λ (qs : List PointValue). StandsAt qs c.next_point-next.new.lines) (sym all) (stands_more ps point _ _ (c.self.invariant.0 fresh) gives rises line),
      c.in-Ok-Some.ensures.db,
      c.in-Ok-Some.ensures.rp,
    )

pub invariant_of-self-in-Ok-None : goal.invariant_of-self-in-Ok-None
invariant_of-self-in-Ok-None g c =
    let over : FindsEnd c.self.inside.lines c.next_point-next.new.lines (g.S.Source.left c.args.source.now) (g.S.Source.left c.next_point-next.new.source) = rw c.in-Ok-None.field-0-is at c.in-Ok-None.ensures.end in
    (λ fresh. stands_on (points_of c.self.inside.given) _ _ _ _ over.stays (c.self.invariant.0 fresh), c.in-Ok-None.ensures.db, c.in-Ok-None.ensures.rp)

pub returns-in-Ok-Some-clause-point : goal.returns-in-Ok-Some-clause-point
returns-in-Ok-Some-clause-point g c =
    let ps = points_of c.self.inside.given in
    let point = c.in-Ok-Some.point in
    let fresh : c.self.inside.spent ≡ false = ap (λ (s : ReaderState). s.spent) c.self.view_is ∙ c.requires in
    let gives : GivesPoint read c.self.inside.lines c.next_point-next.new.lines point = rw c.in-Ok-Some.field-0-is at c.in-Ok-Some.ensures.point in
    let rises : CountRises c.self.inside.lines c.next_point-next.new.lines = rw c.in-Ok-Some.field-0-is at c.in-Ok-Some.ensures.count_rises in
    gives_state _ _ ps point c.self.inside.lines c.next_point-next.new.lines (c.self.invariant.0 fresh) gives rises (sym (ap (λ (s : ReaderState). s.given) c.self.view_is))
    (ap (λ (b : GivenPoints). points_of b ++ c.of.result.value ∷ []) c.of-before.ensures ∙ ap (λ (q : PointValue). ps ++ q ∷ []) c.of.ensures) refl refl

pub returns-in-Ok-None-clause-end : goal.returns-in-Ok-None-clause-end
returns-in-Ok-None-clause-end g c =
    let ps = points_of c.self.inside.given in
    let fresh : c.self.inside.spent ≡ false = ap (λ (s : ReaderState). s.spent) c.self.view_is ∙ c.requires in
    let over : FindsEnd c.self.inside.lines c.next_point-next.new.lines (g.S.Source.left c.args.source.now) (g.S.Source.left c.next_point-next.new.source) = rw c.in-Ok-None.field-0-is at c.in-Ok-None.ensures.end in
    ends_state _ _ ps c.self.inside.lines c.next_point-next.new.lines _ _ (c.self.invariant.0 fresh) over (sym (ap (λ (s : ReaderState). s.given) c.self.view_is)) refl refl refl
