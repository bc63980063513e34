use Rattle.std.proofs.Common.{◌≡◌, ◌<◌, ◌≤◌, ◌∙◌, length, refl, subst, sym, arith}
use Rattle.std.specs.Prelude.{IsTrue}
use Rattle.std.proofs.lemmas.Bool.{OnTrue_at}
use Rattle.std.proofs.KnownBytes.{Keeps-refl}
use Rattle.recording_file.proofs.FindLaws.{stays_more, stays_kept, short_bound}
use Rattle.std.specs.List.{position_or_len}
use Rattle.std.proofs.lemmas.Bool.Decides.{nat_tests}
use Rattle.recording_file.specs.Lines.{is_feed}
use Rattle.recording_file.specs.Finding.{HoldsLines}
use Rattle.recording_file.proofs.HeldLaws.{Counted, ended_there}
use Rattle.recording_file.proofs.lines.Lines.find.Goals as goal

pub returns-in_err-read_on-clause-stays : goal.returns-in_err-read_on-clause-stays
returns-in_err-read_on-clause-stays g c = stays_more _ _ _ _ _ _ c.finding.invariant.stays c.in_err-read_on.ensures.stays

pub returns-then-end-eq0-clause-stays : goal.returns-then-end-eq0-clause-stays
returns-then-end-eq0-clause-stays g c = stays_more _ _ _ _ _ _ c.finding.invariant.stays c.read_on.ensures.stays

pub returns-else-end-eq0-clause-stays : goal.returns-else-end-eq0-clause-stays
returns-else-end-eq0-clause-stays g c = stays_more _ _ _ _ _ _ c.finding.invariant.stays c.read_on.ensures.stays

pub finding-preserved : goal.finding-preserved
finding-preserved g c =
    let longer : c.line_end-end.result < length c.read_on.new.self.bytes = OnTrue_at c.if-not-branch.false c.in_ok-read_on.ensures.more in
    record {
      stays = stays_more _ _ _ _ _ _ c.finding.invariant.stays c.in_ok-read_on.ensures.stays;
      searched = omega arith;
      no_feed = OnTrue_at c.if-not-branch.false c.in_ok-read_on.ensures.searched;
      held = λ h.
          let same = c.finding.invariant.held h in
          let over : IsTrue c.finding.self.ended = ended_there c.finding.self (subst Counted c.self.view_is c.self.invariant.3) c.in_ok-read_on.ensures.undecided.no_feed (subst (HoldsLines 1) (sym same.0) h) in
          let kept = c.in_ok-read_on.ensures.ended over in
          (kept.0 ∙ same.0, kept.1 ∙ same.1);
      later = grind arith;
    }

pub finding-init : goal.finding-init
finding-init g c = record { stays = stays_kept _ _ _ _ refl (Keeps-refl _); searched = omega arith; no_feed = omega arith; held = λ h. (refl, refl); later = omega arith }

pub finding-smaller : goal.finding-smaller
finding-smaller g c =
    let longer : c.line_end-end.result < length c.read_on.new.self.bytes = OnTrue_at c.if-not-branch.false c.in_ok-read_on.ensures.more in
    let few : length c.finding.self.bytes ≤ 65537 = short_bound c.finding.self.bytes c.in_ok-read_on.ensures.undecided.short in
    grind arith

pub returns-in_err-size-clause-held : goal.returns-in_err-size-clause-held
returns-in_err-size-clause-held g c = c.finding.invariant.held

pub returns-then-end-held-clause-held : goal.returns-then-end-held-clause-held
returns-then-end-held-clause-held g c = c.finding.invariant.held

pub returns-in_err-read_on-clause-held : goal.returns-in_err-read_on-clause-held
returns-in_err-read_on-clause-held g c = λ h.
    let none : position_or_len is_feed c.finding.self.bytes ≡ length c.finding.self.bytes = grind (arith, nat_tests) in
    let same = c.finding.invariant.held h in
    let over : IsTrue c.finding.self.ended = ended_there c.finding.self (subst Counted c.self.view_is c.self.invariant.3) none (subst (HoldsLines 1) (sym same.0) h) in
    let kept = c.in_err-read_on.ensures.ended over in
    (kept.0 ∙ same.0, kept.1 ∙ same.1)

pub returns-then-end-eq0-clause-held : goal.returns-then-end-eq0-clause-held
returns-then-end-eq0-clause-held g c = λ h.
    let same = c.finding.invariant.held h in
    let over : IsTrue c.finding.self.ended = ended_there c.finding.self (subst Counted c.self.view_is c.self.invariant.3) c.in_ok-read_on.ensures.undecided.no_feed (subst (HoldsLines 1) (sym same.0) h) in
    let kept = c.in_ok-read_on.ensures.ended over in
    (kept.0 ∙ same.0, kept.1 ∙ same.1)

pub returns-else-end-eq0-clause-held : goal.returns-else-end-eq0-clause-held
returns-else-end-eq0-clause-held g c = λ h.
    let same = c.finding.invariant.held h in
    let over : IsTrue c.finding.self.ended = ended_there c.finding.self (subst Counted c.self.view_is c.self.invariant.3) c.in_ok-read_on.ensures.undecided.no_feed (subst (HoldsLines 1) (sym same.0) h) in
    let kept = c.in_ok-read_on.ensures.ended over in
    (kept.0 ∙ same.0, kept.1 ∙ same.1)
