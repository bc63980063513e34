use Rattle.std.proofs.Common.{◌<◌, inr, subst, arith}
use Rattle.std.proofs.lemmas.Bool.Decides.{nat_tests}
use Rattle.recording_file.specs.Finding.{HoldsLines}
use Rattle.recording_file.proofs.HeldLaws.{shown}
use Rattle.recording_file.proofs.lines.Lines.holds_group.Goals as goal

pub returns-else-self : goal.returns-else-self
returns-else-self c = λ more.
    let old = c.self.invariant in
    let lt : c.self.inside.passed < c.self.inside.feeds.third = grind (arith, nat_tests) in
    let there = shown 3 c.self.inside.passed c.self.inside.window c.self.inside.feeds.third lt old.4.third in
    let sum = old.3 c.if-self.false in
    subst (HoldsLines 3) c.self.view_is (inr (omega arith))
