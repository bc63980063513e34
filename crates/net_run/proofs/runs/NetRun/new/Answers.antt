use Rattle.std.proofs.Common.{sym}
use Rattle.net_epochs.proofs.StandLaws.{lives_first}
use Rattle.net_run.proofs.runs.NetRun.new.Goals as goal

pub invariant_of-result : goal.invariant_of-result
invariant_of-result g c = λ e.
    let made = c.in_ok-make.ensures in
    rw (c.of-planned.ensures, c.of.ensures) (
      sym made.last,
      record {
        last = made.last;
        none = made.gathered;
        lives = lives_first g.N.Node c.args.plans.items _ made.lives c.requires.first;
        carried = made.carried;
        rise = c.requires.rise;
      },
      made.room,
    )
