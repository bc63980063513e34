use Rattle.std.proofs.Common.{refl}
use Rattle.flow_cells.proofs.MadeLaws.{out-keeps}
use Rattle.flow_cells.proofs.making.add_out.Goals as goal

pub returns-clause-keeps : goal.returns-clause-keeps
returns-clause-keeps g c =
    let cell = c.args.cell.now in
    out-keeps g.N.Node cell.base.value cell.ins.items cell.source.value.items cell.buffer cell.core _ c.args.out c.requires.keeps c.requires.nothing c.requires.unused
    refl refl refl refl refl refl refl c.in_ok-push.ensures.items
