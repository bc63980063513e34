use Rattle.std.proofs.Common.{refl}
use Rattle.kap_io.proofs.FileLaws.{written}
use Rattle.kap_io.proofs.disk_files.overwrite.Goals as goal

pub returns-clause-ok : goal.returns-clause-ok
returns-clause-ok c =
    let at = c.in_ok-start.ensures.range in
    written c.args.at _ _ _ _ c.args.piece.now _ _ _ _ at.0 at.1 c.in_ok-start.ensures.ok c.deref_mut.ensures.value c.copy_from_slice.ensures.after refl
    c.deref_mut.ensures.len
