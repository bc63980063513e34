use Rattle.std.proofs.Common.{◌∙◌}
use Rattle.http_dialog.proofs.DialogLaws.{came_goes}
use Rattle.http_dialog.proofs.dialog.Dialog.take_in.Goals as goal

pub returns-clause-goes : goal.returns-clause-goes
returns-clause-goes c number past has =
    came_goes number past c.args.self.now _ c.args.piece.now c.requires.open (c.in_ok-keep.ensures.ending ∙ c.requires.open) c.in_ok-keep.ensures.held c.in_ok-keep.ensures.left c.in_ok-keep.ensures.due has
