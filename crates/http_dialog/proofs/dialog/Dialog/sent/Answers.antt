use Rattle.http_dialog.proofs.DialogLaws.{sent_goes}
use Rattle.http_dialog.proofs.dialog.Dialog.sent.Goals as goal

pub returns-clause-goes : goal.returns-clause-goes
returns-clause-goes c number past has =
    sent_goes number past c.args.self.now c.pass.new.self c.args.count c.pass.ensures.held c.pass.ensures.left c.pass.ensures.ending c.pass.ensures.due has
