use Rattle.std.proofs.Common.{refl}
use Rattle.http_dialog.specs.declared.ending.DialogEnd.TheVariants as ends
use Rattle.kap_http.specs.Requests.{at_end, inside}
use Rattle.http_dialog.proofs.DialogLaws.{over_goes}
use Rattle.http_dialog.proofs.dialog.Dialog.close.Goals as goal

pub returns-then-is_bare-clause-goes : goal.returns-then-is_bare-clause-goes
returns-then-is_bare-clause-goes c number past has =
    over_goes number past c.args.self.now _ ends.Closed at_end c.requires.open c.end.ensures.ending c.end.ensures.due refl refl c.if-is_bare.ensures has

pub returns-clause-goes : goal.returns-clause-goes
returns-clause-goes c number past has =
    over_goes number past c.args.self.now _ ends.Refused inside c.requires.open c.end-2.ensures.ending c.end-2.ensures.due refl refl (c.if-is_bare.ensures, c.requires.waits) has
