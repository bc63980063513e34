use Rattle.http_dialog.proofs.DialogLaws.{stays}
use Rattle.http_dialog.proofs.dialog.Dialog.advance.Goals as goal

pub returns-in-Some-clause-steps : goal.returns-in-Some-clause-steps
returns-in-Some-clause-steps g c = stays c.args.number c.args.self.now (g.H.Serve.served c.args.serve.now)
