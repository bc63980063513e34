use Rattle.http_dialog.proofs.InputLaws.{head_of_more}
use Rattle.http_dialog.proofs.input.grown.Goals as goal

pub returns-in-Whole : goal.returns-in-Whole
returns-in-Whole c bytes more known = head_of_more c.in-Whole.head bytes more (rw c.in-Whole.is at known)
