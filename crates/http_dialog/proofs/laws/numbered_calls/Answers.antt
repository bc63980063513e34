use Rattle.http_dialog.proofs.NumberLaws.{adds_own, adds_others}
use Rattle.http_dialog.proofs.DriveLaws.{others_on}
use Rattle.http_dialog.proofs.laws.numbered_calls.Goals as goal

pub returns-clause-own : goal.returns-clause-own
returns-clause-own c = adds_own

pub returns-clause-others : goal.returns-clause-others
returns-clause-others c = adds_others

pub returns-clause-goes : goal.returns-clause-goes
returns-clause-goes c number l m v w a b d dialog more = others_on number l m v w a b d dialog more
