use Rattle.kap_base.proofs.ResultLaws.{on_ok}
use Rattle.flow_core.proofs.LivesLaws.{lives_behind}
use Rattle.flow_core.proofs.listing.+list_onward.Goals as goal

pub returns-clause-lives : goal.returns-clause-lives
returns-clause-lives g t c = on_ok c.list_onward.result (lives_behind g.N.Node _ _ _ c.in-Some.ensures.cases.0 c.cells.ensures.life) c.list_onward.ensures.lives
