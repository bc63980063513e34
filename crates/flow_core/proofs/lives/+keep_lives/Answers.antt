use Rattle.flow_core.proofs.LivesLaws.{lives_more, prefixes_more}
use Rattle.flow_core.proofs.lives.+keep_lives.Goals as goal

pub returns-in-Some-clause-lives : goal.returns-in-Some-clause-lives
returns-in-Some-clause-lives g t c = lives_more g.N.Node _ _ _ c.in-Some.ensures.cases.0 c.requires c.keeps.ensures c.keep_lives.ensures.lives

pub returns-in-Some-clause-prefixes : goal.returns-in-Some-clause-prefixes
returns-in-Some-clause-prefixes g t c = prefixes_more g.N.Node _ _ _ c.in-Some.ensures.cases.0 c.requires c.keeps.ensures c.keep_lives.ensures.prefixes
