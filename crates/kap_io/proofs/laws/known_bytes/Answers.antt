use Rattle.kap_io.proofs.KnownLaws.{keeps_more, keeps_appends, keeps_consumes, appends_more, appends_kept, consumes_more, consumes_kept}
use Rattle.kap_io.proofs.laws.known_bytes.Goals as goal

pub returns-clause-keeps : goal.returns-clause-keeps
returns-clause-keeps c = keeps_more

pub returns-clause-appends_none : goal.returns-clause-appends_none
returns-clause-appends_none c = keeps_appends

pub returns-clause-consumes_none : goal.returns-clause-consumes_none
returns-clause-consumes_none c = keeps_consumes

pub returns-clause-appends : goal.returns-clause-appends
returns-clause-appends c = appends_more

pub returns-clause-appends_kept : goal.returns-clause-appends_kept
returns-clause-appends_kept c = appends_kept

pub returns-clause-consumes : goal.returns-clause-consumes
returns-clause-consumes c = consumes_more

pub returns-clause-consumes_kept : goal.returns-clause-consumes_kept
returns-clause-consumes_kept c = consumes_kept
