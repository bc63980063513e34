use Rattle.std.proofs.Common.{refl, sym, ◌∙◌}
use Rattle.line_points.specs.Line.{line_of}
use Rattle.line_points.proofs.MeaningLaws.{read_means, meaning_read}
use Rattle.line_points.proofs.law.one_meaning.Goals as goal

pub returns-clause-some : goal.returns-clause-some
returns-clause-some c = λ db rp line mode. (line_of db rp mode line, read_means db rp mode line (line_of db rp mode line) refl)

pub returns-clause-one : goal.returns-clause-one
returns-clause-one c = λ db rp line mode r s m n. sym (meaning_read db rp mode line r m) ∙ meaning_read db rp mode line s n
