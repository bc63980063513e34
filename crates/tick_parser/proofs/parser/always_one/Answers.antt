use Rattle.std.proofs.Common.{List, inl, inr, ⊎_elim}
use Rattle.tick_parser.specs.Refusal.{Refused}
use Rattle.tick_parser.specs.Script.{Reads, Within}
use Rattle.tick_parser.specs.Trees.{StmtTree}
use Rattle.tick_parser.specs.declared.fault.ParseFault.{ParseFault}
use Rattle.tick_parser.proofs.Reading.{either}
use Rattle.tick_parser.proofs.parser.always_one.Goals as goal

pub returns : goal.returns
returns c = λ tokens.
    ⊎_elim
    (λ (h : (script : List StmtTree) × Reads tokens script × Within 64 512 4096 script). inl (h.0, (h.1, h.2)))
    (λ (h : (fault : ParseFault) × Refused 64 512 4096 tokens fault). inr h)
    (either 64 512 4096 tokens)
