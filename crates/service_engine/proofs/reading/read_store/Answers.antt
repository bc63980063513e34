use Rattle.store_records.specs.Histories.{held}
use Rattle.topic_store.specs.Pieces.{piece_behind}
use Rattle.service_engine.proofs.FaultLaws.{read_told}
use Rattle.service_engine.proofs.ReadLaws.{piece_is_behind}
use Rattle.service_engine.proofs.reading.read_store.Goals as goal

pub returns-in-Ok-clause-behind : goal.returns-in-Ok-clause-behind
returns-in-Ok-clause-behind g c = λ tells rs on.
    piece_is_behind (held rs).transitions c.args.after c.in-Ok.some (c.in-Ok.ensures.transitions tells rs on)

pub returns-in-Err-clause-told : goal.returns-in-Err-clause-told
returns-in-Err-clause-told g c = λ tells rs on.
    read_told (piece_behind c.args.after (held rs).transitions) c.in-Err.fault c.from.result c.share_fault.result
    c.from.ensures c.share_fault.ensures (c.in-Err.ensures.transitions tells rs on)
