use Rattle.kap_http.proofs.HeadFirstLaws.{whole_answer, fault_answer}
use Rattle.kap_http.proofs.reading.first_request.Goals as goal

pub returns-in-Ok-Some : goal.returns-in-Ok-Some
returns-in-Ok-Some c =
    let gives = rw c.in-Ok-Some.field-0-is at c.in-Ok-Some.ensures.gives in
    whole_answer c.args.bytes.now c.in-Ok-Some.head c.whole_in.result (gives (λ e. cc)) c.whole_in.ensures

pub returns-in-Err : goal.returns-in-Err
returns-in-Err c = fault_answer c.args.bytes.now c.in-Err.fault c.in-Err.ensures.gives
