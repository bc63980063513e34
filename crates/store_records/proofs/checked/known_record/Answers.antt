use Rattle.store_records.proofs.BodyLaws.{known, reads_behind}
use Rattle.store_records.proofs.checked.known_record.Goals as goal

pub returns-in-Some-eq5-default : goal.returns-in-Some-eq5-default
returns-in-Some-eq5-default c r is =
    c.known_batch.ensures r (reads_behind r c.args.body.now c.in-Some-eq5-default.field-0-0.now c.in-Some-eq5-default.rest.now c.in-Some-eq5-default.ensures.cases.0 c.in-Some-eq5-default.field-0-0-test is)

pub returns-in_default : goal.returns-in_default
returns-in_default c r is = known r c.args.body.now c.read_record.result is c.read_record.ensures
