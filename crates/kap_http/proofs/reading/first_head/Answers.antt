use Rattle.std.proofs.Common.{◌≡◌, arith, rules, true, false}
use Rattle.kap_http.specs.Lines.{has_more_lines}
use Rattle.kap_http.specs.declared.fault.HttpFault.TheVariants as faults
use Rattle.kap_http.proofs.HeadLaws.{answer_is, whole_gives, method_utf8, bad_gives, long_gives, waits_gives}
use Rattle.kap_http.proofs.RoomLaws.{may_go_on, overflows}
use Rattle.kap_http.proofs.reading.first_head.Goals as goal

pub head_of-requires-clause-method : goal.head_of-requires-clause-method
head_of-requires-clause-method c =
    let of = rw c.in-Ok-Complete.field-0-is at c.in-Ok-Complete.ensures.complete in
    method_utf8 c.front_of-front.result.now c.parse_request.new.headers c.in-Ok-Complete.spans of

pub returns-in-Ok-Complete : goal.returns-in-Ok-Complete
returns-in-Ok-Complete c ne =
    let within = rw c.in-Ok-Complete.field-0-is at c.in-Ok-Complete.ensures.within in
    let of = rw c.in-Ok-Complete.field-0-is at c.in-Ok-Complete.ensures.complete in
    let due = answer_is faults.NoMemory c.head_of.result _ c.head_of.ensures ne in
    let is = rw c.split_at.ensures.front at due in
    whole_gives c.args.bytes.now c.front_of-front.result.now c.parse_request.new.headers c.in-Ok-Complete.spans c.head_of.result c.front_of-front.ensures.front (search rules) within of is

pub returns-then-bytes-ge-HEAD_LIMIT : goal.returns-then-bytes-ge-HEAD_LIMIT
returns-then-bytes-ge-HEAD_LIMIT c _ =
    let none = rw c.in-Ok-Partial.field-0-is at c.in-Ok-Partial.ensures.partial in
    long_gives c.args.bytes.now c.front_of-front.result.now c.front_of-front.ensures.front (omega arith) none

pub returns-then-has_more_lines : goal.returns-then-has_more_lines
returns-then-has_more_lines c _ =
    let none = rw c.in-Ok-Partial.field-0-is at c.in-Ok-Partial.ensures.partial in
    let many : has_more_lines c.front_of-front.result.now ≡ true = cc in
    bad_gives c.args.bytes.now c.front_of-front.result.now c.front_of-front.ensures.front (overflows c.front_of-front.result.now none many)

pub returns-else-has_more_lines : goal.returns-else-has_more_lines
returns-else-has_more_lines c _ =
    let none = rw c.in-Ok-Partial.field-0-is at c.in-Ok-Partial.ensures.partial in
    let may = rw c.in-Ok-Partial.field-0-is at c.in-Ok-Partial.ensures.unfinished in
    let few : has_more_lines c.front_of-front.result.now ≡ false = cc in
    waits_gives c.args.bytes.now c.front_of-front.result.now c.front_of-front.ensures.front (omega arith) none (may_go_on c.front_of-front.result.now may few)

pub returns-in-Err : goal.returns-in-Err
returns-in-Err c _ = bad_gives c.args.bytes.now c.front_of-front.result.now c.front_of-front.ensures.front c.in-Err.ensures.no_room
