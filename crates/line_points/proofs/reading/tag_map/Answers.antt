use Rattle.std.proofs.Common.{refl}
use Rattle.line_points.proofs.DifferLaws.{keys_twice, keys_once}
use Rattle.line_points.proofs.reading.tag_map.Goals as goal

pub returns-then-len-given : goal.returns-then-len-given
returns-then-len-given c = λ _. rw (keys_twice c.args.tags c.len.result c.len-given.result c.in_ok-map.map c.len-given.ensures c.len.ensures (rw c.into_items.ensures at c.in_ok-map.ensures) c.if-len-given.true) refl

pub returns : goal.returns
returns c =
    let map_is = rw c.into_items.ensures at c.in_ok-map.ensures in
    rw (keys_once c.args.tags c.len.result c.len-given.result c.in_ok-map.map c.len-given.ensures c.len.ensures map_is c.if-len-given.false, map_is) refl
