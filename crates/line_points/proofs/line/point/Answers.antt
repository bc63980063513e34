use Rattle.std.proofs.Common.{◌≡◌, [], sym}
use Rattle.line_points.proofs.FactLaws.{line_from, read_is_point}
use Rattle.line_points.proofs.line.point.Goals as goal

pub invariant_of-result : goal.invariant_of-result
invariant_of-result c =
    let none : c.none.result ≡ [] = c.none.ensures in
    let name_is = rw (c.skip_spaces.ensures.rest, c.new-scanner.ensures) at c.in_ok-name.ensures in
    read_is_point c.in_ok-db.db c.in_ok-rp.rp c.args.mode.now c.args.line.now c.in_ok-name.name c.in_ok-tags.tags c.in_ok-fields.fields c.none.result c.in_ok-time.time _ _ _
    c.requires.line c.utf8.line
    (line_from c.in_ok-db.db c.args.db.now c.in_ok-db.ensures.copy c.requires.db c.in_ok-db.ensures.utf8)
    (line_from c.in_ok-rp.rp c.args.rp.now c.in_ok-rp.ensures.copy c.requires.rp c.in_ok-rp.ensures.utf8)
    c.requires.time name_is c.in_ok-tags.ensures c.in_ok-fields.ensures (sym c.in_ok-time.ensures) none
