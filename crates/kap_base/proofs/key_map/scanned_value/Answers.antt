use Rattle.std.proofs.Common.{◌≡◌, List, ℕ, true, false, ap, sym, ◌∙◌}
use Rattle.std.specs.FinMap.{find}
use Rattle.std.specs.Str.{bytes_eq}
use Rattle.kap_base.specs.Maps.{byte_order}
use Rattle.kap_base.proofs.PlaceLaws.{first_has, first_lacks}
use Rattle.kap_base.proofs.key_map.scanned_value.Goals as goal

pub returns-then-are_same : goal.returns-then-are_same
returns-then-are_same g c =
    let first = c.in-Some.first.now in
    let same : bytes_eq c.args.key.now first.0 ≡ true
    = rw (c.bytes.ensures.bytes, c.bytes-in-Some.ensures.bytes) at (sym c.are_same.ensures ∙ c.if-are_same.true) in
    sym (sym c.looking.invariant ∙ ap (λ (es : List (List ℕ × g.row.V.Denot)). find byte_order c.args.key.now es) c.in-Some.ensures.cases.0
    ∙ first_has c.args.key.now first c.in-Some.others.now same)

pub looking-preserved : goal.looking-preserved
looking-preserved g c =
    let first = c.in-Some.first.now in
    let other : bytes_eq c.args.key.now first.0 ≡ false
    = rw (c.bytes.ensures.bytes, c.bytes-in-Some.ensures.bytes) at (sym c.are_same.ensures ∙ c.if-are_same.false) in
    sym (first_lacks c.args.key.now first c.in-Some.others.now other)
    ∙ ap (λ (es : List (List ℕ × g.row.V.Denot)). find byte_order c.args.key.now es) (sym c.in-Some.ensures.cases.0)
    ∙ c.looking.invariant
