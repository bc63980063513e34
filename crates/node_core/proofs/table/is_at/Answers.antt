use Rattle.std.proofs.Common.{◌≡◌, ◌<◌, List, ℕ, Some, true, length, ap, sym, ◌∙◌, arith}
use Rattle.std.specs.Cmp.Lexicographic.{bytes_decides}
use Rattle.indexmap.specs.IndexMap.{get as get_in}
use Rattle.std.specs.Str.{bytes_eq}
use Rattle.node_core.proofs.CellLaws.{known_cell}
use Rattle.node_core.proofs.table.is_at.Goals as goal

pub returns-in-Some : goal.returns-in-Some
returns-in-Some g c = λ same. λ first.
    let true_is : c.are_same.result ≡ true = same in
    let key : c.in-Some.entry.0.now ≡ c.args.key.now
    = sym c.bytes.ensures ∙ (bytes_decides c.bytes.result.now c.bytes-in-Some.result.now).0 (sym c.are_same.ensures ∙ true_is) ∙ c.bytes-in-Some.ensures in
    let within : c.args.at < length c.args.cells.now.entries = omega (arith, c.if-len-at.false, c.len.ensures.len) in
    known_cell c.args.cells.now c.args.key.now c.args.at c.in-Some.entry.1.now c.len.ensures.unique within
    (sym c.in-Some.ensures.entry ∙ ap (λ (k : List ℕ). Some (k, c.in-Some.entry.1.now)) key)
    (ap (λ (k : List ℕ). get_in bytes_eq c.args.cells.now k) (sym key) ∙ c.in-Some.ensures.value) first
