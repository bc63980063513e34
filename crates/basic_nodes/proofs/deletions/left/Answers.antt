use Rattle.std.proofs.Common.{◌≡◌, sym, subst}
use Rattle.std.specs.Prelude.{IfOk}
use Rattle.basic_nodes.specs.Deletions.{is_left}
use Rattle.kap_base.proofs.RetainLaws.{left_of, nothing_goes}
use Rattle.basic_nodes.proofs.deletions.left.Goals as goal

pub returns-then-all_left : goal.returns-then-all_left
returns-then-all_left g c =
    nothing_goes (is_left c.args.taken.now) c.args.keyed (sym (rw (c.as_slice-taken.ensures, c.entries.ensures) at c.if-all_left.ensures))

pub returns : goal.returns
returns g c =
    let is = rw (c.as_slice-taken.ensures, c.entries-2.ensures) at c.in_ok-left.ensures in
    subst (λ m. IfOk c.from_entries.result (λ left. left ≡ m)) (left_of (is_left c.args.taken.now) c.args.keyed c.in_ok-left.left.items is) c.from_entries.ensures
