use Rattle.std.proofs.Common.{sym, ◌∙◌}
use Rattle.kap_base.proofs.KeyMapLaws.{holds}
use Rattle.kap_base.proofs.ManyLaws.{rising, stable}
use Rattle.kap_base.proofs.key_map.KeyMap.from_entries.Goals as goal

pub returns-then-rises : goal.returns-then-rises
returns-then-rises g c = rising c.args.entries.items (holds _ (sym (rw c.deref.ensures.value at c.if-rises.ensures)))

pub returns-then-rises-2 : goal.returns-then-rises-2
returns-then-rises-2 g c =
    rising c.in_ok-sorted.sorted.items (holds _ (sym (rw c.deref-2.ensures.value at c.if-rises-2.ensures)))
    ∙ stable c.args.entries.items c.in_ok-sorted.sorted.items c.in_ok-sorted.ensures.stable (sym c.in_ok-sorted.ensures.same)

pub returns : goal.returns
returns g c = c.in_ok-last_of_each.ensures.same ∙ stable c.args.entries.items c.in_ok-sorted.sorted.items c.in_ok-sorted.ensures.stable (sym c.in_ok-sorted.ensures.same)
