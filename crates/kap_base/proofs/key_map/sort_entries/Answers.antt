use Rattle.std.proofs.Common.{List, ℕ, rules}
use Rattle.std.proofs.lemmas.Cmp.{nat_list_cmp_total}
use Rattle.std.proofs.lemmas.List.Sorted.{ranks_by}
use Rattle.std.proofs.lemmas.Fn.{always_returns_same}
use Rattle.kap_base.proofs.key_map.sort_entries.Goals as goal

pub returns-clause-stable : goal.returns-clause-stable
returns-clause-stable g c = c.in_ok-sort_by.ensures.stable _ (ranks_by nat_list_cmp_total (λ (e : List ℕ × g.row.V.Denot). e.0)) (always_returns_same _ _ _ (λ a r f k. search rules))
