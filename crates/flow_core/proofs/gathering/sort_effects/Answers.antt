use Rattle.std.proofs.Common.{rules, List, subst, sym}
use Rattle.std.proofs.lemmas.Fn.{always_returns_same}
use Rattle.kap_base.specs.declared.items.Effect.{Effect}
use Rattle.flow_core.specs.Sorting.{AreSorted, place_of}
use Rattle.flow_core.proofs.SortLaws.{sorted_by_places}
use Rattle.flow_core.proofs.gathering.sort_effects.Goals as goal

pub returns-clause-sorted : goal.returns-clause-sorted
returns-clause-sorted c =
    let sorted = c.sort_unstable_by_key.ensures.sorted place_of (always_returns_same _ _ _ (λ a r q k. search rules)) in
    subst (λ (l : List Effect). AreSorted l) (sym c.from_items.ensures) (sorted_by_places c.sort_unstable_by_key.new.self.items sorted)
