use Rattle.std.proofs.Common.{IsPermutation, [], append-nil, ◌++◌, ◌∙◌, ap, subst, sym}
use Rattle.std.proofs.lemmas.List.Sorted.{IsPermutation-sym, IsPermutation-trans}
use Rattle.flow_core.specs.Done.{effects_in}
use Rattle.flow_core.specs.Sorting.{AreRising}
use Rattle.flow_core.proofs.UniqueLaws.{sorted_is}
use Rattle.barrier_snapshot.specs.Resuming.{DidTheRestOf, effects_behind}
use Rattle.flow_tests.proofs.captures.collect_both.Goals as goal

pub returns-clause-behind : goal.returns-clause-behind
returns-clause-behind g c =
    let node = g.N.Node in
    let all = c.collect-all in
    let late = c.collect-late in
    let did : DidTheRestOf node c.args.mark all.new.self.lives late.new.self.lives =
    subst (λ ls. DidTheRestOf node c.args.mark ls late.new.self.lives) (sym all.ensures.lives)
    (subst (λ ls. DidTheRestOf node c.args.mark c.args.net.now.lives ls) (sym late.ensures.lives) c.requires.behind) in
    subst (λ es. IsPermutation (effects_behind c.args.mark es) late.result) (ap (λ es. all.result ++ es) all.ensures.none ∙ append-nil all.result)
    (subst (λ es. IsPermutation (effects_behind c.args.mark (all.result ++ all.new.self.gathered)) es) (ap (λ es. late.result ++ es) late.ensures.none ∙ append-nil late.result)
    (c.nets_collect_alike.ensures.behind c.args.mark all.new.self late.new.self all.result late.result did (all.ensures.gathers [] c.requires.gathered) (late.ensures.gathers [] c.requires.gathered_too)))

pub returns-clause-in_order : goal.returns-clause-in_order
returns-clause-in_order g c = λ due rises done.
    let node = g.N.Node in
    let all = c.collect-all in
    let late = c.collect-late in
    let did : DidTheRestOf node c.args.mark all.new.self.lives late.new.self.lives =
    subst (λ ls. DidTheRestOf node c.args.mark ls late.new.self.lives) (sym all.ensures.lives)
    (subst (λ ls. DidTheRestOf node c.args.mark c.args.net.now.lives ls) (sym late.ensures.lives) c.requires.behind) in
    let lives = effects_in c.args.net.now.lives in
    let same : IsPermutation due all.result =
    IsPermutation-trans due lives all.result (IsPermutation-sym lives due done) (IsPermutation-trans lives c.args.net.now.gathered all.result c.requires.gathered all.ensures.same) in
    let rising : AreRising all.result = subst AreRising (sym (sorted_is due all.result rises same all.ensures.sorted)) rises in
    c.nets_collect_alike.ensures.in_order c.args.mark all.new.self late.new.self all.result late.result did
    (all.ensures.gathers [] c.requires.gathered) all.ensures.none rising (late.ensures.gathers [] c.requires.gathered_too) late.ensures.none late.ensures.sorted
