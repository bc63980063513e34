use Rattle.std.proofs.Common.{IsPermutation, [], append-nil, ◌++◌, ◌∙◌, ap, subst, sym}
use Rattle.std.specs.List.{AllZip}
use Rattle.barrier_snapshot.specs.Resuming.{DidTheSame}
use Rattle.flow_tests.proofs.captures.collect_same.Goals as goal

pub returns-clause-same : goal.returns-clause-same
returns-clause-same g c =
    let node = g.N.Node in
    let all = c.collect-all in
    let late = c.collect-late in
    let did : AllZip (DidTheSame node) all.new.self.lives late.new.self.lives =
    subst (λ ls. AllZip (DidTheSame node) ls late.new.self.lives) (sym all.ensures.lives)
    (subst (λ ls. AllZip (DidTheSame node) c.args.net.now.lives ls) (sym late.ensures.lives) c.requires.same) in
    subst (λ es. IsPermutation es late.result) (ap (λ es. all.result ++ es) all.ensures.none ∙ append-nil all.result)
    (subst (λ es. IsPermutation (all.result ++ all.new.self.gathered) es) (ap (λ es. late.result ++ es) late.ensures.none ∙ append-nil late.result)
    (c.nets_collect_alike.ensures.same all.new.self late.new.self all.result late.result did (all.ensures.gathers [] c.requires.gathered) (late.ensures.gathers [] c.requires.gathered_too)))

pub returns-clause-in_order : goal.returns-clause-in_order
returns-clause-in_order g c = λ rising.
    let node = g.N.Node in
    let all = c.collect-all in
    let late = c.collect-late in
    let did : AllZip (DidTheSame node) all.new.self.lives late.new.self.lives =
    subst (λ ls. AllZip (DidTheSame node) ls late.new.self.lives) (sym all.ensures.lives)
    (subst (λ ls. AllZip (DidTheSame node) c.args.net.now.lives ls) (sym late.ensures.lives) c.requires.same) in
    c.nets_collect_alike.ensures.same_in_order all.new.self late.new.self all.result late.result did
    (all.ensures.gathers [] c.requires.gathered) all.ensures.none rising (late.ensures.gathers [] c.requires.gathered_too) late.ensures.none late.ensures.sorted
