use Rattle.std.proofs.Common.{◌≡◌, ◌++◌, List, ap, drop, sym, take, ◌∙◌}
use Rattle.std.proofs.lemmas.List.{take-append-drop}
use Rattle.service_tests.specs.Fakes.{FakeValue}
use Rattle.topic_core.specs.declared.transition.Transition.{Transition}
use Rattle.service_tests.proofs.fake.FakeEngine.last_ones.Goals as goal

pub returns-clause-last : goal.returns-clause-last
returns-clause-last c =
    let n = c.self.inside.own_from in
    let xs = c.self.inside.stored.items in
    let same : xs ≡ c.args.self.now.stored = ap (λ (f : FakeValue). f.stored) c.self.view_is in
    let rest : drop n xs ≡ c.items_from.result.now =
    sym (c.items_from.ensures ∙ ap (λ (z : List Transition). drop n z) c.as_slice.ensures.value) in
    (take n xs, sym same ∙ sym (take-append-drop n xs) ∙ ap (λ (z : List Transition). take n xs ++ z) rest)
