use Rattle.std.proofs.Common.{◌≡◌, ◌∷◌, ◌++◌, [], List, ap, sym, ◌∙◌}
use Rattle.topic_core.specs.declared.transition.Transition.{Transition}
use Rattle.service_tests.proofs.fake.one_from.Goals as goal

pub returns : goal.returns
returns c =
    let tail = c.in-Some.field-0-1.now in
    let copy = c.in_ok-copy.field-0 in
    let pushed : c.push.new.self ≡ copy ∷ [] =
    c.in_ok-push.ensures.ok ∙ ap (λ (z : List Transition). z ++ copy ∷ []) c.new-some.ensures in
    let same : copy ≡ c.in-Some.first.now = c.in_ok-copy.ensures in
    let split : c.items_from.result.now ≡ c.in-Some.first.now ∷ tail = c.in-Some.ensures.cases.0 in
    record {
      rest = tail;
      behind = sym c.items_from.ensures ∙ split ∙ ap (λ (x : Transition). x ∷ tail) (sym same)
          ∙ ap (λ (z : List Transition). z ++ tail) (sym pushed);
      none = λ e. absurd (cc (sym pushed ∙ e));
    }
