use Rattle.std.proofs.Common.{◌≡◌, ◌∙◌, ◌++◌, List, [], ◌∷◌, length, reverse, ap, sym, append_assoc, append-nil}
use Rattle.std.proofs.lemmas.List.{nil_from_length, reverse-append}
use Rattle.kap_base.specs.declared.items.Effect.{Effect}
use Rattle.flow_cells.proofs.gathering.push_effects.Goals as goal

pub pushing-preserved : goal.pushing-preserved
pushing-preserved c =
    let left = c.pop.new.self.items in
    let x = c.in-Some.effect in
    ap (λ (l : List Effect). l ++ reverse left) c.in_ok-push.ensures.ok
    ∙ append_assoc c.pushing.to (x ∷ []) (reverse left)
    ∙ ap (λ (l : List Effect). c.pushing.to ++ l) (sym (reverse-append left (x ∷ [])) ∙ ap reverse (sym c.in-Some.ensures.items))
    ∙ c.pushing.invariant

pub returns : goal.returns
returns c =
    let none : length c.pushing.rest.items ≡ 0 = sym c.pushing.rest.ok.0 ∙ c.in_default.ensures.cases.0 in
    let empty : c.pushing.rest.items ≡ [] = nil_from_length c.pushing.rest.items none in
    sym (append-nil c.pushing.to) ∙ ap (λ (l : List Effect). c.pushing.to ++ reverse l) (sym empty) ∙ c.pushing.invariant
