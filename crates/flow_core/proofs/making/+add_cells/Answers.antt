use Rattle.std.proofs.Common.{◌<◌, ◌++◌, [], ◌∷◌, ℕ, List, length, reverse, ap, subst, sym, ◌∙◌, append-nil}
use Rattle.std.specs.List.{AllByRecursion as Each}
use Rattle.std.proofs.lemmas.List.{reverse-append}
use Rattle.flow_life.specs.Making.{nodes_of}
use Rattle.flow_core.proofs.PlanLaws.{can_first, none_left}
use Rattle.flow_core.proofs.making.+add_cells.Goals as goal

pub returns-in_default-clause-nodes : goal.returns-in_default-clause-nodes
returns-in_default-clause-nodes g t c =
    let node = g.N.Node in
    let none = none_left (λ n. node.ports (node.spec n)) (length c.args.life.now.cells) (reverse c.args.nodes.items) c.args.parents.now c.in_default.ensures.cases c.requires.can in
    sym (append-nil (nodes_of c.args.life.now.cells)) ∙ ap (λ l. nodes_of c.args.life.now.cells ++ l) (sym none)

pub add-requires-clause-earlier : goal.add-requires-clause-earlier
add-requires-clause-earlier g t c =
    let node = g.N.Node in
    let last = ap reverse c.in-Some-pop.ensures.items ∙ reverse-append c.pop.new.self.items (c.in-Some-pop.node ∷ []) in
    let can = can_first (λ n. node.ports (node.spec n)) (length c.args.life.now.cells) (reverse c.args.nodes.items) c.args.parents.now c.in-Some-pop.node (reverse c.pop.new.self.items) c.in-Some.first.now c.in-Some.others.now last c.in-Some.ensures.cases.0 c.requires.can in
    subst (λ (ps : List ℕ). Each (λ (p : ℕ). p < length c.args.life.now.cells) ps) (sym c.as_slice.ensures) can.earlier
