use Rattle.std.proofs.Common.{◌≡◌, IfOk, List, subst, ℕ}
use Rattle.kap_base.proofs.TextLaws.{own_is_name}
use Rattle.select_nodes.specs.Results.{node_name}
use Rattle.select_nodes.proofs.ResultLaws.{plain_names}
use Rattle.select_nodes.proofs.results.field_name.Goals as goal

pub returns-in-None-clause-name : goal.returns-in-None-clause-name
returns-in-None-clause-name c =
    let same = subst (λ (l : List ℕ). IfOk c.from_str.result (λ t. t ≡ l)) c.node_name.ensures.name c.from_str.ensures.text in
    own_is_name (node_name c.args.spec.now.select) c.from_str.result (plain_names c.args.spec.now.select) same c.from_str.ensures.utf8
