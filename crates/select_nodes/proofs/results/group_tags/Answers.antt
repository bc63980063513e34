use Rattle.select_nodes.proofs.ResultLaws.{tags_named}
use Rattle.select_nodes.proofs.results.group_tags.Goals as goal

pub returns-clause-names : goal.returns-clause-names
returns-clause-names c = tags_named c.from_entries.result c.in_ok-entries.entries.items c.args.dims.now c.args.values c.from_entries.ensures
    c.in_ok-entries.ensures c.requires
