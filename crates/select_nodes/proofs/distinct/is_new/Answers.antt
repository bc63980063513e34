use Rattle.std.proofs.Common.{◌∙◌, List, ap}
use Rattle.select_nodes.specs.Steps.{KeptKey, is_seen}
use Rattle.select_nodes.proofs.KeyLaws.{seen_more}
use Rattle.select_nodes.proofs.distinct.is_new.Goals as goal

pub returns-clause-seen : goal.returns-clause-seen
returns-clause-seen c = λ v.
    ap (λ (ks : List KeptKey). is_seen ks v) c.in_ok-insert.ensures.keys
    ∙ seen_more c.args.seen.now.keys c.key_of.result v c.args.value.now c.key_of.ensures
