use Rattle.std.specs.Prelude.{string_bytes}
use Rattle.kap_server.proofs.WordLaws.{no_pairs, pair_first}
use Rattle.kap_server.proofs.ReadyLaws.{adds_first, adds_none}
use Rattle.kap_server.proofs.readying.+add_tasks.Goals as goal
use Rattle.kap_base.proofs.ResultLaws.{on_ok}

pub returns-in_default-clause-ok : goal.returns-in_default-clause-ok
returns-in_default-clause-ok g t c = rw (no_pairs string_bytes c.args.words.now c.in_default.len_below) (adds_none _ _ _ _ _ _ _)

pub returns-in_ok-add_task-in-len2-up-clause-ok : goal.returns-in_ok-add_task-in-len2-up-clause-ok
returns-in_ok-add_task-in-len2-up-clause-ok g t c =
    let one = rw (c.as_str.ensures.value, c.as_str-in-len2-up.ensures.value) at c.in_ok-add_task-in-len2-up.ensures.ok in
    on_ok c.add_tasks.result (λ all.
    rw (pair_first string_bytes c.args.words.now c.id-item.result c.script-item.result c.in-len2-up.len_at_least c.id-item.is c.script-item.is)
    (adds_first _ _ _ _ c.args.life _ _ _ _ _ _ _ _ one all))
    c.add_tasks.ensures.ok
