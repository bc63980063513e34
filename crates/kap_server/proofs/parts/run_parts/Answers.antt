use Rattle.std.proofs.Common.{◌++◌, map, ap, rules, subst, sym, ◌∙◌}
use Rattle.std.proofs.lemmas.List.{places, with_items_is}
use Rattle.kap_server.specs.Parts.{IsToldInParts, lives_of_runs, points_of_runs}
use Rattle.kap_server.proofs.BesideLaws.{alone_does, runs_gone, told_in_parts, unspent_all}
use Rattle.kap_server.proofs.parts.run_parts.Goals as goal

pub run_alone-requires-clause-unspent : goal.run_alone-requires-clause-unspent
run_alone-requires-clause-unspent g c κs within = rw c.as_mut_slice.ensures.value (unspent_all (λ part. part.run) _ _ c.args.parts.now.items c.requires.one.had)

pub returns-then-len-eq1-clause-ran : goal.returns-then-len-eq1-clause-ran
returns-then-len-eq1-clause-ran g c =
    alone_does (λ part. part.run) g.N.Node.answer c.args.points.items _ c.args.parts.now.items (search rules) (rw c.as_mut_slice.ensures.value at c.in_ok-effects.ensures.effects)

pub run_epoch-requires-clause-unspent : goal.run_epoch-requires-clause-unspent
run_epoch-requires-clause-unspent g c κs within = unspent_all (λ part. part.run) _ _ c.args.parts.now.items c.requires.one.had

pub returns-clause-runs : goal.returns-clause-runs
returns-clause-runs g c =
    ap (λ xs. map (λ part. part.run) xs) (with_items_is c.run_epoch.new.parts c.take_told.new.parts (search (rules, places)))
    ∙ c.in_ok-take_told.ensures.runs
    ∙ ap (λ xs. map (λ part. part.run) xs) c.as_mut_slice-2.ensures.value
    ∙ runs_gone (λ part. part.run) g.N.Node.answer (λ part. part.told) (λ part. part.failed) c.args.names.now c.args.points.items c.args.parts.now.items c.run_epoch.new.parts.items c.in_ok-run_epoch.ensures.parts (rw c.as_mut_slice-2.ensures.value at c.in_ok-take_told.ensures.fine)

pub returns-clause-ran : goal.returns-clause-ran
returns-clause-ran g c =
    let runs = map (λ part. part.run) c.args.parts.now.items in
    subst (IsToldInParts g.N.Node.answer c.args.names.now (points_of_runs runs) c.args.points.items (lives_of_runs runs))
    (sym (c.in_ok-take_told.ensures.told ∙ ap (λ l. l ++ map (λ part. part.told) c.as_mut_slice-2.result.now) c.new-told.ensures.items ∙ ap (λ xs. map (λ part. part.told) xs) c.as_mut_slice-2.ensures.value))
    (told_in_parts (λ part. part.run) g.N.Node.answer (λ part. part.told) (λ part. part.failed) c.args.names.now c.args.points.items _ _ c.args.parts.now.items c.run_epoch.new.parts.items c.in_ok-run_epoch.ensures.parts (rw c.as_mut_slice-2.ensures.value at c.in_ok-take_told.ensures.fine) c.requires.one.had)
