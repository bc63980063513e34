use Rattle.std.proofs.Common.{◌≡◌, ℕ, ◌-◌, List, length, take, drop, ap, ◌∙◌, arith, length-take, length-drop}
use Rattle.std.specs.Prelude.{replicate}
use Rattle.std.proofs.lemmas.List.{length-replicate}
use Rattle.kap_io.proofs.FileLaws.{written}
use Rattle.kap_io.proofs.disk_files.fill.Goals as goal

pub returns-clause-ok : goal.returns-clause-ok
returns-clause-ok c =
    let at = c.in_ok-start.ensures.range in
    let all = c.fill.ensures.after (λ y same. same) in
    let inside = c.in_ok-start.ensures.inside in
    let as_long = ap (λ (l : List ℕ). length l) c.deref_mut.ensures.value in
    let start = c.in_ok-start.start in
    let end = c.in_ok-start.end in
    let now = c.deref_mut.result.now in
    let long : length (take (end - start) (drop start now)) ≡ c.args.count =
    omega (arith, at.0, at.1, inside, as_long, length-take (end - start) (drop start now), length-drop start now) in
    written c.args.at _ _ _ _ _ _ _ _ _ at.0 at.1 c.in_ok-start.ensures.ok c.deref_mut.ensures.value (all ∙ ap (λ (k : ℕ). replicate k c.args.byte) long)
    (length-replicate c.args.count c.args.byte) c.deref_mut.ensures.len
