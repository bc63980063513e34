use Rattle.std.proofs.Common.{◌≡◌, ◌∙◌, ◌++◌, List, [], refl, ap, sym, append-nil}
use Rattle.kap_base.specs.declared.items.Effect.{Effect}
use Rattle.flow_cells.specs.Kept.{gathered}
use Rattle.flow_cells.proofs.gathering.gather.Goals as goal

pub returns-then-is_empty-clause-gathers : goal.returns-then-is_empty-clause-gathers
returns-then-is_empty-clause-gathers g c =
    let cell = c.args.cell.now in
    let none : cell.core.effects ≡ [] = c.is_empty.ensures.0 c.if-is_empty.true in
    record {
      effects = none;
      gathered = sym (append-nil (gathered cell.core.gathered)) ∙ ap (λ (l : List Effect). gathered cell.core.gathered ++ l) (sym none);
      node = refl;
      outs = refl;
      saved = refl;
      passed = refl;
      clean = refl;
      keeps = refl;
      buffer = refl;
      ins = refl;
      base = refl;
      source = refl;
      spent = refl;
    }

pub returns-then-is_empty-clause-given : goal.returns-then-is_empty-clause-given
returns-then-is_empty-clause-given g c =
    let cell = c.args.cell.now in
    let none : cell.core.effects ≡ [] = c.is_empty.ensures.0 c.if-is_empty.true in
    sym (append-nil c.args.to.now) ∙ ap (λ (l : List Effect). c.args.to.now ++ l) (sym none)
