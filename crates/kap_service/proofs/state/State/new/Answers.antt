use Rattle.std.proofs.Common.{ℕ, [], append-nil, sym, subst, ◌∙◌, arith}
use Rattle.kap_service.specs.Causes.{AreCaused}
use Rattle.kap_service.specs.Kept.{posted}
use Rattle.kap_service.proofs.KeptLaws.{caused_later, caused_none}
use Rattle.kap_service.proofs.state.State.new.Goals as goal

pub invariant_of-result : goal.invariant_of-result
invariant_of-result g c = (
  sym c.requires.books.0,
  sym c.requires.books.1,
  (λ zero calm. c.requires.unspent),
  (λ calm. c.requires.none),
  λ owned.
      let right = c.requires.owned owned in
      let faults = (g.E.Engine.value c.args.engine).faults in
      record {
        right_is = right;
        stores = λ store left.
            let all = c.requires.posted owned store left in
            let counts = g.met.E.Engine.counts c.args.engine right c.requires.unspent store left in
            let first = c.requires.books.0 in
            let began = c.requires.began in
            record {
              below = omega arith;
              begun = ([], append-nil (posted c.args.poster) ∙ all);
              tied = λ zero calm. first ∙ began ∙ sym counts;
              whole = λ zero calm. all;
            };
        caused = subst (λ (n : ℕ). AreCaused g.L2.Since.before faults n) (sym c.requires.books.1)
            (caused_later g.L2.Since.before g.L2.Since.before faults 0 (caused_none g.L2.Since.before) c.requires.faults);
      },
)
