use Rattle.std.proofs.Common.{ℕ, ◌+◌, ◌<◌, ◌≤◌, arith, drop, length, refl, sym, subst, ◌∙◌}
use Rattle.std.specs.List.{AllByRecursion as Each}
use Rattle.store_records.specs.declared.task.Life.{Life}
use Rattle.engine_runs.specs.Spans.{IsAway}
use Rattle.engine_runs.proofs.PlaceLaws.{each_at, each_behind, got_at}
use Rattle.engine_runs.proofs.SpanLaws.{away_at, away_later}
use Rattle.engine_runs.proofs.turning.begin_lives.Goals as goal

pub returns-then-not-has_begun-clause-away : goal.returns-then-not-has_begun-clause-away
returns-then-not-has_begun-clause-away g c = λ rise.
    away_later c.args.points 1 (length c.beginning.names.items) c.args.lives.now c.in-Some.life.now rise
    (got_at c.args.lives.now c.len.result (length c.beginning.names.items) c.in-Some.life.now (c.len.ensures ∙ c.beginning.names.ok.0) c.in-Some.ensures.lookup.3.0 c.in-Some.ensures.lookup.1)
    (c.if-not-has_begun.ensures.no refl)

pub beginning-preserved : goal.beginning-preserved
beginning-preserved g c =
    let lives = c.args.lives.now in
    let i = length c.beginning.names.items in
    let at = got_at lives c.len.result i c.in-Some.life.now (c.len.ensures ∙ c.beginning.names.ok.0) c.in-Some.ensures.lookup.3.0 c.in-Some.ensures.lookup.1 in
    record {
      unspent = c.begin_next.ensures.unspent;
      rest = c.begin_next.ensures.rest;
      gathered = c.begin_next.ensures.gathered ∙ c.beginning.invariant.gathered;
      last = c.begin_next.ensures.last ∙ c.beginning.invariant.last;
      kept = c.in_default-begin_next.ensures.kept ∙ c.beginning.invariant.kept;
      away = λ a. subst (λ (j : ℕ). Each (IsAway c.args.points 0) (drop j lives)) (sym c.in_default-begin_next.ensures.long) (each_behind (IsAway c.args.points 0) i lives (c.beginning.invariant.away a));
      runs = λ tasks before long are a r.
          c.in_default-begin_next.ensures.runs lives tasks before long are at (away_at c.args.points 0 i lives c.in-Some.life.now (c.beginning.invariant.away a) at) (c.if-not-has_begun.ensures.yes refl) (c.beginning.invariant.runs tasks before long are a r);
    }

pub returns-then-not-has_begun-clause-all : goal.returns-then-not-has_begun-clause-all
returns-then-not-has_begun-clause-all g c = λ firsts.
    let lives = c.args.lives.now in
    let i = length c.beginning.names.items in
    let at = got_at lives c.len.result i c.in-Some.life.now (c.len.ensures ∙ c.beginning.names.ok.0) c.in-Some.ensures.lookup.3.0 c.in-Some.ensures.lookup.1 in
    let low : c.in-Some.life.now.first ≤ c.args.points + 1 = each_at (λ (l : Life). l.first ≤ c.args.points + 1) lives i c.in-Some.life.now firsts at in
    let high : c.args.points + 1 < c.in-Some.life.now.first = c.if-not-has_begun.ensures.no refl in
    absurd (omega (arith, low, high))
