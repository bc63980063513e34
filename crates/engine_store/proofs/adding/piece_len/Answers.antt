use Rattle.std.proofs.Common.{◌≡◌, ◌+◌, ◌<◌, ◌≤◌, length, refl, sym, arith}
use Rattle.std.specs.Prelude.{take}
use Rattle.std.proofs.lemmas.Bool.Decides.{nat_tests}
use Rattle.store_records.specs.Transitions.{spell_transition}
use Rattle.engine_runs.proofs.PlaceLaws.{got_at}
use Rattle.engine_store.specs.Adding.{body_len}
use Rattle.engine_store.specs.declared.TheConstants.{PIECE_LIMIT}
use Rattle.engine_store.proofs.SizeLaws.{closed_at_end, counted, len_more, none_len, over_limit}
use Rattle.engine_store.proofs.adding.piece_len.Goals as goal

pub counting-init : goal.counting-init
counting-init c = record { within = omega arith; size_is = sym none_len; low = omega arith }

pub counting-preserved : goal.counting-preserved
counting-preserved c =
    let ts = c.args.transitions.now in
    let n = c.counting.count in
    let t = c.in-Some.transition.now in
    let lt : n < length ts = c.in-Some.ensures.lookup.3.0 in
    let at = got_at ts n n t refl lt c.in-Some.ensures.lookup.1 in
    let low : c.saturating_add-size.result ≤ PIECE_LIMIT = grind (arith, nat_tests) in
    record {
      within = omega (arith, lt);
      size_is =
          counted c.counting.size (length (spell_transition t)) c.spelled_len.result c.saturating_add-size.result (body_len (take n ts)) (body_len (take (n + 1) ts))
          c.spelled_len.ensures c.saturating_add-size.ensures c.counting.invariant.size_is (len_more n ts t at) low;
      low = low;
    }

pub returns-then-size-gt-PIECE_LIMIT-clause-over : goal.returns-then-size-gt-PIECE_LIMIT-clause-over
returns-then-size-gt-PIECE_LIMIT-clause-over c = λ more.
    let ts = c.args.transitions.now in
    let n = c.counting.count in
    let t = c.in-Some.transition.now in
    let lt : n < length ts = c.in-Some.ensures.lookup.3.0 in
    let at = got_at ts n n t refl lt c.in-Some.ensures.lookup.1 in
    let high : PIECE_LIMIT < c.saturating_add-size.result = grind (arith, nat_tests) in
    over_limit c.counting.size (length (spell_transition t)) c.spelled_len.result c.saturating_add-size.result (body_len (take n ts)) (body_len (take (n + 1) ts))
    c.spelled_len.ensures c.saturating_add-size.ensures c.counting.invariant.size_is (len_more n ts t at) high

pub returns-in_default-clause-closed : goal.returns-in_default-clause-closed
returns-in_default-clause-closed c =
    let size : c.counting.size ≡ body_len (take c.counting.count c.args.transitions.now) = c.counting.invariant.size_is in
    let low : c.counting.size ≤ PIECE_LIMIT = c.counting.invariant.low in
    closed_at_end (take c.counting.count c.args.transitions.now) (omega (arith, size, low))
