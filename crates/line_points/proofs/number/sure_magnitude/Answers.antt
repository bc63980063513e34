use Rattle.std.proofs.Common.{slice_index_or, sym, arith}
use Rattle.line_points.proofs.NumberLaws.{digits_more, sure_before, sure_digit, sure_more}
use Rattle.line_points.proofs.number.sure_magnitude.Goals as goal

pub overflow_mul-value : goal.overflow_mul-value
overflow_mul-value c = omega (arith, sure_before c.args.bytes.now c.adding.byte-index c.adding.value c.requires c.adding-test.true c.adding.invariant.0 c.adding.invariant.1)

pub overflow_add-value : goal.overflow_add-value
overflow_add-value c =
    let digit = sure_digit (slice_index_or c.args.bytes.now c.adding.byte-index 0) (sym c.if-not-is_ascii_digit.ensures.value) in
    omega (arith, c.from.ensures, digit, sure_before c.args.bytes.now c.adding.byte-index c.adding.value c.requires c.adding-test.true c.adding.invariant.0 c.adding.invariant.1)

pub adding-preserved : goal.adding-preserved
adding-preserved c =
    let bytes = c.args.bytes.now in
    let at = c.adding.byte-index in
    let digit = sym c.if-not-is_ascii_digit.ensures.value in (
      digits_more bytes at c.adding-test.true c.adding.invariant.0 digit,
      rw c.from.ensures (sure_more bytes at c.adding.value c.adding-test.true digit c.adding.invariant.1),
    )
