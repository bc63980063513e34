use Rattle.std.proofs.Common.{◌∙◌, sym}
use Rattle.word_numbers.proofs.NumberLaws.{number_is}
use Rattle.word_numbers.proofs.number_in.Goals as goal

pub returns : goal.returns
returns c = c.ok.ensures.value
    ∙ number_is c.args.word.now c.parse.result (rw c.as_bytes.ensures.value at (sym c.has_plus.ensures ∙ c.if-has_plus.false))
    (rw c.as_bytes-else-has_plus.ensures.value at (sym c.has_leading_zero.ensures ∙ c.if-has_leading_zero.false))
    c.parse.ensures.value.0
