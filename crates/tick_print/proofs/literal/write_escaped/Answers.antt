use Rattle.std.proofs.Common.{◌≡◌, ◌+◌, refl, ◌++◌, ◌∷◌, [], ap, ◌∙◌, List, ℕ, string_bytes}
use lib.Utf8.{encode}
use Rattle.tick_print.proofs.Escaping.{at_equal, past_other, past_quote, start_escaping}
use Rattle.tick_lexer.proofs.Reading.{segment}
use Rattle.tick_print.proofs.literal.write_escaped.Goals.{then-byte-quote+in_ok-push_str+in_ok-push, else-byte-quote}
use Rattle.tick_print.proofs.literal.write_escaped.Goals as goal

pub bytes-init : goal.bytes-init
bytes-init c = start_escaping c.args.quote c.args.text.now (string_bytes c.args.out.now) c.utf8.text

pub bytes-preserved : goal.bytes-preserved
unfolding encode
bytes-preserved c =
    let bytes = c.as_bytes-byte-items.result.now in
    let text = c.args.text.now in
    let before = string_bytes c.args.out.now in
    let was = string_bytes c.bytes.out in
    let same = c.as_bytes-byte-items.ensures.value in
    elim c.if-byte-quote.branch [
      | then-byte-quote+in_ok-push_str+in_ok-push w ↦
          let piece = w.in_ok-push_str.ensures.bytes in
          let slash = w.in_ok-push.ensures.bytes in
          let now : string_bytes c.if-byte-quote.out ≡ (was ++ segment text c.bytes.start c.bytes.index) ++ (92 ∷ []) =
          ap string_bytes w.out-is ∙ slash ∙ ap (λ (l : List ℕ). l ++ (92 ∷ [])) (piece ∙ ap (λ (l : List ℕ). was ++ l) w.range.ensures.value) in
          at_equal c.args.quote text before (string_bytes c.if-byte-quote.out) (string_bytes c.if-byte-quote.out) c.bytes.index c.if-byte-quote.start (c.bytes.index + 1) refl w.start-is
          (past_quote c.args.quote text bytes before was (string_bytes c.if-byte-quote.out) c.bytes.start c.bytes.index same c.bytes.invariant c.bytes-test.true w.if-byte-quote.true c.requires now)
      | else-byte-quote w ↦
          at_equal c.args.quote text before was (string_bytes c.if-byte-quote.out) c.bytes.start c.if-byte-quote.start (c.bytes.index + 1) (ap string_bytes w.out-is) w.start-is
          (past_other c.args.quote text bytes before was c.bytes.start c.bytes.index same c.bytes.invariant c.bytes-test.true w.if-byte-quote.false)
    ]
