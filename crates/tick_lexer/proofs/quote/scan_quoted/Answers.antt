use Rattle.std.proofs.Common.{◌≡◌, ◌++◌, true, false, eqb, get_or, ap, ◌∙◌, List, ℕ, string_bytes}
use Rattle.tick_lexer.proofs.Reading.{Stops, segment, reads_on, reads_quote, start_reading}
use Rattle.tick_lexer.proofs.quote.scan_quoted.Goals.{then-byte-quote+in_ok-push_str+else-not-behind, else-byte-quote, then-behind, else-behind}
use Rattle.tick_lexer.proofs.quote.scan_quoted.Goals as goal

pub bytes-init : goal.bytes-init
bytes-init c = start_reading c.args.quote c.args.text.now (string_bytes c.new-read.result) c.utf8.text c.new-read.ensures.bytes

pub bytes-preserved : goal.bytes-preserved
bytes-preserved c =
    let bytes = c.as_bytes-byte-items.result.now in
    let text = c.args.text.now in
    let index = c.bytes.index in
    let stop = c.if-behind.stop in
    let stops : Stops bytes index stop =
    elim c.if-behind.branch [
      | then-behind v ↦ let t = v.if-behind.true in record { at_slash = λ h. v.stop-is; at_other = λ (h : eqb (get_or bytes index 0) 92 ≡ false). absurd (cc) }
      | else-behind v ↦ let f = v.if-behind.false in record { at_slash = λ (h : eqb (get_or bytes index 0) 92 ≡ true). absurd (cc); at_other = λ h. v.stop-is }
    ] in
    let same = c.as_bytes-byte-items.ensures.value in
    elim c.if-byte-quote.branch [
      | then-byte-quote+in_ok-push_str+else-not-behind w ↦
          let pushed = w.in_ok-push_str.ensures in
          let now : string_bytes c.if-byte-quote.read ≡ string_bytes c.bytes.read ++ segment text c.bytes.start c.bytes.stop =
          ap string_bytes w.read-is ∙ pushed.bytes ∙ ap (λ (l : List ℕ). string_bytes c.bytes.read ++ l) w.range.ensures.value in
          reads_quote c.args.quote text bytes (string_bytes c.bytes.read) (string_bytes c.if-byte-quote.read) c.bytes.start c.if-byte-quote.start c.bytes.stop index stop c.bytes.behind same c.bytes.invariant w.if-not-behind.false c.bytes-test.true w.if-byte-quote.true c.requires.ascii c.requires.plain stops now w.start-is
      | else-byte-quote w ↦
          reads_on c.args.quote text bytes (string_bytes c.bytes.read) (string_bytes c.if-byte-quote.read) c.bytes.start c.if-byte-quote.start c.bytes.stop index stop c.bytes.behind same c.bytes.invariant c.bytes-test.true w.if-byte-quote.false stops (ap string_bytes w.read-is) w.start-is
    ]
