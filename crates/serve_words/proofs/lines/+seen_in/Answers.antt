use Rattle.std.proofs.Common.{◌≡◌, true, false, rules, ◌∷◌, map, sym, ap, ◌∙◌}
use Rattle.std.specs.Prelude.{codes, string_bytes}
use Rattle.std.specs.Str.{bytes_eq}
use Rattle.serve_words.specs.ServeLines.{seen_in}
use Rattle.serve_words.proofs.LineLaws.{single_first, value_first}
use Rattle.serve_words.proofs.lines.+seen_in.Goals as goal

pub returns-then-eq : goal.returns-then-eq
returns-then-eq t c =
    let seen = c.args.seen in
    let more = c.in_ok-with_single.field-0 in
    let word = c.in-Some.word.now in
    let rest = c.in-Some.rest.now in
    let flag : bytes_eq (string_bytes word) (codes "--single") ≡ true = search rules in
    c.seen_in.ensures
    ∙ sym (single_first seen more (string_bytes word) (map string_bytes rest) flag (sym c.in_ok-with_single.ensures))
    ∙ sym (ap (λ ws. seen_in seen (map string_bytes ws)) c.in-Some.ensures.cases.0)

pub returns : goal.returns
returns t c =
    let seen = c.args.seen in
    let more = c.in_ok-with_value.field-0 in
    let word = c.in-Some.word.now in
    let value = c.in_ok-value.value.now in
    let all = c.in-Some.ensures.cases.0 ∙ ap (λ ws. word ∷ ws) c.in_ok-value.ensures.cases.0 in
    let flag : bytes_eq (string_bytes word) (codes "--single") ≡ false = search rules in
    let given = rw (c.as_str-2.ensures.value, c.as_str-3.ensures.value) at (sym c.in_ok-with_value.ensures) in
    c.seen_in-2.ensures
    ∙ sym (value_first seen more (string_bytes word) (string_bytes value) (map string_bytes c.in_ok-value.behind.now) flag given)
    ∙ sym (ap (λ ws. seen_in seen (map string_bytes ws)) all)
