use Rattle.std.proofs.Common.{◌≡◌, true, rules, ◌∷◌, map, sym, ap, ◌∙◌}
use Rattle.std.specs.Prelude.{string_bytes}
use Rattle.kap_server.specs.Words.{is_option, write_request}
use Rattle.kap_server.proofs.WordLaws.{write_first}
use Rattle.kap_server.proofs.words.+write_request.Goals as goal

pub returns-clause-request : goal.returns-clause-request
returns-clause-request t c =
    let options = c.args.options in
    let more = c.in_ok-with_write_value.field-0 in
    let word = c.in_ok-word.word.now in
    let value = c.in_ok-value.value.now in
    let all = c.in_ok-word.ensures.cases.0 ∙ ap (λ ws. word ∷ ws) c.in_ok-value.ensures.cases.0 in
    let is : is_option (string_bytes word) ≡ true = search rules in
    let given = rw (c.as_str-2.ensures.value, c.as_str-3.ensures.value) at (sym c.in_ok-with_write_value.ensures.options) in
    c.write_request.ensures.request
    ∙ sym (write_first options more (string_bytes word) (string_bytes value) (map string_bytes c.in_ok-value.behind.now) is given)
    ∙ sym (ap (λ ws. write_request options (map string_bytes ws)) all)
