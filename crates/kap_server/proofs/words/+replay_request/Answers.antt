use Rattle.std.proofs.Common.{◌≡◌, true, false, rules, ◌∷◌, map, sym, ap, ◌∙◌}
use Rattle.std.specs.Prelude.{codes, string_bytes}
use Rattle.std.specs.Str.{bytes_eq}
use Rattle.kap_server.specs.Words.{is_option, replay_request}
use Rattle.kap_server.proofs.WordLaws.{counts_first, value_first}
use Rattle.kap_server.proofs.words.+replay_request.Goals as goal

pub returns-then-eq-clause-request : goal.returns-then-eq-clause-request
returns-then-eq-clause-request t c =
    let options = c.args.options in
    let more = c.in_ok-with_counts.field-0 in
    let word = c.in_ok-word.word.now in
    let behind = c.in_ok-value.ensures.cases.0 in
    let all = c.in_ok-word.ensures.cases.0 ∙ ap (λ ws. word ∷ ws) behind in
    let is : is_option (string_bytes word) ≡ true = search rules in
    let flag : bytes_eq (string_bytes word) (codes "--counts") ≡ true = search rules in
    c.replay_request.ensures.request
    ∙ ap (λ ws. replay_request more (map string_bytes ws)) behind
    ∙ sym (counts_first options more (string_bytes word) (string_bytes c.in_ok-value.value.now) (map string_bytes c.in_ok-value.behind.now) is flag (sym c.in_ok-with_counts.ensures.options))
    ∙ sym (ap (λ ws. replay_request options (map string_bytes ws)) all)

pub returns-clause-request : goal.returns-clause-request
returns-clause-request t c =
    let options = c.args.options in
    let more = c.in_ok-with_value.field-0 in
    let word = c.in_ok-word.word.now in
    let value = c.in_ok-value.value.now in
    let all = c.in_ok-word.ensures.cases.0 ∙ ap (λ ws. word ∷ ws) c.in_ok-value.ensures.cases.0 in
    let is : is_option (string_bytes word) ≡ true = search rules in
    let flag : bytes_eq (string_bytes word) (codes "--counts") ≡ false = search rules in
    let given = rw (c.as_str-2.ensures.value, c.as_str-3.ensures.value) at (sym c.in_ok-with_value.ensures.options) in
    c.replay_request-2.ensures.request
    ∙ sym (value_first options more (string_bytes word) (string_bytes value) (map string_bytes c.in_ok-value.behind.now) is flag given)
    ∙ sym (ap (λ ws. replay_request options (map string_bytes ws)) all)
