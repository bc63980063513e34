use Rattle.std.proofs.Common.{◌≡◌, ◌<◌, ◌≤◌, ℕ, List, length, drop, sym, ap, subst, ◌∙◌, arith, Ok, Some}
use Rattle.std.proofs.lemmas.List.{drop-drop}
use Rattle.kap_http.specs.RequestValues.{RequestValue}
use Rattle.kap_http.specs.Reading.{Gives, request_in, total_of}
use Rattle.http_dialog.proofs.InputLaws.{gives_none, gives_some}
use Rattle.http_dialog.proofs.input.Input.whole.Goals as goal

pub returns-then-len-total-clause-takes : goal.returns-then-len-total-clause-takes
returns-then-len-total-clause-takes c =
    let view = ap (λ (x : List ℕ). length x) c.self.view_is in
    let len = c.len.ensures.len in
    let total = c.total-total.ensures in
    let less = c.if-len-total.true in
    let short : length c.args.self.now < total_of c.args.head = omega arith in
    (c.self.view_is, gives_none c.args.head c.args.self.now c.requires short)

pub returns-clause-takes : goal.returns-clause-takes
returns-clause-takes c =
    let now = c.args.self.now in
    let head = c.args.head in
    let total = c.total-total.result in
    let view = ap (λ (x : List ℕ). length x) c.self.view_is in
    let len = c.len.ensures.len in
    let total_is = c.total-total.ensures in
    let most = c.if-len-total.false in
    let long : total_of head ≤ length now = omega arith in
    let rest : c.rest.result.now ≡ now = cc (c.rest.ensures, c.self.view_is) in
    let is : c.in_ok-request.request ≡ request_in head now = c.in_ok-request.ensures ∙ ap (λ (b : List ℕ). request_in head b) rest in
    let gives = gives_some head now c.requires long in
    let sized = subst (λ (n : ℕ). Gives now (Ok (Some (request_in head now, n)))) (sym total_is) gives in (
      total,
      subst (λ (r : RequestValue). Gives now (Ok (Some (r, total)))) (sym is) sized,
      sym (drop-drop total c.self.inside.taken c.self.inside.bytes.items) ∙ ap (λ (x : List ℕ). drop total x) c.self.view_is,
    )
