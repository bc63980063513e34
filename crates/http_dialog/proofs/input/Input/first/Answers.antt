use Rattle.std.proofs.Common.{◌≡◌, ℕ, List, refl, subst, Ok, Err, Some}
use Rattle.kap_http.specs.Reading.{GivesHead}
use Rattle.http_dialog.proofs.InputLaws.{head_is, refused}
use Rattle.http_dialog.proofs.input.Input.first.Goals as goal

pub whole-requires : goal.whole-requires
whole-requires c =
    let rest : c.rest.result.now ≡ c.args.self.now = cc (c.rest.ensures, c.self.view_is) in
    let given = rw c.in-Ok-Some.field-0-is at c.in-Ok-Some.ensures.gives in
    head_is c.in-Ok-Some.head c.args.self.now (subst (λ (b : List ℕ). GivesHead b (Ok (Some c.in-Ok-Some.head))) rest (given (λ e. cc)))

pub returns-in-Err-clause-takes : goal.returns-in-Err-clause-takes
returns-in-Err-clause-takes c =
    let rest : c.rest.result.now ≡ c.args.self.now = cc (c.rest.ensures, c.self.view_is) in
    (refl, refused c.args.self.now c.in-Err.fault (λ ne. subst (λ (b : List ℕ). GivesHead b (Err c.in-Err.fault)) rest (c.in-Err.ensures.gives ne)))
