use Rattle.std.proofs.Common.{◌≡◌, ◌-◌, ◌++◌, ℕ, List, Ok, Err, Some, drop, refl, ap, subst, ◌∙◌}
use Rattle.http_dialog.specs.Endings.{ending_after}
use Rattle.http_dialog.specs.Dialogs.{DialogValue}
use Rattle.kap_http.specs.Reading.{Gives}
use Rattle.kap_http.specs.declared.fault.HttpFault.TheVariants as faults
use Rattle.kap_http.specs.Replies.{reply_text, fault_reply}
use Rattle.http_dialog.proofs.DialogLaws.{served, refused}
use Rattle.http_dialog.proofs.dialog.Dialog.go_on.Goals as goal

pub returns-in-Ok-Some-clause-steps : goal.returns-in-Ok-Some-clause-steps
returns-in-Ok-Some-clause-steps g c =
    let r = c.in-Ok-Some.request in
    let v = c.self.view_is in
    let taken = rw c.in-Ok-Some.field-0-is at c.in-Ok-Some.ensures.takes in
    let held : c.self.inside.input ≡ c.args.self.now.held = ap (λ (x : DialogValue). x.held) v in
    let due : c.self.inside.output.due ≡ c.args.self.now.due = ap (λ (x : DialogValue). x.due) v in
    let left : c.self.inside.left ≡ c.args.self.now.left = ap (λ (x : DialogValue). x.left) v in
    let gives : Gives c.args.self.now.held (Ok (Some (r, taken.0))) = subst (λ (b : List ℕ). Gives b (Ok (Some (r, taken.0)))) held taken.1 in
    let a = rw (c.is_due-due.ensures, left) at c.answer.ensures in
    served c.args.number c.args.self.now _ (g.H.Serve.served c.args.serve.now) (g.H.Serve.served c.answer.new.serve) r taken.0 c.requires gives
    (a.0, a.1, a.2, a.3, a.4 ∙ ap (λ (d : List ℕ). d ++ a.1) due)
    (taken.2 ∙ ap (λ (x : List ℕ). drop taken.0 x) held) (ap (λ (k : ℕ). k - 1) left)
    (c.ending_behind-self-inside.ensures ∙ ap (λ (k : ℕ). ending_after r.last k) left)

pub returns-in-Err-Bad-clause-steps : goal.returns-in-Err-Bad-clause-steps
returns-in-Err-Bad-clause-steps g c =
    let v = c.self.view_is in
    let taken = rw c.in-Err-Bad.field-0-is at c.in-Err-Bad.ensures.takes in
    let held : c.self.inside.input ≡ c.args.self.now.held = ap (λ (x : DialogValue). x.held) v in
    let due : c.self.inside.output.due ≡ c.args.self.now.due = ap (λ (x : DialogValue). x.due) v in
    let gives : Gives c.args.self.now.held (Err faults.Bad) = subst (λ (b : List ℕ). Gives b (Err faults.Bad)) held (taken.1 (λ e. cc)) in
    refused c.args.number c.args.self.now _ (g.H.Serve.served c.args.serve.now) faults.Bad c.requires gives
    (c.add_fault.ensures ∙ ap (λ (d : List ℕ). d ++ reply_text (fault_reply faults.Bad)) due) refl

pub returns-in-Err-Large-clause-steps : goal.returns-in-Err-Large-clause-steps
returns-in-Err-Large-clause-steps g c =
    let v = c.self.view_is in
    let taken = rw c.in-Err-Large.field-0-is at c.in-Err-Large.ensures.takes in
    let held : c.self.inside.input ≡ c.args.self.now.held = ap (λ (x : DialogValue). x.held) v in
    let due : c.self.inside.output.due ≡ c.args.self.now.due = ap (λ (x : DialogValue). x.due) v in
    let gives : Gives c.args.self.now.held (Err faults.Large) = subst (λ (b : List ℕ). Gives b (Err faults.Large)) held (taken.1 (λ e. cc)) in
    refused c.args.number c.args.self.now _ (g.H.Serve.served c.args.serve.now) faults.Large c.requires gives
    (c.add_fault-in-Err-Large.ensures ∙ ap (λ (d : List ℕ). d ++ reply_text (fault_reply faults.Large)) due) refl
