use Rattle.std.proofs.Common.{rules, ◌≡◌, ◌++◌, ℕ, List, length, sym, ap, subst, ◌∙◌, arith, length-append}
use Rattle.http_dialog.specs.declared.input.Front.{Front}
use Rattle.http_dialog.specs.Inputs.{Knows}
use Rattle.http_dialog.proofs.input.Input.keep.Goals as goal

pub invariant_of-self-2 : goal.invariant_of-self-2
invariant_of-self-2 c =
    let old = c.args.self.now in
    let piece = c.args.piece.now in
    let is : c.extend_from_slice.new.self.items ≡ old ++ piece = c.in_ok-extend_from_slice.ensures.items ∙ ap (λ (x : List ℕ). x ++ piece) (c.take_away.ensures ∙ c.self.view_is) in
    let before : Knows old c.self.inside.front = subst (λ (x : List ℕ). Knows x c.self.inside.front) c.self.view_is c.self.invariant.known in
    record {
      within = omega arith;
      short = let long = ap (λ (x : List ℕ). length x) is ∙ length-append old piece in omega (arith, c.requires);
      known = subst (λ (x : List ℕ). Knows x c.grown.result) (sym is) (c.grown.ensures old piece (subst (λ (f : Front). Knows old f) (search rules) before));
    }
