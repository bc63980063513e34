-- Lambdas, bound by the names at their place, are those in which names are replaced by what they stand for in the end.
use Rattle.std.proofs.Common.{◌≡◌, ℕ, List, Option, Some, None, Ok, refl, sym, ap, subst, ◌∙◌}
use Rattle.kap_base.proofs.TestLaws.{bind_ok, ok_is}
use Rattle.kap_base.specs.declared.expr.Lit.TheVariants as lits
use Rattle.kap_base.specs.Tree.{Tree, LitTree, RefTree, NameTree, CallTree, GroupTree, NegTree, NotTree, BinTree, Trees, NoTrees, MoreTrees}
use Rattle.kap_base.specs.Words.{◌>>=◌}
use Rattle.tick_vars.specs.Nodes.{ArgTree, LitArg, StarArg, LambdaArg, NodeArg}
use Rattle.tick_vars.specs.Names.{Scope, as_value, bound_lambda, bound_lambdas, looked_up}
use Rattle.tick_vars.specs.Law.{AllHaveValues, AllNameless, HasValues, IsValue, Nameless, all_replaced, literal_for, replaced}
use Rattle.tick_vars.proofs.Steps.{Extends, NoBatch, found, then_ok, told}

value_replaced : (name : List ℕ) (at : ℕ) (arg : ArgTree) (u : Tree) → as_value at arg ≡ Ok u → (u ≡ literal_for name at (Some arg)) × IsValue (Some arg)
value_replaced name at (LitArg (lits.Int number) place) u is = (sym (ok_is _ u is), tt)
value_replaced name at (LitArg (lits.Dur span) place) u is = absurd cc
value_replaced name at (LitArg (lits.Str text) place) u is = (sym (ok_is _ u is), tt)
value_replaced name at (LitArg (lits.Bool truth) place) u is = (sym (ok_is _ u is), tt)
value_replaced name at (LitArg (lits.Regex pattern) place) u is = (sym (ok_is _ u is), tt)
value_replaced name at (StarArg place) u is = absurd cc
value_replaced name at (LambdaArg body place) u is = absurd cc
value_replaced name at (NodeArg number place) u is = absurd cc

module _ (s f : Scope) (extends : Extends s f) where
  mutual
    pub lambda_replaced : (t u : Tree) → bound_lambda s t ≡ Ok u → (u ≡ replaced f t) × HasValues f t
    lambda_replaced (LitTree lit at) u is = (sym (ok_is _ u is), tt)
    lambda_replaced (RefTree name at) u is = (sym (ok_is _ u is), tt)
    lambda_replaced (NameTree name at) u is =
        let a = bind_ok (looked_up s name at) (as_value at) u is in
        let v = value_replaced name at a.0 u a.2 in
        let told = extends name a.0 (found s name at a.0 a.1) in
        (v.0 ∙ ap (literal_for name at) (sym told), subst IsValue (sym told) v.1)
    lambda_replaced (CallTree name args at) u is =
        let a = bind_ok (bound_lambdas s args) (λ args. Ok (CallTree name args at)) u is in
        let r = lambdas_replaced args a.0 a.1 in
        (sym (ok_is _ u a.2) ∙ ap (λ x. CallTree name x at) r.0, r.1)
    lambda_replaced (GroupTree inner at) u is =
        let a = bind_ok (bound_lambda s inner) (λ inner. Ok (GroupTree inner at)) u is in
        let r = lambda_replaced inner a.0 a.1 in
        (sym (ok_is _ u a.2) ∙ ap (λ x. GroupTree x at) r.0, r.1)
    lambda_replaced (NegTree operand at) u is =
        let a = bind_ok (bound_lambda s operand) (λ operand. Ok (NegTree operand at)) u is in
        let r = lambda_replaced operand a.0 a.1 in
        (sym (ok_is _ u a.2) ∙ ap (λ x. NegTree x at) r.0, r.1)
    lambda_replaced (NotTree operand at) u is =
        let a = bind_ok (bound_lambda s operand) (λ operand. Ok (NotTree operand at)) u is in
        let r = lambda_replaced operand a.0 a.1 in
        (sym (ok_is _ u a.2) ∙ ap (λ x. NotTree x at) r.0, r.1)
    lambda_replaced (BinTree op left right at) u is =
        let a = bind_ok (bound_lambda s left) (λ left. bound_lambda s right >>= λ right. Ok (BinTree op left right at)) u is in
        let b = bind_ok (bound_lambda s right) (λ right. Ok (BinTree op a.0 right at)) u a.2 in
        let l = lambda_replaced left a.0 a.1 in
        let r = lambda_replaced right b.0 b.1 in
        (sym (ok_is _ u b.2) ∙ ap (λ x. BinTree op x b.0 at) l.0 ∙ ap (λ x. BinTree op (replaced f left) x at) r.0, (l.1, r.1))

    pub lambdas_replaced : (ts us : Trees) → bound_lambdas s ts ≡ Ok us → (us ≡ all_replaced f ts) × AllHaveValues f ts
    lambdas_replaced NoTrees us is = (sym (ok_is _ us is), tt)
    lambdas_replaced (MoreTrees first rest) us is =
        let a = bind_ok (bound_lambda s first) (λ first. bound_lambdas s rest >>= λ rest. Ok (MoreTrees first rest)) us is in
        let b = bind_ok (bound_lambdas s rest) (λ rest. Ok (MoreTrees a.0 rest)) us a.2 in
        let l = lambda_replaced first a.0 a.1 in
        let r = lambdas_replaced rest b.0 b.1 in
        (sym (ok_is _ us b.2) ∙ ap (λ x. MoreTrees x b.0) l.0 ∙ ap (λ x. MoreTrees (replaced f first) x) r.0, (l.1, r.1))

-- a value in the place of a name is no name
nameless_value : (name : List ℕ) (at : ℕ) (there : Option ArgTree) → IsValue there → Nameless (literal_for name at there)
nameless_value name at (Some (LitArg lit place)) h = tt
nameless_value name at (Some (StarArg place)) h = absurd h
nameless_value name at (Some (LambdaArg body place)) h = absurd h
nameless_value name at (Some (NodeArg number place)) h = absurd h
nameless_value name at None h = absurd h

mutual
  pub nameless : (f : Scope) (t : Tree) → HasValues f t → Nameless (replaced f t)
  nameless f (LitTree lit at) h = tt
  nameless f (RefTree name at) h = tt
  nameless f (NameTree name at) h = nameless_value name at (f name) h
  nameless f (CallTree name args at) h = all_nameless f args h
  nameless f (GroupTree inner at) h = nameless f inner h
  nameless f (NegTree operand at) h = nameless f operand h
  nameless f (NotTree operand at) h = nameless f operand h
  nameless f (BinTree op left right at) h = (nameless f left h.0, nameless f right h.1)

  all_nameless : (f : Scope) (ts : Trees) → AllHaveValues f ts → AllNameless (all_replaced f ts)
  all_nameless f NoTrees h = tt
  all_nameless f (MoreTrees first rest) h = (nameless f first h.0, all_nameless f rest h.1)

-- ---- where each name stands for a value there is no fault

value_there : (at : ℕ) (there : Option ArgTree) → IsValue there → (arg : ArgTree) × (there ≡ Some arg) × ((u : Tree) × (as_value at arg ≡ Ok u))
value_there at (Some (LitArg (lits.Int number) place)) h = (LitArg (lits.Int number) place, refl, (LitTree (lits.Int number) at, refl))
value_there at (Some (LitArg (lits.Dur span) place)) h = absurd h
value_there at (Some (LitArg (lits.Str text) place)) h = (LitArg (lits.Str text) place, refl, (LitTree (lits.Str text) at, refl))
value_there at (Some (LitArg (lits.Bool truth) place)) h = (LitArg (lits.Bool truth) place, refl, (LitTree (lits.Bool truth) at, refl))
value_there at (Some (LitArg (lits.Regex pattern) place)) h = (LitArg (lits.Regex pattern) place, refl, (LitTree (lits.Regex pattern) at, refl))
value_there at (Some (StarArg place)) h = absurd h
value_there at (Some (LambdaArg body place)) h = absurd h
value_there at (Some (NodeArg number place)) h = absurd h
value_there at None h = absurd h

module _ (s : Scope) (no_batch : NoBatch s) where
  mutual
    pub lambda_ok : (t : Tree) → HasValues s t → (u : Tree) × (bound_lambda s t ≡ Ok u)
    lambda_ok (LitTree lit at) h = (LitTree lit at, refl)
    lambda_ok (RefTree name at) h = (RefTree name at, refl)
    lambda_ok (NameTree name at) h =
        let v = value_there at (s name) h in
        ((v.2).0, then_ok (looked_up s name at) (as_value at) v.0 (v.2).0 (told s no_batch name at v.0 v.1) (v.2).1)
    lambda_ok (CallTree name args at) h =
        let a = lambdas_ok args h in
        (CallTree name a.0 at, then_ok (bound_lambdas s args) (λ args. Ok (CallTree name args at)) a.0 (CallTree name a.0 at) a.1 refl)
    lambda_ok (GroupTree inner at) h =
        let a = lambda_ok inner h in
        (GroupTree a.0 at, then_ok (bound_lambda s inner) (λ inner. Ok (GroupTree inner at)) a.0 (GroupTree a.0 at) a.1 refl)
    lambda_ok (NegTree operand at) h =
        let a = lambda_ok operand h in
        (NegTree a.0 at, then_ok (bound_lambda s operand) (λ operand. Ok (NegTree operand at)) a.0 (NegTree a.0 at) a.1 refl)
    lambda_ok (NotTree operand at) h =
        let a = lambda_ok operand h in
        (NotTree a.0 at, then_ok (bound_lambda s operand) (λ operand. Ok (NotTree operand at)) a.0 (NotTree a.0 at) a.1 refl)
    lambda_ok (BinTree op left right at) h =
        let l = lambda_ok left h.0 in
        let r = lambda_ok right h.1 in
        let u = BinTree op l.0 r.0 at in (
          u,
          then_ok (bound_lambda s left) (λ left. bound_lambda s right >>= λ right. Ok (BinTree op left right at)) l.0 u l.1
              (then_ok (bound_lambda s right) (λ right. Ok (BinTree op l.0 right at)) r.0 u r.1 refl),
        )

    pub lambdas_ok : (ts : Trees) → AllHaveValues s ts → (us : Trees) × (bound_lambdas s ts ≡ Ok us)
    lambdas_ok NoTrees h = (NoTrees, refl)
    lambdas_ok (MoreTrees first rest) h =
        let l = lambda_ok first h.0 in
        let r = lambdas_ok rest h.1 in
        let us = MoreTrees l.0 r.0 in (
          us,
          then_ok (bound_lambda s first) (λ first. bound_lambdas s rest >>= λ rest. Ok (MoreTrees first rest)) l.0 us l.1
              (then_ok (bound_lambdas s rest) (λ rest. Ok (MoreTrees l.0 rest)) r.0 us r.1 refl),
        )
