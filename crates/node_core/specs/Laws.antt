-- Laws of whole lists: a machine that follows a node gives what the node gives, and a node's answers to a part stand.
use Rattle.std.proofs.Common.{◌≡◌, Bool, true, false, cond, List, [], ◌∷◌, ◌++◌, refl, sym, ap, append_assoc, append-nil, add_assoc, add-zero, zero-add}
use Rattle.std.specs.Prelude.{filter}
use Rattle.kap_base.specs.declared.items.Item.{Item}
use Rattle.kap_base.specs.declared.items.Effect.{Effect}
use Rattle.node_core.specs.Meaning.{Given, Input, Answer, Move, Follows, nothing, also, given_after, fold}

-- what comes one after the other is grouped in any way
pub also_assoc : (a b c : Given) → also (also a b) c ≡ also a (also b c)
also_assoc a b c = rw (append_assoc {A = Item}, append_assoc {A = Effect}, add_assoc) refl

-- with nothing behind it, it is the same
pub also-nothing : (a : Given) → also a nothing ≡ a
also-nothing a = rw (append-nil {A = Item}, append-nil {A = Effect}, add-zero) refl

-- and with nothing before it
pub nothing-also : (a : Given) → also nothing a ≡ a
nothing-also a = rw zero-add refl

module _ {S : Type 0} {step : S → Input → Move S} {answer : Answer} {Kept : List Input → S → Type 0}
    (follows : Follows step answer Kept) where
  -- fed a list, it gives what the node gives for the list
  pub fold-given : (before : List Input) (s : S) (xs : List Input) → Kept before s
      → (fold step s xs).given ≡ given_after answer before xs
  fold-given before s [] kept = refl
  fold-given before s (x ∷ xs) kept =
      rw (
        follows.given before s x kept,
        fold-given (before ++ x ∷ []) (step s x).state xs
            (follows.state before s x kept),
      ) refl

  -- and is in the state that the list makes
  pub fold-state : (before : List Input) (s : S) (xs : List Input) → Kept before s
      → Kept (before ++ xs) (fold step s xs).state
  fold-state before s [] kept = rw append-nil kept
  fold-state before s (x ∷ xs) kept =
      rw append_assoc at (fold-state (before ++ x ∷ []) (step s x).state xs (follows.state before s x kept))

-- What it gives for a list is what it gives for the first part, and then for the rest behind that part.
pub given-append : (answer : Answer) (before xs ys : List Input)
    → given_after answer before (xs ++ ys) ≡ also (given_after answer before xs) (given_after answer (before ++ xs) ys)
given-append answer before [] ys = rw append-nil (sym (nothing-also _))
given-append answer before (x ∷ xs) ys =
    rw (given-append answer (before ++ x ∷ []) xs ys, append_assoc, ← also_assoc) refl

-- ---- filters

-- what is left of two lists is what is left of each
pub filter-append : {A : Type 0} (p : A → Bool) (xs ys : List A) → filter p (xs ++ ys) ≡ filter p xs ++ filter p ys
filter-append p [] ys = refl
filter-append p (x ∷ xs) ys =
    elim (p x) as (λ b. cond b (x ∷ filter p (xs ++ ys)) (filter p (xs ++ ys)) ≡ cond b (x ∷ filter p xs) (filter p xs)
    ++ filter p ys) [
      | true ↦ ap (λ l. x ∷ l) (filter-append p xs ys)
      | false ↦ filter-append p xs ys
    ]
