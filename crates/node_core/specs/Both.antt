-- A node of one kind or of another.
use Rattle.std.proofs.Common.{◌≡◌, ℕ, List, [], ◌∷◌, ◌++◌, Option, Some, None, refl, ap, subst, ◌∙◌}
use Rattle.state_code.specs.Spelling.{IsBytes, Reading, Stands, IsSpelling, value_then, read_then, read_as}
use Rattle.node_core.specs.declared.both.Both.{Both}
use Rattle.node_core.specs.declared.both.Both.TheVariants.{One, Other}
use Rattle.node_core.specs.Meaning.{Input, Answer, Move, stay, also, given, fold}
use Rattle.std.specs.Prelude.{Bool, false}
use Rattle.kap_base.specs.declared.items.Body.{Body}
use Rattle.node_core.specs.Cut.{IsStamped}
use Rattle.kap_base.proofs.ResultLaws.{same_pair}

-- what is seen of either
abbrev pub of_both : {A B C D : Type 0} → (A → C) → (B → D) → Both A B → Both C D
of_both f g (One a) = One (f a)
of_both f g (Other b) = Other (g b)

-- what one thing or another is seen as, where it is of one sort
abbrev pub either : {A B C : Type 0} → (A → C) → (B → C) → Both A B → C
either f g (One a) = f a
either f g (Other b) = g b

-- what a node of the first kind does, as one of the two
abbrev pub move_one : {A B : Type 0} → Move A → Move (Both A B)
move_one m = record { state = One m.state; given = m.given }

-- and what one of the other kind does
abbrev pub move_other : {A B : Type 0} → Move B → Move (Both A B)
move_other m = record { state = Other m.state; given = m.given }

-- a state of the other kind doesn't occur, and stays
abbrev pub step_both : {P Q A B : Type 0} → (P → A → Input → Move A) → (Q → B → Input → Move B) → Both P Q → Both A B
    → Input → Move (Both A B)
step_both f g (One p) (One s) x = move_one (f p s x)
step_both f g (One p) (Other s) x = stay (Other s)
step_both f g (Other q) (One s) x = stay (One s)
step_both f g (Other q) (Other s) x = move_other (g q s x)

-- the state is of the kind that the spec names, and has a spelling
abbrev pub FitsBoth : {P Q A B : Type 0} → (P → A → Type 0) → (Q → B → Type 0) → Both P Q → Both A B → Type 0
FitsBoth f g (One p) (One s) = f p s
FitsBoth f g (One p) (Other s) = ⊥
FitsBoth f g (Other q) (One s) = ⊥
FitsBoth f g (Other q) (Other s) = g q s

-- the spelling is that of the kind: no byte says which
abbrev pub spell_both : {P Q A B : Type 0} → (P → A → List ℕ) → (Q → B → List ℕ) → Both P Q → Both A B → List ℕ
spell_both f g (One p) (One s) = f p s
spell_both f g (One p) (Other s) = []
spell_both f g (Other q) (One s) = []
spell_both f g (Other q) (Other s) = g q s

-- a state of the kind that the spec names
abbrev pub read_both : {P Q A B : Type 0} → (P → Reading A) → (Q → Reading B) → Both P Q → Reading (Both A B)
read_both f g (One p) = read_as One (f p)
read_both f g (Other q) = read_as Other (g q)

-- ---- laws

module _ {P Q A B : Type 0} (f : P → A → Input → Move A) (g : Q → B → Input → Move B) where
  fold-one : (p : P) (s : A) (xs : List Input) → fold (step_both f g (One p)) (One s) xs ≡ move_one (fold (f p) s xs)
  fold-one p s [] = refl
  fold-one p s (x ∷ xs) =
      ap (λ (m : Move (Both A B)). record { state = m.state; given = also (f p s x).given m.given })
      (fold-one p (f p s x).state xs)

  fold-other : (q : Q) (s : B) (xs : List Input)
      → fold (step_both f g (Other q)) (Other s) xs ≡ move_other (fold (g q) s xs)
  fold-other q s [] = refl
  fold-other q s (x ∷ xs) =
      ap (λ (m : Move (Both A B)). record { state = m.state; given = also (g q s x).given m.given })
      (fold-other q (g q s x).state xs)

  -- fed a list, a node of either kind gives what its answers are
  pub folds_both : (first_one : P → A) (first_other : Q → B) (one : P → Answer) (other : Q → Answer)
      → ((p : P) (xs : List Input) → (fold (f p) (first_one p) xs).given ≡ given (one p) xs)
      → ((q : Q) (xs : List Input) → (fold (g q) (first_other q) xs).given ≡ given (other q) xs)
      → (spec : Both P Q) (xs : List Input)
      → (fold (step_both f g spec) (of_both first_one first_other spec) xs).given ≡ given (either one other spec) xs
  folds_both first_one first_other one other h k (One p) xs =
      ap (λ (m : Move (Both A B)). m.given) (fold-one p (first_one p) xs) ∙ h p xs
  folds_both first_one first_other one other h k (Other q) xs =
      ap (λ (m : Move (Both A B)). m.given) (fold-other q (first_other q) xs) ∙ k q xs

  -- and has counted what it dropped
  pub counts_both : (first_one : P → A) (first_other : Q → B) (drops_one : A → ℕ) (drops_other : B → ℕ) (one : P
      → Answer) (other : Q → Answer)
      → ((p : P) (xs : List Input) → drops_one (fold (f p) (first_one p) xs).state ≡ (given (one p) xs).drops)
      → ((q : Q) (xs : List Input) → drops_other (fold (g q) (first_other q) xs).state ≡ (given (other q) xs).drops)
      → (spec : Both P Q) (xs : List Input)
      → either drops_one drops_other (fold (step_both f g spec) (of_both first_one first_other spec) xs).state
      ≡ (given (either one other spec) xs).drops
  counts_both first_one first_other drops_one drops_other one other h k (One p) xs =
      ap (λ (m : Move (Both A B)). either drops_one drops_other m.state) (fold-one p (first_one p) xs) ∙ h p xs
  counts_both first_one first_other drops_one drops_other one other h k (Other q) xs =
      ap (λ (m : Move (Both A B)). either drops_one drops_other m.state) (fold-other q (first_other q) xs) ∙ k q xs

-- what it answers has the stamp, the life and the number
pub stamped_both : {P Q : Type 0} (life_one node_one : P → ℕ) (life_other node_other : Q → ℕ) (one : P → Answer)
    (other : Q → Answer)
    → ((p : P) (before : List Input) (x : Input) → IsStamped (life_one p) (node_one p) x.1.stamp.0 (one p before x))
    → ((q : Q) (before : List Input) (x : Input)
    → IsStamped (life_other q) (node_other q) x.1.stamp.0 (other q before x))
    → (spec : Both P Q) (before : List Input) (x : Input)
    → IsStamped (either life_one life_other spec) (either node_one node_other spec) x.1.stamp.0
    (either one other spec before x)
stamped_both life_one node_one life_other node_other one other h k (One p) before x = h p before x
stamped_both life_one node_one life_other node_other one other h k (Other q) before x = k q before x

-- a body that is not for it changes nothing
pub stays_both : {P Q A B : Type 0} (takes_one : P → Body → Bool) (takes_other : Q → Body → Bool) (one : P → A → Input
    → Move A) (other : Q → B → Input → Move B)
    → ((p : P) (s : A) (x : Input) → takes_one p x.1.body ≡ false → one p s x ≡ stay s)
    → ((q : Q) (s : B) (x : Input) → takes_other q x.1.body ≡ false → other q s x ≡ stay s)
    → (spec : Both P Q) (s : Both A B) (x : Input) → either takes_one takes_other spec x.1.body ≡ false
    → step_both one other spec s x ≡ stay s
stays_both takes_one takes_other one other h k (One p) (One s) x e = ap move_one (h p s x e)
stays_both takes_one takes_other one other h k (One p) (Other s) x e = refl
stays_both takes_one takes_other one other h k (Other q) (One s) x e = refl
stays_both takes_one takes_other one other h k (Other q) (Other s) x e = ap move_other (k q s x e)

-- ---- spellings

module _ {A C : Type 0} {Fits : A → Type 0} {spell : A → List ℕ} {read : Reading A} (is : IsSpelling Fits spell read)
    (made : A → C) (FitsC : C → Type 0) (spell_c : C → List ℕ) (fits : (a : A) → Fits a → FitsC (made a))
    (spells : (a : A) → spell_c (made a) ≡ spell a) where
  -- what is read is of this kind
  only-made : (r : Option (A × List ℕ)) (bytes : List ℕ) (c : C) (rest : List ℕ)
      → ((a : A) (t : List ℕ) → r ≡ value_then a t → Stands Fits spell bytes a t)
      → read_then r (λ x t. value_then (made x) t) ≡ value_then c rest → Stands FitsC spell_c bytes c rest
  only-made None bytes c rest h e = absurd cc
  only-made (Some r) bytes c rest h e =
      let both = same_pair {A = C} (made r.0, r.1) (c, rest) e in
      let s = h r.0 r.1 refl in
      subst (λ (p : C × List ℕ). Stands FitsC spell_c bytes p.0 p.1) both
      (record { fits = fits r.0 s.fits; parts = rw spells s.parts; rest_bytes = s.rest_bytes })

  -- what is read as a state of one of the two is spelled so
  pub made_only : (bytes : List ℕ) (c : C) (rest : List ℕ) → IsBytes bytes → read_as made read bytes ≡ value_then c rest
      → Stands FitsC spell_c bytes c rest
  made_only bytes c rest h e = only-made (read bytes) bytes c rest (λ a t r. is.only bytes a t h r) e

module _ {P Q A B : Type 0} (fits_one : P → A → Type 0) (fits_other : Q → B → Type 0) (spell_one : P → A → List ℕ)
    (spell_other : Q → B → List ℕ) (read_one : P → Reading A) (read_other : Q → Reading B)
    (one : (p : P) → IsSpelling (fits_one p) (spell_one p) (read_one p)) (other : (q : Q)
    → IsSpelling (fits_other q) (spell_other q) (read_other q)) where
  again-both : (spec : Both P Q) (s : Both A B) (rest : List ℕ) → FitsBoth fits_one fits_other spec s
      → read_both read_one read_other spec (spell_both spell_one spell_other spec s ++ rest) ≡ value_then s rest
  again-both (One p) (One s) rest h = rw ((one p).again s rest h) refl
  again-both (One p) (Other s) rest h = absurd h
  again-both (Other q) (One s) rest h = absurd h
  again-both (Other q) (Other s) rest h = rw ((other q).again s rest h) refl

  only-both : (spec : Both P Q) (bytes : List ℕ) (s : Both A B) (rest : List ℕ) → IsBytes bytes
      → read_both read_one read_other spec bytes ≡ value_then s rest
      → Stands (FitsBoth fits_one fits_other spec) (spell_both spell_one spell_other spec) bytes s rest
  only-both (One p) bytes s rest h e =
      made_only (one p) One (FitsBoth fits_one fits_other (One p)) (spell_both spell_one spell_other (One p)) (λ a f. f)
      (λ a. refl) bytes s rest h e
  only-both (Other q) bytes s rest h e =
      made_only (other q) Other (FitsBoth fits_one fits_other (Other q)) (spell_both spell_one spell_other (Other q))
      (λ a f. f) (λ a. refl) bytes s rest h e

  -- what is spelled is read again, and only that
  pub both_spelled : (spec : Both P Q)
      → IsSpelling (FitsBoth fits_one fits_other spec) (spell_both spell_one spell_other spec)
      (read_both read_one read_other spec)
  both_spelled spec = record { again = again-both spec; only = only-both spec }
