-- Items of a list that are gone through from the first on.
use Rattle.std.proofs.Common.{◌≡◌, zero, suc, List, [], ◌∷◌, ◌++◌, length, refl, sym, ap, subst, ◌∙◌, append-nil, append_assoc, arith}
use Rattle.std.specs.Prelude.{Contains}
use Rattle.std.specs.List.{AllByRecursion as Each}

pub each_to : {A : Type 0} (P Q : A → Type 0) (xs : List A) → ((x : A) → P x → Q x) → Each P xs → Each Q xs
each_to P Q [] f h = tt
each_to P Q (x ∷ xs) f h = (f x h.0, each_to P Q xs f h.1)

pub each_both : {A : Type 0} (P Q R : A → Type 0) (xs : List A) → ((x : A) → P x → Q x → R x) → Each P xs → Each Q xs → Each R xs
each_both P Q R [] f a b = tt
each_both P Q R (x ∷ xs) f a b = (f x a.0 b.0, each_both P Q R xs f a.1 b.1)

pub nil_of : {A : Type 0} (xs : List A) → length xs ≡ 0 → xs ≡ []
nil_of [] e = refl
nil_of (x ∷ xs) e = absurd (omega (arith, e))

-- each is one of which P holds
pub each_contains : {A : Type 0} (P : A → Type 0) (xs : List A) (x : A) → Contains xs x → Each P xs → P x
each_contains P [] x c h = let lt = c.1 in absurd (omega (arith, lt))
each_contains P (y ∷ xs) x (zero, lt, e) h = subst P e h.0
each_contains P (y ∷ xs) x (suc k, lt, e) h = each_contains P xs x (k, omega (arith, lt), e) h.1

pub each_append : {A : Type 0} (P : A → Type 0) (xs ys : List A) → Each P xs → Each P ys → Each P (xs ++ ys)
each_append P [] ys a b = b
each_append P (x ∷ xs) ys a b = (a.0, each_append P xs ys a.1 b)

pub each_end : {A : Type 0} (P : A → Type 0) (xs ys : List A) → Each P (xs ++ ys) → Each P ys
each_end P [] ys h = h
each_end P (x ∷ xs) ys h = each_end P xs ys h.1

-- some were passed, of each of which P holds
pub record Passed {A : Type 0} (P : A → Type 0) (all rest : List A) : Type 0 where
  pub passed : List A
  pub split : all ≡ passed ++ rest
  pub holds : Each P passed

pub passed_none : {A : Type 0} (P : A → Type 0) (all : List A) → Passed P all all
passed_none P all = record { passed = []; split = refl; holds = tt }

pub passed_more : {A : Type 0} (P : A → Type 0) (all rest others : List A) (x : A) → Passed P all rest → rest ≡ x ∷ others → P x → Passed P all others
passed_more P all rest others x p e h = record {
  passed = p.passed ++ x ∷ [];
  split = p.split ∙ ap (λ l. p.passed ++ l) e ∙ sym (append_assoc p.passed (x ∷ []) others);
  holds = each_append P p.passed (x ∷ []) p.holds (h, tt);
}

pub passed_to : {A : Type 0} (P Q : A → Type 0) (all rest : List A) → ((x : A) → P x → Q x) → Passed P all rest → Passed Q all rest
passed_to P Q all rest f p = record { passed = p.passed; split = p.split; holds = each_to P Q p.passed f p.holds }

pub passed_all : {A : Type 0} (P : A → Type 0) (all rest : List A) → Passed P all rest → rest ≡ [] → Each P all
passed_all P all rest p e = subst (Each P) (sym (p.split ∙ ap (λ l. p.passed ++ l) e ∙ append-nil p.passed)) p.holds

stands-behind : {A : Type 0} (front others : List A) (x : A) → Contains (front ++ x ∷ others) x
stands-behind [] others x = (0, omega arith, refl)
stands-behind (y ∷ front) others x = let s = stands-behind front others x in let lt = s.1 in (suc s.0, omega (arith, lt), s.2)

-- the next one is one of them all
pub next_among : {A : Type 0} (P : A → Type 0) (all rest others : List A) (x : A) → Passed P all rest → rest ≡ x ∷ others → Contains all x
next_among P all rest others x p e = subst (λ l. Contains l x) (sym (p.split ∙ ap (λ l. p.passed ++ l) e)) (stands-behind p.passed others x)

-- and of it holds what holds of each
pub next_holds : {A : Type 0} (P Q : A → Type 0) (all rest others : List A) (x : A) → Passed P all rest → rest ≡ x ∷ others → Each Q all → Q x
next_holds P Q all rest others x p e h = (each_end Q p.passed (x ∷ others) (subst (Each Q) (p.split ∙ ap (λ l. p.passed ++ l) e) h)).0
