-- Tests, and choices by them.
use Rattle.std.proofs.Common.{◌≡◌, ◌≢◌, ℕ, Bool, true, false, cond, eqb, ◌&&◌, ◌||◌, refl, ap, arith}
use Rattle.std.proofs.lemmas.Bool.Decides.{nat_tests}

pub cond_true : {A : Type 0} (t : Bool) (x y : A) → t ≡ true → cond t x y ≡ x
cond_true t x y h = ap (λ (b : Bool). cond b x y) h

pub cond_false : {A : Type 0} (t : Bool) (x y : A) → t ≡ false → cond t x y ≡ y
cond_false t x y h = ap (λ (b : Bool). cond b x y) h

-- a fact on a choice, from what the test says
pub choose : {A : Type 0} (P : A → Type 0) (t : Bool) (x y : A) → (t ≡ true → P x) → (t ≡ false → P y) → P (cond t x y)
choose P true x y h k = h refl
choose P false x y h k = k refl

pub or_false : (a b : Bool) → (a || b) ≡ false → (a ≡ false) × (b ≡ false)
or_false true b h = absurd (cc)
or_false false b h = (refl, h)

pub both_false : (a b : Bool) → a ≡ false → b ≡ false → (a || b) ≡ false
both_false true b h k = absurd (cc)
both_false false b h k = k

pub or_left : (a b : Bool) → a ≡ true → (a || b) ≡ true
or_left true b h = refl
or_left false b h = absurd (cc)

pub or_right : (a b : Bool) → b ≡ true → (a || b) ≡ true
or_right true b h = refl
or_right false b h = h

pub and_true : (a b : Bool) → (a && b) ≡ true → (a ≡ true) × (b ≡ true)
and_true true b h = (refl, h)
and_true false b h = absurd (cc)

pub and_left : (a b : Bool) → a ≡ false → (a && b) ≡ false
and_left true b h = absurd (cc)
and_left false b h = refl

-- the second part of an `and` that fails though the first holds
pub and_rest : (a b : Bool) → a ≡ true → (a && b) ≡ false → b ≡ false
and_rest true b h k = k
and_rest false b h k = absurd (cc)

pub is_same : (m n : ℕ) → eqb m n ≡ true → m ≡ n
is_same m n h = grind (arith, nat_tests)

pub same_test : (n : ℕ) → eqb n n ≡ true
same_test n = grind (arith, nat_tests)

pub other_test : (m n : ℕ) → m ≢ n → eqb n m ≡ false
other_test m n h = grind (arith, nat_tests)

pub not_same : (m n : ℕ) → eqb m n ≡ false → m ≢ n
not_same m n h = λ (e : m ≡ n). grind (arith, nat_tests)
