-- The first place of a text in another is what std's search finds, and a text may be cut where a character begins.
use Rattle.std.proofs.Common.{◌≡◌, ◌≢◌, ℕ, zero, suc, ◌+◌, ◌<◌, ◌≤◌, Bool, true, false, List, [], ◌∷◌, ◌++◌, length, drop, Option, None, Some, refl, sym, ap, arith}
use Rattle.std.specs.Prelude.{nat_eq, nat_le, MatchOption, IfSome}
use Rattle.std.specs.List.{starts_with}
use Rattle.std.specs.Str.{IsUtf8, is_utf8, IsCharBoundary}
use Rattle.std.specs.Str.Pattern.{LacksTextAt, FindsText}
use Rattle.std.proofs.lemmas.Bool.Decides.{Decides-eqb, nat_tests}
use Rattle.std.proofs.lemmas.Slice.Eq.{starts_is}
use Rattle.std.proofs.lemmas.Str.{IsUtf8-from_is_utf8, is_utf8-from_IsUtf8, IsUtf8-drop, IsCharBoundary-from_drop}
use Rattle.kap_base.proofs.TestLaws.{first_of, second_of}
use Rattle.lambda_fns.specs.Texts.{first_place, is_border}

starts_true : (a s rest : List ℕ) → s ≡ a ++ rest → starts_with nat_eq s a ≡ true
starts_true a s rest e = (starts_is Decides-eqb s a (starts_with nat_eq s a) refl).1 rest e

starts_false : (a s : List ℕ) → ((rest : List ℕ) → s ≢ a ++ rest) → starts_with nat_eq s a ≡ false
starts_false a s h = go (starts_with nat_eq s a) refl
  where
    go : (t : Bool) → starts_with nat_eq s a ≡ t → t ≡ false
    go true e = absurd (h (drop (length a) s) ((starts_is Decides-eqb s a (starts_with nat_eq s a) refl).0 e))
    go false e = refl

pub first_place_is : (a s rest : List ℕ) (i : ℕ) → i ≤ length s → ((k : ℕ) → k < i → LacksTextAt a s k) → drop i s ≡ a ++ rest → first_place a s ≡ Some i
unfolding first_place
first_place_is a [] rest zero le before here = rw (starts_true a [] rest here) refl
first_place_is a [] rest (suc i) le before here = absurd (omega arith)
first_place_is a (c ∷ cs) rest zero le before here = rw (starts_true a (c ∷ cs) rest here) refl
first_place_is a (c ∷ cs) rest (suc i) le before here =
    let next : i + 1 ≡ suc i = omega arith in
    rw (starts_false a (c ∷ cs) (before 0 (omega arith)), first_place_is a cs rest i (omega arith) (λ k lt. before (suc k) (omega arith)) here) (ap Some next)

pub first_place_none : (a s : List ℕ) → ((k : ℕ) → k ≤ length s → LacksTextAt a s k) → first_place a s ≡ None
unfolding first_place
first_place_none a [] h = rw (starts_false a [] (h 0 (omega arith))) refl
first_place_none a (c ∷ cs) h =
    rw (starts_false a (c ∷ cs) (h 0 (omega arith)), first_place_none a cs (λ k le. h (suc k) (omega arith))) refl

-- what std's search answers
pub find_is : (a s : List ℕ) (r : Option ℕ) → MatchOption r ((i : ℕ) → i ≤ length s → LacksTextAt a s i) (λ i. (j : ℕ) × FindsText a s (Some (i, j)) × (i ≤ j) × IsCharBoundary s i × IsCharBoundary s j)
    → (r ≡ first_place a s) × IfSome r (λ i. i ≤ length s)
find_is a s None none = (sym (first_place_none a s none), tt)
find_is a s (Some i) some = (sym (first_place_is a s _ i some.3.0 some.1.0 some.1.1.split), some.3.0)

fails : (test : Bool) → ¬ (test ≡ true) → test ≡ false
fails true other = absurd (other refl)
fails false other = refl

le_test : (i n : ℕ) → i ≤ n → nat_le i n ≡ true
le_test i n h = grind (arith, nat_tests)

le_fact : (i n : ℕ) → nat_le i n ≡ true → i ≤ n
le_fact i n h = grind (arith, nat_tests)

pub border_test : (s : List ℕ) (i : ℕ) → IsUtf8 s → IsCharBoundary s i → is_border s i ≡ true
border_test s i utf8 h = rw (le_test i (length s) h.0, is_utf8-from_IsUtf8 (drop i s) (IsUtf8-drop s i utf8 h)) refl

pub border_fact : (s : List ℕ) (i : ℕ) → is_border s i ≡ true → IsCharBoundary s i
border_fact s i e =
    let within = first_of (nat_le i (length s)) (is_utf8 (drop i s)) e in
    IsCharBoundary-from_drop s i (le_fact i (length s) within) (IsUtf8-from_is_utf8 (drop i s) (second_of (nat_le i (length s)) (is_utf8 (drop i s)) e))

pub not_border : (s : List ℕ) (i : ℕ) → ¬ (IsCharBoundary s i) → is_border s i ≡ false
not_border s i h = fails (is_border s i) (λ e. h (border_fact s i e))
