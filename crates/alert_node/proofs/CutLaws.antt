-- The longest front of whole characters within a limit.
use Rattle.std.proofs.Common.{◌≡◌, ℕ, zero, suc, ◌<◌, ◌≤◌, true, false, List, length, take, refl, sym, ap, subst, ◌∙◌, ⊎_elim, arith, cond}
use Rattle.std.specs.Str.{IsUtf8, is_utf8}
use Rattle.std.proofs.Math.Seq.{take-length}
use Rattle.std.proofs.lemmas.Bool.{cases_lt}
use Rattle.std.proofs.lemmas.List.{length-take, length-take-le, take_all}
use Rattle.std.proofs.lemmas.Str.{IsUtf8-from_is_utf8, IsUtf8-nil, is_utf8-from_IsUtf8}
use Rattle.msg_template.specs.Filling.{IsCutTo}
use Rattle.alert_node.specs.Events.{longest_front}

-- ---- it is such a front

take_again : (n : ℕ) (whole : List ℕ) → take (length (take n whole)) whole ≡ take n whole
take_again n whole = ⊎_elim short long (cases_lt (length whole) n)
  where
    short : length whole < n → take (length (take n whole)) whole ≡ take n whole
    short lt =
        let all : take n whole ≡ whole = take_all n whole (omega arith) in
        ap (λ (l : List ℕ). take (length l) whole) all ∙ take-length whole ∙ sym all

    long : n ≤ length whole → take (length (take n whole)) whole ≡ take n whole
    long le = ap (λ k. take k whole) (length-take-le n whole le)

front_here : (n : ℕ) (whole : List ℕ) → is_utf8 (take (suc n) whole) ≡ true → IsCutTo (suc n) whole (take (suc n) whole)
front_here n whole e = record {
  front = sym (take_again (suc n) whole);
  within = omega (arith, length-take (suc n) whole);
  characters = IsUtf8-from_is_utf8 (take (suc n) whole) e;
  longest = λ m more le inside utf8. omega (arith, more, le, inside, length-take (suc n) whole);
}

not_here : (n : ℕ) (whole : List ℕ) (m : ℕ) → is_utf8 (take (suc n) whole) ≡ false → m ≡ suc n → IsUtf8 (take m whole) → ⊥
not_here n whole m e same utf8 =
    let is : is_utf8 (take (suc n) whole) ≡ true = is_utf8-from_IsUtf8 (take (suc n) whole) (subst (λ k. IsUtf8 (take k whole)) same utf8) in
    absurd cc

front_before : (n : ℕ) (whole text : List ℕ) → is_utf8 (take (suc n) whole) ≡ false → IsCutTo n whole text → IsCutTo (suc n) whole text
front_before n whole text e cut = record {
  front = cut.front;
  within = let le = cut.within in omega (arith, le);
  characters = cut.characters;
  longest = λ m more le inside utf8.
      ⊎_elim
      (λ (lt : m < suc n). cut.longest m more (omega (arith, lt)) inside utf8)
      (λ (ge : suc n ≤ m). not_here n whole m e (omega (arith, ge, le)) utf8)
      (cases_lt m (suc n));
}

pub longest_is : (limit : ℕ) (whole : List ℕ) → IsCutTo limit whole (longest_front limit whole)
unfolding longest_front
longest_is zero whole = record { front = refl; within = omega arith; characters = IsUtf8-nil; longest = λ m more le inside utf8. omega (arith, more, le) }
longest_is (suc n) whole =
    elim (is_utf8 (take (suc n) whole)) as (λ t. is_utf8 (take (suc n) whole) ≡ t → IsCutTo (suc n) whole (cond t (take (suc n) whole) (longest_front n whole))) [
      | true ↦ λ e. front_here n whole e
      | false ↦ λ e. front_before n whole (longest_front n whole) e (longest_is n whole)
    ] refl

-- ---- and no other text is

not_longer : (limit : ℕ) (whole one other : List ℕ) → IsCutTo limit whole one → IsCutTo limit whole other → length other ≤ length one
not_longer limit whole one other a b =
    let inside : length other ≤ length whole = omega (arith, ap (λ (l : List ℕ). length l) b.front, length-take (length other) whole) in
    ⊎_elim
    (λ (lt : length one < length other). absurd (a.longest (length other) lt b.within inside (subst IsUtf8 b.front b.characters)))
    (λ (le : length other ≤ length one). le)
    (cases_lt (length one) (length other))

pub cut_is : (limit : ℕ) (whole text : List ℕ) → IsCutTo limit whole text → text ≡ longest_front limit whole
cut_is limit whole text a =
    let b : IsCutTo limit whole (longest_front limit whole) = longest_is limit whole in
    let one = not_longer limit whole text (longest_front limit whole) a b in
    let two = not_longer limit whole (longest_front limit whole) text b a in
    let same : length text ≡ length (longest_front limit whole) = omega (arith, one, two) in
    a.front ∙ ap (λ n. take n whole) same ∙ sym b.front
