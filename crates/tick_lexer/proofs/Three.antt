-- Texts in three quotes.
use Rattle.std.proofs.Common.{◌≡◌, ℕ, ◌+◌, Bool, true, false, cond, eqb, ◌&&◌, List, [], ◌∷◌, ◌++◌, length, refl, sym, ap, ◌∙◌, arith, Option, Some, None}
use Rattle.tick_lexer.specs.Bytes.{starts_three, NoThree}
use Rattle.tick_lexer.specs.Front.{plus, before_three}
use Rattle.tick_lexer.proofs.Choices.{cond_false, and_true, and_left, is_same}

-- whether three quotes stand first doesn't hang on what follows two of them
three_same : (b : ℕ) (text rest : List ℕ) → starts_three (b ∷ (text ++ (39 ∷ 39 ∷ []))) ≡ starts_three (b ∷ (text ++ (39 ∷ 39 ∷ 39 ∷ rest)))
three_same b [] rest = refl
three_same b (c ∷ []) rest = refl
three_same b (c ∷ d ∷ text) rest = refl

-- the three quotes behind a text without them are found
pub three_ends : (text rest : List ℕ) → NoThree (text ++ (39 ∷ 39 ∷ [])) → before_three (text ++ (39 ∷ 39 ∷ 39 ∷ rest)) ≡ Some (length text)
three_ends [] rest h = refl
three_ends (b ∷ text) rest h =
    cond_false (starts_three (b ∷ (text ++ (39 ∷ 39 ∷ 39 ∷ rest)))) (Some 0) (plus 1 (before_three (text ++ (39 ∷ 39 ∷ 39 ∷ rest)))) (sym (three_same b text rest) ∙ h.0)
    ∙ ap (λ (o : Option ℕ). plus 1 o) (three_ends text rest h.1)
    ∙ (let e : 1 + length text ≡ length (b ∷ text) = omega arith in ap (λ (n : ℕ). Some n) e)

pub none_ends : (bs : List ℕ) → NoThree bs → before_three bs ≡ None
none_ends [] h = refl
none_ends (b ∷ bs) h = cond_false (starts_three (b ∷ bs)) (Some 0) (plus 1 (before_three bs)) h.0 ∙ ap (λ (o : Option ℕ). plus 1 o) (none_ends bs h.1)

plus_none : (o : Option ℕ) → plus 1 o ≡ None → o ≡ None
plus_none None h = refl
plus_none (Some n) h = absurd (cc)

pub ends_none : (bs : List ℕ) → before_three bs ≡ None → NoThree bs
ends_none [] h = tt
ends_none (b ∷ bs) h =
    let more = ends_none bs in
    let go : (t : Bool) → starts_three (b ∷ bs) ≡ t → cond t (Some 0) (plus 1 (before_three bs)) ≡ None → NoThree (b ∷ bs) =
    elim [ true ↦ λ e x. absurd (cc) | false ↦ λ e x. (e, more (plus_none (before_three bs) x)) ] in
    go (starts_three (b ∷ bs)) refl h

-- what stands before the first three quotes
pub record Tripling (bs : List ℕ) (n : ℕ) : Type 0 where
  pub text : List ℕ
  pub rest : List ℕ
  pub joined : bs ≡ text ++ (39 ∷ 39 ∷ 39 ∷ rest)
  pub size : n ≡ length text
  pub plain : NoThree (text ++ (39 ∷ 39 ∷ []))

tripling_here : (bs : List ℕ) (n : ℕ) → 0 ≡ n → starts_three bs ≡ true → Tripling bs n
tripling_here [] n z h = absurd (cc)
tripling_here (b ∷ []) n z h = absurd (cc)
tripling_here (b ∷ c ∷ []) n z h = absurd (cc)
tripling_here (b ∷ c ∷ d ∷ bs) n z h =
    let one = and_true (eqb b 39) (eqb c 39 && eqb d 39) h in
    let two = and_true (eqb c 39) (eqb d 39) one.1 in
    record {
      text = [];
      rest = bs;
      joined =
          ap (λ (x : ℕ). x ∷ c ∷ d ∷ bs) (is_same b 39 one.0)
          ∙ ap (λ (x : ℕ). 39 ∷ x ∷ d ∷ bs) (is_same c 39 two.0)
          ∙ ap (λ (x : ℕ). 39 ∷ 39 ∷ x ∷ bs) (is_same d 39 two.1);
      size = sym z;
      plain = (refl, (refl, tt));
    }

tripling_later : (b : ℕ) (bs : List ℕ) (n : ℕ) (o : Option ℕ) → starts_three (b ∷ bs) ≡ false → plus 1 o ≡ Some n → ((m : ℕ) → o ≡ Some m → Tripling bs m) → Tripling (b ∷ bs) n
tripling_later b bs n None e h more = absurd (cc)
tripling_later b bs n (Some m) e h more =
    let t = more m refl in
    let count : 1 + m ≡ n = cc in
    record {
      text = b ∷ t.text;
      rest = t.rest;
      joined = ap (λ (l : List ℕ). b ∷ l) t.joined;
      size = let z = t.size in omega arith;
      plain = (three_same b t.text t.rest ∙ ap (λ (l : List ℕ). starts_three (b ∷ l)) (sym t.joined) ∙ e, t.plain);
    }

pub tripling : (bs : List ℕ) (n : ℕ) → before_three bs ≡ Some n → Tripling bs n
tripling [] n h = absurd (cc)
tripling (b ∷ bs) n h =
    let more = tripling bs in
    let go : (t : Bool) → starts_three (b ∷ bs) ≡ t → cond t (Some 0) (plus 1 (before_three bs)) ≡ Some n → Tripling (b ∷ bs) n =
    elim [ true ↦ λ e x. tripling_here (b ∷ bs) n (cc) e | false ↦ λ e x. tripling_later b bs n (before_three bs) e x more ] in
    go (starts_three (b ∷ bs)) refl h

-- a quote and another byte than a quote are no three quotes
pub no_three : (c : ℕ) (tail : List ℕ) → eqb c 39 ≡ false → starts_three (39 ∷ c ∷ tail) ≡ false
no_three c [] h = refl
no_three c (d ∷ tail) h = and_left (eqb c 39) (eqb d 39) h
