-- Tokens that agree with marks, taken apart and put together.
use Rattle.std.proofs.Common.{◌≡◌, List, [], ◌∷◌, ◌++◌, refl, sym, ap, ◌∙◌, subst, append_assoc}
use Rattle.tick_lexer.specs.declared.token.Token.{Token}
use Rattle.tick_parser.specs.Grammar.{Mark, At, Free, Signed, Agree, Is}

pub record Split (tokens : List Token) (a b : List Mark) : Type 0 where
  pub front : List Token
  pub back : List Token
  pub joined : tokens ≡ front ++ back
  pub front_agrees : Agree front a
  pub back_agrees : Agree back b

-- tokens of two lists of marks are cut between them
pub split : (a b : List Mark) (tokens : List Token) → Agree tokens (a ++ b) → Split tokens a b
split [] b tokens h = record { front = []; back = tokens; joined = refl; front_agrees = refl; back_agrees = h }
split (m ∷ a) b tokens h =
    let s = split a b h.1 h.4 in
    record {
      front = h.0 ++ s.front;
      back = s.back;
      joined = h.2 ∙ ap (λ (l : List Token). h.0 ++ l) s.joined ∙ sym (append_assoc h.0 s.front s.back);
      front_agrees = (h.0, s.front, refl, h.3, s.front_agrees);
      back_agrees = s.back_agrees;
    }

pub join : (a b : List Mark) (s t : List Token) → Agree s a → Agree t b → Agree (s ++ t) (a ++ b)
join [] b s t h k = subst (λ (l : List Token). Agree (l ++ t) b) (sym h) k
join (m ∷ a) b s t h k =
    (h.0, h.1 ++ t, ap (λ (l : List Token). l ++ t) h.2 ∙ append_assoc h.0 h.1 t, h.3, join a b h.1 t h.4 k)

-- a mark of one token
abbrev pub IsSingle : Mark → Type 0
IsSingle (Signed lit place) = ⊥
IsSingle _ = Unit {0}

pub record First (tokens : List Token) (m : Mark) (ms : List Mark) : Type 0 where
  pub token : Token
  pub rest : List Token
  pub joined : tokens ≡ token ∷ rest
  pub is : Is (token ∷ []) m
  pub rest_agrees : Agree rest ms

first_of_front : (m : Mark) (ms : List Mark) (tokens front back : List Token) → IsSingle m → tokens ≡ front ++ back → Is front m → Agree back ms → First tokens m ms
first_of_front (At kind place) ms tokens [] back s e i h = elim i [ ]
first_of_front (At kind place) ms tokens (t ∷ []) back s e i h = record { token = t; rest = back; joined = e; is = i; rest_agrees = h }
first_of_front (At kind place) ms tokens (t ∷ u ∷ front) back s e i h = elim i [ ]
first_of_front (Free kind) ms tokens [] back s e i h = elim i [ ]
first_of_front (Free kind) ms tokens (t ∷ []) back s e i h = record { token = t; rest = back; joined = e; is = i; rest_agrees = h }
first_of_front (Free kind) ms tokens (t ∷ u ∷ front) back s e i h = elim i [ ]
first_of_front (Signed lit place) ms tokens front back s e i h = elim s [ ]

-- the token of a first mark
pub first : (m : Mark) (ms : List Mark) (tokens : List Token) → IsSingle m → Agree tokens (m ∷ ms) → First tokens m ms
first m ms tokens s h = first_of_front m ms tokens h.0 h.1 s h.2 h.3 h.4

pub none_left : (tokens : List Token) → Agree tokens [] → tokens ≡ []
none_left tokens h = h

-- one more token that agrees with a mark
pub snoc : (a b : List Mark) (m : Mark) (tokens : List Token) (token : Token) → Agree tokens a → Is (token ∷ []) m → a ++ m ∷ [] ≡ b → Agree (tokens ++ token ∷ []) b
snoc a b m tokens token h i e =
    subst (λ (l : List Mark). Agree (tokens ++ token ∷ []) l) e (join a (m ∷ []) tokens (token ∷ []) h (token ∷ [], [], refl, i, refl))

-- two more tokens that agree with a mark
pub snoc_two : (a b : List Mark) (m : Mark) (tokens : List Token) (t u : Token) → Agree tokens a → Is (t ∷ u ∷ []) m → a ++ m ∷ [] ≡ b → Agree (tokens ++ t ∷ u ∷ []) b
snoc_two a b m tokens t u h i e =
    subst (λ (l : List Mark). Agree (tokens ++ t ∷ u ∷ []) l) e (join a (m ∷ []) tokens (t ∷ u ∷ []) h (t ∷ u ∷ [], [], refl, i, refl))
