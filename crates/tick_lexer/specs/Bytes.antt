-- Classes of bytes, and what stands at the front of a text.
use Rattle.std.specs.Prelude.{◌≡◌, ℕ, Bool, true, false, eqb, leb, ◌&&◌, ◌||◌, List, [], ◌∷◌}

-- a decimal digit of ASCII
abbrev pub is_digit : ℕ → Bool
is_digit b = leb 48 b && leb b 57

-- a letter of ASCII, or `_`
abbrev pub is_letter : ℕ → Bool
is_letter b = (leb 97 b && leb b 122) || ((leb 65 b && leb b 90) || eqb b 95)

-- a letter, a digit or `_`
abbrev pub is_word : ℕ → Bool
is_word b = is_letter b || is_digit b

-- space, tab, line feed, carriage return
abbrev pub is_white : ℕ → Bool
is_white b = (eqb b 32 || eqb b 9) || (eqb b 10 || eqb b 13)

-- the quotes and the first bytes of signs: ' " ( ) , . | + - * / % = ! < >
abbrev pub is_mark : ℕ → Bool
is_mark b =
    (eqb b 39 || (eqb b 34 || (eqb b 40 || (eqb b 41 || (eqb b 44 || (eqb b 46 || (eqb b 124 || eqb b 43)))))))
    || (eqb b 45 || (eqb b 42 || (eqb b 47 || (eqb b 37 || (eqb b 61 || (eqb b 33 || (eqb b 60 || eqb b 62)))))))

-- every byte passes the test
abbrev pub AllPass : (ℕ → Bool) → List ℕ → Type 0
AllPass p [] = Unit {0}
AllPass p (b ∷ bs) = (p b ≡ true) × AllPass p bs

-- whether a byte that passes the test stands first
abbrev pub starts : (ℕ → Bool) → List ℕ → Bool
starts p [] = false
starts p (b ∷ bs) = p b

-- no byte that passes the test stands first
abbrev pub NotFirst : (ℕ → Bool) → List ℕ → Type 0
NotFirst p bs = starts p bs ≡ false

-- the micro sign, U+00B5
abbrev pub micro_sign : List ℕ
micro_sign = 194 ∷ 181 ∷ []

-- whether the micro sign stands first
abbrev pub starts_micro : List ℕ → Bool
starts_micro [] = false
starts_micro (b ∷ []) = false
starts_micro (b ∷ c ∷ bs) = eqb b 194 && eqb c 181

-- whether three single quotes stand first
abbrev pub starts_three : List ℕ → Bool
starts_three [] = false
starts_three (b ∷ []) = false
starts_three (b ∷ c ∷ []) = false
starts_three (b ∷ c ∷ d ∷ bs) = eqb b 39 && (eqb c 39 && eqb d 39)

-- three single quotes stand nowhere
abbrev pub NoThree : List ℕ → Type 0
NoThree [] = Unit {0}
NoThree (b ∷ bs) = (starts_three (b ∷ bs) ≡ false) × NoThree bs
