-- How each token is spelled, and what may not follow it, so that it is the longest one.
use Rattle.std.specs.Prelude.{◌≡◌, ◌≢◌, ◌⊎◌, ℕ, ◌*◌, ◌<◌, ◌≤◌, ◌^◌, Bool, true, false, cond, eqb, bytes_eq, ◌||◌, List, [], ◌∷◌, ◌++◌, pos, codes}
use Rattle.std.specs.Str.Parse.{IsNumeral, digits_value}
use Rattle.kap_base.specs.declared.expr.Lit.TheVariants.{Int, Dur, Str, Bool as Truth, Regex}
use Rattle.kap_base.specs.declared.expr.Op.{Op}
use Rattle.kap_base.specs.declared.expr.Op.TheVariants.{Or, And, Eq, Ne, Match, NoMatch, Lt, Le, Gt, Ge, Add, Sub, Mul, Div, Rem}
use Rattle.tick_lexer.specs.declared.token.Kind.{Kind}
use Rattle.tick_lexer.specs.declared.token.Kind.TheVariants.{Ident, Var, Lambda, Literal, Reference, Operator, Not, Assign, OpenParen, CloseParen, Comma, Dot, Pipe}
use Rattle.tick_lexer.specs.declared.limits.TheConstants.{DURATION_LIMIT}
use Rattle.tick_lexer.specs.declared.unit.Unit as units
use Rattle.tick_lexer.specs.declared.unit.Unit.TheVariants.{Week, Day, Hour, Minute, Second, Milli, Micro, MicroSign}
use Rattle.tick_lexer.specs.Bytes.{is_letter, is_word, AllPass, NotFirst, micro_sign, starts_micro, NoThree}

-- the words that are no names
abbrev pub is_reserved : List ℕ → Bool
is_reserved name =
    bytes_eq name (codes "OR")
    || (bytes_eq name (codes "AND")
    || (bytes_eq name (codes "TRUE") || (bytes_eq name (codes "FALSE") || bytes_eq name (codes "var"))))

-- a letter or `_`, and then letters, digits and `_`
abbrev pub IsName : List ℕ → Type 0
IsName [] = ⊥
IsName (b ∷ bs) = (is_letter b ≡ true) × AllPass is_word bs

-- a zero before further digits
abbrev pub has_leading_zero : List ℕ → Bool
has_leading_zero [] = false
has_leading_zero (b ∷ []) = false
has_leading_zero (b ∷ c ∷ bs) = eqb b 48

-- digits without a leading zero
abbrev pub IsPlainNumeral : List ℕ → Type 0
IsPlainNumeral s = IsNumeral 10 s × (has_leading_zero s ≡ false)

-- how a unit is spelled
abbrev pub unit_bytes : units.Unit → List ℕ
unit_bytes Week = codes "w"
unit_bytes Day = codes "d"
unit_bytes Hour = codes "h"
unit_bytes Minute = codes "m"
unit_bytes Second = codes "s"
unit_bytes Milli = codes "ms"
unit_bytes Micro = codes "u"
unit_bytes MicroSign = micro_sign

-- how many nanoseconds a unit has
abbrev pub unit_nanos : units.Unit → ℕ
unit_nanos Week = 604_800_000_000_000
unit_nanos Day = 86_400_000_000_000
unit_nanos Hour = 3_600_000_000_000
unit_nanos Minute = 60_000_000_000
unit_nanos Second = 1_000_000_000
unit_nanos Milli = 1_000_000
unit_nanos Micro = 1_000
unit_nanos MicroSign = 1_000

-- digits and a unit, of this many nanoseconds
pub record IsDuration (nanos : ℕ) (s : List ℕ) : Type 0 where
  pub digits : List ℕ
  pub unit : units.Unit
  pub joined : s ≡ digits ++ unit_bytes unit
  pub plain : IsPlainNumeral digits
  pub value : nanos ≡ digits_value 10 digits * unit_nanos unit

-- how an operator is spelled
abbrev pub operator_bytes : Op → List ℕ
operator_bytes Or = codes "OR"
operator_bytes And = codes "AND"
operator_bytes Eq = codes "=="
operator_bytes Ne = codes "!="
operator_bytes Match = codes "=~"
operator_bytes NoMatch = codes "!~"
operator_bytes Lt = codes "<"
operator_bytes Le = codes "<="
operator_bytes Gt = codes ">"
operator_bytes Ge = codes ">="
operator_bytes Add = codes "+"
operator_bytes Sub = codes "-"
operator_bytes Mul = codes "*"
operator_bytes Div = codes "/"
operator_bytes Rem = codes "%"

-- the text with a backslash before each quote
abbrev pub escaped : ℕ → List ℕ → List ℕ
escaped quote [] = []
escaped quote (b ∷ bs) = cond (eqb b quote) (92 ∷ b ∷ escaped quote bs) (b ∷ escaped quote bs)

-- the text doesn't end in a backslash
abbrev pub EndsPlain : List ℕ → Type 0
EndsPlain [] = Unit {0}
EndsPlain (b ∷ []) = b ≢ 92
EndsPlain (b ∷ c ∷ bs) = EndsPlain (c ∷ bs)

-- the text in these quotes, where a backslash makes a quote a part of it, and is itself everywhere else
abbrev pub Quoted : ℕ → List ℕ → List ℕ → Type 0
Quoted quote text s = (s ≡ quote ∷ (escaped quote text ++ quote ∷ [])) × EndsPlain text

-- the text between three single quotes and the next three, without escapes
abbrev pub Tripled : List ℕ → List ℕ → Type 0
Tripled text s = (s ≡ codes "'''" ++ (text ++ codes "'''")) × NoThree (text ++ codes "''")

-- the bytes of a token of this kind
abbrev pub Spelled : Kind → List ℕ → Type 0
Spelled (Ident name) s = (s ≡ name) × IsName name × (is_reserved name ≡ false)
Spelled Var s = s ≡ codes "var"
Spelled Lambda s = s ≡ codes "lambda:"
Spelled (Literal (Int n)) s = IsPlainNumeral s × (n ≡ pos (digits_value 10 s)) × (digits_value 10 s < 2 ^ 63)
Spelled (Literal (Dur n)) s = (nanos : ℕ) × (n ≡ pos nanos) × IsDuration nanos s × (nanos ≤ DURATION_LIMIT)
Spelled (Literal (Str text)) s = Quoted 39 text s ⊎ Tripled text s
Spelled (Literal (Truth b)) s = s ≡ cond b (codes "TRUE") (codes "FALSE")
Spelled (Literal (Regex text)) s = Quoted 47 text s × (text ≢ [])
Spelled (Reference text) s = Quoted 34 text s
Spelled (Operator op) s = s ≡ operator_bytes op
Spelled Not s = s ≡ codes "!"
Spelled Assign s = s ≡ codes "="
Spelled OpenParen s = s ≡ codes "("
Spelled CloseParen s = s ≡ codes ")"
Spelled Comma s = s ≡ codes ","
Spelled Dot s = s ≡ codes "."
Spelled Pipe s = s ≡ codes "|"

-- a dot
abbrev pub is_dot : ℕ → Bool
is_dot b = eqb b 46

-- a colon
abbrev pub is_colon : ℕ → Bool
is_colon b = eqb b 58

-- a single quote
abbrev pub is_single_quote : ℕ → Bool
is_single_quote b = eqb b 39

-- a slash
abbrev pub is_slash : ℕ → Bool
is_slash b = eqb b 47

-- an equals sign
abbrev pub is_equals : ℕ → Bool
is_equals b = eqb b 61

-- a tilde
abbrev pub is_tilde : ℕ → Bool
is_tilde b = eqb b 126

-- what may not follow digits, so that they are an integer: a letter, a digit, `_`, a dot, the micro sign
abbrev pub EndsInt : List ℕ → Type 0
EndsInt rest = NotFirst is_word rest × NotFirst is_dot rest × (starts_micro rest ≡ false)

-- what may not follow `=` and `!`
abbrev pub EndsAlone : List ℕ → Type 0
EndsAlone rest = NotFirst is_equals rest × NotFirst is_tilde rest

-- What may not follow a token with these bytes, so that it is the longest one. Two single quotes before a
-- third would begin a string in three quotes, and a slash before a slash would begin a comment.
abbrev pub EndsToken : Kind → List ℕ → List ℕ → Type 0
EndsToken (Ident name) bytes rest = NotFirst is_word rest × (name ≡ codes "lambda" → NotFirst is_colon rest)
EndsToken Var bytes rest = NotFirst is_word rest
EndsToken (Literal (Int n)) bytes rest = EndsInt rest
EndsToken (Literal (Dur n)) bytes rest = NotFirst is_word rest
EndsToken (Literal (Str text)) bytes rest = bytes ≡ codes "''" → NotFirst is_single_quote rest
EndsToken (Literal (Truth b)) bytes rest = NotFirst is_word rest
EndsToken (Operator Or) bytes rest = NotFirst is_word rest
EndsToken (Operator And) bytes rest = NotFirst is_word rest
EndsToken (Operator Lt) bytes rest = NotFirst is_equals rest
EndsToken (Operator Gt) bytes rest = NotFirst is_equals rest
EndsToken (Operator Div) bytes rest = NotFirst is_slash rest
EndsToken Assign bytes rest = EndsAlone rest
EndsToken Not bytes rest = EndsAlone rest
EndsToken _ bytes rest = Unit {0}

-- a pattern may follow a token of this kind: =~ !~ = ( ,
abbrev pub takes_pattern : Kind → Bool
takes_pattern (Operator Match) = true
takes_pattern (Operator NoMatch) = true
takes_pattern Assign = true
takes_pattern OpenParen = true
takes_pattern Comma = true
takes_pattern _ = false

-- where a pattern may begin a slash begins one, and is a division everywhere else
abbrev pub IsAllowed : Bool → Kind → Type 0
IsAllowed pattern (Literal (Regex text)) = pattern ≡ true
IsAllowed pattern (Operator Div) = pattern ≡ false
IsAllowed pattern _ = Unit {0}
