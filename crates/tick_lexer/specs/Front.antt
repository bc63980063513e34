-- What the code finds at the front of a text that begins no gap: its steps, cited by private contracts alone.
use Rattle.std.specs.Prelude.{ℕ, ◌+◌, ◌*◌, ◌^◌, Bool, true, false, cond, eqb, ltb, leb, bytes_eq, ◌&&◌, List, [], ◌∷◌, ◌++◌, length, drop, take, pos, take_while, codes, Option, Some, None}
use Rattle.std.specs.Str.Parse.{digits_value}
use Rattle.kap_base.specs.declared.expr.Lit.TheVariants.{Int, Dur, Str, Bool as Truth, Regex}
use Rattle.kap_base.specs.declared.expr.Op.TheVariants.{Or, And, Eq, Ne, Match, NoMatch, Lt, Le, Gt, Ge, Add, Sub, Mul, Div, Rem}
use Rattle.tick_lexer.specs.declared.limits.TheConstants.{DURATION_LIMIT}
use Rattle.tick_lexer.specs.declared.token.Kind.{Kind}
use Rattle.tick_lexer.specs.declared.token.Kind.TheVariants.{Ident, Var, Lambda, Literal, Reference, Operator, Not, Assign, OpenParen, CloseParen, Comma, Dot, Pipe}
use Rattle.tick_lexer.specs.declared.token.LexFault.{LexFault}
use Rattle.tick_lexer.specs.declared.token.LexFault.TheVariants.{BadChar, OpenString, OpenRegex, BadNumber, FloatLiteral, OctalLiteral, WideInt, WideDuration, UserFunction}
use Rattle.tick_lexer.specs.declared.unit.Unit as units
use Rattle.tick_lexer.specs.declared.unit.Unit.TheVariants.{Week, Day, Hour, Minute, Second, Milli, Micro, MicroSign}
use Rattle.tick_lexer.specs.Bytes.{is_letter, is_digit, is_word, starts, starts_micro, starts_three}
use Rattle.tick_lexer.specs.Spelling.{has_leading_zero, unit_bytes, unit_nanos, is_dot, is_colon, is_equals, is_tilde}

-- a token of this kind and this many bytes, or a fault at its first byte
pub data Found : Type 0 where
  Took : (kind : Kind) (bytes : ℕ) → Found
  Bad : (fault : LexFault) → Found

-- the kind of a word
abbrev pub word_kind : List ℕ → Kind
word_kind name =
    cond (bytes_eq name (codes "OR")) (Operator Or)
    (cond (bytes_eq name (codes "AND")) (Operator And)
    (cond (bytes_eq name (codes "TRUE")) (Literal (Truth true))
    (cond (bytes_eq name (codes "FALSE")) (Literal (Truth false))
    (cond (bytes_eq name (codes "var")) Var (Ident name)))))

-- a word, and what follows it
abbrev pub named : List ℕ → List ℕ → Found
named name rest =
    cond (bytes_eq name (codes "lambda") && starts is_colon rest) (Took Lambda (length name + 1))
    (Took (word_kind name) (length name))

-- a word that begins with this text: a name, a keyword, or `lambda:`
abbrev pub word : List ℕ → Found
word text = let name = take_while is_word text in named name (drop (length name) text)

-- the longest unit at the front
abbrev pub unit_at : List ℕ → Option units.Unit
unit_at tail =
    cond (starts_micro tail) (Some MicroSign)
    (cond (starts (eqb 117) tail) (Some Micro)
    (cond (starts (eqb 109) tail) (cond (starts (eqb 115) (drop 1 tail)) (Some Milli) (Some Minute))
    (cond (starts (eqb 115) tail) (Some Second)
    (cond (starts (eqb 104) tail) (Some Hour)
    (cond (starts (eqb 100) tail) (Some Day)
    (cond (starts (eqb 119) tail) (Some Week) None))))))

-- the integer of these digits, or the fault that it is too wide
abbrev pub integer : ℕ → List ℕ → Found
integer at digits =
    cond (ltb (digits_value 10 digits) (2 ^ 63)) (Took (Literal (Int (pos (digits_value 10 digits)))) (length digits))
    (Bad (WideInt at))

-- the duration of these digits in this unit, or the fault that it is too wide
abbrev pub duration : ℕ → List ℕ → units.Unit → Found
duration at digits unit =
    cond (leb (digits_value 10 digits * unit_nanos unit) DURATION_LIMIT)
    (Took (Literal (Dur (pos (digits_value 10 digits * unit_nanos unit))))
    (length digits + length (unit_bytes unit))) (Bad (WideDuration at))

-- digits, what follows them, and the unit there
abbrev pub measured : ℕ → List ℕ → List ℕ → Option units.Unit → Found
measured at digits tail None = cond (starts is_word tail) (Bad (BadNumber at)) (integer at digits)
measured at digits tail (Some unit) =
    cond (starts is_word (drop (length (unit_bytes unit)) tail)) (Bad (BadNumber at)) (duration at digits unit)

-- the digits, and what follows them
abbrev pub numeral : ℕ → List ℕ → List ℕ → Found
numeral at digits tail =
    cond (has_leading_zero digits) (Bad (OctalLiteral at))
    (cond (starts is_dot tail) (Bad (FloatLiteral at))
    (measured at digits tail (unit_at tail)))

-- a number that begins with this text: an integer or a duration
abbrev pub number : ℕ → List ℕ → Found
number at text = let digits = take_while is_digit text in numeral at digits (drop (length digits) text)

-- what a quote opened: it has no end, or this text, and this many bytes with the quote at its end
pub data Scan : Type 0 where
  Endless : Scan
  Shut : (text : List ℕ) (bytes : ℕ) → Scan

-- what a quote opened, with one more byte before it that adds this to the text
abbrev pub grown : List ℕ → Scan → Scan
grown front Endless = Endless
grown front (Shut text bytes) = Shut (front ++ text) (bytes + 1)

-- behind a backslash, which stands for itself unless a quote follows, if the flag is set
abbrev pub scan : ℕ → List ℕ → Bool → Scan
scan quote [] behind = Endless
scan quote (b ∷ bs) false =
    cond (eqb b quote) (Shut [] 1)
    (cond (eqb b 92) (grown [] (scan quote bs true)) (grown (b ∷ []) (scan quote bs false)))
scan quote (b ∷ bs) true =
    cond (eqb b quote) (grown (b ∷ []) (scan quote bs false))
    (cond (eqb b 92) (grown (92 ∷ []) (scan quote bs true)) (grown (92 ∷ b ∷ []) (scan quote bs false)))

-- the token of the text that a quote opened, or this fault where it has no end
abbrev pub shut : (List ℕ → Kind) → LexFault → Scan → Found
shut kind fault Endless = Bad fault
shut kind fault (Shut text bytes) = Took (kind text) (bytes + 1)

-- the token that this quote opened, up to the next one that no backslash escapes, or this fault
abbrev pub quoted : (List ℕ → Kind) → LexFault → ℕ → List ℕ → Found
quoted kind fault quote rest = shut kind fault (scan quote rest false)

-- a count with this many more, where there is one
abbrev pub plus : ℕ → Option ℕ → Option ℕ
plus k None = None
plus k (Some n) = Some (k + n)

-- how many bytes stand before the first three single quotes
abbrev pub before_three : List ℕ → Option ℕ
before_three [] = None
before_three (b ∷ bs) = cond (starts_three (b ∷ bs)) (Some 0) (plus 1 (before_three bs))

-- a string behind three single quotes, whose text has this many bytes, or no end
abbrev pub tripled : ℕ → List ℕ → Option ℕ → Found
tripled at rest None = Bad (OpenString at)
tripled at rest (Some n) = Took (Literal (Str (take n rest))) (n + 6)

-- a string that begins with this single quote
abbrev pub string : ℕ → ℕ → List ℕ → Found
string at b rest =
    cond (starts_three (b ∷ rest)) (tripled at (drop 2 rest) (before_three (drop 2 rest)))
    (quoted (λ text. Literal (Str text)) (OpenString at) b rest)

-- a sign whose second byte may be the one or the other
abbrev pub paired : (ℕ → Bool) → Kind → (ℕ → Bool) → Kind → Kind → List ℕ → Found
paired p first q second alone rest =
    cond (starts p rest) (Took first 2) (cond (starts q rest) (Took second 2) (Took alone 1))

-- an operator or a punctuation mark that begins with this byte
abbrev pub sign : ℕ → ℕ → List ℕ → Found
sign at b rest =
    cond (eqb b 40) (Took OpenParen 1)
    (cond (eqb b 41) (Took CloseParen 1)
    (cond (eqb b 44) (Took Comma 1)
    (cond (eqb b 46) (Took Dot 1)
    (cond (eqb b 124) (Took Pipe 1)
    (cond (eqb b 43) (Took (Operator Add) 1)
    (cond (eqb b 45) (Took (Operator Sub) 1)
    (cond (eqb b 42) (Took (Operator Mul) 1)
    (cond (eqb b 47) (Took (Operator Div) 1)
    (cond (eqb b 37) (Took (Operator Rem) 1)
    (cond (eqb b 61) (paired is_equals (Operator Eq) is_tilde (Operator Match) Assign rest)
    (cond (eqb b 33) (paired is_equals (Operator Ne) is_tilde (Operator NoMatch) Not rest)
    (cond (eqb b 60) (cond (starts is_equals rest) (Took (Operator Le) 2) (Took (Operator Lt) 1))
    (cond (eqb b 62) (cond (starts is_equals rest) (Took (Operator Ge) 2) (Took (Operator Gt) 1))
    (cond (eqb b 64) (Bad (UserFunction at)) (Bad (BadChar at))))))))))))))))

-- a quote, a sign or a pattern
abbrev pub mark : Bool → ℕ → ℕ → List ℕ → Found
mark pattern at b rest =
    cond (eqb b 39) (string at b rest)
    (cond (eqb b 34) (quoted Reference (OpenString at) b rest)
    (cond (eqb b 47 && pattern) (quoted (λ text. Literal (Regex text)) (OpenRegex at) b rest)
    (sign at b rest)))

-- what stands at the front of a text: a word, a number, a quote, a sign or a pattern
abbrev pub front : Bool → ℕ → List ℕ → Found
front pattern at [] = Bad (BadChar at)
front pattern at (b ∷ rest) =
    cond (is_letter b) (word (b ∷ rest)) (cond (is_digit b) (number at (b ∷ rest)) (mark pattern at b rest))
