-- The tokens of a text, and its first fault.
use Rattle.std.specs.Prelude.{◌≡◌, ◌≢◌, ◌⊎◌, ℕ, ◌+◌, ◌*◌, ◌<◌, ◌≤◌, ◌^◌, Bool, true, false, ◌||◌, List, [], ◌∷◌, ◌++◌, length, slice_range, codes}
use Rattle.std.specs.Str.Parse.{IsNumeral, digits_value}
use Rattle.tick_lexer.specs.declared.limits.TheConstants.{DURATION_LIMIT}
use Rattle.tick_lexer.specs.declared.token.LexFault.{LexFault}
use Rattle.tick_lexer.specs.declared.token.LexFault.TheVariants.{BadChar, OpenString, OpenRegex, BadNumber, FloatLiteral, OctalLiteral, WideInt, WideDuration, UserFunction, NoMemory}
use Rattle.tick_lexer.specs.declared.token.Token.{Token}
use Rattle.tick_lexer.specs.declared.unit.Unit as units
use Rattle.tick_lexer.specs.Bytes.{is_digit, is_word, is_white, is_mark, starts, NotFirst, starts_micro, starts_three, NoThree}
use Rattle.tick_lexer.specs.Spelling.{has_leading_zero, unit_bytes, unit_nanos, Quoted, Spelled, is_dot, is_slash, EndsInt, EndsToken, takes_pattern, IsAllowed}

-- where in a gap a text begins: between its parts, behind the first slash of a comment, in a comment
pub data Place : Type 0 where
  Between : Place
  Slash : Place
  Comment : Place

-- White space and comments with the line feeds that end them, from this place on. At the end of a script
-- the last comment needs no line feed.
abbrev pub IsGap : Bool → List ℕ → Place → Type 0
IsGap last [] Between = Unit {0}
IsGap last [] Slash = ⊥
IsGap last [] Comment = last ≡ true
IsGap last (b ∷ bs) Between = ((is_white b ≡ true) × IsGap last bs Between) ⊎ ((b ≡ 47) × IsGap last bs Slash)
IsGap last (b ∷ bs) Slash = (b ≡ 47) × IsGap last bs Comment
IsGap last (b ∷ bs) Comment = ((b ≡ 10) × IsGap last bs Between) ⊎ ((b ≢ 10) × IsGap last bs Comment)

-- behind a place and a gap a token stands, its slice is spelled so, and this rest follows
pub record Next (pattern : Bool) (at : ℕ) (text : List ℕ) (token : Token) (rest : List ℕ) : Type 0 where
  pub gap : List ℕ
  pub bytes : List ℕ
  pub joined : text ≡ gap ++ (bytes ++ rest)
  pub is_gap : IsGap false gap Between
  pub spelled : Spelled token.kind bytes
  pub ends : EndsToken token.kind bytes rest
  pub allowed : IsAllowed pattern token.kind
  pub begins : token.start ≡ at + length gap
  pub stops : token.«end» ≡ token.start + length bytes

-- these digits stand first, and all that do; this follows
pub record Digits (digits tail text : List ℕ) : Type 0 where
  pub joined : text ≡ digits ++ tail
  pub numeral : IsNumeral 10 digits
  pub whole : NotFirst is_digit tail

-- a quote stands first, and nothing in such quotes
pub record IsOpen (quote : ℕ) (text : List ℕ) : Type 0 where
  pub rest : List ℕ
  pub begins : text ≡ quote ∷ rest
  pub no_end : (content s back : List ℕ) → text ≡ s ++ back → Quoted quote content s → ⊥

-- three single quotes stand first, and no three behind them
pub record IsOpenThree (text : List ℕ) : Type 0 where
  pub rest : List ℕ
  pub begins : text ≡ codes "'''" ++ rest
  pub no_end : NoThree rest

-- a letter, `_` or the micro sign stands first, and behind each unit that stands first another letter, digit or `_`
pub record IsNoUnit (text : List ℕ) : Type 0 where
  pub follows : (starts is_word text || starts_micro text) ≡ true
  pub no_end : (unit : units.Unit) (back : List ℕ) → text ≡ unit_bytes unit ++ back → starts is_word back ≡ true

-- digits and a unit stand first, no letter, digit or `_` behind them, and they are too long a duration
pub record IsWideDuration (digits tail : List ℕ) : Type 0 where
  pub unit : units.Unit
  pub back : List ℕ
  pub joined : tail ≡ unit_bytes unit ++ back
  pub ends : NotFirst is_word back
  pub wide : DURATION_LIMIT < digits_value 10 digits * unit_nanos unit

-- what is wrong with digits before this tail
abbrev pub IsBadNumber : LexFault → List ℕ → List ℕ → Type 0
IsBadNumber (OctalLiteral place) digits tail = has_leading_zero digits ≡ true
IsBadNumber (FloatLiteral place) digits tail = (has_leading_zero digits ≡ false) × (starts is_dot tail ≡ true)
IsBadNumber (BadNumber place) digits tail = (has_leading_zero digits ≡ false) × IsNoUnit tail
IsBadNumber (WideInt place) digits tail =
    (has_leading_zero digits ≡ false) × EndsInt tail × (2 ^ 63 ≤ digits_value 10 digits)
IsBadNumber (WideDuration place) digits tail = (has_leading_zero digits ≡ false) × IsWideDuration digits tail
IsBadNumber _ digits tail = ⊥

-- a number with this fault stands first
pub record BeginsBadNumber (fault : LexFault) (text : List ℕ) : Type 0 where
  pub digits : List ℕ
  pub tail : List ℕ
  pub number : Digits digits tail text
  pub bad : IsBadNumber fault digits tail

-- why no token stands first
abbrev pub BeginsBadToken : Bool → LexFault → List ℕ → Type 0
BeginsBadToken pattern (BadChar place) text =
    (b : ℕ) × (rest : List ℕ) × (text ≡ b ∷ rest) × ((is_word b || (is_mark b || is_white b)) ≡ false) × (b ≢ 64)
BeginsBadToken pattern (OpenString place) text =
    IsOpenThree text ⊎ (((starts_three text ≡ false) × IsOpen 39 text) ⊎ IsOpen 34 text)
BeginsBadToken pattern (OpenRegex place) text =
    (pattern ≡ true) × IsOpen 47 text × ((rest : List ℕ) → text ≡ 47 ∷ rest → NotFirst is_slash rest)
BeginsBadToken pattern (UserFunction place) text = (rest : List ℕ) × (text ≡ 64 ∷ rest)
BeginsBadToken pattern NoMemory text = ⊥
BeginsBadToken pattern fault text = BeginsBadNumber fault text

-- the place that a fault names
abbrev pub place_of : LexFault → ℕ
place_of (BadChar place) = place
place_of (OpenString place) = place
place_of (OpenRegex place) = place
place_of (BadNumber place) = place
place_of (FloatLiteral place) = place
place_of (OctalLiteral place) = place
place_of (WideInt place) = place
place_of (WideDuration place) = place
place_of (UserFunction place) = place
place_of NoMemory = 0

-- behind a place and a gap this fault stands
pub record Fails (pattern : Bool) (at : ℕ) (text : List ℕ) (fault : LexFault) : Type 0 where
  pub gap : List ℕ
  pub rest : List ℕ
  pub joined : text ≡ gap ++ rest
  pub is_gap : IsGap false gap Between
  pub begins : BeginsBadToken pattern fault rest
  pub place : place_of fault ≡ at + length gap

-- how the reading of a text ends: behind its last token, or at its first fault
pub data Ending : Type 0 where
  Whole : Ending
  Fault : (fault : LexFault) → Ending

-- behind this place the text has only a last gap, or its first fault is this one
abbrev pub EndsIn : Ending → Bool → ℕ → List ℕ → Type 0
EndsIn Whole pattern at text = IsGap true text Between
EndsIn (Fault fault) pattern at text = Fails pattern at text fault

-- From a place on the text is these tokens with a gap before each, and then it ends so. A pattern may come
-- next where the flag is set.
abbrev pub ContinuesWith : List Token → Ending → Bool → ℕ → List ℕ → Type 0
ContinuesWith [] ending pattern at text = EndsIn ending pattern at text
ContinuesWith (t ∷ ts) ending pattern at text =
    (rest : List ℕ) × Next pattern at text t rest × ContinuesWith ts ending (takes_pattern t.kind) t.«end» rest

-- the text has these tokens
abbrev pub HasTokens : List ℕ → List Token → Type 0
HasTokens text tokens = ContinuesWith tokens Whole false 0 text

-- the text has this first fault: tokens stand before it
abbrev pub HasFirstFault : List ℕ → LexFault → Type 0
HasFirstFault text fault = (before : List Token) × ContinuesWith before (Fault fault) false 0 text

-- from a place on these tokens stand one behind the other, and each one's slice of the text is its spelling
abbrev pub AreInPlace : List ℕ → ℕ → List Token → Type 0
AreInPlace text at [] = Unit {0}
AreInPlace text at (t ∷ ts) =
    (at ≤ t.start) × (t.start < t.«end») × (t.«end» ≤ length text) × Spelled t.kind (slice_range text t.start t.«end»)
    × AreInPlace text t.«end» ts
