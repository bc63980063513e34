-- The code's way through a text, cited by private contracts alone.
use Rattle.std.specs.Prelude.{◌≡◌, ◌≢◌, ◌⊎◌, ℕ, ◌+◌, ◌-◌, Bool, true, false, cond, not, eqb, ◌&&◌, List, [], ◌∷◌, ◌++◌, length, drop, Option, Some, None, Result, Ok, Err}
use Rattle.tick_lexer.specs.declared.front.Front.{Front}
use Rattle.tick_lexer.specs.declared.quote.Quoted.{Quoted}
use Rattle.tick_lexer.specs.declared.token.Token.{Token}
use Rattle.tick_lexer.specs.declared.token.LexFault.{LexFault}
use Rattle.tick_lexer.specs.declared.token.LexFault.TheVariants.{NoMemory}
use Rattle.tick_lexer.specs.Bytes.{is_white, starts}
use Rattle.tick_lexer.specs.Front.{Found, Took, Bad, Scan, Endless, Shut, front}
use Rattle.tick_lexer.specs.Script.{Ending, Whole, Fault}
use Rattle.tick_lexer.specs.Spelling.{is_slash, takes_pattern}

-- what is found, but for want of memory
abbrev pub IsFound : Result Front LexFault → Found → Type 0
IsFound (Ok front) found = found ≡ Took front.kind front.bytes
IsFound (Err fault) found = (fault ≡ NoMemory) ⊎ (found ≡ Bad fault)

-- what is found behind a quote: the text and its bytes, or no end
abbrev pub IsScan : Option Quoted → Scan → Type 0
IsScan None found = found ≡ Endless
IsScan (Some quoted) found = found ≡ Shut quoted.text quoted.bytes

-- what is found behind a quote, this fault where it has no end, but for want of memory
abbrev pub IsScanned : LexFault → Result Quoted LexFault → Scan → Type 0
IsScanned lack (Ok quoted) found = found ≡ Shut quoted.text quoted.bytes
IsScanned lack (Err fault) found = (fault ≡ NoMemory) ⊎ ((fault ≡ lack) × (found ≡ Endless))

-- behind this text and this many bytes
abbrev pub onwards : List ℕ → ℕ → Scan → Scan
onwards text bytes Endless = Endless
onwards text bytes (Shut more count) = Shut (text ++ more) (bytes + count)

-- whether a comment, `//`, stands first
abbrev pub begins_comment : List ℕ → Bool
begins_comment [] = false
begins_comment (b ∷ bs) = eqb b 47 && starts is_slash bs

-- without white space and comments at the front; in a comment, if the flag is set
abbrev pub skipped : List ℕ → Bool → List ℕ
skipped [] comment = []
skipped (b ∷ bs) true = skipped bs (not (eqb b 10))
skipped (b ∷ bs) false =
    cond (is_white b) (skipped bs false) (cond (begins_comment (b ∷ bs)) (skipped bs true) (b ∷ bs))

-- from this place on the lexer takes these tokens, and then ends so
abbrev pub Runs : List Token → Ending → Bool → ℕ → List ℕ → Type 0
Runs [] Whole pattern at text = skipped text false ≡ []
Runs [] (Fault fault) pattern at text =
    (skipped text false ≢ [])
    × (front pattern (at + (length text - length (skipped text false))) (skipped text false) ≡ Bad fault)
Runs (t ∷ ts) ending pattern at text =
    (bytes : ℕ)
    × (front pattern t.start (skipped text false) ≡ Took t.kind bytes)
    × (t.start ≡ at + (length text - length (skipped text false)))
    × (t.«end» ≡ t.start + bytes)
    × Runs ts ending (takes_pattern t.kind) t.«end» (drop bytes (skipped text false))
