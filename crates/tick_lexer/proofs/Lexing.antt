-- Steps of the lexer's loop.
use Rattle.std.proofs.Common.{◌≡◌, ◌≢◌, ◌⊎◌, inl, inr, ⊎_elim, ℕ, ◌+◌, ◌-◌, ◌<◌, ◌≤◌, Bool, false, List, [], ◌∷◌, ◌++◌, length, drop, Result, Ok, Err, IfErr, refl, sym, ap, ◌∙◌, subst, arith, append_assoc, length-append, length-drop}
use Rattle.std.specs.Result.{IsErrAnd}
use Rattle.std.proofs.lemmas.List.{append-nil, drop-drop}
use Rattle.tick_lexer.specs.declared.token.Kind.{Kind}
use Rattle.tick_lexer.specs.declared.token.LexFault.{LexFault}
use Rattle.tick_lexer.specs.declared.token.LexFault.TheVariants.{NoMemory}
use Rattle.tick_lexer.specs.declared.token.Token.{Token}
use Rattle.tick_lexer.specs.Front.{Took, Bad, front}
use Rattle.tick_lexer.specs.Runs.{skipped, Runs}
use Rattle.tick_lexer.specs.Script.{Ending, Whole, Fault, HasTokens, HasFirstFault}
use Rattle.tick_lexer.specs.Spelling.{takes_pattern}
use Rattle.tick_lexer.proofs.Texts.{lexeme_of, reads_of, spelled_some}

none : (l : List ℕ) → length l ≡ 0 → l ≡ []
none [] h = refl
none (x ∷ xs) h = absurd (omega arith)

-- the gap behind a place
pub record Behind (text : List ℕ) (at gap : ℕ) : Type 0 where
  pub place : at ≤ length text
  pub within : gap ≤ length (drop at text)
  pub skips : drop gap (drop at text) ≡ skipped (drop at text) false

pub behind_of : (text bytes rest : List ℕ) (at gap : ℕ) → at ≤ length text → bytes ≡ text → rest ≡ drop at bytes → gap ≤ length rest → drop gap rest ≡ skipped rest false → Behind text at gap
behind_of text bytes rest at gap place e f within skips =
    let P : List ℕ → Type 0 = λ l. (gap ≤ length l) × (drop gap l ≡ skipped l false) in
    let it = subst P (f ∙ ap (λ (l : List ℕ). drop at l) e) (within, skips) in
    record { place = place; within = it.0; skips = it.1 }

left_is : (text : List ℕ) (at gap : ℕ) → Behind text at gap → drop (at + gap) text ≡ skipped (drop at text) false
left_is text at gap b = sym (drop-drop gap at text) ∙ b.skips

place_is : (text : List ℕ) (at gap : ℕ) → Behind text at gap → at + gap ≡ at + (length (drop at text) - length (skipped (drop at text) false))
place_is text at gap b =
    let skips = length-drop gap (drop at text) in
    let same = ap (λ (l : List ℕ). length l) b.skips in
    let within = b.within in
    omega arith

-- what the loop has taken so far goes on with what it takes next
abbrev pub Continues : List Token → Bool → ℕ → List ℕ → Type 0
Continues tokens pattern at text = (more : List Token) (ending : Ending) → Runs more ending pattern at (drop at text) → Runs (tokens ++ more) ending false 0 text

-- nothing is left
pub at_end : (tokens : List Token) (pattern : Bool) (at gap : ℕ) (text : List ℕ) → Continues tokens pattern at text → Behind text at gap → at + gap ≡ length text → HasTokens text tokens
at_end tokens pattern at gap text runs b zero =
    let size = length-drop (at + gap) text in
    let left : skipped (drop at text) false ≡ [] = sym (left_is text at gap b) ∙ none (drop (at + gap) text) (omega arith) in
    reads_of tokens Whole false 0 text (subst (λ (l : List Token). Runs l Whole false 0 text) (append-nil tokens) (runs [] Whole left))

some_left : (text : List ℕ) (at gap : ℕ) → Behind text at gap → at + gap ≢ length text → skipped (drop at text) false ≢ []
some_left text at gap b more = λ (z : skipped (drop at text) false ≡ []).
    let size = ap (λ (l : List ℕ). length l) (left_is text at gap b ∙ z) in
    let sizes = length-drop (at + gap) text in
    let rest = length-drop at text in
    let within = b.within in
    let place = b.place in
    absurd (more (omega arith))

-- a fault comes next
pub at_fault : (tokens : List Token) (pattern : Bool) (at gap : ℕ) (text : List ℕ) (fault : LexFault) → Continues tokens pattern at text → Behind text at gap → at + gap ≢ length text → (fault ≡ NoMemory) ⊎ (front pattern (at + gap) (drop (at + gap) text) ≡ Bad fault) → (fault ≡ NoMemory) ⊎ HasFirstFault text fault
at_fault tokens pattern at gap text fault runs b more h =
    ⊎_elim
    (λ (q : fault ≡ NoMemory). inl q)
    (λ (q : front pattern (at + gap) (drop (at + gap) text) ≡ Bad fault).
    let left = skipped (drop at text) false in
    let found : front pattern (at + (length (drop at text) - length left)) left ≡ Bad fault =
    ap (λ (n : ℕ). front pattern n left) (sym (place_is text at gap b)) ∙ ap (λ (l : List ℕ). front pattern (at + gap) l) (sym (left_is text at gap b)) ∙ q in
    let all = subst (λ (l : List Token). Runs l (Fault fault) false 0 text) (append-nil tokens) (runs [] (Fault fault) (some_left text at gap b more, found)) in
    inr (tokens, reads_of tokens (Fault fault) false 0 text all))
    h

-- the same for the answer of a call that hands a fault on
pub handed_on : {T : Type 0} (Q : LexFault → Type 0) (fault : LexFault) (result : Result T LexFault) → IsErrAnd result (λ e. e ≡ fault) → Q fault → IfErr result Q
handed_on Q fault (Ok x) h q = tt
handed_on Q fault (Err e) h q = subst Q (sym h) q

-- a token comes next
pub record Taken (pattern : Bool) (at gap : ℕ) (text : List ℕ) (kind : Kind) (bytes : ℕ) : Type 0 where
  pub behind : Behind text at gap
  pub found : front pattern (at + gap) (skipped (drop at text) false) ≡ Took kind bytes
  pub some : 0 < bytes
  pub within : at + gap + bytes ≤ length text
  pub rest : drop bytes (skipped (drop at text) false) ≡ drop (at + gap + bytes) text

pub taken_of : (pattern : Bool) (at gap : ℕ) (text : List ℕ) (kind : Kind) (bytes : ℕ) → Behind text at gap → at + gap ≢ length text → front pattern (at + gap) (drop (at + gap) text) ≡ Took kind bytes → Taken pattern at gap text kind bytes
taken_of pattern at gap text kind bytes b more h =
    let is = left_is text at gap b in
    let found : front pattern (at + gap) (skipped (drop at text) false) ≡ Took kind bytes = ap (λ (l : List ℕ). front pattern (at + gap) l) (sym is) ∙ h in
    let l = lexeme_of pattern (at + gap) (drop at text) kind bytes (some_left text at gap b more) found in
    let sizes = ap (λ (x : List ℕ). length x) (is ∙ l.joined) ∙ length-append l.bytes l.rest in
    let left = length-drop (at + gap) text in
    let rest = length-drop at text in
    let within = b.within in
    let place = b.place in
    let size = l.size in
    let one = spelled_some kind l.bytes l.spelled in
    record { behind = b; found = found; some = omega arith; within = omega arith; rest = ap (λ (x : List ℕ). drop bytes x) (sym is) ∙ drop-drop bytes (at + gap) text }

pub go_on : (tokens now : List Token) (pattern next : Bool) (at gap bytes : ℕ) (text : List ℕ) (kind : Kind) → Continues tokens pattern at text → Taken pattern at gap text kind bytes → next ≡ takes_pattern kind → now ≡ tokens ++ (record { kind = kind; start = at + gap; «end» = at + gap + bytes }) ∷ [] → Continues now next (at + gap + bytes) text
go_on tokens now pattern next at gap bytes text kind runs t e is more ending h =
    let token : Token = record { kind = kind; start = at + gap; «end» = at + gap + bytes } in
    let P : List ℕ → Type 0 = λ l. Runs more ending (takes_pattern kind) (at + gap + bytes) l in
    let Q : Bool → Type 0 = λ p. Runs more ending p (at + gap + bytes) (drop (at + gap + bytes) text) in
    let there : P (drop bytes (skipped (drop at text) false)) = subst P (sym t.rest) (subst Q e h) in
    let all : Runs (tokens ++ token ∷ more) ending false 0 text = runs (token ∷ more) ending (bytes, t.found, place_is text at gap t.behind, refl, there) in
    let R : List Token → Type 0 = λ l. Runs l ending false 0 text in
    subst R (sym (ap (λ (l : List Token). l ++ more) is ∙ append_assoc tokens (token ∷ []) more)) all
