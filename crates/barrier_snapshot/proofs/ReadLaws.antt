-- What is read of bytes that hold states, and which bytes those are.
use Rattle.std.proofs.Common.{◌≡◌, ◌^◌, ℕ, zero, suc, ◌<◌, ◌≤◌, List, [], ◌∷◌, ◌++◌, length, None, Option, Some, refl, sym, ap, subst, ◌∙◌, append-nil, append_assoc, arith}
use Rattle.std.specs.Int.{w32}
use Rattle.std.specs.List.{flat_map}
use Rattle.state_code.specs.Laws.{bytes_spelled, u32_spelled}
use Rattle.state_code.specs.Spelling.{AllFit, FitsBytes, IsBytes, IsSpelling, Reading, Stands, read_bytes, read_number, read_then, spell_bytes, spell_number, value_then}
use Rattle.barrier_snapshot.specs.Captures.{AreStatesOf, IsCapture, spellings}
use Rattle.barrier_snapshot.specs.Reading.{alone, read_each, read_whole}

-- what is read twice is the same
pub same_value : {A : Type 0} (x y : A) (r t : List ℕ) → value_then x r ≡ value_then y t → (x ≡ y) × (r ≡ t)
same_value {A} x y r t e =
    let both = inside (x, r) (y, t) e in
    (ap (λ (p : A × List ℕ). p.0) both, ap (λ (p : A × List ℕ). p.1) both)
  where
    inside : {B : Type 0} (p q : B × List ℕ) → Some p ≡ Some q → p ≡ q
    inside p q e = cc

-- the parts of a reading that succeeds
pub record Parted {A B : Type 0} (r : Option (A × List ℕ)) (f : A → List ℕ → Option (B × List ℕ)) (y : B × List ℕ) : Type 0 where
  pub value : A
  pub rest : List ℕ
  pub first : r ≡ Some (value, rest)
  pub second : f value rest ≡ Some y

pub parted : {A B : Type 0} (r : Option (A × List ℕ)) (f : A → List ℕ → Option (B × List ℕ)) (y : B × List ℕ) → read_then r f ≡ Some y → Parted r f y
parted None f y e = absurd cc
parted (Some r) f y e = record { value = r.0; rest = r.1; first = refl; second = e }

front_bytes : (xs ys : List ℕ) → IsBytes (xs ++ ys) → IsBytes xs
front_bytes [] ys h i = omega arith
front_bytes (x ∷ xs) ys h zero = h zero
front_bytes (x ∷ xs) ys h (suc i) = front_bytes xs ys (λ k. h (suc k)) i

rest_bytes : (xs ys : List ℕ) → IsBytes (xs ++ ys) → IsBytes ys
rest_bytes [] ys h = h
rest_bytes (x ∷ xs) ys h = rest_bytes xs ys (λ k. h (suc k))

-- a byte string in bytes has bytes
piece_bytes : (piece rest : List ℕ) → IsBytes (spell_bytes piece ++ rest) → IsBytes piece
unfolding spell_bytes
piece_bytes piece rest h = rest_bytes (spell_number w32 (length piece)) piece (front_bytes (spell_number w32 (length piece) ++ piece) rest h)

-- ---- a state as a byte string

module _ {S : Type 0} {fits : S → Type 0} {spell : S → List ℕ} {read : Reading S} (is : IsSpelling fits spell read) where
  -- it is read again
  pub whole_again : (s : S) (rest : List ℕ) → fits s → FitsBytes (spell s) → read_whole read (spell_bytes (spell s) ++ rest) ≡ value_then s rest
  whole_again s rest fit short =
      let inside : read (spell s) ≡ value_then s [] = ap read (sym (append-nil (spell s))) ∙ is.again s [] fit in
      rw (bytes_spelled.again (spell s) rest short, inside) refl

  -- what stands there where one is read
  pub record StandsWhole (bytes : List ℕ) (s : S) (rest : List ℕ) : Type 0 where
    pub fit : fits s
    pub short : FitsBytes (spell s)
    pub parts : bytes ≡ spell_bytes (spell s) ++ rest
    pub behind : IsBytes rest

  fills : (bytes piece more rest1 rest : List ℕ) (x s : S) → Stands FitsBytes spell_bytes bytes piece rest1 → Stands fits spell piece x more → alone x more rest1 ≡ value_then s rest → StandsWhole bytes s rest
  fills bytes piece (b ∷ more) rest1 rest x s outer inner e = absurd cc
  fills bytes piece [] rest1 rest x s outer inner e =
      let same = same_value x s rest1 rest e in
      let whole : piece ≡ spell s = inner.parts ∙ append-nil (spell x) ∙ ap spell same.0 in
      record {
        fit = subst fits same.0 inner.fits;
        short = subst FitsBytes whole outer.fits;
        parts = outer.parts ∙ ap (λ (p : List ℕ). spell_bytes p ++ rest1) whole ∙ ap (λ (r : List ℕ). spell_bytes (spell s) ++ r) same.1;
        behind = subst IsBytes same.1 outer.rest_bytes;
      }

  -- only such a byte string is read
  pub whole_only : (bytes : List ℕ) (s : S) (rest : List ℕ) → IsBytes bytes → read_whole read bytes ≡ value_then s rest → StandsWhole bytes s rest
  whole_only bytes s rest all e =
      let one = parted (read_bytes bytes) (λ piece behind. read_then (read piece) (λ x more. alone x more behind)) (s, rest) e in
      let outer = bytes_spelled.only bytes one.value one.rest all one.first in
      let two = parted (read one.value) (λ x more. alone x more one.rest) (s, rest) one.second in
      let piece = piece_bytes one.value one.rest (subst IsBytes outer.parts all) in
      let inner = is.only one.value two.value two.rest piece two.first in
      fills bytes one.value two.rest one.rest rest two.value s outer inner two.second

-- ---- states, one behind the other

module _ {P S : Type 0} {fits : P → S → Type 0} {spell : P → S → List ℕ} {read : P → Reading S} (spelled : (p : P) → IsSpelling (fits p) (spell p) (read p)) where
  -- states that stand there are read
  pub each_again : (specs : List P) (states : List S) (rest : List ℕ) → AreStatesOf fits spell specs states → AllFit FitsBytes (spellings fits spell specs states) → read_each read specs (flat_map spell_bytes (spellings fits spell specs states) ++ rest) ≡ value_then states rest
  each_again [] [] rest are short = refl
  each_again [] (s ∷ states) rest are short = absurd are
  each_again (p ∷ specs) [] rest are short = absurd are
  each_again (p ∷ specs) (s ∷ states) rest are short =
      let behind = flat_map spell_bytes (spellings fits spell specs states) in
      rw (append_assoc (spell_bytes (spell p s)) behind rest, whole_again (spelled p) s (behind ++ rest) are.0 short.0, each_again specs states rest are.1 short.1) refl

  -- what stands there where states are read
  pub record StandEach (specs : List P) (bytes : List ℕ) (states : List S) (rest : List ℕ) : Type 0 where
    pub are : AreStatesOf fits spell specs states
    pub short : AllFit FitsBytes (spellings fits spell specs states)
    pub count : length (spellings fits spell specs states) ≡ length specs
    pub parts : bytes ≡ flat_map spell_bytes (spellings fits spell specs states) ++ rest

  -- only such byte strings are read
  pub each_only : (specs : List P) (bytes : List ℕ) (states : List S) (rest : List ℕ) → IsBytes bytes → read_each read specs bytes ≡ value_then states rest → StandEach specs bytes states rest
  each_only [] bytes states rest all e =
      let same = same_value [] states bytes rest e in
      let here : StandEach [] bytes [] bytes = record { are = tt; short = tt; count = refl; parts = refl } in
      subst (λ (l : List S). StandEach [] bytes l rest) same.0 (subst (λ (r : List ℕ). StandEach [] bytes [] r) same.1 here)
  each_only (p ∷ specs) bytes states rest all e =
      let one = parted (read_whole (read p) bytes) (λ s behind. read_then (read_each read specs behind) (λ others last. value_then (s ∷ others) last)) (states, rest) e in
      let two = parted (read_each read specs one.rest) (λ others last. value_then (one.value ∷ others) last) (states, rest) one.second in
      let first = whole_only (spelled p) bytes one.value one.rest all one.first in
      let others = each_only specs one.rest two.value two.rest first.behind two.first in
      let same = same_value (one.value ∷ two.value) states two.rest rest two.second in
      let behind = flat_map spell_bytes (spellings fits spell specs two.value) in
      let here : StandEach (p ∷ specs) bytes (one.value ∷ two.value) two.rest = record {
        are = (first.fit, others.are);
        short = (first.short, others.short);
        count = ap suc others.count;
        parts = first.parts ∙ ap (λ (r : List ℕ). spell_bytes (spell p one.value) ++ r) others.parts ∙ sym (append_assoc (spell_bytes (spell p one.value)) behind two.rest);
      } in
      subst (λ (l : List S). StandEach (p ∷ specs) bytes l rest) same.0 (subst (λ (r : List ℕ). StandEach (p ∷ specs) bytes (one.value ∷ two.value) r) same.1 here)

  -- ---- a capture

  -- there are as many spellings as nodes
  pub pieces_count : (specs : List P) (states : List S) → AreStatesOf fits spell specs states → length (spellings fits spell specs states) ≡ length specs
  pieces_count [] states are = refl
  pieces_count (p ∷ specs) [] are = absurd are
  pieces_count (p ∷ specs) (s ∷ states) are = ap suc (pieces_count specs states are.1)

  -- what is read of one
  pub record Captured (specs : List P) (states : List S) (bytes : List ℕ) : Type 0 where
    pub body : List ℕ
    pub number : read_number w32 bytes ≡ value_then (length specs) body
    pub each : read_each read specs body ≡ value_then states []
    pub below : length specs < 2 ^ 32

  pub captured : (specs : List P) (states : List S) (bytes : List ℕ) → IsCapture fits spell specs states bytes → Captured specs states bytes
  captured specs states bytes c =
      let pieces = spellings fits spell specs states in
      let body = flat_map spell_bytes pieces in
      let count : length pieces ≡ length specs = pieces_count specs states c.states_are in
      let number : read_number w32 bytes ≡ value_then (length pieces) body = ap (read_number w32) c.is ∙ u32_spelled.again (length pieces) body c.short.0 in
      record {
        body = body;
        number = number ∙ ap (λ (n : ℕ). value_then n body) count;
        each = ap (read_each read specs) (sym (append-nil body)) ∙ each_again specs states [] c.states_are c.short.1;
        below = subst (λ (n : ℕ). n < 2 ^ 32) count c.short.0;
      }

  -- what is read is one
  pub capture_only : (specs : List P) (states : List S) (bytes rest more : List ℕ) (n : ℕ) → IsBytes bytes → read_number w32 bytes ≡ value_then n rest → n ≡ length specs → read_each read specs rest ≡ value_then states more → more ≡ [] → IsCapture fits spell specs states bytes
  capture_only specs states bytes rest more n all number count each none =
      let first = u32_spelled.only bytes n rest all number in
      let behind = each_only specs rest states more first.rest_bytes each in
      let pieces = spellings fits spell specs states in
      let same : n ≡ length pieces = count ∙ sym behind.count in
      let body : rest ≡ flat_map spell_bytes pieces = behind.parts ∙ ap (λ (r : List ℕ). flat_map spell_bytes pieces ++ r) none ∙ append-nil (flat_map spell_bytes pieces) in
      record {
        states_are = behind.are;
        short = (subst (λ (m : ℕ). m < 2 ^ 32) same first.fits, behind.short);
        is = first.parts ∙ ap (λ (m : ℕ). spell_number w32 m ++ rest) same ∙ ap (λ (r : List ℕ). spell_number w32 (length pieces) ++ r) body;
      }

  -- ---- bytes that are none

  pub no_number : (specs : List P) (states : List S) (bytes : List ℕ) → read_number w32 bytes ≡ None → IsCapture fits spell specs states bytes → ⊥
  no_number specs states bytes none c = let number = (captured specs states bytes c).number in absurd cc

  pub other_count : (specs : List P) (states : List S) (bytes rest : List ℕ) (n : ℕ) → read_number w32 bytes ≡ value_then n rest → (n ≡ length specs → ⊥) → IsCapture fits spell specs states bytes → ⊥
  other_count specs states bytes rest n number other c =
      let is = captured specs states bytes c in
      other (same_value n (length specs) rest is.body (sym number ∙ is.number)).0

  pub too_many : (specs : List P) (states : List S) (bytes : List ℕ) → 2 ^ 32 ≤ length specs → IsCapture fits spell specs states bytes → ⊥
  too_many specs states bytes many c = let below = (captured specs states bytes c).below in absurd (omega (arith, many, below))

  body_reads : (specs : List P) (states : List S) (bytes rest : List ℕ) (n : ℕ) → read_number w32 bytes ≡ value_then n rest → IsCapture fits spell specs states bytes → read_each read specs rest ≡ value_then states []
  body_reads specs states bytes rest n number c =
      let is = captured specs states bytes c in
      ap (read_each read specs) (same_value n (length specs) rest is.body (sym number ∙ is.number)).1 ∙ is.each

  pub no_states : (specs : List P) (states : List S) (bytes rest : List ℕ) (n : ℕ) → read_number w32 bytes ≡ value_then n rest → read_each read specs rest ≡ None → IsCapture fits spell specs states bytes → ⊥
  no_states specs states bytes rest n number none c = let each = body_reads specs states bytes rest n number c in absurd cc

  pub more_behind : (specs : List P) (states others : List S) (bytes rest more : List ℕ) (n : ℕ) → read_number w32 bytes ≡ value_then n rest → read_each read specs rest ≡ value_then others more → (more ≡ [] → ⊥) → IsCapture fits spell specs states bytes → ⊥
  more_behind specs states others bytes rest more n number each some c =
      some (same_value others states more [] (sym each ∙ body_reads specs states bytes rest n number c)).1

  -- no bytes are a capture of two lists of states
  pub one_capture : (specs : List P) (states others : List S) (bytes : List ℕ) → IsCapture fits spell specs states bytes → IsCapture fits spell specs others bytes → states ≡ others
  one_capture specs states others bytes c d =
      let is = captured specs states bytes c in
      (same_value states others [] [] (sym (body_reads specs states bytes is.body (length specs) is.number c) ∙ body_reads specs others bytes is.body (length specs) is.number d)).0
