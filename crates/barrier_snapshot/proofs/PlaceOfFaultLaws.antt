-- Bytes have one place at which they hold no states, and a capture has none.
use Rattle.std.proofs.Common.{◌≡◌, ℕ, ◌^◌, ◌<◌, List, [], ◌∷◌, ◌++◌, length, refl, sym, ap, subst, ◌∙◌, append-nil, append_assoc, length-append, arith}
use Rattle.std.specs.Int.{w32}
use Rattle.std.specs.List.{flat_map}
use Rattle.state_code.specs.Laws.{u32_spelled}
use Rattle.state_code.specs.Spelling.{AllFit, FitsBytes, IsSpelling, Reading, read_number, spell_bytes, spell_number, value_then}
use Rattle.barrier_snapshot.specs.Captures.{AreStatesOf, IsCapture, spellings}
use Rattle.barrier_snapshot.specs.Faults.{BeginWithState, FaultsAt, LeaveBehind, bytes_behind, no_number, no_state}
use Rattle.barrier_snapshot.specs.Reading.{read_each}
use Rattle.barrier_snapshot.proofs.ReadLaws.{each_again, pieces_count, same_value}

-- ---- two fronts of one list

-- two fronts with something behind each are the same, or one goes on where the other one ends
data Fronts {A : Type 0} (xs ys : List A) (x y : A) : Type 0 where
  same : xs ≡ ys → Fronts xs ys x y
  longer : (more : List A) → ys ≡ xs ++ x ∷ more → Fronts xs ys x y
  shorter : (more : List A) → xs ≡ ys ++ y ∷ more → Fronts xs ys x y

fronts-more : {A : Type 0} (z w : A) (xs ys : List A) (x y : A) → z ≡ w → Fronts xs ys x y → Fronts (z ∷ xs) (w ∷ ys) x y
fronts-more z w xs ys x y e (same h) = same (ap (λ a. a ∷ xs) e ∙ ap (λ l. w ∷ l) h)
fronts-more z w xs ys x y e (longer more h) = longer more (ap (λ a. a ∷ ys) (sym e) ∙ ap (λ l. z ∷ l) h)
fronts-more z w xs ys x y e (shorter more h) = shorter more (ap (λ a. a ∷ xs) e ∙ ap (λ l. w ∷ l) h)

fronts : {A : Type 0} (xs ys after behind : List A) (x y : A) → xs ++ x ∷ after ≡ ys ++ y ∷ behind → Fronts xs ys x y
fronts [] [] after behind x y e = same refl
fronts {A = A} [] (w ∷ ys) after behind x y e = let head : x ≡ w = cc in longer ys (ap (λ (a : A). a ∷ ys) (sym head))
fronts {A = A} (z ∷ xs) [] after behind x y e = let head : z ≡ y = cc in shorter xs (ap (λ (a : A). a ∷ xs) head)
fronts {A = A} (z ∷ xs) (w ∷ ys) after behind x y e =
    let head : z ≡ w = cc in
    let tail : xs ++ x ∷ after ≡ ys ++ y ∷ behind = cc in
    fronts-more z w xs ys x y head (fronts xs ys after behind x y tail)

module _ {P S : Type 0} {fits : P → S → Type 0} {spell : P → S → List ℕ} {read : P → Reading S} (spelled : (p : P) → IsSpelling (fits p) (spell p) (read p)) where
  -- ---- states of more nodes

  -- states of some nodes, of one more, and of others
  record Parts (before : List P) (p : P) (more : List P) (states : List S) : Type 0 where
    first : List S
    state : S
    are : AreStatesOf fits spell before first
    short : AllFit FitsBytes (spellings fits spell before first)
    fit : fits p state
    small : FitsBytes (spell p state)
    behind : List ℕ
    is : flat_map spell_bytes (spellings fits spell (before ++ p ∷ more) states) ≡ flat_map spell_bytes (spellings fits spell before first) ++ (spell_bytes (spell p state) ++ behind)

  parts-of : (before : List P) (p : P) (more : List P) (states : List S) → AreStatesOf fits spell (before ++ p ∷ more) states → AllFit FitsBytes (spellings fits spell (before ++ p ∷ more) states) → Parts before p more states
  parts-of [] p more [] are short = absurd are
  parts-of [] p more (s ∷ states) are short =
      record { first = []; state = s; are = tt; short = tt; fit = are.0; small = short.0; behind = flat_map spell_bytes (spellings fits spell more states); is = refl }
  parts-of (q ∷ before) p more [] are short = absurd are
  parts-of (q ∷ before) p more (s ∷ states) are short =
      let r = parts-of before p more states are.1 short.1 in
      record {
        first = s ∷ r.first;
        state = r.state;
        are = (are.0, r.are);
        short = (short.0, r.short);
        fit = r.fit;
        small = r.small;
        behind = r.behind;
        is = ap (λ (l : List ℕ). spell_bytes (spell q s) ++ l) r.is ∙ sym (append_assoc (spell_bytes (spell q s)) (flat_map spell_bytes (spellings fits spell before r.first)) (spell_bytes (spell p r.state) ++ r.behind));
      }

  -- ---- what is read

  record Read (n : ℕ) (specs : List P) (bytes rest : List ℕ) : Type 0 where
    body : List ℕ
    states : List S
    number : read_number w32 bytes ≡ value_then n body
    each : read_each read specs body ≡ value_then states rest

  read-left : (n : ℕ) (specs : List P) (bytes : List ℕ) (offset : ℕ) (rest : List ℕ) → LeaveBehind fits spell n specs bytes offset rest → Read n specs bytes rest
  read-left n specs bytes offset rest l =
      let pieces = flat_map spell_bytes (spellings fits spell specs l.states) in
      record {
        body = pieces ++ rest;
        states = l.states;
        number = ap (read_number w32) (l.is ∙ append_assoc (spell_number w32 n) pieces rest) ∙ u32_spelled.again n (pieces ++ rest) l.below;
        each = each_again spelled specs l.states rest l.are l.short;
      }

  -- behind the same nodes the same bytes are left
  same-rest : (n : ℕ) (specs : List P) (bytes : List ℕ) (a b : ℕ) (rest other : List ℕ) → LeaveBehind fits spell n specs bytes a rest → LeaveBehind fits spell n specs bytes b other → rest ≡ other
  same-rest n specs bytes a b rest other l m =
      let r = read-left n specs bytes a rest l in
      let q = read-left n specs bytes b other m in
      let body : r.body ≡ q.body = (same_value n n r.body q.body (sym r.number ∙ q.number)).1 in
      (same_value r.states q.states rest other (sym r.each ∙ ap (read_each read specs) body ∙ q.each)).1

  same-offset : (n : ℕ) (specs : List P) (bytes : List ℕ) (a b : ℕ) (rest other : List ℕ) → LeaveBehind fits spell n specs bytes a rest → LeaveBehind fits spell n specs bytes b other → a ≡ b
  same-offset n specs bytes a b rest other l m =
      let same : length rest ≡ length other = ap (λ (x : List ℕ). length x) (same-rest n specs bytes a b rest other l m) in
      let one = l.from in
      let two = m.from in
      omega (arith, same, one, two)

  -- where states of more nodes stand there, what is left behind the first ones begins with a state
  begins : (n : ℕ) (before : List P) (p : P) (more : List P) (bytes : List ℕ) (a b : ℕ) (rest other : List ℕ) → LeaveBehind fits spell n before bytes a rest → LeaveBehind fits spell n (before ++ p ∷ more) bytes b other → BeginWithState fits spell p rest
  begins n before p more bytes a b rest other l m =
      let r = parts-of before p more m.states m.are m.short in
      let first = flat_map spell_bytes (spellings fits spell before r.first) in
      let here : LeaveBehind fits spell n before bytes (length (spell_number w32 n ++ first)) ((spell_bytes (spell p r.state) ++ r.behind) ++ other) = record {
        states = r.first;
        are = r.are;
        short = r.short;
        below = m.below;
        is = parts-are r;
        from = sym (ap (λ (x : List ℕ). length x) (parts-are r) ∙ length-append (spell_number w32 n ++ first) ((spell_bytes (spell p r.state) ++ r.behind) ++ other));
      } in
      record {
        state = r.state;
        behind = r.behind ++ other;
        fit = r.fit;
        short = r.small;
        is = same-rest n before bytes a (length (spell_number w32 n ++ first)) rest ((spell_bytes (spell p r.state) ++ r.behind) ++ other) l here ∙ append_assoc (spell_bytes (spell p r.state)) r.behind other;
      }
    where
      parts-are : (r : Parts before p more m.states) → bytes ≡ (spell_number w32 n ++ flat_map spell_bytes (spellings fits spell before r.first)) ++ ((spell_bytes (spell p r.state) ++ r.behind) ++ other)
      parts-are r =
          let first = flat_map spell_bytes (spellings fits spell before r.first) in
          let next = spell_bytes (spell p r.state) ++ r.behind in
          m.is
          ∙ ap (λ (l : List ℕ). (spell_number w32 n ++ l) ++ other) r.is
          ∙ ap (λ (l : List ℕ). l ++ other) (sym (append_assoc (spell_number w32 n) first next))
          ∙ append_assoc (spell_number w32 n ++ first) next other

  -- ---- one place

  number-stands : (specs before : List P) (bytes : List ℕ) (offset : ℕ) (rest : List ℕ) → LeaveBehind fits spell (length specs) before bytes offset rest → ((rest : List ℕ) → length specs < 2 ^ 32 → bytes ≡ spell_number w32 (length specs) ++ rest → ⊥) → ⊥
  number-stands specs before bytes offset rest l none =
      let pieces = flat_map spell_bytes (spellings fits spell before l.states) in
      none (pieces ++ rest) l.below (l.is ∙ append_assoc (spell_number w32 (length specs)) pieces rest)

  state-missing : (specs before after : List P) (p : P) (bytes : List ℕ) (a b : ℕ) (rest other : List ℕ) → specs ≡ before ++ p ∷ after → LeaveBehind fits spell (length specs) before bytes a rest → (BeginWithState fits spell p rest → ⊥)
      → LeaveBehind fits spell (length specs) specs bytes b other → ⊥
  state-missing specs before after p bytes a b rest other is l none m =
      none (begins (length specs) before p after bytes a b rest other l (subst (λ (ps : List P). LeaveBehind fits spell (length specs) ps bytes b other) is m))

  both-missing : (specs before before' : List P) (p q : P) (bytes : List ℕ) (a b : ℕ) (rest other : List ℕ) → Fronts before before' p q → LeaveBehind fits spell (length specs) before bytes a rest → (BeginWithState fits spell p rest → ⊥)
      → LeaveBehind fits spell (length specs) before' bytes b other → (BeginWithState fits spell q other → ⊥) → a ≡ b
  both-missing specs before before' p q bytes a b rest other (same e) l none m none' =
      same-offset (length specs) before bytes a b rest other l (subst (λ (ps : List P). LeaveBehind fits spell (length specs) ps bytes b other) (sym e) m)
  both-missing specs before before' p q bytes a b rest other (longer more e) l none m none' =
      absurd (none (begins (length specs) before p more bytes a b rest other l (subst (λ (ps : List P). LeaveBehind fits spell (length specs) ps bytes b other) e m)))
  both-missing specs before before' p q bytes a b rest other (shorter more e) l none m none' =
      absurd (none' (begins (length specs) before' q more bytes b a other rest m (subst (λ (ps : List P). LeaveBehind fits spell (length specs) ps bytes a rest) e l)))

  -- bytes have one such place at most
  pub one_place : (specs : List P) (bytes : List ℕ) (a b : ℕ) → FaultsAt fits spell specs bytes a → FaultsAt fits spell specs bytes b → a ≡ b
  one_place specs bytes a b (no_number e none) (no_number f none') = e ∙ sym f
  one_place specs bytes a b (no_number e none) (no_state before after p rest is l none') = absurd (number-stands specs before bytes b rest l none)
  one_place specs bytes a b (no_number e none) (bytes_behind rest l some) = absurd (number-stands specs specs bytes b rest l none)
  one_place specs bytes a b (no_state before after p rest is l none) (no_number f none') = absurd (number-stands specs before bytes a rest l none')
  one_place specs bytes a b (no_state before after p rest is l none) (no_state before' after' q other is' m none') =
      both-missing specs before before' p q bytes a b rest other (fronts before before' after after' p q (sym is ∙ is')) l none m none'
  one_place specs bytes a b (no_state before after p rest is l none) (bytes_behind other m some) = absurd (state-missing specs before after p bytes a b rest other is l none m)
  one_place specs bytes a b (bytes_behind rest l some) (no_number f none') = absurd (number-stands specs specs bytes a rest l none')
  one_place specs bytes a b (bytes_behind rest l some) (no_state before after p other is m none) = absurd (state-missing specs before after p bytes b a other rest is m none l)
  one_place specs bytes a b (bytes_behind rest l some) (bytes_behind other m some') = same-offset (length specs) specs bytes a b rest other l m

  -- a capture leaves nothing
  captured-all : (specs : List P) (states : List S) (bytes : List ℕ) → IsCapture fits spell specs states bytes → LeaveBehind fits spell (length specs) specs bytes (length bytes) []
  captured-all specs states bytes c =
      let pieces = spellings fits spell specs states in
      let count : length pieces ≡ length specs = pieces_count spelled specs states c.states_are in
      record {
        states = states;
        are = c.states_are;
        short = c.short.1;
        below = subst (λ (n : ℕ). n < 2 ^ 32) count c.short.0;
        is = c.is ∙ ap (λ (n : ℕ). spell_number w32 n ++ flat_map spell_bytes pieces) count ∙ sym (append-nil (spell_number w32 (length specs) ++ flat_map spell_bytes pieces));
        from = omega arith;
      }

  -- and has none
  pub no_place : (specs : List P) (states : List S) (bytes : List ℕ) (offset : ℕ) → IsCapture fits spell specs states bytes → FaultsAt fits spell specs bytes offset → ⊥
  no_place specs states bytes offset c (no_number e none) = number-stands specs specs bytes (length bytes) [] (captured-all specs states bytes c) none
  no_place specs states bytes offset c (no_state before after p rest is l none) = state-missing specs before after p bytes offset (length bytes) rest [] is l none (captured-all specs states bytes c)
  no_place specs states bytes offset c (bytes_behind rest l some) = some (same-rest (length specs) specs bytes offset (length bytes) rest [] l (captured-all specs states bytes c))
