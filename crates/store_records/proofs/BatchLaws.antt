-- Batches by the lines of their points.
use Rattle.std.proofs.Common.{◌≡◌, ℕ, zero, suc, ◌+◌, ◌-◌, ◌<◌, Bool, true, false, not, cond, ◌&&◌, List, [], ◌∷◌, ◌++◌, length, Option, Some, None, refl, sym, ap, ◌∙◌, arith}
use Rattle.std.specs.Prelude.{◌==◌, IsUtf8, Ok, bytes_eq, is_some}
use Rattle.std.specs.Int.{w32}
use Rattle.std.specs.List.{list_all}
use Rattle.std.specs.Str.{is_utf8}
use Rattle.std.specs.Cmp.Lexicographic.{bytes_decides}
use Rattle.std.proofs.lemmas.Bool.{eq-eqb, false≢true}
use Rattle.std.proofs.lemmas.List.{append-nil}
use Rattle.std.proofs.lemmas.Str.{IsUtf8-from_is_utf8}
use Rattle.kap_base.specs.Points.{PointValue}
use Rattle.kap_base.specs.Texts.{has_line_feed, is_line}
use Rattle.kap_base.proofs.ResultLaws.{same_pair}
use Rattle.kap_base.proofs.TestLaws.{both}
use Rattle.line_points.specs.Line.{stored_of}
use Rattle.line_points.specs.Print.{Print}
use Rattle.line_points.specs.declared.mode.Mode.TheVariants.{Recording}
use Rattle.line_points.proofs.WholeLaws.{stored_spelled, stored_valid}
use Rattle.state_code.specs.Spelling.{AllFit, IsBytes, Reading, read_as, read_bytes, read_list, read_many, read_number, read_then, value_then}
use Rattle.state_code.proofs.Loops.{goes_on, with_front}
use Rattle.store_records.specs.Batches.{ArePoints, IsBatchOf}
use Rattle.store_records.specs.Combining.{found_then, parted}
use Rattle.store_records.specs.Lines.{FitsPoint, canonical_point, is_of, read_names, read_point}
use Rattle.store_records.specs.Records.{FitsRecord, HasForm, IsNoBody, batch_of, read_record}
use Rattle.store_records.specs.declared.rec.Rec.{Rec}
use Rattle.store_records.specs.declared.rec.Rec.TheVariants as kinds
use Rattle.store_records.proofs.BodyLaws.{body_reads, is_body, none_is_none}

same_then : {A : Type 0} (x y : A) (r t : List ℕ) → value_then x r ≡ value_then y t → (x ≡ y) × (r ≡ t)
same_then {A} x y r t e =
    let both = same_pair {A = A} (x, r) (y, t) e in
    (ap (λ (p : A × List ℕ). p.0) both, ap (λ (p : A × List ℕ). p.1) both)

-- ---- tests

second_false : (a b : Bool) → b ≡ false → (a && b) ≡ false
second_false true b e = e
second_false false b e = refl

is_false : (b : Bool) → ¬ (b ≡ true) → b ≡ false
is_false true other = absurd (other refl)
is_false false other = refl

gone : {A : Type 0} (b : Bool) (x : A) → b ≡ false → None ≡ cond b (Some x) None
gone b x e = rw e refl

-- bytes that are no text are no line
pub no_line : (bytes : List ℕ) → ¬ (IsUtf8 bytes) → is_line bytes ≡ false
no_line bytes other = second_false (not (has_line_feed bytes)) (is_utf8 bytes) (is_false (is_utf8 bytes) (λ e. other (IsUtf8-from_is_utf8 bytes e)))

pub no_value : {A : Type 0} (o : Option A) → ((x : A) → o ≡ Some x → ⊥) → o ≡ None
no_value None not_some = refl
no_value (Some x) not_some = absurd (not_some x refl)

-- ---- the database and the policy

pub no_first : (bytes : List ℕ) → read_bytes bytes ≡ None → read_names bytes ≡ None
no_first bytes none = rw none refl

module _ (bytes first behind : List ℕ) (one : read_bytes bytes ≡ value_then first behind) where
  pub no_second : read_bytes behind ≡ None → read_names bytes ≡ None
  no_second none = by (is_utf8 first) refl
    where
      by : (u : Bool) → is_utf8 first ≡ u → read_names bytes ≡ None
      by true e = rw (one, e, none) refl
      by false e = rw (one, e) refl

  pub names_are : (second rest : List ℕ) → read_bytes behind ≡ value_then second rest
      → read_names bytes ≡ cond (is_line first && is_line second) (value_then (first, second) rest) None
  names_are second rest two = by (is_utf8 first) (is_utf8 second) refl refl
    where
      by : (u v : Bool) → is_utf8 first ≡ u → is_utf8 second ≡ v → read_names bytes ≡ cond (is_line first && is_line second) (value_then (first, second) rest) None
      by true true e f = rw (one, e, two, f, e, f) refl
      by true false e f = rw (one, e, two, f) (gone _ _ (second_false (not (has_line_feed first) && true) _ (second_false (not (has_line_feed second)) false refl)))
      by false v e f = rw (one, e) (gone _ _ (ap (λ (b : Bool). b && is_line second) (second_false (not (has_line_feed first)) false refl)))

-- ---- the line of a point

module _ (db rp line : List ℕ) where
  pub read_line : (p : PointValue) → has_line_feed line ≡ false → stored_of db rp Recording line ≡ Ok p → canonical_point db rp line ≡ cond (bytes_eq (Print p) line) (Some p) None
  read_line p one e = rw (one, stored_valid db rp Recording line p e, e) refl

  pub read_of : (bytes behind : List ℕ) → read_bytes bytes ≡ value_then line behind → read_point db rp bytes ≡ found_then (canonical_point db rp line) behind
  read_of bytes behind one = by (is_utf8 line) refl
    where
      by : (u : Bool) → is_utf8 line ≡ u → read_point db rp bytes ≡ found_then (canonical_point db rp line) behind
      by true e = rw (one, e, e) refl
      by false e = rw (one, e, second_false (not (has_line_feed line)) false refl) refl

pub some_of : {A : Type 0} (o : Option A) → true ≡ is_some o → (x : A) × (o ≡ Some x)
some_of None e = absurd cc
some_of (Some x) e = (x, refl)

pub none_of : {A : Type 0} (o : Option A) → false ≡ is_some o → o ≡ None
none_of None e = refl
none_of (Some x) e = absurd cc

-- ---- points one behind the other

pub many_long : {A : Type 0} (read : Reading A) (count : ℕ) (bytes : List ℕ) (xs : List A) (rest : List ℕ) → read_many read count bytes ≡ value_then xs rest → length xs ≡ count
many_long read zero bytes xs rest e = let is : [] ≡ xs = (same_then [] xs bytes rest e).0 in rw (← is) refl
many_long read (suc n) bytes xs rest e =
    let one = parted (read bytes) (λ x rest. read_then (read_many read n rest) (λ xs rest. value_then (x ∷ xs) rest)) (xs, rest) e in
    let two = parted (read_many read n one.rest) (λ xs rest. value_then (one.value ∷ xs) rest) (xs, rest) one.second in
    let long = many_long read n one.rest two.value two.rest two.first in
    let is : one.value ∷ two.value ≡ xs = (same_then (one.value ∷ two.value) xs two.rest rest two.second).0 in
    rw (← is) (omega (arith, long))

-- i of count points were checked
pub record Checking (db rp : List ℕ) (count : ℕ) (bytes : List ℕ) (i : ℕ) (rest : List ℕ) : Type 0 where
  pub points : List PointValue
  pub reads : with_front points (read_many (read_point db rp) (count - i) rest) ≡ read_many (read_point db rp) count bytes

front_none : {A : Type 0} (o : Option (List A × List ℕ)) → with_front [] o ≡ o
front_none None = refl
front_none (Some r) = refl

module _ (db rp : List ℕ) (count : ℕ) (bytes : List ℕ) where
  -- one more was checked
  pub one_checked : (i : ℕ) (rest line behind : List ℕ) → i < count → read_bytes rest ≡ value_then line behind → true ≡ is_some (canonical_point db rp line)
      → Checking db rp count bytes i rest → Checking db rp count bytes (i + 1) behind
  one_checked i rest line behind lt one is so_far =
      let p = some_of (canonical_point db rp line) is in
      let read : read_point db rp rest ≡ value_then p.0 behind = read_of db rp line rest behind one ∙ ap (λ (o : Option PointValue). found_then o behind) p.1 in
      record {
        points = so_far.points ++ p.0 ∷ [];
        reads = goes_on (read_point db rp) so_far.points count i rest p.0 behind (read_many (read_point db rp) count bytes) lt read so_far.reads;
      }

  -- a point that isn't there
  pub none_there : (i : ℕ) (rest : List ℕ) → i < count → read_point db rp rest ≡ None → Checking db rp count bytes i rest → ArePoints db rp count bytes → ⊥
  none_there i rest lt none so_far are =
      let more : count - i ≡ suc (count - (i + 1)) = omega arith in
      let stops : with_front so_far.points (read_many (read_point db rp) (count - i) rest) ≡ None = rw (more, none) refl in
      let total : None ≡ value_then are.points [] = sym stops ∙ so_far.reads ∙ are.reads in
      absurd cc

  at_end : (i : ℕ) (rest : List ℕ) → i ≡ count → (so_far : Checking db rp count bytes i rest) → read_many (read_point db rp) count bytes ≡ value_then so_far.points rest
  at_end i rest all so_far =
      let none : count - i ≡ 0 = omega arith in
      sym (rw none at so_far.reads) ∙ ap (λ (xs : List PointValue). value_then xs rest) (append-nil so_far.points)

  -- all were checked, and there are bytes behind them
  pub more_behind : (i : ℕ) (rest : List ℕ) → i ≡ count → false ≡ (length rest == 0) → Checking db rp count bytes i rest → ArePoints db rp count bytes → ⊥
  more_behind i rest all more so_far are =
      let is : rest ≡ [] = (same_then so_far.points are.points rest [] (sym (at_end i rest all so_far) ∙ are.reads)).1 in
      false≢true (more ∙ eq-eqb (length rest) 0 (ap (λ (l : List ℕ). length l) is))

  -- i of count points were read, where the bytes are known to be these
  abbrev pub IsReading : ℕ → List ℕ → List PointValue → Type 0
  IsReading i rest points = (all : List PointValue) → read_many (read_point db rp) count bytes ≡ value_then all []
      → with_front points (read_many (read_point db rp) (count - i) rest) ≡ value_then all []

  pub none_read : IsReading 0 bytes []
  none_read all is = let whole : count - 0 ≡ count = omega arith in rw whole (front_none (read_many (read_point db rp) count bytes)) ∙ is

  -- the next point, where more are due
  record NextPoint (rest : List ℕ) : Type 0 where
    point : PointValue
    behind : List ℕ
    read : read_point db rp rest ≡ value_then point behind

  next_point : (i : ℕ) (rest : List ℕ) (points all : List PointValue) → i < count → with_front points (read_many (read_point db rp) (count - i) rest) ≡ value_then all [] → NextPoint rest
  next_point i rest points all lt e =
      let more : count - i ≡ suc (count - (i + 1)) = omega arith in
      by (read_point db rp rest) refl (rw more at e)
    where
      by : (o : Option (PointValue × List ℕ)) → read_point db rp rest ≡ o → with_front points (read_many (read_point db rp) (suc (count - (i + 1))) rest) ≡ value_then all [] → NextPoint rest
      by None is e = absurd (let none : with_front points (read_many (read_point db rp) (suc (count - (i + 1))) rest) ≡ None = rw is refl in cc)
      by (Some r) is e = record { point = r.0; behind = r.1; read = is }

  -- the line of the next point
  pub next_line : (i : ℕ) (rest line behind : List ℕ) (points : List PointValue) → i < count → read_bytes rest ≡ value_then line behind → IsReading i rest points
      → (all : List PointValue) → read_many (read_point db rp) count bytes ≡ value_then all [] → (p : PointValue) × (canonical_point db rp line ≡ Some p)
  next_line i rest line behind points lt one so_far all is =
      let next = next_point i rest points all lt (so_far all is) in
      some_found (canonical_point db rp line) behind next.point next.behind (sym (read_of db rp line rest behind one) ∙ next.read)
    where
      some_found : (o : Option PointValue) (behind : List ℕ) (p : PointValue) (t : List ℕ) → found_then o behind ≡ value_then p t → (q : PointValue) × (o ≡ Some q)
      some_found None behind p t e = absurd cc
      some_found (Some q) behind p t e = (q, refl)

  -- one more was read
  pub one_read : (i : ℕ) (rest line behind : List ℕ) (points : List PointValue) (point : PointValue) → i < count → read_bytes rest ≡ value_then line behind
      → ((p : PointValue) → canonical_point db rp line ≡ Some p → ◌≡◌ {A = Option PointValue} (Some point) (Some p))
      → IsReading i rest points → IsReading (i + 1) behind (points ++ point ∷ [])
  one_read i rest line behind points point lt one found so_far all is =
      let p = next_line i rest line behind points lt one so_far all is in
      let read : read_point db rp rest ≡ value_then point behind = read_of db rp line rest behind one
      ∙ ap (λ (o : Option PointValue). found_then o behind) (p.1 ∙ sym (found p.0 p.1)) in
      goes_on (read_point db rp) points count i rest point behind (value_then all []) lt read (so_far all is)

  -- a byte string that isn't there
  pub no_line_there : (i : ℕ) (rest : List ℕ) (points : List PointValue) → i < count → read_bytes rest ≡ None → IsReading i rest points
      → (all : List PointValue) → read_many (read_point db rp) count bytes ≡ value_then all [] → ⊥
  no_line_there i rest points lt none so_far all is =
      let next = next_point i rest points all lt (so_far all is) in
      let gone : read_point db rp rest ≡ None = rw none refl in
      let both : None ≡ value_then next.point next.behind = sym gone ∙ next.read in
      absurd cc

  -- all were read
  pub all_read : (i : ℕ) (rest : List ℕ) (points : List PointValue) → i ≡ count → IsReading i rest points
      → (all : List PointValue) → read_many (read_point db rp) count bytes ≡ value_then all [] → points ≡ all
  all_read i rest points whole so_far all is =
      let none : count - i ≡ 0 = omega arith in
      sym (append-nil points) ∙ (same_then (points ++ []) all rest [] (rw none at (so_far all is))).0

-- ---- the body of a batch

-- a point that its line reads as is ungrouped, and of the database and the policy
of_these : (db rp : List ℕ) (p : PointValue) → FitsPoint db rp p → is_of db rp p ≡ true
of_these db rp p fits =
    let of = (stored_spelled db rp Recording (Print p) p fits.reads).is_of in
    rw (of.dims, of.by_name, (bytes_decides p.db db).1 of.db, (bytes_decides p.rp rp).1 of.rp) refl

all_of_these : (db rp : List ℕ) (points : List PointValue) → AllFit (FitsPoint db rp) points → list_all (is_of db rp) points ≡ true
all_of_these db rp [] fits = refl
all_of_these db rp (p ∷ points) fits = both (is_of db rp p) (list_all (is_of db rp) points) (of_these db rp p fits.0) (all_of_these db rp points fits.1)

-- a batch that has a body is of its form
pub batch_form : (db rp : List ℕ) (points : List PointValue) → FitsRecord (kinds.Batch db rp points) → HasForm (kinds.Batch db rp points)
batch_form db rp points fits = (fits.0.1, all_of_these db rp points fits.1.1)

-- behind the byte of its kind there are bytes
pub with_byte : (bytes : List ℕ) → IsBytes bytes → IsBytes (5 ∷ bytes)
with_byte bytes are zero = omega arith
with_byte bytes are (suc i) = are i

pub batch_is : (db rp : List ℕ) (points all : List PointValue) (r : Rec) → ◌≡◌ {A = Option (List PointValue)} (Some points) (Some all) → kinds.Batch db rp all ≡ r
    → ◌≡◌ {A = Option Rec} (Some (kinds.Batch db rp points)) (Some r)
batch_is db rp points all r same is =
    let same_points : points ≡ all = cc in
    let same_record : kinds.Batch db rp points ≡ r = ap (λ (l : List PointValue). kinds.Batch db rp l) same_points ∙ is in
    ap (λ (q : Rec). let o : Option Rec = Some q in o) same_record

module _ (bytes : List ℕ) where
  pub without_names : read_names bytes ≡ None → IsNoBody (5 ∷ bytes)
  without_names none = none_is_none (5 ∷ bytes) (rw none refl)

  module _ (db rp rest : List ℕ) (names : read_names bytes ≡ value_then (db, rp) rest) where
    read_is : read_record (5 ∷ bytes) ≡ read_as (λ (points : List PointValue). kinds.Batch db rp points) (read_list (read_point db rp)) rest
    read_is = rw names (by (read_list (read_point db rp) rest))
      where
        by : (o : Option (List PointValue × List ℕ)) → read_then (read_then o (λ points t. value_then ((db, rp), points) t)) (λ x t. value_then (batch_of x) t) ≡ read_then o (λ points t. value_then (kinds.Batch db rp points) t)
        by None = refl
        by (Some r) = refl

    pub without_number : read_number w32 rest ≡ None → IsNoBody (5 ∷ bytes)
    without_number none = none_is_none (5 ∷ bytes) (read_is ∙ rw none refl)

    module _ (count : ℕ) (lines : List ℕ) (number : read_number w32 rest ≡ value_then count lines) where
      many_is : read_record (5 ∷ bytes) ≡ read_as (λ (points : List PointValue). kinds.Batch db rp points) (read_many (read_point db rp) count) lines
      many_is = read_is ∙ rw number refl

      -- the points of a record whose body this is
      pub points_of : (r : Rec) → read_record (5 ∷ bytes) ≡ value_then r []
          → (points : List PointValue) × (read_many (read_point db rp) count lines ≡ value_then points []) × (kinds.Batch db rp points ≡ r)
      points_of r is = by (read_many (read_point db rp) count lines) refl (sym many_is ∙ is)
        where
          by : (o : Option (List PointValue × List ℕ)) → read_many (read_point db rp) count lines ≡ o → read_then o (λ points t. value_then (kinds.Batch db rp points) t) ≡ value_then r []
              → (points : List PointValue) × (read_many (read_point db rp) count lines ≡ value_then points []) × (kinds.Batch db rp points ≡ r)
          by None e f = absurd cc
          by (Some (points, t)) e f = let same = same_then (kinds.Batch db rp points) r t [] f in (points, e ∙ ap (λ (t : List ℕ). value_then points t) same.1, same.0)

      pub without_points : (ArePoints db rp count lines → ⊥) → IsNoBody (5 ∷ bytes)
      without_points none r is = let points = points_of r (body_reads r (5 ∷ bytes) is) in none (record { points = points.0; reads = points.1 })

      pub with_points : IsBytes (5 ∷ bytes) → ArePoints db rp count lines → IsBatchOf count (5 ∷ bytes)
      with_points are_bytes are =
          let body = is_body (5 ∷ bytes) (kinds.Batch db rp are.points) [] are_bytes (many_is ∙ rw are.reads refl) refl in
          record {
            db = db;
            rp = rp;
            points = are.points;
            body_of = body;
            form = batch_form db rp are.points body.fits;
            count_is = many_long (read_point db rp) count lines are.points [] are.reads;
          }
