-- Pieces of what records store.
use Rattle.std.proofs.Common.{◌≡◌, ⊎_elim, ℕ, zero, suc, ◌-◌, ◌<◌, ◌≤◌, min, List, [], ◌∷◌, ◌++◌, length, take, drop, refl, sym, ap, ◌∙◌, subst, arith, append_assoc, length-append, Ok, Err}
use Rattle.std.proofs.Math.Seq.{drop-append-add, drop-nil, take-nil}
use Rattle.std.specs.Prelude.{Some}
use Rattle.std.specs.List.{flat_map, slice_get}
use Rattle.std.proofs.lemmas.List.{append-nil, length-drop, length-take, take_min}
use Rattle.std.proofs.lemmas.Grind.{flat_map-append}
use Rattle.kap_io.specs.Disk.{Image}
use Rattle.gate_log.specs.Bodies.{IsLog}
use Rattle.gate_log.specs.Logs.{LogState, Rests}
use Rattle.store_records.specs.Held.{Held, after, nothing, points_in, transitions_in}
use Rattle.store_records.specs.Histories.{end_of, first_gate, held, held_from, next_gate}
use Rattle.store_records.specs.declared.rec.Rec.{Rec}
use Rattle.store_kept.specs.Keeping.{AreMarks, IsMark}
use Rattle.store_kept.specs.declared.kept.Mark.{Mark}
use Rattle.topic_store.specs.Pieces.{HasPassed, IsFrom, LeadsTo, PieceOrNot, piece_behind}
use Rattle.topic_store.specs.Stored.{RecordOrNot}
use Rattle.topic_store.specs.declared.fault.StoreFault.{StoreFault}
use Rattle.topic_store.specs.declared.fault.StoreFault.TheVariants.{NotStore, DiskFault, Long, NoMemory}
use Rattle.topic_store.specs.declared.pieces.Start.{Start}

-- ---- lists one behind the other

pub drop_both : {T : Type 0} (k : ℕ) (a b : List T) → drop k (a ++ b) ≡ drop k a ++ drop (k - length a) b
drop_both {T = T} zero a b = let e : zero - length a ≡ zero = omega arith in rw e refl
drop_both {T = T} (suc k) [] b = let e : suc k - zero ≡ suc k = omega arith in rw e refl
drop_both {T = T} (suc k) (x ∷ a) b = let e : suc k - suc (length a) ≡ k - length a = omega arith in rw e (drop_both k a b)

pub take_both : {T : Type 0} (n : ℕ) (a b : List T) → take n (a ++ b) ≡ take n a ++ take (n - length a) b
take_both {T = T} zero a b = let e : zero - length a ≡ zero = omega arith in rw e refl
take_both {T = T} (suc n) [] b = let e : suc n - zero ≡ suc n = omega arith in rw e refl
take_both {T = T} (suc n) (x ∷ a) b = let e : suc n - suc (length a) ≡ n - length a = omega arith in rw e (ap (λ (l : List T). x ∷ l) (take_both n a b))

-- the piece behind one list, and what it takes of another behind that
pub piece_both : {T : Type 0} (n k : ℕ) (a b : List T)
    → take n (drop k (a ++ b)) ≡ take n (drop k a) ++ take (n - length (take n (drop k a))) (drop (k - length a) b)
piece_both {T = T} n k a b =
    let room : n - length (drop k a) ≡ n - length (take n (drop k a)) = omega (arith, length-take n (drop k a)) in
    ap (λ (l : List T). take n l) (drop_both k a b) ∙ take_both n (drop k a) (drop (k - length a) b)
    ∙ ap (λ (m : ℕ). take n (drop k a) ++ take m (drop (k - length a) b)) room

-- ---- what records store

points_from : (h : Held) (at : ℕ) (rs : List Rec) → (held_from h at rs).points ≡ h.points ++ flat_map points_in rs
points_from h at [] = sym (append-nil h.points)
points_from h at (r ∷ rs) = points_from (after h at r) (next_gate at r) rs ∙ append_assoc h.points (points_in r) (flat_map points_in rs)

pub points_are : (rs : List Rec) → (held rs).points ≡ flat_map points_in rs
points_are rs = points_from nothing first_gate rs

transitions_from : (h : Held) (at : ℕ) (rs : List Rec) → (held_from h at rs).transitions ≡ h.transitions ++ flat_map transitions_in rs
transitions_from h at [] = sym (append-nil h.transitions)
transitions_from h at (r ∷ rs) =
    transitions_from (after h at r) (next_gate at r) rs ∙ append_assoc h.transitions (transitions_in r) (flat_map transitions_in rs)

pub transitions_are : (rs : List Rec) → (held rs).transitions ≡ flat_map transitions_in rs
transitions_are rs = transitions_from nothing first_gate rs

-- ---- where reading begins

is_mark : (rs : List Rec) (marks : List Mark) (i : ℕ) (m : Mark) → AreMarks rs marks → slice_get marks i ≡ Some m → IsMark rs m
is_mark rs [] i m are is = absurd cc
is_mark rs (q ∷ marks) zero m are is = let same : q ≡ m = cc in subst (IsMark rs) same are.0
is_mark rs (q ∷ marks) (suc i) m are is = is_mark rs marks i m are.1 is

some_are : (rs : List Rec) (marks : List Mark) (n : ℕ) → AreMarks rs marks → AreMarks rs (take n marks)
some_are rs marks zero are = tt
some_are rs [] (suc n) are = tt
some_are rs (m ∷ marks) (suc n) are = (are.0, some_are rs marks n are.1)

pub last_mark : (rs : List Rec) (marks : List Mark) (n i : ℕ) (m : Mark) → AreMarks rs marks → slice_get (take n marks) i ≡ Some m → IsMark rs m
last_mark rs marks n i m are is = is_mark rs (take n marks) i m (some_are rs marks n are) is

pub first_mark : (rs : List Rec) → IsMark rs (record { gate = 8; points = 0; transitions = 0 })
first_mark rs = record { before = []; later = rs; split = refl; gate = refl; points = refl; transitions = refl }

-- a start at a mark, or at the first gate
pub leads : {T : Type 0} (stored : Rec → List T) (rs : List Rec) (m : Mark) (is : IsMark rs m) (before number : ℕ) (start : Start)
    → before ≡ length (flat_map stored is.before) → IsFrom m.gate before number start → LeadsTo stored rs number start
leads stored rs m is before number start count from = ⊎_elim
    (λ at. record {
      before = is.before;
      behind = is.later;
      split = is.split;
      at_gate = at.0 ∙ is.gate;
      number_is = omega (arith, at.1, count);
    })
    (λ first. record { before = []; behind = rs; split = refl; at_gate = first.0; number_is = omega (arith, first.1) }) from

-- ---- the loop

-- what is put behind a piece, where the room and the items are these
pub put_is : {T : Type 0} (piece more items others : List T) (skip room wanted : ℕ) → more ≡ piece ++ take room (drop skip items)
    → room ≡ wanted - length piece → items ≡ others → more ≡ piece ++ take (wanted - length piece) (drop skip others)
put_is {T = T} piece more items others skip room wanted put room_is items_are =
    put ∙ ap (λ (n : ℕ). piece ++ take n (drop skip items)) room_is
    ∙ ap (λ (l : List T). piece ++ take (wanted - length piece) (drop skip l)) items_are

module _ {T : Type 0} (stored : Rec → List T) (before behind : List Rec) (skip wanted : ℕ) where
  -- no record is read so far
  pub begun : (gate : ℕ) (piece : List T) → gate ≡ end_of before → piece ≡ [] → HasPassed stored before behind skip wanted gate skip piece
  begun gate piece at none = record {
    passed = [];
    rest = behind;
    split = refl;
    at_gate = at ∙ ap (λ (l : List Rec). end_of l) (sym (append-nil before));
    piece_is = none ∙ sym (ap (λ (l : List T). take wanted l) (drop-nil skip) ∙ take-nil wanted);
    left_is = omega arith;
  }

  module _ (gate left : ℕ) (piece : List T) where
    -- one record more
    more_read : (passed rest : List Rec) → behind ≡ passed ++ rest → piece ≡ take wanted (drop skip (flat_map stored passed))
        → left ≡ skip - length (flat_map stored passed) → (r : Rec) (next later : ℕ) (more : List T)
        → RecordOrNot (Ok (Some (r, next))) (before ++ passed) rest → later ≡ left - length (stored r)
        → more ≡ piece ++ take (wanted - length piece) (drop left (stored r)) → HasPassed stored before behind skip wanted next later more
    more_read passed [] split is left_is r next later more there later_is more_is = absurd there
    more_read passed (q ∷ rest) split is left_is r next later more there later_is more_is =
        let so_far = flat_map stored passed in
        let flat : flat_map stored (passed ++ q ∷ []) ≡ so_far ++ stored q =
        flat_map-append stored passed (q ∷ []) ∙ ap (λ (l : List T). so_far ++ l) (append-nil (stored q)) in
        record {
          passed = passed ++ q ∷ [];
          rest = rest;
          split = split ∙ sym (append_assoc passed (q ∷ []) rest);
          at_gate = there.1 ∙ ap (λ (l : List Rec). end_of l) (append_assoc before passed (q ∷ []));
          piece_is =
              more_is ∙ ap (λ (s : Rec). piece ++ take (wanted - length piece) (drop left (stored s))) there.0
              ∙ ap (λ (n : ℕ). piece ++ take (wanted - length piece) (drop n (stored q))) left_is
              ∙ ap (λ (p : List T). p ++ take (wanted - length p) (drop (skip - length so_far) (stored q))) is
              ∙ sym (piece_both wanted skip so_far (stored q)) ∙ ap (λ (l : List T). take wanted (drop skip l)) (sym flat);
          left_is = omega (
            arith,
            later_is,
            left_is,
            ap (λ (s : Rec). length (stored s)) there.0,
            ap (λ (l : List T). length l) flat,
            length-append so_far (stored q),
          );
        }

    module _ (read : HasPassed stored before behind skip wanted gate left piece) where
      -- the records that were read, and those behind them
      pub split_at : (rs : List Rec) → rs ≡ before ++ behind → rs ≡ (before ++ read.passed) ++ read.rest
      split_at rs split = split ∙ ap (λ (l : List Rec). before ++ l) read.split ∙ sym (append_assoc before read.passed read.rest)

      pub reads_on : (r : Rec) (next later : ℕ) (more : List T) → RecordOrNot (Ok (Some (r, next))) (before ++ read.passed) read.rest
          → later ≡ left - length (stored r) → more ≡ piece ++ take (wanted - length piece) (drop left (stored r))
          → HasPassed stored before behind skip wanted next later more
      reads_on r next later more there later_is more_is =
          more_read read.passed read.rest read.split read.piece_is read.left_is r next later more there later_is more_is

      -- the log doesn't end before there are enough
      pub not_ended : read.rest ≡ [] → wanted ≤ length (drop skip (flat_map stored behind)) → length piece < wanted → ⊥
      not_ended none enough short =
          let all : behind ≡ read.passed = read.split ∙ ap (λ (l : List Rec). read.passed ++ l) none ∙ append-nil read.passed in
          let piece_is : piece ≡ take wanted (drop skip (flat_map stored behind)) =
          read.piece_is ∙ ap (λ (l : List Rec). take wanted (drop skip (flat_map stored l))) (sym all) in
          omega (arith, ap (λ (l : List T). length l) piece_is, length-take wanted (drop skip (flat_map stored behind)), enough, short)

      -- there are enough
      pub whole : wanted ≤ length piece → piece ≡ take wanted (drop skip (flat_map stored behind))
      whole full =
          let so_far = flat_map stored read.passed in
          let others = flat_map stored read.rest in
          let flat : flat_map stored behind ≡ so_far ++ others =
          ap (λ (l : List Rec). flat_map stored l) read.split ∙ flat_map-append stored read.passed read.rest in
          let none : 0 ≡ wanted - length piece = omega (arith, full) in
          sym (append-nil piece) ∙ ap (λ (n : ℕ). piece ++ take n (drop (skip - length so_far) others)) none
          ∙ ap (λ (p : List T). p ++ take (wanted - length p) (drop (skip - length so_far) others)) read.piece_is
          ∙ sym (piece_both wanted skip so_far others) ∙ ap (λ (l : List T). take wanted (drop skip l)) (sym flat)

-- the log of a disk that calls didn't change
pub still_rests : (bodies : List (List ℕ)) (seen later : Image) (images left : Image → Type 0) (l : LogState) → later ≡ seen
    → ((c : Image) → left c → images c) → Rests bodies seen images l → Rests bodies later left l
still_rests bodies seen later images left l reads narrows rests = record {
  file = record {
    bytes = subst (λ (i : Image). IsLog bodies (i l.part)) (sym reads) rests.file.bytes;
    durable = λ c now. rests.file.durable c (narrows c now) ∙ sym (ap (λ (i : Image). i l.part) reads);
  };
  end = rests.end;
}

pub piece_fault : {T : Type 0} (before rest : List Rec) (piece : List T) (fault : StoreFault) → RecordOrNot (Err fault) before rest → PieceOrNot piece (Err fault)
piece_fault before rest piece (NotStore part offset) found = found
piece_fault before rest piece DiskFault found = tt
piece_fault before rest piece Long found = found
piece_fault before rest piece NoMemory found = tt

-- ---- the piece behind a number

-- what the piece takes from a start on is what it takes of all, and is there
pub record IsPiece {T : Type 0} (stored : Rec → List T) (behind : List Rec) (skip wanted number : ℕ) (all : List T) : Type 0 where
  pub is : take wanted (drop skip (flat_map stored behind)) ≡ piece_behind number all
  pub enough : wanted ≤ length (drop skip (flat_map stored behind))

pub piece_of : {T : Type 0} (stored : Rec → List T) (rs : List Rec) (number count wanted : ℕ) (start : Start) (all : List T)
    (lead : LeadsTo stored rs number start) → all ≡ flat_map stored rs → count ≡ length all → wanted ≡ min 4096 (count - number)
    → IsPiece stored lead.behind start.skip wanted number all
piece_of {T = T} stored rs number count wanted start all lead all_are count_is wanted_is =
    let so_far = flat_map stored lead.before in
    let others = flat_map stored lead.behind in
    let flat : all ≡ so_far ++ others =
    all_are ∙ ap (λ (l : List Rec). flat_map stored l) lead.split ∙ flat_map-append stored lead.before lead.behind in
    let rest : drop number all ≡ drop start.skip others =
    ap (λ (l : List T). drop number l) flat ∙ ap (λ (n : ℕ). drop n (so_far ++ others)) lead.number_is ∙ drop-append-add so_far others start.skip in
    let size : length (drop start.skip others) ≡ count - number =
    omega (arith, ap (λ (l : List T). length l) rest, length-drop number all, count_is) in
    let least : wanted ≡ min 4096 (length (drop start.skip others)) = omega (arith, wanted_is, size) in
    record {
      is =
          ap (λ (n : ℕ). take n (drop start.skip others)) least ∙ take_min 4096 (drop start.skip others)
          ∙ ap (λ (l : List T). take 4096 l) (sym rest);
      enough = omega (arith, least);
    }
