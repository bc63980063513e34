-- Points that are read one after the other.
use Rattle.std.proofs.Common.{◌≡◌, ℕ, zero, suc, ◌+◌, ◌-◌, ◌<◌, ◌≤◌, min, List, [], ◌∷◌, ◌++◌, length, take, drop, refl, sym, ap, ◌∙◌, arith, append_assoc, length-append, Ok, Err}
use Rattle.std.proofs.Math.Seq.{drop-append-add, drop-nil, take-nil}
use Rattle.std.specs.Prelude.{Some, None}
use Rattle.std.specs.List.{flat_map}
use Rattle.std.proofs.lemmas.List.{append-nil, length-drop, length-take, take_all, take_min}
use Rattle.std.proofs.lemmas.Grind.{flat_map-append}
use Rattle.kap_base.specs.Points.{PointValue}
use Rattle.store_records.specs.Held.{points_in}
use Rattle.store_records.specs.Histories.{held}
use Rattle.store_records.specs.declared.rec.Rec.{Rec}
use Rattle.topic_store.specs.Pieces.{LeadsTo}
use Rattle.topic_store.specs.Points.{GivesOrNot, IsBefore, IsBeforeOrNot, PointsState}
use Rattle.topic_store.specs.Stored.{RecordOrNot}
use Rattle.topic_store.specs.declared.fault.StoreFault.{StoreFault}
use Rattle.topic_store.specs.declared.fault.StoreFault.TheVariants.{NotStore, DiskFault, Long, NoMemory}
use Rattle.topic_store.specs.declared.pieces.Start.{Start}
use Rattle.topic_store.proofs.PieceLaws.{drop_both, piece_both, points_are, take_both}

-- ---- lists

drop_least : {T : Type 0} (n : ℕ) (xs : List T) (k : ℕ) → k ≡ min (length xs) n → drop k xs ≡ drop n xs
drop_least zero xs k e = let none : k ≡ zero = omega (arith, e) in rw none refl
drop_least (suc n) [] k e = drop-nil k
drop_least (suc n) (x ∷ xs) zero e = absurd (omega (arith, e))
drop_least (suc n) (x ∷ xs) (suc k) e = drop_least n xs k (omega (arith, e))

-- what is still to be read of these records
abbrev left_of : PointsState → List Rec → List PointValue
left_of s behind = take s.left (drop s.skip (flat_map points_in behind))

-- ---- where a reader begins
pub begins : (rs : List Rec) (after count : ℕ) (start : Start) (lead : LeadsTo points_in rs after start) → count ≡ length (held rs).points
    → IsBefore rs (drop after (held rs).points) (record { points = []; gate = start.gate; skip = start.skip; left = count - after })
begins rs after count start lead count_is =
    let so_far = flat_map points_in lead.before in
    let others = flat_map points_in lead.behind in
    let flat : (held rs).points ≡ so_far ++ others =
    points_are rs ∙ ap (λ (l : List Rec). flat_map points_in l) lead.split ∙ flat_map-append points_in lead.before lead.behind in
    let rest : drop after (held rs).points ≡ drop start.skip others =
    ap (λ (l : List PointValue). drop after l) flat ∙ ap (λ (n : ℕ). drop n (so_far ++ others)) lead.number_is ∙ drop-append-add so_far others start.skip in
    let size : length (drop start.skip others) ≡ count - after =
    omega (arith, ap (λ (l : List PointValue). length l) rest, length-drop after (held rs).points, count_is) in
    record {
      before = lead.before;
      behind = lead.behind;
      split = lead.split;
      at_gate = lead.at_gate;
      enough = omega (arith, size);
      points_are = rest ∙ sym (take_all (count - after) (drop start.skip others) (omega (arith, size)));
    }

module _ (rs : List Rec) (points : List PointValue) (s : PointsState) where
  -- one record more
  more_in : (before behind : List Rec) → rs ≡ before ++ behind → s.left ≤ length (drop s.skip (flat_map points_in behind))
      → points ≡ s.points ++ take s.left (drop s.skip (flat_map points_in behind)) → (r : Rec) (next : ℕ) → RecordOrNot (Ok (Some (r, next))) before behind
      → (more ahead : List PointValue) (skip left : ℕ) → more ≡ take s.left (drop s.skip (points_in r)) → ahead ≡ s.points ++ more
      → skip ≡ s.skip - length (points_in r) → left ≡ s.left - length more
      → IsBefore rs points (record { points = ahead; gate = next; skip = skip; left = left })
  more_in before [] split enough is r next there more ahead skip left more_is ahead_is skip_is left_is = absurd there
  more_in before (q ∷ rest) split enough is r next there more ahead skip left more_is ahead_is skip_is left_is =
      let here = points_in q in
      let enough_here : s.left ≤ length (drop s.skip (points_in q ++ flat_map points_in rest)) = enough in
      let others = flat_map points_in rest in
      let more_here : more ≡ take s.left (drop s.skip here) = more_is ∙ ap (λ (o : Rec). take s.left (drop s.skip (points_in o))) there.0 in
      let skip_here : skip ≡ s.skip - length here = skip_is ∙ ap (λ (o : Rec). s.skip - length (points_in o)) there.0 in
      let both : take s.left (drop s.skip (here ++ others)) ≡ more ++ take left (drop skip others) =
      piece_both s.left s.skip here others
      ∙ ap (λ (l : List PointValue). l ++ take (s.left - length l) (drop (s.skip - length here) others)) (sym more_here)
      ∙ ap (λ (n : ℕ). more ++ take (s.left - length more) (drop n others)) (sym skip_here)
      ∙ ap (λ (n : ℕ). more ++ take n (drop skip others)) (sym left_is) in
      let sizes : length (drop s.skip (here ++ others)) ≡ length (drop s.skip here) + length (drop skip others) =
      ap (λ (l : List PointValue). length l) (drop_both s.skip here others)
      ∙ length-append (drop s.skip here) (drop (s.skip - length here) others)
      ∙ ap (λ (n : ℕ). length (drop s.skip here) + length (drop n others)) (sym skip_here) in
      record {
        before = before ++ q ∷ [];
        behind = rest;
        split = split ∙ sym (append_assoc before (q ∷ []) rest);
        at_gate = there.1;
        enough = omega (arith, enough_here, sizes, left_is, ap (λ (l : List PointValue). length l) more_here, length-take s.left (drop s.skip here));
        points_are =
            is ∙ ap (λ (l : List PointValue). s.points ++ l) both ∙ sym (append_assoc s.points more (take left (drop skip others)))
            ∙ ap (λ (l : List PointValue). l ++ take left (drop skip others)) (sym ahead_is);
      }

  module _ (stands : IsBefore rs points s) where
    pub goes_on : (r : Rec) (next : ℕ) → RecordOrNot (Ok (Some (r, next))) stands.before stands.behind
        → (more ahead : List PointValue) (skip left : ℕ) → more ≡ take s.left (drop s.skip (points_in r)) → ahead ≡ s.points ++ more
        → skip ≡ s.skip - length (points_in r) → left ≡ s.left - length more
        → IsBefore rs points (record { points = ahead; gate = next; skip = skip; left = left })
    goes_on r next there more ahead skip left more_is ahead_is skip_is left_is =
        more_in stands.before stands.behind stands.split stands.enough stands.points_are r next there more ahead skip left more_is ahead_is skip_is left_is

    -- the log doesn't end before there are enough
    pub not_ended : RecordOrNot (Ok None) stands.before stands.behind → 0 < s.left → ⊥
    not_ended none some =
        let size : length (drop s.skip (flat_map points_in stands.behind)) ≡ 0 =
        ap (λ (l : List Rec). length (drop s.skip (flat_map points_in l))) none ∙ ap (λ (l : List PointValue). length l) (drop-nil s.skip) in
        omega (arith, stands.enough, size, some)

    -- where there are enough points, or no more, the first ones are those that come next
    first_of : (take (4096 - length s.points) (left_of s stands.behind) ≡ []) → (count : ℕ) → count ≡ min (length s.points) 4096 → take count s.points ≡ take 4096 points
    first_of none count is =
        let least : count ≡ min 4096 (length s.points) = omega (arith, is) in
        ap (λ (n : ℕ). take n s.points) least ∙ take_min 4096 s.points ∙ sym (append-nil (take 4096 s.points))
        ∙ ap (λ (l : List PointValue). take 4096 s.points ++ l) (sym none) ∙ sym (take_both 4096 s.points (left_of s stands.behind))
        ∙ ap (λ (l : List PointValue). take 4096 l) (sym stands.points_are)

    -- and behind them come the others
    rest_of : (drop (4096 - length s.points) (left_of s stands.behind) ≡ (left_of s stands.behind)) → (count : ℕ) → count ≡ min (length s.points) 4096
        → drop 4096 points ≡ drop count s.points ++ (left_of s stands.behind)
    rest_of all count is =
        ap (λ (l : List PointValue). drop 4096 l) stands.points_are ∙ drop_both 4096 s.points (left_of s stands.behind)
        ∙ ap (λ (l : List PointValue). drop 4096 s.points ++ l) all
        ∙ ap (λ (l : List PointValue). l ++ (left_of s stands.behind)) (sym (drop_least 4096 s.points count is))

    pub gives : (count : ℕ) → count ≡ min (length s.points) 4096 → (0 < s.left → 4096 ≤ length s.points)
        → (take count s.points ≡ take 4096 points) × IsBefore rs (drop 4096 points) (record { points = drop count s.points; gate = s.gate; skip = s.skip; left = s.left })
    gives count is full = by_left s.left refl
      where
        given : (take (4096 - length s.points) (left_of s stands.behind) ≡ []) → (drop (4096 - length s.points) (left_of s stands.behind) ≡ (left_of s stands.behind))
            → (take count s.points ≡ take 4096 points) × IsBefore rs (drop 4096 points) (record { points = drop count s.points; gate = s.gate; skip = s.skip; left = s.left })
        given none all = (
          first_of none count is,
          record {
            before = stands.before;
            behind = stands.behind;
            split = stands.split;
            at_gate = stands.at_gate;
            enough = stands.enough;
            points_are = rest_of all count is;
          },
        )

        by_left : (n : ℕ) → s.left ≡ n
            → (take count s.points ≡ take 4096 points) × IsBefore rs (drop 4096 points) (record { points = drop count s.points; gate = s.gate; skip = s.skip; left = s.left })
        by_left zero e =
            let nothing : (left_of s stands.behind) ≡ [] = ap (λ (n : ℕ). take n (drop s.skip (flat_map points_in stands.behind))) e in
            given (ap (λ (l : List PointValue). take (4096 - length s.points) l) nothing ∙ take-nil (4096 - length s.points))
            (ap (λ (l : List PointValue). drop (4096 - length s.points) l) nothing ∙ drop-nil (4096 - length s.points) ∙ sym nothing)
        by_left (suc n) e =
            let enough : 4096 ≤ length s.points = full (omega (arith, e)) in
            let room : 4096 - length s.points ≡ 0 = omega (arith, enough) in
            given (ap (λ (k : ℕ). take k (left_of s stands.behind)) room) (ap (λ (k : ℕ). drop k (left_of s stands.behind)) room)

-- ---- faults

pub more_fault : (rs before behind : List Rec) (points : List PointValue) (fault : StoreFault) → RecordOrNot (Err fault) before behind
    → IsBeforeOrNot rs points (Err fault)
more_fault rs before behind points (NotStore part offset) found = found
more_fault rs before behind points DiskFault found = tt
more_fault rs before behind points Long found = found
more_fault rs before behind points NoMemory found = tt

pub gives_fault : (rs : List Rec) (points : List PointValue) (fault : StoreFault) → IsBeforeOrNot rs points (Err fault) → GivesOrNot rs points (Err fault)
gives_fault rs points (NotStore part offset) found = found
gives_fault rs points DiskFault found = tt
gives_fault rs points Long found = found
gives_fault rs points NoMemory found = tt
