-- The lines of a body one after the other, as the loop reads them.
use Rattle.std.proofs.Common.{◌≡◌, ℕ, suc, ◌+◌, ◌<◌, ◌≤◌, Bool, true, false, not, cond, Option, Some, None, List, [], ◌∷◌, ◌++◌, length, take, drop, map, Ok, Err, refl, sym, ap, subst, ◌∙◌, append_assoc, eqb, ltb, arith}
use Rattle.std.specs.Prelude.{Result}
use Rattle.std.specs.List.{slice_split, onto_first, before_first, after_first, position_or_len}
use Rattle.std.proofs.lemmas.Bool.{ltb-false}
use Rattle.std.proofs.lemmas.Bool.Decides.{nat_tests}
use Rattle.std.proofs.lemmas.Grind.{common_steps}
use Rattle.std.proofs.lemmas.List.{append-nil, length-append, length-drop}
use Rattle.kap_base.specs.Words.{◌>>=◌}
use Rattle.kap_base.specs.Texts.{is_empty, line_feed, has_line_feed}
use Rattle.kap_base.specs.Points.{PointValue}
use Rattle.line_points.specs.declared.fault.LineFault.{LineFault}
use Rattle.line_points.specs.declared.fault.BodyFault.{BodyFault}
use Rattle.line_points.specs.declared.mode.Mode.{Mode}
use Rattle.line_points.specs.Line.{line_of}
use Rattle.line_points.specs.Body.{ReachesLine, carriage_return, without_return, without_last_empty, body_lines, at_line, before_more, with_line, points_of}
use Rattle.line_points.proofs.PlaceLaws.{take_more}
use Rattle.kap_base.proofs.TestLaws.{first_false, second_false, ok_is, bind_ok}

-- ---- a carriage return

pub without_return-last : (front : List ℕ) (b : ℕ) → without_return (front ++ b ∷ []) ≡ cond (eqb b carriage_return) front (front ++ b ∷ [])
without_return-last [] b = refl
without_return-last (x ∷ []) b = elim (eqb b carriage_return) as (λ t. x ∷ cond t [] (b ∷ []) ≡ cond t (x ∷ []) (x ∷ b ∷ [])) [ true ↦ refl | false ↦ refl ]
without_return-last (x ∷ y ∷ front) b =
    ap (λ (w : List ℕ). x ∷ w) (without_return-last (y ∷ front) b)
    ∙ elim (eqb b carriage_return) as (λ t. x ∷ cond t (y ∷ front) (y ∷ (front ++ b ∷ [])) ≡ cond t (x ∷ y ∷ front) (x ∷ y ∷ (front ++ b ∷ []))) [ true ↦ refl | false ↦ refl ]

-- bytes without a length are none
pub by_length : (bytes : List ℕ) (b : Bool) → eqb (length bytes) 0 ≡ b → is_empty bytes ≡ b
by_length [] b h = h
by_length (x ∷ bytes) b h = let some : eqb (suc (length bytes)) 0 ≡ false = grind (arith, nat_tests) in sym some ∙ h

-- ---- the first line

-- the parts behind the first line feed, if there is one
abbrev parts_behind : List ℕ → List (List ℕ)
parts_behind body = cond (ltb (position_or_len (λ b. eqb b line_feed) body) (length body)) (slice_split (λ b. eqb b line_feed) (after_first (λ b. eqb b line_feed) body)) []

pub drop_two : (n b : ℕ) (bs : List ℕ) → drop ((1 + n) + 1) (b ∷ bs) ≡ drop (n + 1) bs
drop_two n b bs = let e : (1 + n) + 1 ≡ suc (n + 1) = omega arith in rw e refl

pub less_zero : (m : ℕ) → ltb 0 (suc m) ≡ true
less_zero m = grind (arith, nat_tests)

pub less_one : (n m : ℕ) → ltb (1 + n) (suc m) ≡ ltb n m
less_one n m = grind (arith, nat_tests)

first_part : (body : List ℕ) → slice_split (λ b. eqb b line_feed) body ≡ before_first (λ b. eqb b line_feed) body ∷ parts_behind body
first_part [] = refl
first_part (b ∷ bs) =
    let n = position_or_len (λ b. eqb b line_feed) bs in
    elim (eqb b line_feed) as (λ t. cond t ([] ∷ slice_split (λ b. eqb b line_feed) bs) (onto_first b (slice_split (λ b. eqb b line_feed) bs)) ≡ take (cond (not t) (1 + n) 0) (b ∷ bs) ∷ cond (ltb (cond (not t) (1 + n) 0) (length (b ∷ bs))) (slice_split (λ b. eqb b line_feed) (drop (cond (not t) (1 + n) 0 + 1) (b ∷ bs))) []) [
      | true ↦ rw (less_zero (length bs)) refl
      | false ↦
          ap (onto_first b) (first_part bs)
          ∙ rw (take_more n b bs, less_one n (length bs), drop_two n b bs) refl
    ]

line_on : (front behind : List ℕ) → without_last_empty (front ∷ slice_split (λ b. eqb b line_feed) behind) ≡ front ∷ without_last_empty (slice_split (λ b. eqb b line_feed) behind)
line_on front behind = rw (first_part behind) refl

all_taken : (n : ℕ) (body : List ℕ) → length body ≤ n → take n body ≡ body
all_taken n body le = grind (arith, common_steps)

all_dropped : (n : ℕ) (body : List ℕ) → length body ≤ n → drop n body ≡ []
all_dropped n body le = grind (arith, common_steps)

lone_line : (body : List ℕ) → is_empty body ≡ false → without_last_empty (body ∷ []) ≡ body ∷ []
lone_line body some = rw some refl

-- a body that is not empty has a first line
pub first_of_lines : (body : List ℕ) → is_empty body ≡ false → body_lines body ≡ without_return (before_first (λ b. eqb b line_feed) body) ∷ body_lines (after_first (λ b. eqb b line_feed) body)
first_of_lines body some =
    let n = position_or_len (λ b. eqb b line_feed) body in
    ap (λ (x : List (List ℕ)). map without_return (without_last_empty x)) (first_part body)
    ∙ elim (ltb n (length body)) as (λ t. ltb n (length body) ≡ t → map without_return (without_last_empty (take n body ∷ cond t (slice_split (λ b. eqb b line_feed) (drop (n + 1) body)) [])) ≡ without_return (take n body) ∷ body_lines (drop (n + 1) body)) [
      | true ↦ λ _. ap (map without_return) (line_on (take n body) (drop (n + 1) body))
      | false ↦ λ t.
          let le : length body ≤ n = ltb-false _ _ t in
          rw (all_taken n body le, all_dropped (n + 1) body (omega (arith, le)), lone_line body some) refl
    ] refl

pub lines-shorter : (body : List ℕ) → is_empty body ≡ false → length (after_first (λ b. eqb b line_feed) body) < length body
lines-shorter [] some = absurd cc
lines-shorter (b ∷ bs) some = omega (arith, length-drop (position_or_len (λ b. eqb b line_feed) (b ∷ bs) + 1) (b ∷ bs))

first_no_feed : (body : List ℕ) → has_line_feed (before_first (λ b. eqb b line_feed) body) ≡ false
first_no_feed [] = refl
first_no_feed (b ∷ bs) =
    let n = position_or_len (λ b. eqb b line_feed) bs in
    elim (eqb b line_feed) as (λ t. eqb b line_feed ≡ t → has_line_feed (take (cond (not t) (1 + n) 0) (b ∷ bs)) ≡ false) [
      | true ↦ λ _. refl
      | false ↦ λ t. ap has_line_feed (take_more n b bs) ∙ rw t (first_no_feed bs)
    ] refl

return_no_feed : (line : List ℕ) → has_line_feed line ≡ false → has_line_feed (without_return line) ≡ false
return_no_feed [] none = refl
return_no_feed (b ∷ []) none = elim (eqb b carriage_return) as (λ t. has_line_feed (cond t [] (b ∷ [])) ≡ false) [ true ↦ refl | false ↦ none ]
return_no_feed (b ∷ c ∷ line) none =
    let here : eqb b line_feed ≡ false = first_false (eqb b line_feed) (has_line_feed (c ∷ line)) none in
    rw here (return_no_feed (c ∷ line) (second_false (eqb b line_feed) (has_line_feed (c ∷ line)) none))

pub line_no_feed : (body first line : List ℕ) → first ≡ before_first (λ b. eqb b line_feed) body → line ≡ without_return first → not (has_line_feed line) ≡ true
line_no_feed body first line first_is line_is = rw (line_is, first_is, return_no_feed (before_first (λ b. eqb b line_feed) body) (first_no_feed body)) refl

-- ---- the points of the lines

-- what was read before, and what is still read
abbrev pub onto : List PointValue → Result (List PointValue) BodyFault → Result (List PointValue) BodyFault
onto points read = read >>= λ more. Ok (points ++ more)

-- the points of the rest of a body complete those that are read; before it stand some lines
pub record LinesLeft (db rp : List ℕ) (mode : Mode) (before : ℕ) (done : List PointValue) (rest body : List ℕ) : Type 0 where
  pub same : onto done (points_of db rp mode (before + 1) (body_lines rest)) ≡ points_of db rp mode 1 (body_lines body)
  pub few : before + length rest ≤ length body
  -- the lines that are read
  pub lines : List (List ℕ)
  pub are : body_lines body ≡ lines ++ body_lines rest
  pub count : length lines ≡ before
  pub read : points_of db rp mode 1 lines ≡ Ok done

one_line : (db rp : List ℕ) (mode : Mode) (n : ℕ) (line : List ℕ) (lines : List (List ℕ)) (done new : List PointValue) → with_line done (line_of db rp mode line) ≡ Ok new → onto done (points_of db rp mode n (line ∷ lines)) ≡ onto new (points_of db rp mode (n + 1) lines)
unfolding points_of
one_line db rp mode n line lines done new added = by_read n done new (line_of db rp mode line) (points_of db rp mode (n + 1) lines) added
  where
    regroup : (done : List PointValue) (o : Option PointValue) (read : Result (List PointValue) BodyFault) → onto done (read >>= λ points. Ok (before_more o points)) ≡ onto (done ++ before_more o []) read
    regroup done (Some p) (Ok points) = ap (λ (x : List PointValue). Ok x) (sym (append_assoc done (p ∷ []) points))
    regroup done None (Ok points) = ap (λ (x : List PointValue). Ok (x ++ points)) (sym (append-nil done))
    regroup done o (Err f) = refl

    by_read : (n : ℕ) (done new : List PointValue) (r : Result (Option PointValue) LineFault) (read : Result (List PointValue) BodyFault) → with_line done r ≡ Ok new → onto done (at_line n r >>= λ point. read >>= λ points. Ok (before_more point points)) ≡ onto new read
    by_read n done new (Ok o) read added = regroup done o read ∙ ap (λ (x : List PointValue). onto x read) (ok_is {E = LineFault} (done ++ before_more o []) new added)
    by_read n done new (Err f) read added = absurd cc

all_left : (read : Result (List PointValue) BodyFault) → onto [] read ≡ read
all_left (Ok points) = refl
all_left (Err f) = refl

pub lines-start : (db rp : List ℕ) (mode : Mode) (done : List PointValue) (body : List ℕ) → done ≡ [] → LinesLeft db rp mode 0 done body body
unfolding points_of
lines-start db rp mode done body none = subst (λ (x : List PointValue). LinesLeft db rp mode 0 x body body) (sym none) (record {
  same = all_left (points_of db rp mode 1 (body_lines body));
  few = omega arith;
  lines = [];
  are = refl;
  count = refl;
  read = refl;
})

before_on : (o : Option PointValue) (points more : List PointValue) → before_more o (points ++ more) ≡ before_more o points ++ more
before_on (Some p) points more = refl
before_on None points more = refl

-- the points of one line more
points_on : (db rp : List ℕ) (mode : Mode) (n : ℕ) (lines : List (List ℕ)) (line : List ℕ) (done new : List PointValue) → points_of db rp mode n lines ≡ Ok done → with_line done (line_of db rp mode line) ≡ Ok new → points_of db rp mode n (lines ++ line ∷ []) ≡ Ok new
unfolding points_of
points_on db rp mode n [] line done new read added =
    let none : [] ≡ done = ok_is {E = BodyFault} [] done read in
    last n (line_of db rp mode line) (subst (λ (x : List PointValue). with_line x (line_of db rp mode line) ≡ Ok new) (sym none) added)
  where
    last : (n : ℕ) (r : Result (Option PointValue) LineFault) → with_line [] r ≡ Ok new → (at_line n r >>= λ point. Ok (before_more point [])) ≡ Ok new
    last n (Ok o) added = ap (λ (x : List PointValue). let r : Result (List PointValue) BodyFault = Ok x in r) (ok_is {E = LineFault} (before_more o []) new added)
    last n (Err f) added = absurd cc
points_on db rp mode n (l ∷ lines) line done new read added =
    let p = bind_ok (at_line n (line_of db rp mode l)) (λ point. points_of db rp mode (n + 1) lines >>= λ points. Ok (before_more point points)) done read in
    let more = bind_ok (points_of db rp mode (n + 1) lines) (λ points. Ok (before_more p.0 points)) done p.2 in
    let done_is : before_more p.0 more.0 ≡ done = ok_is {E = BodyFault} (before_more p.0 more.0) done more.2 in
    by_line p.0 more.0 (line_of db rp mode line) refl p.1 (subst (λ (x : List PointValue). with_line x (line_of db rp mode line) ≡ Ok new) (sym done_is) added) (λ later also. points_on db rp mode (n + 1) lines line more.0 later more.1 also)
  where
    by_line : (o : Option PointValue) (more : List PointValue) (r : Result (Option PointValue) LineFault) → line_of db rp mode line ≡ r → at_line n (line_of db rp mode l) ≡ Ok o → with_line (before_more o more) r ≡ Ok new → ((later : List PointValue) → with_line more (line_of db rp mode line) ≡ Ok later → points_of db rp mode (n + 1) (lines ++ line ∷ []) ≡ Ok later) → (at_line n (line_of db rp mode l) >>= λ point. points_of db rp mode (n + 1) (lines ++ line ∷ []) >>= λ points. Ok (before_more point points)) ≡ Ok new
    by_line o more (Err f) is first added again = absurd cc
    by_line o more (Ok q) is first added again =
        let rest : points_of db rp mode (n + 1) (lines ++ line ∷ []) ≡ Ok (more ++ before_more q []) = again (more ++ before_more q []) (ap (with_line more) is) in
        let new_is : before_more o more ++ before_more q [] ≡ new = ok_is {E = LineFault} (before_more o more ++ before_more q []) new added in
        rw (first, rest) (ap (λ (x : List PointValue). let r : Result (List PointValue) BodyFault = Ok x in r) (before_on o more (before_more q []) ∙ new_is))

pub lines-next : (db rp : List ℕ) (mode : Mode) (before : ℕ) (done new : List PointValue) (rest body first line behind : List ℕ) → LinesLeft db rp mode before done rest body → is_empty rest ≡ false → first ≡ before_first (λ b. eqb b line_feed) rest → behind ≡ after_first (λ b. eqb b line_feed) rest → line ≡ without_return first → with_line done (line_of db rp mode line) ≡ Ok new → LinesLeft db rp mode (before + 1) new behind body
lines-next db rp mode before done new rest body first line behind left some first_is behind_is line_is added =
    let cut : body_lines rest ≡ line ∷ body_lines behind = rw (line_is, first_is, behind_is) (first_of_lines rest some) in
    record {
      same = sym (one_line db rp mode (before + 1) line (body_lines behind) done new added) ∙ ap (λ (x : List (List ℕ)). onto done (points_of db rp mode (before + 1) x)) (sym cut) ∙ left.same;
      few = omega (arith, left.few, ap length behind_is, lines-shorter rest some);
      lines = left.lines ++ line ∷ [];
      are = left.are ∙ ap (λ (x : List (List ℕ)). left.lines ++ x) cut ∙ sym (append_assoc left.lines (line ∷ []) (body_lines behind));
      count = omega (arith, length-append left.lines (line ∷ []), left.count);
      read = points_on db rp mode 1 left.lines line done new left.read added;
    }

pub lines-reached : (db rp : List ℕ) (mode : Mode) (before : ℕ) (done : List PointValue) (rest body first line : List ℕ) → LinesLeft db rp mode before done rest body → is_empty rest ≡ false → first ≡ before_first (λ b. eqb b line_feed) rest → line ≡ without_return first → ReachesLine db rp mode body (before + 1)
lines-reached db rp mode before done rest body first line left some first_is line_is =
    let cut : body_lines rest ≡ line ∷ body_lines (after_first (λ b. eqb b line_feed) rest) = rw (line_is, first_is) (first_of_lines rest some) in
    record {
      before = left.lines;
      line = line;
      behind = body_lines (after_first (λ b. eqb b line_feed) rest);
      points = done;
      lines_are = left.are ∙ ap (λ (x : List (List ℕ)). left.lines ++ x) cut;
      number = ap (λ (n : ℕ). n + 1) (sym left.count);
      read = left.read;
    }

pub lines-fail : (db rp : List ℕ) (mode : Mode) (before : ℕ) (done : List PointValue) (rest body first line : List ℕ) (f : LineFault) → LinesLeft db rp mode before done rest body → is_empty rest ≡ false → first ≡ before_first (λ b. eqb b line_feed) rest → line ≡ without_return first → line_of db rp mode line ≡ Err f → points_of db rp mode 1 (body_lines body) ≡ Err (record { line = before + 1; fault = f })
unfolding points_of
lines-fail db rp mode before done rest body first line f left some first_is line_is read =
    let cut : body_lines rest ≡ line ∷ body_lines (after_first (λ b. eqb b line_feed) rest) = rw (line_is, first_is) (first_of_lines rest some) in
    sym left.same ∙ ap (λ (x : List (List ℕ)). onto done (points_of db rp mode (before + 1) x)) cut ∙ rw read refl

pub lines-end : (db rp : List ℕ) (mode : Mode) (before : ℕ) (done : List PointValue) (rest body : List ℕ) → LinesLeft db rp mode before done rest body → is_empty rest ≡ true → points_of db rp mode 1 (body_lines body) ≡ Ok done
unfolding points_of
lines-end db rp mode before done [] body left none = sym left.same ∙ ap (λ (x : List PointValue). Ok x) (append-nil done)
lines-end db rp mode before done (b ∷ rest) body left none = absurd cc
