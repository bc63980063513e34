-- Runs of parts, seen as one run.
use Rattle.std.proofs.Common.{◌≡◌, ℕ, ◌<◌, Bool, false, List, [], ◌∷◌, ◌++◌, drop, length, map, take, refl, sym, ap, subst, ◌∙◌, append_assoc, append-nil, arith}
use Rattle.std.specs.List.{AllByRecursion as Each, AllZip, flat_map, remove}
use Rattle.std.specs.Prelude.{slice_index_or}
use Rattle.std.proofs.lemmas.List.{map-append, take-append-drop}
use Rattle.std.proofs.lemmas.List.Concat.{flat_map-append}
use Rattle.kap_base.specs.Points.{PointValue}
use Rattle.kap_base.specs.declared.items.Effect.{Effect}
use Rattle.effect_text.specs.declared.names.TaskNames.{TaskNames}
use Rattle.effect_text.specs.Pieces.{PieceValue, by_stamp, piece_of}
use Rattle.node_core.specs.declared.node.Node.{Ghosts}
use Rattle.node_core.specs.Meaning.{Answer}
use Rattle.flow_life.proofs.SplitLaws.{each-append}
use Rattle.flow_core.specs.Carried.{HasCarried}
use Rattle.flow_core.specs.Gathering.{LivesRise}
use Rattle.flow_core.specs.Making.{HasFewParents}
use Rattle.flow_core.specs.Nets.{NetValue}
use Rattle.flow_core.specs.Rooms.{HasRoomIn}
use Rattle.net_run.specs.Runs.{NetRunValue}
use Rattle.task_run.specs.Courses.{from_first, later_effects}
use Rattle.task_run.specs.Graphs.{Placed, graph_gives}
use Rattle.task_run.specs.Lives.{dropped_of, effects_of}
use Rattle.task_run.specs.Plans.{AreFirstStates, PlanValue, graph_of}
use Rattle.kap_server.proofs.PartLaws.{laters_by_stamp, rise_behind, rise_first}
use Rattle.kap_server.specs.Parts.{AreBeside, AreOne, HasHad, HasJoined, HasTold, IsToldInParts, capacity_of_runs, does_with, dropped_of_runs, first_run, lives_of_runs, points_of_runs, with_points}

each-first : {A : Type 0} (Q : A → Type 0) (xs ys : List A) → Each Q (xs ++ ys) → Each Q xs
each-first Q [] ys h = tt
each-first Q (x ∷ xs) ys h = (h.0, each-first Q xs ys h.1)

each-behind : {A : Type 0} (Q : A → Type 0) (xs ys : List A) → Each Q (xs ++ ys) → Each Q ys
each-behind Q [] ys h = h
each-behind Q (x ∷ xs) ys h = each-behind Q xs ys h.1

-- what holds of two values holds of those that they are
pub carried : {X : Type 0} {x y was ended : X} → was ≡ x → ended ≡ y → (R : X → X → Type 0) → R was ended → R x y
carried {X} {x} {y} {was} {ended} from to R h = subst (λ (z : X). R x z) to (subst (λ (z : X). R z ended) from h)

-- the first of some, and the others
pub first_and_rest : {X : Type 0} (xs : List X) (x : X) → 0 < length xs → x ≡ slice_index_or xs 0 x → xs ≡ x ∷ remove xs 0
first_and_rest [] x some is = absurd (omega (arith, some))
first_and_rest (y ∷ xs) x some is = ap (λ z. z ∷ xs) (sym is)

-- ---- one run of several

module _ {P : Type 0} where
  -- runs that have had the same are one
  pub one_of : (points : List PointValue) (capacity : ℕ) (runs : List (NetRunValue P)) → AreBeside points capacity runs → AreOne runs
  one_of points capacity [] b = absurd (let some = b.some in omega (arith, some))
  one_of points capacity (r ∷ runs) b = record {
    some = b.some;
    had = subst (λ (ps : List PointValue). Each (HasHad ps r.capacity) (r ∷ runs)) (sym b.had.0.points_are)
        (subst (λ (n : ℕ). Each (HasHad points n) (r ∷ runs)) (sym b.had.0.capacity_is) b.had);
  }

  -- new points change no lives
  pub lives_with : (new : List PointValue) (runs : List (NetRunValue P)) → lives_of_runs (map (with_points new) runs) ≡ lives_of_runs runs
  lives_with new [] = refl
  lives_with new (r ∷ runs) = ap (λ (l : List (List (Placed P))). r.lives ++ l) (lives_with new runs)

  had-with : (points new : List PointValue) (capacity : ℕ) (runs : List (NetRunValue P)) → Each (HasHad points capacity) runs → Each (HasHad (points ++ new) capacity) (map (with_points new) runs)
  had-with points new capacity [] h = tt
  had-with points new capacity (r ∷ runs) h =
      (record { points_are = ap (λ (ps : List PointValue). ps ++ new) h.0.points_are; capacity_is = h.0.capacity_is; unspent = refl }, had-with points new capacity runs h.1)

  -- behind them they are one run again, which has had them too
  pub beside_with : (new : List PointValue) (runs : List (NetRunValue P)) → AreOne runs → AreBeside (points_of_runs runs ++ new) (capacity_of_runs runs) (map (with_points new) runs)
  beside_with new [] b = absurd (let some = b.some in omega (arith, some))
  beside_with new (r ∷ runs) b = record {
    some = omega arith;
    had = had-with r.points new r.capacity (r ∷ runs) b.had;
  }

  -- the lives of one run are those of its parts
  lives-in-parts : (runs : List (NetRunValue P)) → lives_of_runs runs ≡ flat_map (λ part. part) (map (λ r. r.lives) runs)
  lives-in-parts [] = refl
  lives-in-parts (r ∷ runs) = ap (λ (l : List (List (Placed P))). r.lives ++ l) (lives-in-parts runs)

  had-points : (points : List PointValue) (capacity : ℕ) (runs : List (NetRunValue P)) → Each (HasHad points capacity) runs → Each (λ r. r.points ≡ points) runs
  had-points points capacity [] h = tt
  had-points points capacity (r ∷ runs) h = (h.0.points_are, had-points points capacity runs h.1)

  had-capacity : (points : List PointValue) (capacity : ℕ) (runs : List (NetRunValue P)) → Each (HasHad points capacity) runs → Each (λ r. r.capacity ≡ capacity) runs
  had-capacity points capacity [] h = tt
  had-capacity points capacity (r ∷ runs) h = (h.0.capacity_is, had-capacity points capacity runs h.1)

  module _ (answer : P → Answer) where
    -- what the nodes of all dropped is what those of each dropped
    pub dropped_all : (points : List PointValue) (capacity : ℕ) (runs : List (NetRunValue P)) → Each (HasHad points capacity) runs → dropped_of_runs answer runs ≡ dropped_of answer (lives_of_runs runs) points
    dropped_all points capacity [] h = refl
    dropped_all points capacity (r ∷ runs) h =
        ap (λ (ps : List PointValue). dropped_of answer r.lives ps ++ dropped_of_runs answer runs) h.0.points_are
        ∙ ap (λ (l : List (List ℕ)). dropped_of answer r.lives points ++ l) (dropped_all points capacity runs h.1)
        ∙ sym (map-append (λ (nodes : List (Placed P)). map (λ g. g.drops) (graph_gives answer points nodes)) r.lives (lives_of_runs runs))

-- ---- parts

module _ {X P : Type 0} (run : X → NetRunValue P) where
  pub unspent_all : (points : List PointValue) (capacity : ℕ) (xs : List X) → Each (HasHad points capacity) (map run xs) → Each (λ x. (run x).spent ≡ false) xs
  unspent_all points capacity [] h = tt
  unspent_all points capacity (x ∷ xs) h = (h.0.unspent, unspent_all points capacity xs h.1)

  -- one part more
  lives-more : (xs : List X) (x : X) → lives_of_runs (map run (xs ++ x ∷ [])) ≡ lives_of_runs (map run xs) ++ (run x).lives
  lives-more xs x =
      ap lives_of_runs (map-append run xs (x ∷ []))
      ∙ flat_map-append (λ (r : NetRunValue P). r.lives) (map run xs) (run x ∷ [])
      ∙ ap (λ (l : List (List (Placed P))). lives_of_runs (map run xs) ++ l) (append-nil (run x).lives)

  module _ (answer : P → Answer) where
    -- what the one part does is what all lives do
    pub alone_does : (new : List PointValue) (effects : List Effect) (xs : List X) → length xs ≡ 1
        → Each (λ x. effects_of answer (run x).lives ((run x).points ++ new) ≡ effects_of answer (run x).lives (run x).points ++ effects) xs
        → effects_of answer (lives_of_runs (map run xs)) (points_of_runs (map run xs) ++ new) ≡ effects_of answer (lives_of_runs (map run xs)) (points_of_runs (map run xs)) ++ effects
    alone_does new effects [] one did = absurd (omega (arith, one))
    alone_does new effects (x ∷ []) one did =
        subst (λ (lives : List (List (Placed P))). effects_of answer lives ((run x).points ++ new) ≡ effects_of answer lives (run x).points ++ effects) (sym (append-nil (run x).lives)) did.0
    alone_does new effects (x ∷ y ∷ xs) one did = absurd (omega (arith, one))

    module _ (told : X → List PieceValue) (failed : X → Bool) (names : List TaskNames) (new : List PointValue) where
      -- parts that have told what they do have had the points
      pub runs_gone : (xs ys : List X) → AllZip (λ p q. failed q ≡ false → HasTold answer names new (run p) (run q) (told q)) xs ys → Each (λ q. failed q ≡ false) ys
          → map run ys ≡ map (with_points new) (map run xs)
      runs_gone [] [] z fine = refl
      runs_gone [] (y ∷ ys) z fine = absurd z
      runs_gone (x ∷ xs) [] z fine = absurd z
      runs_gone (x ∷ xs) (y ∷ ys) z fine =
          ap (λ (r : NetRunValue P). r ∷ map run ys) (z.0 fine.0).on ∙ ap (λ (rs : List (NetRunValue P)). with_points new (run x) ∷ rs) (runs_gone xs ys z.1 fine.1)

      told-by_stamp : (points : List PointValue) (capacity : ℕ) (xs ys : List X) → AllZip (λ p q. failed q ≡ false → HasTold answer names new (run p) (run q) (told q)) xs ys → Each (λ q. failed q ≡ false) ys
          → Each (HasHad points capacity) (map run xs)
          → map told ys ≡ map (λ f. map (piece_of names) (by_stamp (length points) (length new) f)) (map (does_with answer names (points ++ new)) (map (λ r. r.lives) (map run xs)))
      told-by_stamp points capacity [] [] z fine had = refl
      told-by_stamp points capacity [] (y ∷ ys) z fine had = absurd z
      told-by_stamp points capacity (x ∷ xs) [] z fine had = absurd z
      told-by_stamp points capacity (x ∷ xs) (y ∷ ys) z fine had =
          let lives : List (List (Placed P)) = (run x).lives in
          let does : ℕ → List Effect = does_with answer names (points ++ new) lives in
          let is : told y ≡ map (piece_of names) (by_stamp (length points) (length new) does) =
          (z.0 fine.0).is
          ∙ ap (λ (ps : List PointValue). map (piece_of names) (later_effects answer (length ps) (length new) (from_first (ps ++ new) lives))) had.0.points_are
          ∙ ap (map (piece_of names)) (sym (laters_by_stamp (length points) (length new) does)) in
          ap (λ (l : List PieceValue). l ∷ map told ys) is
          ∙ ap (λ (ls : List (List PieceValue)). map (piece_of names) (by_stamp (length points) (length new) does) ∷ ls) (told-by_stamp points capacity xs ys z.1 fine.1 had.1)

      -- and what they tell is what all lives do, in parts
      pub told_in_parts : (points : List PointValue) (capacity : ℕ) (xs ys : List X) → AllZip (λ p q. failed q ≡ false → HasTold answer names new (run p) (run q) (told q)) xs ys → Each (λ q. failed q ≡ false) ys
          → Each (HasHad points capacity) (map run xs) → IsToldInParts answer names points new (lives_of_runs (map run xs)) (map told ys)
      told_in_parts points capacity xs ys z fine had = record {
        parts = map (λ r. r.lives) (map run xs);
        are = lives-in-parts (map run xs);
        is = told-by_stamp points capacity xs ys z fine had;
      }

-- ---- nets

module _ {N P S X : Type 0} (g : Ghosts N P S) (run : X → NetRunValue P) where
  -- the lives of one run more stand behind a net that has those of others
  pub joined_more : (xs : List X) (x : X) (old mid new net : NetValue N) → HasJoined g (map run xs) old mid → HasCarried g (run x).lives (run x).points net → Each (HasRoomIn (run x).capacity) net.lives
      → ((points : List PointValue) (ours theirs : List (List (Placed P))) → HasCarried g ours points mid → HasCarried g theirs points net → HasCarried g (ours ++ theirs) points new)
      → ((capacity : ℕ) → Each (HasRoomIn capacity) mid.lives → Each (HasRoomIn capacity) net.lives → Each (HasRoomIn capacity) new.lives)
      → HasJoined g (map run (xs ++ x ∷ [])) old new
  joined_more xs x old mid new net joined carried room both roomy =
      let runs : List (NetRunValue P) = map run xs in
      subst (λ (rs : List (NetRunValue P)). HasJoined g rs old new) (sym (map-append run xs (x ∷ []))) (record {
        carried = λ lives points had each.
            let own : HasCarried g (run x).lives points net = subst (λ (ps : List PointValue). HasCarried g (run x).lives ps net) (each-behind (λ (r : NetRunValue P). r.points ≡ points) runs (run x ∷ []) each).0 carried in
            let all : HasCarried g ((lives ++ lives_of_runs runs) ++ (run x).lives) points new = both points (lives ++ lives_of_runs runs) (run x).lives (joined.carried lives points had (each-first (λ (r : NetRunValue P). r.points ≡ points) runs (run x ∷ []) each)) own in
            subst (λ (ls : List (List (Placed P))). HasCarried g ls points new)
            (append_assoc lives (lives_of_runs runs) (run x).lives
            ∙ ap (λ (l : List (List (Placed P))). lives ++ l) (ap (λ (l : List (List (Placed P))). lives_of_runs runs ++ l) (sym (append-nil (run x).lives)) ∙ sym (flat_map-append (λ (r : NetRunValue P). r.lives) runs (run x ∷ []))))
            all;
        room = λ capacity had each.
            let own : Each (HasRoomIn capacity) net.lives = subst (λ (n : ℕ). Each (HasRoomIn n) net.lives) (each-behind (λ (r : NetRunValue P). r.capacity ≡ capacity) runs (run x ∷ []) each).0 room in
            roomy capacity (joined.room capacity had (each-first (λ (r : NetRunValue P). r.capacity ≡ capacity) runs (run x ∷ []) each)) own;
      })

  -- so the net of the first of some parts has all lives, where those of the others stand behind its own
  pub joined_all : (xs rest : List X) (x : X) (net all : NetValue N) → xs ≡ x ∷ rest → AreOne (map run xs) → HasCarried g (run x).lives (run x).points net → Each (HasRoomIn (run x).capacity) net.lives
      → HasJoined g (map run rest) net all → HasCarried g (lives_of_runs (map run xs)) (points_of_runs (map run xs)) all × Each (HasRoomIn (capacity_of_runs (map run xs))) all.lives
  joined_all xs rest x net all is one carried room joined =
      let own : AreOne (map run (x ∷ rest)) = subst (λ (ys : List X). AreOne (map run ys)) is one in
      subst (λ (ys : List X). HasCarried g (lives_of_runs (map run ys)) (points_of_runs (map run ys)) all × Each (HasRoomIn (capacity_of_runs (map run ys))) all.lives) (sym is) (
        joined.carried (run x).lives (run x).points carried (had-points (run x).points (run x).capacity (map run rest) own.had.1),
        joined.room (run x).capacity room (had-capacity (run x).points (run x).capacity (map run rest) own.had.1),
      )

-- ---- plans in parts

module _ {N P S : Type 0} (spec : N → P) (state : N → S) (first : P → S) (life number : P → ℕ) where
  -- a run of these plans can begin
  pub record CanBegin (plans : List (PlanValue N)) : Type 0 where
    pub begin : AreFirstStates spec state first plans
    pub rise : LivesRise life number 1 (map (graph_of spec) plans)
    pub few : Each HasFewParents plans

  begin-first : (xs ys : List (PlanValue N)) → AreFirstStates spec state first (xs ++ ys) → AreFirstStates spec state first xs
  begin-first [] ys h = tt
  begin-first (x ∷ xs) ys h = (h.0, begin-first xs ys h.1)

  begin-behind : (xs ys : List (PlanValue N)) → AreFirstStates spec state first (xs ++ ys) → AreFirstStates spec state first ys
  begin-behind [] ys h = h
  begin-behind (x ∷ xs) ys h = begin-behind xs ys h.1

  can-first : (xs ys : List (PlanValue N)) → CanBegin (xs ++ ys) → CanBegin xs
  can-first xs ys can = record {
    begin = begin-first xs ys can.begin;
    rise = rise_first life number 1 (map (graph_of spec) xs) (map (graph_of spec) ys) (subst (LivesRise life number 1) (map-append (graph_of spec) xs ys) can.rise);
    few = each-first HasFewParents xs ys can.few;
  }

  can-behind : (xs ys : List (PlanValue N)) → CanBegin (xs ++ ys) → CanBegin ys
  can-behind xs ys can = record {
    begin = begin-behind xs ys can.begin;
    rise = rise_behind life number 1 (map (graph_of spec) xs) (map (graph_of spec) ys) (subst (LivesRise life number 1) (map-append (graph_of spec) xs ys) can.rise);
    few = each-behind HasFewParents xs ys can.few;
  }

  -- and so can one of the first of them, and one of the others
  pub can_first : (size : ℕ) (plans : List (PlanValue N)) → CanBegin plans → CanBegin (take size plans)
  can_first size plans can = can-first (take size plans) (drop size plans) (subst CanBegin (sym (take-append-drop size plans)) can)

  pub can_behind : (size : ℕ) (plans : List (PlanValue N)) → CanBegin plans → CanBegin (drop size plans)
  can_behind size plans can = can-behind (take size plans) (drop size plans) (subst CanBegin (sym (take-append-drop size plans)) can)

  -- a part of the first of some plans behind others leaves those behind them
  pub lives_parted : {X : Type 0} (run : X → NetRunValue P) (capacity size : ℕ) (parts : List X) (part : X) (plans : List (PlanValue N)) → run part ≡ first_run capacity (map (graph_of spec) (take size plans))
      → lives_of_runs (map run (parts ++ part ∷ [])) ++ map (graph_of spec) (drop size plans) ≡ lives_of_runs (map run parts) ++ map (graph_of spec) plans
  lives_parted run capacity size parts part plans is =
      let graphs : List (PlanValue N) → List (List (Placed P)) = map (graph_of spec) in
      ap (λ (l : List (List (Placed P))). l ++ graphs (drop size plans)) (lives-more run parts part)
      ∙ ap (λ (r : NetRunValue P). (lives_of_runs (map run parts) ++ r.lives) ++ graphs (drop size plans)) is
      ∙ append_assoc (lives_of_runs (map run parts)) (graphs (take size plans)) (graphs (drop size plans))
      ∙ ap (λ (l : List (List (Placed P))). lives_of_runs (map run parts) ++ l) (sym (map-append (graph_of spec) (take size plans) (drop size plans)) ∙ ap graphs (take-append-drop size plans))

  pub had_parted : {X : Type 0} (run : X → NetRunValue P) (capacity : ℕ) (parts : List X) (part : X) (lives : List (List (Placed P))) → run part ≡ first_run capacity lives
      → Each (HasHad [] capacity) (map run parts) → Each (HasHad [] capacity) (map run (parts ++ part ∷ []))
  had_parted run capacity parts part lives is had =
      subst (Each (HasHad [] capacity)) (sym (map-append run parts (part ∷ [])))
      (each-append (HasHad [] capacity) (map run parts) (run part ∷ []) had
      (record { points_are = ap (λ (r : NetRunValue P). r.points) is; capacity_is = ap (λ (r : NetRunValue P). r.capacity) is; unspent = ap (λ (r : NetRunValue P). r.spent) is }, tt))
