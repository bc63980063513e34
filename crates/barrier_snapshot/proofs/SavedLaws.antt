-- What a cell has saved is the state in which its node was at the barrier.
use Rattle.std.proofs.Common.{◌≡◌, ◌^◌, ℕ, zero, suc, ◌<◌, List, [], ◌∷◌, ◌++◌, length, map, None, Some, refl, sym, ap, subst, ◌∙◌, inl, inr, arith}
use Rattle.std.specs.Prelude.{slice_index_or}
use Rattle.std.specs.Int.{w32}
use Rattle.std.specs.List.{AllByRecursion as Each, AllZip, flat_map}
use Rattle.std.proofs.lemmas.List.{map-append}
use Rattle.kap_base.specs.declared.items.Item.{Item}
use Rattle.kap_base.specs.declared.items.Msg.{Msg}
use Rattle.kap_base.specs.declared.items.Msg.TheVariants as messages
use Rattle.kap_base.specs.declared.items.Stamp.{Stamp}
use Rattle.node_core.specs.declared.node.Node.{Ghosts}
use Rattle.node_core.specs.Meaning.{Input, Move}
use Rattle.merge_node.specs.Merge.{Entry, Lists, barriers, of_parent}
use Rattle.merge_node.specs.Buffers.{Merges, Taken, done, more, next}
use Rattle.flow_cells.specs.declared.parts.CellParts.{CellParts}
use Rattle.flow_cells.specs.declared.parts.InEdge.{InEdge}
use Rattle.flow_cells.specs.Runs.{Run, begun, reacted, run}
use Rattle.flow_cells.specs.Kept.{HasKept, Keeps, Spells, SpellsSaved, received_of, run_of}
use Rattle.flow_life.specs.Making.{nodes_of}
use Rattle.flow_core.specs.Making.{AreLivesBehind}
use Rattle.flow_core.specs.Nets.{NetValue, NumberedLife}
use Rattle.state_code.specs.Spelling.{AllFit, FitsBytes, IsSpelling, spell_bytes, spell_list, spell_number}
use Rattle.task_run.specs.Plans.{PlanValue}
use Rattle.barrier_snapshot.specs.Barriers.{EndsAt, HasPassed, HavePassed, IsCaptureAt, NeverChanges, WasAt, before_it, cells_in, with_it}
use Rattle.barrier_snapshot.specs.Captures.{AreStatesOf, IsCapture, in_lives, spellings}
use Rattle.barrier_snapshot.specs.Capturing.{PutsCells}
use Rattle.barrier_snapshot.specs.Passing.{StandAt}
use Rattle.barrier_snapshot.specs.Restoring.{Restores}
use Rattle.barrier_snapshot.proofs.ReadLaws.{one_capture}

-- ---- the last barrier of a run

module _ {S : Type 0} (step : S → Input → Move S) where
  -- a list has no barrier, or what is saved is the state at its last one
  data Last (r : Run S) (xs : List Entry) : Type 0 where
    without : (run step r xs).saved ≡ r.saved → (run step r xs).passed ≡ r.passed → Last r xs
    with_one : (ys zs : List Entry) (k : ℕ) (b : Stamp) → xs ≡ (ys ++ (k, messages.Barrier b) ∷ []) ++ zs → (run step r xs).saved ≡ (run step r (ys ++ (k, messages.Barrier b) ∷ [])).state → (run step r xs).passed ≡ b → Last r xs

  last-item : (r : Run S) (k : ℕ) (x : Item) (xs : List Entry) → Last (reacted step r k (messages.Item x)) xs → Last r ((k, messages.Item x) ∷ xs)
  last-item r k x xs (without saved passed) = without saved passed
  last-item r k x xs (with_one ys zs j b is saved passed) = with_one ((k, messages.Item x) ∷ ys) zs j b (ap (λ (l : List Entry). (k, messages.Item x) ∷ l) is) saved passed

  last-barrier : (r : Run S) (k : ℕ) (b : Stamp) (xs : List Entry) → Last (reacted step r k (messages.Barrier b)) xs → Last r ((k, messages.Barrier b) ∷ xs)
  last-barrier r k b xs (without saved passed) = with_one [] xs k b refl saved passed
  last-barrier r k b xs (with_one ys zs j c is saved passed) = with_one ((k, messages.Barrier b) ∷ ys) zs j c (ap (λ (l : List Entry). (k, messages.Barrier b) ∷ l) is) saved passed

  last_of : (r : Run S) (xs : List Entry) → Last r xs
  last_of r [] = without refl refl
  last_of r ((k, messages.Item x) ∷ xs) = last-item r k x xs (last_of (reacted step r k (messages.Item x)) xs)
  last_of r ((k, messages.Barrier b) ∷ xs) = last-barrier r k b xs (last_of (reacted step r k (messages.Barrier b)) xs)

  -- where no input changes the state, it is the same at each barrier
  steady : ((s : S) (x : Input) → (step s x).state ≡ s) → (r : Run S) (xs : List Entry) → r.saved ≡ r.state → ((run step r xs).state ≡ r.state) × ((run step r xs).saved ≡ r.state)
  steady never r [] e = (refl, e)
  steady never r ((k, messages.Item x) ∷ xs) e =
      let here = never r.state (k, x) in
      let rest = steady never (reacted step r k (messages.Item x)) xs (e ∙ sym here) in
      (rest.0 ∙ here, rest.1 ∙ here)
  steady never r ((k, messages.Barrier b) ∷ xs) e = steady never (reacted step r k (messages.Barrier b)) xs refl

-- ---- a stream's cell has handled its load

next-one : (m : Msg) (l : List Msg) → next ((m ∷ l) ∷ []) ≡ Some (record { parent = 0; msg = m; rest = l ∷ [] })
unfolding next
next-one (messages.Item x) l = refl
next-one (messages.Barrier b) l = refl

next-none : next ([] ∷ []) ≡ None
unfolding next
next-none = refl

same_taken : (s t : Taken) → Some s ≡ Some t → s ≡ t
same_taken s t e = cc

handled_all : (l : List Msg) (ms : List Entry) (rest : Lists) → Merges (l ∷ []) ms rest → next rest ≡ None → ms ≡ of_parent 0 l
handled_all [] [] rest done stuck = refl
handled_all (m ∷ l) [] rest done stuck = let some = next-one m l in absurd cc
handled_all [] (x ∷ ms) rest (more t e behind) stuck = let none = next-none in absurd cc
handled_all (m ∷ l) (x ∷ ms) rest (more t e behind) stuck =
    let is = same_taken t (record { parent = 0; msg = m; rest = l ∷ [] }) (sym e ∙ next-one m l) in
    let others = handled_all l ms rest (subst (λ (ls : Lists). Merges ls ms rest) (ap (λ (s : Taken). s.rest) is) behind) stuck in
    ap (λ (s : Taken). (s.parent, s.msg) ∷ ms) is ∙ ap (λ (es : List Entry). (0, m) ∷ es) others

-- a list of messages up to a barrier, and behind it
record Cut (upto : Stamp) (msgs : List Msg) : Type 0 where
  front : List Msg
  behind : List Msg
  is : msgs ≡ (front ++ messages.Barrier upto ∷ []) ++ behind

cut : (upto : Stamp) (msgs : List Msg) (k : ℕ) → k < length (barriers msgs) → slice_index_or (barriers msgs) k upto ≡ upto → Cut upto msgs
cut upto [] k lt e = absurd (omega (arith, lt))
cut upto (messages.Item x ∷ msgs) k lt e =
    let c = cut upto msgs k lt e in
    record { front = messages.Item x ∷ c.front; behind = c.behind; is = ap (λ (l : List Msg). messages.Item x ∷ l) c.is }
cut upto (messages.Barrier b ∷ msgs) zero lt e = record { front = []; behind = msgs; is = ap (λ (t : Stamp). messages.Barrier t ∷ msgs) e }
cut upto (messages.Barrier b ∷ msgs) (suc k) lt e =
    let c = cut upto msgs k (omega (arith, lt)) e in
    record { front = messages.Barrier b ∷ c.front; behind = c.behind; is = ap (λ (l : List Msg). messages.Barrier b ∷ l) c.is }

-- ---- a cell

module _ {N P S : Type 0} (g : Ghosts N P S) where
  -- bytes spell a state in which the node was at the barrier
  pub record Saved (upto : Stamp) (c : CellParts N) (bytes : List ℕ) : Type 0 where
    pub state : S
    pub was : WasAt g upto c state
    pub spells : Spells g (g.spec c.core.node) state bytes

  was-last : (upto : Stamp) (c : CellParts N) (keeps : Keeps g c) → c.core.passed ≡ upto → Last (g.step (g.spec c.base.value.node)) (begun (g.state c.base.value.node) c.base.value.passed) keeps.handled → WasAt g upto c (run_of g c.base.value keeps.handled).saved
  was-last upto c keeps e (without saved passed) = record {
    before = [];
    after = keeps.handled;
    merged = keeps.merged;
    ends = before_it (sym passed ∙ sym keeps.at.passed ∙ e);
    is = saved;
  }
  was-last upto c keeps e (with_one ys zs k b is saved passed) = record {
    before = ys ++ (k, messages.Barrier b) ∷ [];
    after = zs;
    merged = subst (λ (ms : List Entry). Merges (received_of c.ins.items c.source.value.items) ms c.buffer) is keeps.merged;
    ends = subst (λ (t : Stamp). EndsAt upto c.base.value.passed (ys ++ (k, messages.Barrier t) ∷ [])) (sym (sym passed ∙ sym keeps.at.passed ∙ e)) (with_it ys k);
    is = saved;
  }

  -- where the barrier is the last one that was passed
  saved_last : (upto : Stamp) (c : CellParts N) (bytes : List ℕ) → SpellsSaved g c bytes → c.core.passed ≡ upto → Saved upto c bytes
  saved_last upto c bytes s e = record {
    state = (run_of g c.base.value s.keeps.handled).saved;
    was = was-last upto c s.keeps e (last_of (g.step (g.spec c.base.value.node)) (begun (g.state c.base.value.node) c.base.value.passed) s.keeps.handled);
    spells = s.spells;
  }

  was-load : (upto : Stamp) (c : CellParts N) (keeps : Keeps g c) → NeverChanges g (g.spec c.base.value.node) → c.base.value.passed ≡ upto → WasAt g upto c (run_of g c.base.value keeps.handled).saved
  was-load upto c keeps never e = record {
    before = [];
    after = keeps.handled;
    merged = keeps.merged;
    ends = before_it e;
    is = (steady (g.step (g.spec c.base.value.node)) never (begun (g.state c.base.value.node) c.base.value.passed) keeps.handled refl).1;
  }

  was-cut : (upto : Stamp) (c : CellParts N) (keeps : Keeps g c) → c.ins.items ≡ [] → NeverChanges g (g.spec c.base.value.node) → Cut upto c.source.value.items → WasAt g upto c (run_of g c.base.value keeps.handled).saved
  was-cut upto c keeps none never at =
      let source = c.source.value.items in
      let first = begun (g.state c.base.value.node) c.base.value.passed in
      let step = g.step (g.spec c.base.value.node) in
      let own : Merges (source ∷ []) keeps.handled c.buffer = subst (λ (ins : List InEdge). Merges (received_of ins source) keeps.handled c.buffer) none keeps.merged in
      let tag : Msg → Entry = λ m. (0, m) in
      let front = map tag at.front ++ (0, messages.Barrier upto) ∷ [] in
      let split : keeps.handled ≡ front ++ map tag at.behind =
      handled_all source keeps.handled c.buffer own keeps.stuck
      ∙ ap (map tag) at.is
      ∙ map-append tag (at.front ++ messages.Barrier upto ∷ []) at.behind
      ∙ ap (λ (l : List Entry). l ++ map tag at.behind) (map-append tag at.front (messages.Barrier upto ∷ [])) in
      record {
        before = front;
        after = map tag at.behind;
        merged = subst (λ (ms : List Entry). Merges (received_of c.ins.items source) ms c.buffer) split keeps.merged;
        ends = with_it (map tag at.front) 0;
        is = (steady step never first keeps.handled refl).1 ∙ sym (steady step never first front refl).0;
      }

  saved-passed : (upto : Stamp) (c : CellParts N) (bytes : List ℕ) (ins : List InEdge) → c.ins.items ≡ ins → SpellsSaved g c bytes → HasPassed g upto c ins → Saved upto c bytes
  saved-passed upto c bytes (e ∷ ins) is s passed = saved_last upto c bytes s passed.1
  saved-passed upto c bytes [] is s (kept, inl passed) = saved_last upto c bytes s passed
  saved-passed upto c bytes [] is s (kept, inr (inl at_load, never)) = record {
    state = (run_of g c.base.value s.keeps.handled).saved;
    was = was-load upto c s.keeps (subst (NeverChanges g) s.keeps.at.spec never) at_load;
    spells = s.spells;
  }
  saved-passed upto c bytes [] is s (kept, inr (inr within, never)) = record {
    state = (run_of g c.base.value s.keeps.handled).saved;
    was = was-cut upto c s.keeps is (subst (NeverChanges g) s.keeps.at.spec never) (cut upto c.source.value.items within.0 within.1 within.2);
    spells = s.spells;
  }

  -- ---- all cells

  -- byte strings spell the states in which the nodes of cells were
  pub record AllSaved (upto : Stamp) (cells : List (CellParts N)) (all : List (List ℕ)) : Type 0 where
    pub states : List S
    pub were : AllZip (WasAt g upto) cells states
    pub fit : AreStatesOf g.fits g.spell (map (λ c. g.spec c.core.node) cells) states
    pub are : all ≡ spellings g.fits g.spell (map (λ c. g.spec c.core.node) cells) states
    pub many : length all ≡ length cells

  pub all_saved : (upto : Stamp) (cells : List (CellParts N)) (all : List (List ℕ)) → AllZip (SpellsSaved g) cells all → HavePassed g upto cells → AllSaved upto cells all
  all_saved upto [] [] z passed = record { states = []; were = tt; fit = tt; are = refl; many = refl }
  all_saved upto [] (bytes ∷ all) z passed = absurd z
  all_saved upto (c ∷ cells) [] z passed = absurd z
  all_saved upto (c ∷ cells) (bytes ∷ all) z passed =
      let own = saved-passed upto c bytes c.ins.items refl z.0 passed.0 in
      let others = all_saved upto cells all z.1 passed.1 in
      record {
        states = own.state ∷ others.states;
        were = (own.was, others.were);
        fit = (own.spells.fits, others.fit);
        are = ap (λ (l : List ℕ). l ∷ all) own.spells.is ∙ ap (λ (ls : List (List ℕ)). g.spell (g.spec c.core.node) own.state ∷ ls) others.are;
        many = ap suc others.many;
      }

  -- where cells have passed a barrier, their states there can be had
  pub kept_passed : (upto : Stamp) (cells : List (CellParts N)) → HavePassed g upto cells → Each HasKept cells
  kept_passed upto [] passed = tt
  kept_passed upto (c ∷ cells) passed = (own c.ins.items passed.0, kept_passed upto cells passed.1)
    where
      own : (ins : List InEdge) → HasPassed g upto c ins → HasKept c
      own [] h = h.0
      own (e ∷ ins) h = h.0

  -- the number of cells and their states at the barrier are a capture
  pub captured_at : (upto : Stamp) (cells : List (CellParts N)) (puts : List ℕ) (bytes : List ℕ) (n : ℕ) → n ≡ length cells → n < 2 ^ 32 → puts ≡ spell_number w32 n → PutsCells g cells puts bytes → HavePassed g upto cells → IsCaptureAt g upto cells bytes
  captured_at upto cells puts bytes n count below front p passed =
      let all = all_saved upto cells p.bytes p.saved passed in
      let many : length p.bytes ≡ n = all.many ∙ sym count in
      record {
        states = all.states;
        were = all.were;
        capture = record {
          states_are = all.fit;
          short = (subst (λ (ps : List (List ℕ)). length ps < 2 ^ 32) all.are (subst (λ (m : ℕ). m < 2 ^ 32) (sym many) below), subst (AllFit FitsBytes) all.are p.fit);
          is = p.is ∙ ap (λ (l : List ℕ). l ++ flat_map spell_bytes p.bytes) front ∙ ap (λ (m : ℕ). spell_number w32 m ++ flat_map spell_bytes p.bytes) (sym many) ∙ ap (spell_list spell_bytes) all.are;
        };
      }

  -- ---- a net that is restored

  map-nodes : {X : Type 0} (f : N → X) (cells : List (CellParts N)) → map (λ c. f c.core.node) cells ≡ map f (nodes_of cells)
  map-nodes f [] = refl
  map-nodes f (c ∷ cells) = ap (λ l. f c.core.node ∷ l) (map-nodes f cells)

  -- what the nodes of lives of plans have is what those of the plans have
  pub lives_have : {X : Type 0} (f : N → X) (stamp : ℕ) (plans : List (PlanValue N)) (lives : List (NumberedLife N)) → AreLivesBehind g stamp plans lives → map (λ c. f c.core.node) (cells_in lives) ≡ in_lives f plans
  lives_have f stamp [] [] are = refl
  lives_have f stamp [] (l ∷ lives) are = absurd are
  lives_have f stamp (p ∷ plans) [] are = absurd are
  lives_have {X = X} f stamp (p ∷ plans) (l ∷ lives) are =
      map-append (λ (c : CellParts N). f c.core.node) l.life.cells (cells_in lives)
      ∙ ap (λ (xs : List X). xs ++ map (λ (c : CellParts N). f c.core.node) (cells_in lives)) (map-nodes f l.life.cells ∙ ap (map f) are.0.nodes)
      ∙ ap (λ (xs : List X). map f p.nodes ++ xs) (lives_have f stamp plans lives are.1)

  -- the states that were captured are the states of the net that is restored
  pub restored_were : (spelled : (p : P) → IsSpelling (g.fits p) (g.spell p) (g.read p)) (upto : Stamp) (cells : List (CellParts N)) (bytes : List ℕ) (plans : List (PlanValue N)) (there : Stamp) (net : NetValue N) → in_lives g.spec plans ≡ map (λ c. g.spec c.core.node) cells → IsCaptureAt g upto cells bytes → Restores g plans there bytes net → AllZip (WasAt g upto) cells (map (λ c. g.state c.core.node) (cells_in net.lives))
  restored_were spelled upto cells bytes plans there net specs at restores =
      let loaded = restores.loaded in
      let now : IsCapture g.fits g.spell (map (λ c. g.spec c.core.node) cells) (in_lives g.state loaded) bytes = subst (λ (ps : List P). IsCapture g.fits g.spell ps (in_lives g.state loaded) bytes) specs restores.are.states in
      let same : at.states ≡ in_lives g.state loaded = one_capture spelled (map (λ c. g.spec c.core.node) cells) at.states (in_lives g.state loaded) bytes at.capture now in
      subst (AllZip (WasAt g upto) cells) (same ∙ sym (lives_have g.state there.0 loaded net.lives restores.lives)) at.were

  -- the last barrier of each cell has been passed
  pub all_passed : (upto : Stamp) (cells : List (CellParts N)) → StandAt upto cells → HavePassed g upto cells
  all_passed upto [] stand = tt
  all_passed upto (c ∷ cells) stand = (own c.ins.items, all_passed upto cells stand.1)
    where
      own : (ins : List InEdge) → HasPassed g upto c ins
      own [] = (stand.0.0, inl stand.0.1)
      own (e ∷ ins) = stand.0

-- ---- cells of a life, and of others behind it

stand-append : {N : Type 0} (upto : Stamp) (cells others : List (CellParts N)) → StandAt upto cells → StandAt upto others → StandAt upto (cells ++ others)
stand-append upto [] others first behind = behind
stand-append upto (c ∷ cells) others first behind = (first.0, stand-append upto cells others first.1 behind)

stand-split : {N : Type 0} (upto : Stamp) (cells others : List (CellParts N)) → StandAt upto (cells ++ others) → StandAt upto cells × StandAt upto others
stand-split upto [] others all = (tt, all)
stand-split upto (c ∷ cells) others all = let rest = stand-split upto cells others all.1 in ((all.0, rest.0), rest.1)

-- a barrier is the last one of a life's cells and of the others'
pub stand_whole : {N : Type 0} (upto : Stamp) (lives : List (NumberedLife N)) (l : NumberedLife N) (others : List (NumberedLife N)) → lives ≡ l ∷ others → StandAt upto l.life.cells → StandAt upto (cells_in others) → StandAt upto (cells_in lives)
stand_whole {N = N} upto lives l others is first behind = subst (λ (ls : List (NumberedLife N)). StandAt upto (cells_in ls)) (sym is) (stand-append upto l.life.cells (cells_in others) first behind)

pub stand_parts : {N : Type 0} (upto : Stamp) (lives : List (NumberedLife N)) (l : NumberedLife N) (others : List (NumberedLife N)) → lives ≡ l ∷ others → StandAt upto (cells_in lives) → StandAt upto l.life.cells × StandAt upto (cells_in others)
stand_parts {N = N} upto lives l others is all = stand-split upto l.life.cells (cells_in others) (subst (λ (ls : List (NumberedLife N)). StandAt upto (cells_in ls)) is all)
