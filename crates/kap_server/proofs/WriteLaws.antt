-- What stands after points were written to a store.
use Rattle.std.proofs.Common.{◌≡◌, ℕ, ◌+◌, ◌<◌, true, false, List, ◌++◌, length, Option, Some, Ok, Err, IsUtf8, inl, inr, sym, ap, subst, ◌∙◌, append_assoc}
use Rattle.std.specs.Prelude.{◌≢◌, ◌⊎◌, not, IsErrOf}
use Rattle.std.specs.List.{AllByRecursion as Each}
use Rattle.std.specs.Io.KnownBytes.{Appends}
use Rattle.kap_base.specs.Points.{PointValue}
use Rattle.kap_base.specs.Texts.{has_line_feed, is_line}
use Rattle.kap_base.specs.Words.{HasRisen}
use Rattle.kap_base.specs.declared.items.Effect.{Effect}
use Rattle.kap_base.proofs.TestLaws.{both, not_false}
use Rattle.kap_base.proofs.TextLaws.{text_is_utf8}
use Rattle.kap_io.specs.Disk.{Image}
use Rattle.kap_io.specs.Moments.{Moments, then_run, weaker}
use Rattle.kap_io.specs.Pieces.{AppendsPrefix}
use Rattle.kap_io.specs.declared.disk.Part.{Part}
use Rattle.line_points.specs.declared.mode.Mode.{Mode}
use Rattle.effect_text.specs.Lines.{text_behind}
use Rattle.flow_core.specs.Nets.{HasStreamsCarried, NetValue}
use Rattle.life_effects.specs.Effects.{stored_effects}
use Rattle.node_core.specs.Meaning.{Answer}
use Rattle.node_core.specs.declared.node.Node.{Ghosts}
use Rattle.node_set.specs.Tasks.{Planned}
use Rattle.store_records.specs.Histories.{held}
use Rattle.store_records.specs.Lines.{are_lines}
use Rattle.store_records.specs.declared.rec.Rec.{Rec}
use Rattle.store_records.specs.declared.task.Life.{Life}
use Rattle.tick_compile.specs.declared.tasks.Task.{Task}
use Rattle.tick_compile.proofs.ScriptLaws.{one_task}
use Rattle.topic_core.specs.declared.transition.Transition.{Transition}
use Rattle.topic_store.proofs.Adding.{image_stands}
use Rattle.topic_store.proofs.Found.{seen_stands}
use Rattle.engine_runs.specs.Running.{life_events}
use Rattle.engine_runs.specs.Scripts.{AreTasksOf, graphs_from, names_from}
use Rattle.engine_store.specs.Adding.{HasAdded}
use Rattle.engine_store.specs.Faults.{IsOfOpening}
use Rattle.engine_store.specs.Good.{IsGood, StandsGood, stays_or_good}
use Rattle.engine_store.specs.declared.fault.EngineFault.{EngineFault}
use Rattle.engine_store.specs.declared.fault.EngineFault.TheVariants as engines
use Rattle.kap_engine.specs.Engines.{EngineValue, IsEngineBehind}
use Rattle.kap_engine.specs.Writing.{HasNoPoints, HasPoints, HasSnapped, HasWritten, StandsWriting, TellsOf, stands_writing}
use Rattle.kap_engine.proofs.ShotLaws.{snapped_same}
use Rattle.kap_server.specs.ReadingIn.{IsAll}
use Rattle.kap_server.specs.Statuses.{status_of_engine}
use Rattle.kap_server.specs.Writing.{AreOfBody, LeavesWritten, Wrote, WrittenTo, stays_or_writing}
use Rattle.kap_server.specs.declared.status.Status.{Status}
use Rattle.kap_server.specs.declared.status.Status.TheVariants as statuses
use Rattle.kap_server.proofs.ListLaws.{of_opening, tasks_same}
use Rattle.kap_server.proofs.RunLaws.{keeps_same}

-- ---- the names of points that are stored

line-is : (text : List ℕ) → has_line_feed text ≡ false → IsUtf8 text → is_line text ≡ true
line-is text none utf8 = both (not (has_line_feed text)) _ (not_false (has_line_feed text) none) (text_is_utf8 text utf8)

-- two texts without a line feed are names of points that are stored
pub names_are_lines : (db rp : List ℕ) → has_line_feed db ≡ false → has_line_feed rp ≡ false → IsUtf8 db → IsUtf8 rp → are_lines (db, rp) ≡ true
names_are_lines db rp one other utf8 too = both (is_line db) (is_line rp) (line-is db one utf8) (line-is rp other too)

-- ---- how the input was read

-- this is all that the input gave, and these are the points of its lines
abbrev pub HasRead : List ℕ → List ℕ → Mode → Option (List ℕ) → List PointValue → Type 0
HasRead db rp mode s points = (body : List ℕ) × IsAll s body × AreOfBody db rp mode body points

-- the same words ask for the same
pub read_as_asked : (db db' rp rp' : List ℕ) (mode mode' : Mode) → db' ≡ db → rp' ≡ rp → mode' ≡ mode → (s : Option (List ℕ)) (points : List PointValue) → HasRead db' rp' mode' s points → HasRead db rp mode s points
read_as_asked db db' rp rp' mode mode' db_is rp_is mode_is s points read =
    subst (λ (x : List ℕ). HasRead x rp mode s points) db_is (subst (λ (y : List ℕ). HasRead db' y mode s points) rp_is (subst (λ (m : Mode). HasRead db' rp' m s points) mode_is read))

-- ---- images

module _ {N P S : Type 0} (g : Ghosts N P S) (planned : Planned P) (rs : List Rec) (new : List PointValue) where
  -- a right store with a few transitions more has none of the points
  good-writes : (files : Image) → StandsGood g planned rs files → StandsWriting g planned rs new files
  good-writes files good = record {
    records = good.records;
    stands = good.stands;
    good = good.good;
    some = good.more;
    transitions = good.added.transitions;
    none_or_all = inl (record {
      tasks = good.added.tasks;
      lives = good.added.lives;
      points = good.added.points;
      changes = good.added.changes;
    });
  }

  opened-writes : (a b : Image) → stays_or_good g planned rs a b → stays_or_writing g planned rs new a b
  opened-writes a b (inl same) = inl same
  opened-writes a b (inr good) = inr (good-writes b good)

  module _ (records : List Rec) (more : List Transition) (added : HasAdded rs more records) where
    none-behind : (rs' : List Rec) → HasNoPoints (held records) (held rs') → HasNoPoints (held rs) (held rs')
    none-behind rs' none = record {
      tasks = none.tasks ∙ added.tasks;
      lives = none.lives ∙ added.lives;
      points = none.points ∙ added.points;
      changes = none.changes ∙ added.changes;
    }

    points-behind : (rs' : List Rec) → HasPoints new (held records) (held rs') → HasPoints new (held rs) (held rs')
    points-behind rs' has = record {
      tasks = has.tasks ∙ added.tasks;
      lives = has.lives ∙ added.lives;
      points = has.points ∙ ap (λ (l : List PointValue). l ++ new) added.points;
      changes = has.changes ∙ ap (λ (n : ℕ). n + 1) added.changes;
    }

    none-or-all : (rs' : List Rec) → HasNoPoints (held records) (held rs') ⊎ HasPoints new (held records) (held rs') → HasNoPoints (held rs) (held rs') ⊎ HasPoints new (held rs) (held rs')
    none-or-all rs' (inl none) = inl (none-behind rs' none)
    none-or-all rs' (inr has) = inr (points-behind rs' has)

    -- so has what stands while they are written behind an opening
    writes-behind : (files : Image) → StandsWriting g planned records new files → StandsWriting g planned rs new files
    writes-behind files w = record {
      records = w.records;
      stands = w.stands;
      good = w.good;
      some = more ++ w.some;
      transitions = w.transitions ∙ ap (λ (l : List Transition). l ++ w.some) added.transitions ∙ append_assoc (held rs).transitions more w.some;
      none_or_all = none-or-all w.records w.none_or_all;
    }

  -- an opening alone
  pub opened_to_write : {D : Type 0} (moment : D → ℕ) (may_leave : D → Image → Type 0) (left_since : D → ℕ → Image → Type 0) (old mid : D) → Moments moment may_leave left_since old mid (stays_or_good g planned rs)
      → Moments moment may_leave left_since old mid (stays_or_writing g planned rs new)
  opened_to_write moment may_leave left_since old mid opened = weaker moment may_leave left_since old mid _ _ opened (λ a b was how. opened-writes a b how)

  -- an opening, and points that are written behind it
  pub opened_then_written : {D : Type 0} (seen : D → Image) (moment : D → ℕ) (may_leave : D → Image → Type 0) (left_since : D → ℕ → Image → Type 0) (old mid last : D) (engine : EngineValue N)
      → (made : IsEngineBehind g planned rs (seen mid) (may_leave mid) engine) → Moments moment may_leave left_since old mid (stays_or_good g planned rs)
      → Moments moment may_leave left_since mid last (stands_writing g planned made.records new) → Moments moment may_leave left_since old last (stays_or_writing g planned rs new)
  opened_then_written seen moment may_leave left_since old mid last engine made opened written = then_run moment may_leave left_since old mid last _ _ _ opened written
      (λ a b was how. opened-writes a b how)
      (λ a b c was how left stands. inr (writes-behind made.records made.more made.added c stands))

-- ---- what is left

-- what the lives did is told of a store that holds as much
more-of : {P : Type 0} (answer : P → Answer) (planned : Planned P) (tasks : List Task) (new : List PointValue) (effects : List Effect) (lives other : List Life) (points more : List PointValue) → other ≡ lives → more ≡ points
    → stored_effects answer other (graphs_from planned 1 other tasks) (more ++ new) ≡ stored_effects answer other (graphs_from planned 1 other tasks) more ++ effects
    → stored_effects answer lives (graphs_from planned 1 lives tasks) (points ++ new) ≡ stored_effects answer lives (graphs_from planned 1 lives tasks) points ++ effects
more-of answer planned tasks new effects lives other points more same-lives same-points e =
    subst (λ (ls : List Life). stored_effects answer ls (graphs_from planned 1 ls tasks) (points ++ new) ≡ stored_effects answer ls (graphs_from planned 1 ls tasks) points ++ effects) same-lives
    (subst (λ (ps : List PointValue). stored_effects answer other (graphs_from planned 1 other tasks) (ps ++ new) ≡ stored_effects answer other (graphs_from planned 1 other tasks) ps ++ effects) same-points e)

module _ {N P S : Type 0} (g : Ghosts N P S) (planned : Planned P) (rs : List Rec) (good : IsGood g planned rs) (seen-before : Image) (images-before : Image → Type 0) (before : EngineValue N)
    (made : IsEngineBehind g planned rs seen-before images-before before) (new : List PointValue) where
  -- the tasks of the lives are those of the engine's
  same-tasks : made.engine.full.good.tasks ≡ good.tasks
  same-tasks =
      let found = made.engine.full.good in
      sym (tasks_same one_task (held rs).lives good.tasks found.tasks good.are (subst (λ (ls : List Life). AreTasksOf ls found.tasks) made.added.lives found.are))

  tells-behind : (tasks : List Task) (text : List ℕ) → TellsOf g planned made.records tasks new text → TellsOf g planned rs tasks new text
  tells-behind tasks text t = record {
    effects = t.effects;
    more = more-of g.answer planned tasks new t.effects (held rs).lives (held made.records).lives (held rs).points (held made.records).points made.added.lives made.added.points t.more;
    text_is =
        t.text_is
        ∙ ap (λ (ls : List Life). text_behind (names_from ls tasks) (life_events g planned ls tasks (held made.records).points) t.effects) made.added.lives
        ∙ ap (λ (ps : List PointValue). text_behind (names_from (held rs).lives tasks) (life_events g planned (held rs).lives tasks ps) t.effects) made.added.points;
  }

  module _ (seen : Image) (images : Image → Type 0) (after : EngineValue N) (text : List ℕ) (h : HasWritten g planned made.records made.engine.full.good.tasks new seen images after text) where
    -- behind an opening the points are there, and what they make
    abbrev there : LeavesWritten g planned rs good.tasks new seen images text
    there = record {
      records = h.records;
      full = h.engine.full;
      points = points-behind g planned rs new made.records made.more made.added h.records h.points;
      snapped = subst (λ (ts : List Task). HasSnapped g planned rs h.records ts) same-tasks (snapped_same g planned rs made.records h.records made.engine.full.good.tasks made.added.snap h.snapped_is);
      reads = seen_stands seen images h.records after.store h.engine.on;
      leaves = image_stands h.records seen images after.store h.engine.on;
      tells = subst (λ (ts : List Task). TellsOf g planned rs ts new text) same-tasks (tells-behind made.engine.full.good.tasks text h.tells);
    }

    -- the text was written, and the net is there
    wrote : (w v : Option (List ℕ)) (ran : Option (NetValue N)) → Appends w v text → ran ≡ Some after.run.net → (0 < length new → Each (HasStreamsCarried g) after.run.net.lives) → Wrote g planned rs good.tasks new seen images w v ran
    wrote w v ran written is streams = record {
      text = text;
      leaves = there;
      written = written;
      net = record {
        run = after.run;
        is = is;
        runs = h.engine.runs;
        streams = streams;
      };
    }

    -- the text was written, or a prefix of it
    pub written_out : (low high : ℕ) (w v : Option (List ℕ)) (ran last : Option (NetValue N)) (result : Status) → (result ≡ statuses.Ok) ⊎ (result ≡ statuses.WriteFault)
        → (result ≡ statuses.Ok → Appends w v text × (last ≡ Some after.run.net)) → (result ≢ statuses.Ok → AppendsPrefix w v text × (last ≡ ran)) → (0 < length new → Each (HasStreamsCarried g) after.run.net.lives)
        → WrittenTo g planned rs good new low high seen images w v last result
    written_out low high w v ran last result (inl e) all part streams = let p = all e in subst (WrittenTo g planned rs good new low high seen images w v last) (sym e) (wrote w v last p.0 p.1 streams)
    written_out low high w v ran last result (inr e) all part streams =
        let p = part (λ same. let wrong : statuses.WriteFault ≡ statuses.Ok = sym e ∙ same in absurd cc) in
        subst (WrittenTo g planned rs good new low high seen images w v last) (sym e) (record { text = text; leaves = there; written = p.0 })

-- ---- no store was opened

module _ {N P S T : Type 0} (g : Ghosts N P S) (planned : Planned P) (before after : ℕ) where
  -- then nothing was written, and a place is told only where a pattern was refused
  pub none_opened : (rs : List Rec) (good : IsGood g planned rs) (new : List PointValue) (seen : Image) (images : Image → Type 0) (w : Option (List ℕ)) (ran : Option (NetValue N)) (fault : EngineFault) → IsOfOpening fault
      → ((part : Part) (offset : ℕ) → IsErrOf {T = T} (Err fault) (engines.NotStore part offset) → HasRisen before after) → WrittenTo g planned rs good new before after seen images w w ran (status_of_engine fault)
  none_opened rs good new seen images w ran fault may rose = of_opening (λ (s : Status). WrittenTo g planned rs good new before after seen images w w ran s) fault may (λ part offset is. (rose part offset is, keeps_same w)) (keeps_same w) (keeps_same w)
