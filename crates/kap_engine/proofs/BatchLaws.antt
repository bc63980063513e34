-- A batch of points that is stored: the store is right behind it, and what the lives do on it makes the transitions
-- that are due.
use Rattle.std.proofs.Common.{◌≡◌, ◌⊎◌, inl, inr, ⊎_elim, ℕ, ◌<◌, List, [], ◌∷◌, ◌++◌, length, drop, refl, sym, ap, subst, ◌∙◌, append-nil}
use Rattle.std.specs.List.{AllByRecursion as Each}
use Rattle.std.proofs.lemmas.List.{drop_at}
use Rattle.std.proofs.lemmas.List.Concat.{flat_map-append}
use Rattle.kap_base.specs.Points.{PointValue}
use Rattle.kap_base.specs.declared.items.Effect.{Effect}
use Rattle.kap_base.specs.Events.{EventValue}
use Rattle.kap_io.specs.Disk.{Image}
use Rattle.effect_text.specs.Lines.{event_in, events_of}
use Rattle.life_effects.proofs.TransLaws.{trans_rest}
use Rattle.life_effects.specs.Effects.{stored_effects}
use Rattle.node_core.specs.Meaning.{Answer}
use Rattle.node_core.specs.declared.node.Node.{Ghosts}
use Rattle.node_set.specs.Tasks.{Planned}
use Rattle.store_kept.proofs.Keeping.{held_push}
use Rattle.store_records.specs.Held.{Held}
use Rattle.store_records.specs.Histories.{held}
use Rattle.store_records.specs.declared.rec.Rec.{Rec}
use Rattle.store_records.specs.declared.rec.Rec.TheVariants as kinds
use Rattle.store_records.specs.declared.task.Life.{Life}
use Rattle.task_run.specs.Graphs.{Placed}
use Rattle.topic_core.specs.Topics.{Trans}
use Rattle.topic_core.specs.declared.transition.Transition.{Transition}
use Rattle.topic_store.specs.Snapshots.{LastSnap}
use Rattle.topic_store.specs.Stores.{Stands}
use Rattle.engine_runs.specs.Running.{HasRun, RunValue, Tells, life_events}
use Rattle.engine_store.specs.Good.{IsFull, IsGood, graphs_in}
use Rattle.engine_store.specs.Opening.{HasRunAll}
use Rattle.engine_store.proofs.GoodLaws.{due_on}
use Rattle.engine_store.proofs.OpenLaws.{firsts}
use Rattle.engine_store.proofs.SnapLaws.{IsBehind, last_before, last_kept}
use Rattle.kap_engine.specs.Writing.{HasPoints, HasTransitions, StandsStoring, StandsWriting}
use Rattle.kap_engine.proofs.LikeLaws.{good_like}

-- ---- what the store holds behind it

-- The points more, and nothing else; its last snapshot is that of before.
pub record HasBatch (rs : List Rec) (new : List PointValue) (rs' : List Rec) : Type 0 where
  pub has : HasPoints new (held rs) (held rs')
  pub transitions : (held rs').transitions ≡ (held rs).transitions
  pub snap : (held rs').snap ≡ (held rs).snap
  pub kept : (s : LastSnap rs') → IsBehind rs s.before s.points s.trans s.states

pub batch_held : (rs : List Rec) (db rp : List ℕ) (new : List PointValue) → HasBatch rs new (rs ++ kinds.Batch db rp new ∷ [])
batch_held rs db rp new =
    let push = held_push rs (kinds.Batch db rp new) in
    let h = held rs in
    record {
      has = record {
        tasks = ap (λ (k : Held). k.tasks) push;
        lives = ap (λ (k : Held). k.lives) push ∙ append-nil h.lives;
        points = ap (λ (k : Held). k.points) push;
        changes = ap (λ (k : Held). k.changes) push;
      };
      transitions = ap (λ (k : Held). k.transitions) push ∙ append-nil h.transitions;
      snap = ap (λ (k : Held). k.snap) push;
      kept = last_kept rs (kinds.Batch db rp new ∷ []) refl;
    }

-- transitions that are stored then leave the points
pub points_then : (new : List PointValue) (more : List Transition) (before mid after : Held) → HasPoints new before mid → HasTransitions more mid after → HasPoints new before after
points_then new more before mid after p t = record {
  tasks = t.tasks ∙ p.tasks;
  lives = t.lives ∙ p.lives;
  points = t.points ∙ p.points;
  changes = t.changes ∙ p.changes;
}

-- ---- what is due behind it

module _ {P : Type 0} (answer : P → Answer) where
  -- the effects of more points come behind the others
  abbrev pub ComeBehind : Type 0
  ComeBehind = (points new : List PointValue) (lives : List Life) (graphs : List (List (Placed P))) → Each (λ life. 0 < life.first) lives
      → (es : List Effect) × (stored_effects answer lives graphs (points ++ new) ≡ stored_effects answer lives graphs points ++ es)

module _ {N P S : Type 0} (g : Ghosts N P S) (planned : Planned P) (rs rs' : List Rec) (new : List PointValue) (full : IsFull g planned rs) (b : HasBatch rs new rs') where
  -- which are those of the points before and of these
  pub due_batch : due_on g planned (held rs').lives full.good.tasks (held rs').points ≡ due_on g planned (held rs).lives full.good.tasks ((held rs).points ++ new)
  due_batch =
      ap (λ (ls : List Life). due_on g planned ls full.good.tasks (held rs').points) b.has.lives
      ∙ ap (λ (ps : List PointValue). due_on g planned (held rs).lives full.good.tasks ps) b.has.points

  module _ (behind : ComeBehind g.answer) where
    -- they come behind those that are stored
    pub due_more : (more : List Transition) × (due_on g planned (held rs).lives full.good.tasks ((held rs).points ++ new) ≡ (held rs).transitions ++ more)
    due_more =
        let graphs = graphs_in g planned rs full.good.tasks in
        let effects = stored_effects g.answer (held rs).lives graphs (held rs).points in
        let old = life_events g planned (held rs).lives full.good.tasks (held rs).points in
        let es = behind (held rs).points new (held rs).lives graphs (firsts rs) in
        let rest = drop (length (Trans old)) (Trans (old ++ events_of es.0)) in (
          rest,
          ap (λ (l : List Effect). Trans (events_of l)) es.1
              ∙ ap (λ (l : List EventValue). Trans l) (flat_map-append (λ (e : Effect). event_in e.what) effects es.0)
              ∙ trans_rest old (events_of es.0)
              ∙ ap (λ (l : List Transition). l ++ rest) full.all,
        )

    -- the store is right
    abbrev pub batch_good : IsGood g planned rs'
    batch_good =
        good_like g planned rs rs' full.good due_more.0 b.has.tasks b.has.lives
        (due_batch ∙ due_more.1 ∙ ap (λ (l : List Transition). l ++ due_more.0) (sym b.transitions))
        (λ s. full.good.consistent.snap (last_before rs s.before s.points s.trans s.states (b.kept s)))

    -- with the batch or without it, the files stand for a right store
    pub with_or_without : (files : Image) → Stands rs files ⊎ Stands rs' files → StandsWriting g planned rs new files
    with_or_without files e = ⊎_elim
        (λ (s : Stands rs files). record {
          records = rs;
          stands = s;
          good = full.good;
          some = [];
          transitions = sym (append-nil (held rs).transitions);
          none_or_all = inl (record { tasks = refl; lives = refl; points = refl; changes = refl });
        })
        (λ (s : Stands rs' files). record {
          records = rs';
          stands = s;
          good = batch_good;
          some = [];
          transitions = b.transitions ∙ sym (append-nil (held rs).transitions);
          none_or_all = inr b.has;
        })
        e

  -- and behind it, with some of the transitions
  pub with_some : (files : Image) → StandsStoring g planned rs' files → StandsWriting g planned rs new files
  with_some files s = record {
    records = s.records;
    stands = s.stands;
    good = s.good;
    some = s.some;
    transitions = s.holds.transitions ∙ ap (λ (l : List Transition). l ++ s.some) b.transitions;
    none_or_all = inr (points_then new s.some (held rs) (held rs') (held s.records) b.has s.holds);
  }

  -- ---- the lives have run on it

  -- the transitions that were told are those that are missing
  pub ran_all : (r : RunValue N) (text : List ℕ) (due : List Transition) → HasRun g planned (held rs).lives full.good.tasks ((held rs).points ++ new) 1 r
      → Tells g planned (held rs).lives full.good.tasks (held rs).points new [] text [] due → HasRunAll g planned rs' full.good.tasks 1 r due
  ran_all r text due h t =
      let told : due_on g planned (held rs).lives full.good.tasks ((held rs).points ++ new) ≡ (held rs).transitions ++ due = t.told_is (held rs).transitions (full.all ∙ sym (append-nil (held rs).transitions)) in
      let all : due_on g planned (held rs').lives full.good.tasks (held rs').points ≡ (held rs').transitions ++ due = due_batch ∙ told ∙ ap (λ (l : List Transition). l ++ due) (sym b.transitions) in
      record {
        runs =
            subst (λ (ls : List Life). HasRun g planned ls full.good.tasks (held rs').points 1 r) (sym b.has.lives)
            (subst (λ (ps : List PointValue). HasRun g planned (held rs).lives full.good.tasks ps 1 r) (sym b.has.points) h);
        due_is = sym (ap (drop (length (held rs').transitions)) all ∙ drop_at (held rs').transitions due (length (held rs').transitions) refl);
      }
