-- How many changes and which transitions there are behind an ask.
use Rattle.std.proofs.Common.{◌≡◌, ℕ, ℤ, ◌+◌, ◌≤◌, Bool, true, false, List, [], ◌∷◌, ◌++◌, inl, inr, refl, sym, ap, subst, ◌∙◌, arith, append-nil}
use Rattle.std.specs.Prelude.{◌⊎◌, ◌&&◌, if◌then◌else◌}
use Rattle.kap_base.specs.Points.{PointValue}
use Rattle.kap_io.specs.Disk.{Image}
use Rattle.kap_http.specs.declared.ask.Ask.{Ask}
use Rattle.kap_http.specs.declared.ask.Ask.TheVariants as asks
use Rattle.kap_http.specs.declared.ask.TaskAct.{TaskAct}
use Rattle.kap_http.specs.declared.ask.TaskAct.TheVariants as acts
use Rattle.node_core.specs.declared.node.Node.{Ghosts}
use Rattle.node_set.specs.Tasks.{Planned}
use Rattle.store_kept.specs.Keeping.{KeptValue}
use Rattle.store_kept.proofs.Keeping.{held_push}
use Rattle.store_records.specs.Held.{Held, is_change}
use Rattle.store_records.specs.Histories.{held}
use Rattle.store_records.specs.declared.rec.Rec.{Rec}
use Rattle.store_records.specs.declared.rec.Rec.TheVariants as kinds
use Rattle.tick_compile.specs.declared.tasks.Task.{Task}
use Rattle.topic_core.specs.declared.transition.Transition.{Transition}
use Rattle.kap_engine.specs.Changing.{ChangesTask, StandsFull}
use Rattle.kap_engine.specs.Engines.{EngineValue, IsEngine}
use Rattle.kap_engine.specs.Writing.{HasNoPoints, HasPoints, StandsWriting}
use Rattle.kap_engine.proofs.FullLaws.{same_transitions}
use Rattle.reply_bodies.specs.Asks.{change_of, is_changing, is_changing_act, is_done}
use Rattle.engine_asks.specs.Nexts.{HasRecord, IsCounted, IsNext, IsNextIf, NextOf, NextOfAct, StandsCounted, Stays, before_or_acted, before_or_next, definition}

-- ---- how many changes and which transitions there are

-- what is counted, by whether what was asked is done
no-change : (a b : Bool) → b ≡ false → ◌≡◌ {A = ℕ} (if a && b then 1 else 0) 0
no-change true b is = rw is refl
no-change false b is = refl

a-change : (a b : Bool) → b ≡ true → ◌≡◌ {A = ℕ} (if a && b then 1 else 0) (if a then 1 else 0)
a-change true b is = rw is refl
a-change false b is = refl

pushed : (rs : List Rec) (r : Rec) → is_change r ≡ true → (held (rs ++ r ∷ [])).changes ≡ (held rs).changes + 1
pushed rs r is = ap (λ (h : Held). h.changes) (held_push rs r) ∙ ap (λ (b : Bool). (held rs).changes + (if b then 1 else 0)) is

module _ {N P S : Type 0} (g : Ghosts N P S) (planned : Planned P) (rs : List Rec) (tasks : List Task) (stored : List Transition) (seen : Image) (images : Image → Type 0) (e : EngineValue N) where
  -- what is counted, where so many changes were added
  record Counts (n : ℕ) : Type 0 where
    records : List Rec
    engine : IsEngine g planned records seen images e
    changes : (held records).changes ≡ (held rs).changes + n
    own : ((held records).transitions ≡ (held rs).transitions) ⊎ ((held records).transitions ≡ (held rs).transitions ++ e.stored)

  stays-count : Stays g planned rs stored seen images e → Counts 0
  stays-count stays = record { records = rs; engine = stays.engine; changes = omega arith; own = inl refl }

  record-counts : (r : Rec) → is_change r ≡ true → ChangesTask r → HasRecord g planned rs r seen images e → Counts 1
  record-counts r is changes has = record {
    records = rs ++ r ∷ [];
    engine = has.engine;
    changes = pushed rs r is;
    own = inl (same_transitions rs r changes);
  }

  act-counts : (id : List ℕ) (act : TaskAct) → NextOfAct g planned rs stored seen images e id act → Counts (if is_changing_act act then 1 else 0)
  act-counts id acts.Show next = stays-count next
  act-counts id acts.Enable next = record-counts (kinds.Enable id) refl tt next
  act-counts id acts.Disable next = record-counts (kinds.Disable id) refl tt next
  act-counts id acts.Delete next = record-counts (kinds.Delete id) refl tt next

  ask-counts : (ask : Ask) (now : ℤ) → NextOf g planned rs tasks stored seen images e ask now → Counts (if is_changing ask then 1 else 0)
  ask-counts asks.Ping now next = stays-count next
  ask-counts (asks.Write w) now next = record {
    records = next.written.records;
    engine = next.written.engine;
    changes = next.written.points.changes;
    own = inr next.written.transitions;
  }
  ask-counts asks.Tasks now next = stays-count next
  ask-counts (asks.Define d) now next = record-counts (definition d) refl tt next
  ask-counts (asks.Task t) now next = act-counts t.id t.act next
  ask-counts asks.Topics now next = stays-count next
  ask-counts (asks.Topic t) now next = stays-count next

  counted-as : (ask : Ask) (status n : ℕ) → change_of ask status ≡ n → Counts n → IsCounted g planned rs ask status seen images e
  counted-as ask status n is counts = record {
    records = counts.records;
    engine = counts.engine;
    changes = counts.changes ∙ ap (λ (k : ℕ). (held rs).changes + k) (sym is);
    own = counts.own;
  }

  -- there is one change more exactly where one was asked for and is done
  pub is_counted : (ask : Ask) (now : ℤ) (status : ℕ) → IsNext g planned rs tasks stored seen images e ask now status → IsCounted g planned rs ask status seen images e
  is_counted ask now status next = by (is_done status) refl
    where
      by : (b : Bool) → is_done status ≡ b → IsCounted g planned rs ask status seen images e
      by true done =
          let given : NextOf g planned rs tasks stored seen images e ask now = subst (λ (b : Bool). IsNextIf g planned rs tasks stored seen images e b ask now) done next in
          counted-as ask status (if is_changing ask then 1 else 0) (a-change (is_changing ask) (is_done status) done) (ask-counts ask now given)
      by false refused =
          let given : Stays g planned rs stored seen images e = subst (λ (b : Bool). IsNextIf g planned rs tasks stored seen images e b ask now) refused next in
          counted-as ask status 0 (no-change (is_changing ask) (is_done status) refused) (stays-count given)

  -- and so the engine keeps it
  pub changes_exact : (before : KeptValue) (ask : Ask) (status : ℕ) → before.changes ≡ (held rs).changes → IsCounted g planned rs ask status seen images e
      → e.store.kept.changes ≡ before.changes + change_of ask status
  changes_exact before ask status old counted =
      let kept = counted.engine.on.kept.keeps.changes in
      let more = counted.changes in
      omega (arith, kept, more, old)

-- ---- images

module _ {N P S : Type 0} (g : Ghosts N P S) (planned : Planned P) (rs : List Rec) (ask : Ask) (files : Image) where
  -- the store as it was
  same-counted : StandsFull g planned rs files → StandsCounted g planned rs ask files
  same-counted full = record {
    records = rs;
    stands = full.stands;
    good = full.full.good;
    least = omega arith;
    most = omega arith;
    some = [];
    transitions = sym (append-nil (held rs).transitions);
  }

  -- or with a change
  record-counted : (r : Rec) → is_change r ≡ true → ChangesTask r → is_changing ask ≡ true → StandsFull g planned rs files ⊎ StandsFull g planned (rs ++ r ∷ []) files
      → StandsCounted g planned rs ask files
  record-counted r is changes asked (inl full) = same-counted full
  record-counted r is changes asked (inr full) =
      let one = pushed rs r is in
      let room : (held (rs ++ r ∷ [])).changes ≤ (held rs).changes + (if is_changing ask then 1 else 0) =
      subst (λ (b : Bool). (held (rs ++ r ∷ [])).changes ≤ (held rs).changes + (if b then 1 else 0)) (sym asked) (omega (arith, one)) in
      record {
        records = rs ++ r ∷ [];
        stands = full.stands;
        good = full.full.good;
        least = omega (arith, one);
        most = room;
        some = [];
        transitions = same_transitions rs r changes ∙ sym (append-nil (held rs).transitions);
      }

  written-counted : (new : List PointValue) → is_changing ask ≡ true → StandsWriting g planned rs new files → StandsCounted g planned rs ask files
  written-counted new asked w = by w.none_or_all
    where
      by : HasNoPoints (held rs) (held w.records) ⊎ HasPoints new (held rs) (held w.records) → StandsCounted g planned rs ask files
      by (inl none) =
          let same = none.changes in
          record { records = w.records; stands = w.stands; good = w.good; least = omega (arith, same); most = omega (arith, same); some = w.some; transitions = w.transitions }
      by (inr all) =
          let one = all.changes in
          let room : (held w.records).changes ≤ (held rs).changes + (if is_changing ask then 1 else 0) =
          subst (λ (b : Bool). (held w.records).changes ≤ (held rs).changes + (if b then 1 else 0)) (sym asked) (omega (arith, one)) in
          record { records = w.records; stands = w.stands; good = w.good; least = omega (arith, one); most = room; some = w.some; transitions = w.transitions }

module _ {N P S : Type 0} (g : Ghosts N P S) (planned : Planned P) (rs : List Rec) (old files : Image) where
  -- each image while an ask is answered
  pub next_counted : (ask : Ask) (now : ℤ) → before_or_next g planned rs ask now old files → StandsCounted g planned rs ask files
  next_counted asks.Ping now stands = same-counted g planned rs asks.Ping files stands
  next_counted (asks.Write w) now (inl full) = same-counted g planned rs (asks.Write w) files full
  next_counted (asks.Write w) now (inr stands) = written-counted g planned rs (asks.Write w) files stands.0 refl stands.2
  next_counted asks.Tasks now stands = same-counted g planned rs asks.Tasks files stands
  next_counted (asks.Define d) now stands = record-counted g planned rs (asks.Define d) files (definition d) refl tt refl stands
  next_counted (asks.Task t) now stands = acted t.act refl stands
    where
      acted : (act : TaskAct) → t.act ≡ act → before_or_acted g planned rs t.id act old files → StandsCounted g planned rs (asks.Task t) files
      acted acts.Show is stands = same-counted g planned rs (asks.Task t) files stands
      acted acts.Enable is stands = record-counted g planned rs (asks.Task t) files (kinds.Enable t.id) refl tt (ap is_changing_act is) stands
      acted acts.Disable is stands = record-counted g planned rs (asks.Task t) files (kinds.Disable t.id) refl tt (ap is_changing_act is) stands
      acted acts.Delete is stands = record-counted g planned rs (asks.Task t) files (kinds.Delete t.id) refl tt (ap is_changing_act is) stands
  next_counted asks.Topics now stands = same-counted g planned rs asks.Topics files stands
  next_counted (asks.Topic t) now stands = same-counted g planned rs (asks.Topic t) files stands
