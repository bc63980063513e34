-- What an answer leaves.
use Rattle.std.proofs.Common.{◌≡◌, ⊎_elim, inl, inr, ℕ, ℤ, Bool, true, false, ◌+◌, ◌≤◌, eqb, eqb-true, List, [], ◌∷◌, ◌++◌, Option, None, Some, Result, refl, sym, ap, subst, ◌∙◌, arith, append-nil}
use Rattle.std.proofs.lemmas.Bool.{eqb-false}
use Rattle.std.specs.Prelude.{◌⊎◌, ◌&&◌, if◌then◌else◌, IsTrue, MatchBool}
use mathlib.Core.List.{IsPrefix}
use Rattle.kap_base.specs.Points.{PointValue}
use Rattle.kap_http.specs.ReplyValues.{ReplyValue}
use Rattle.kap_http.specs.declared.ask.Ask.{Ask}
use Rattle.kap_http.specs.declared.ask.Ask.TheVariants as asks
use Rattle.kap_http.specs.declared.ask.TaskAct.{TaskAct}
use Rattle.kap_http.specs.declared.ask.TaskAct.TheVariants as acts
use Rattle.kap_io.specs.Disk.{Image, Reached as ReachedImage}
use Rattle.line_points.specs.declared.fault.BodyFault.{BodyFault}
use Rattle.node_core.specs.declared.node.Node.{Ghosts}
use Rattle.node_set.specs.Tasks.{Planned}
use Rattle.store_records.specs.Histories.{held}
use Rattle.store_records.specs.declared.rec.Rec.{Rec}
use Rattle.tick_compile.specs.declared.tasks.Task.{Task}
use Rattle.topic_core.specs.declared.transition.Transition.{Transition}
use Rattle.topic_store.proofs.Apart.{stands_unique}
use Rattle.topic_store.proofs.Found.{seen_stands}
use Rattle.kap_engine.specs.Engines.{EngineValue, IsEngine}
use Rattle.reply_bodies.specs.Asks.{IsFailed, change_of, is_changing, is_done}
use Rattle.engine_asks.specs.Nexts.{HasPointsOf, HasRecord, IsCounted, IsNext, IsNextIf, NextOf, NextOfAct, StandsCounted, Stays}
use Rattle.kap_service.specs.Stores.{HasOwn, IsDecided, Reached}
use Rattle.kap_service.specs.Values.{Stores}
use Rattle.service_engine.specs.Engines.{AreRight, HasAnswered, IsOver, IsRight, Leaves, is_spent, own_of, store_of}
use Rattle.service_engine.specs.StoreLaws.{leaves_on, leaves_these}

-- ---- statuses

no_change : (b c : Bool) (n : ℕ) → c ≡ false → (if b && c then n else 0) ≡ 0
no_change true c n is = ap (λ (d : Bool). if d then n else 0) is
no_change false c n is = refl

-- no change is done where a failure was told
failed_changes : (ask : Ask) (status : ℕ) → IsFailed status → change_of ask status ≡ 0
failed_changes ask status (inl is) = no_change (is_changing ask) (is_done status) 1 (ap is_done is)
failed_changes ask status (inr is) = no_change (is_changing ask) (is_done status) 1 (ap is_done is)

module _ {N P S : Type 0} (g : Ghosts N P S) (planned : Planned P) (rs : List Rec) where
  -- ---- the engine behind an answer that tells of no failure

  -- what its last change had stored are the last transitions
  abbrev pub EndsWith : List Transition → Type 0
  EndsWith stored = (before : List Transition) × ((held rs).transitions ≡ before ++ stored)

  module _ (tasks : List Task) (stored : List Transition) (seen : Image) (images : Image → Type 0) (e : EngineValue N)
      (ends : EndsWith stored) where
    over_same : Stays g planned rs stored seen images e → IsOver g planned seen images e
    over_same stays = record {
      records = rs;
      engine = stays.engine;
      before = ends.0;
      last = ends.1 ∙ ap (λ (l : List Transition). ends.0 ++ l) (sym stays.same);
    }

    over_record : (r : Rec) → HasRecord g planned rs r seen images e → IsOver g planned seen images e
    over_record r has = record {
      records = rs ++ r ∷ [];
      engine = has.engine;
      before = (held (rs ++ r ∷ [])).transitions;
      last = sym (append-nil (held (rs ++ r ∷ [])).transitions)
          ∙ ap (λ (l : List Transition). (held (rs ++ r ∷ [])).transitions ++ l) (sym has.none);
    }

    over_points : (lines : Result (List PointValue) BodyFault) → HasPointsOf g planned rs tasks lines seen images e
        → IsOver g planned seen images e
    over_points lines has = record {
      records = has.written.records;
      engine = has.written.engine;
      before = (held rs).transitions;
      last = has.written.transitions;
    }

    over_act : (id : List ℕ) (act : TaskAct) → NextOfAct g planned rs stored seen images e id act
        → IsOver g planned seen images e
    over_act id acts.Show next = over_same next
    over_act id acts.Enable next = over_record _ next
    over_act id acts.Disable next = over_record _ next
    over_act id acts.Delete next = over_record _ next

    over_done : (ask : Ask) (now : ℤ) → NextOf g planned rs tasks stored seen images e ask now
        → IsOver g planned seen images e
    over_done asks.Ping now next = over_same next
    over_done (asks.Write w) now next = over_points _ next
    over_done asks.Tasks now next = over_same next
    over_done (asks.Define d) now next = over_record _ next
    over_done (asks.Task t) now next = over_act t.id t.act next
    over_done asks.Topics now next = over_same next
    over_done (asks.Topic t) now next = over_same next

    over_if : (done : Bool) (ask : Ask) (now : ℤ) → IsNextIf g planned rs tasks stored seen images e done ask now
        → IsOver g planned seen images e
    over_if true ask now next = over_done ask now next
    over_if false ask now next = over_same next

    pub over_next : (ask : Ask) (now : ℤ) (status : ℕ) → IsNext g planned rs tasks stored seen images e ask now status
        → IsOver g planned seen images e
    over_next ask now status next = over_if (is_done status) ask now next

  -- ---- the images

  -- each stands for a right store
  pub each_counted : (old new : Image → Type 0) (ask : Ask)
      → ((c : Image) → new c → ReachedImage old (λ a files. StandsCounted g planned rs ask files) c)
      → AreRight g planned new
  each_counted old new ask reached files left =
      let to = (reached files left).how in
      record { records = to.records; stands = to.stands; good = to.good }

  -- ---- the stores

  module _ (seen seen' : Image) (images images' : Image → Type 0) (e e' : EngineValue N) (ask : Ask) (status : ℕ)
      (engine : IsEngine g planned rs seen images e) (reads : images seen)
      (reached : (c : Image) → images' c → ReachedImage images (λ a files. StandsCounted g planned rs ask files) c)
      (counted : (IsFailed status → ⊥) → IsCounted g planned rs ask status seen' images' e') where
    exactly : (store : Stores) → Leaves images' store → (IsFailed status → ⊥)
        → store.changes ≡ (held rs).changes + change_of ask status
    exactly store l fine =
        let to = counted fine in
        ap (λ (s : Stores). s.changes) (leaves_on to.records seen' images' e'.store to.engine.on store l) ∙ to.changes

    own : (store : Stores) → Leaves images' store → (IsFailed status → ⊥) → HasOwn e'.stored (store_of rs) store
    own store l fine =
        let to = counted fine in
        let is = ap (λ (s : Stores). s.stored) (leaves_on to.records seen' images' e'.store to.engine.on store l) in
        ⊎_elim (λ same. inl (is ∙ same)) (λ more. inr (is ∙ more)) to.own

    to_counted : (store : Stores) (l : Leaves images' store) → (to : StandsCounted g planned rs ask l.files)
        → store ≡ store_of to.records
    to_counted store l to = l.is ∙ ap store_of (stands_unique l.files l.records to.records l.stands to.stands)

    no_fewer : (store : Stores) (l : Leaves images' store) → (held rs).changes ≤ store.changes
    no_fewer store l =
        let to = (reached l.files l.left).how in
        let is = ap (λ (s : Stores). s.changes) (to_counted store l to) in
        let least = to.least in
        omega arith

    begins : (store : Stores) (l : Leaves images' store) → IsPrefix (held rs).transitions store.stored
    begins store l =
        let to = (reached l.files l.left).how in
        (to.some, sym to.transitions ∙ sym (ap (λ (s : Stores). s.stored) (to_counted store l to)))

    at_least : (store : Stores) (l : Leaves images' store) → IsFailed status ⊎ (IsFailed status → ⊥)
        → (held rs).changes + change_of ask status ≤ store.changes
    at_least store l (inl failed) =
        let none = failed_changes ask status failed in
        let fewer = no_fewer store l in
        omega arith
    at_least store l (inr fine) = let is = exactly store l fine in omega arith

    pub decided : IsFailed status ⊎ (IsFailed status → ⊥) → (store : Stores) → Leaves images' store
        → Reached (Leaves images) (IsDecided ask status e'.stored) store
    decided failed store l = record {
      origin = store_of rs;
      was = leaves_these rs images seen reads (seen_stands seen images rs e.store engine.on);
      how = record {
        changed = record {
          least = at_least store l failed;
          exact = exactly store l;
          stored = begins store l;
        };
        has_own = own store l;
      };
    }

-- a status tells of a failure, or doesn't
pub failed_or_not : (status : ℕ) → IsFailed status ⊎ (IsFailed status → ⊥)
failed_or_not status = by (eqb status 500) (eqb status 503) refl refl
  where
    by : (b c : Bool) → eqb status 500 ≡ b → eqb status 503 ≡ c → IsFailed status ⊎ (IsFailed status → ⊥)
    by true c is also = inl (inl (eqb-true status 500 is))
    by false true is also = inl (inr (eqb-true status 503 also))
    by false false is also = inr (⊎_elim (eqb-false status 500 is) (eqb-false status 503 also))

-- ---- the engine that is kept

module _ {N P S : Type 0} (g : Ghosts N P S) (planned : Planned P) (tells : Bool) (seen : Image) (images : Image → Type 0)
    (e : EngineValue N) (status : ℕ) (failed : Bool) (is_failed : MatchBool failed (IsFailed status) (IsFailed status → ⊥))
    (kept : Option (EngineValue N)) (same : kept ≡ (if failed then None else Some e)) where
  -- it is right, or let go
  pub kept_right : IsTrue tells → AreRight g planned images
      → ((IsFailed status → ⊥) → IsOver g planned seen images e) → IsRight g planned tells seen images kept
  kept_right told each over = subst (IsRight g planned tells seen images) (sym same) (by failed is_failed)
    where
      by : (b : Bool) → MatchBool b (IsFailed status) (IsFailed status → ⊥)
          → IsRight g planned tells seen images (if b then None else Some e)
      by true is = record { told = told; each = each; over = tt }
      by false is = record { told = told; each = each; over = λ unspent. over is }

  -- what it tells of as stored is what was
  pub kept_own : (ask : Ask) (old : Stores → Type 0) (store : Stores)
      → Reached old (IsDecided ask status e.stored) store → Reached old (IsDecided ask status (own_of kept)) store
  kept_own ask old store r = record {
    origin = r.origin;
    was = r.was;
    how = record {
      changed = r.how.changed;
      has_own = λ fine. subst (λ (k : Option (EngineValue N)). HasOwn (own_of k) r.origin store) (sym same) (by failed is_failed fine);
    };
  }
    where
      by : (b : Bool) → MatchBool b (IsFailed status) (IsFailed status → ⊥) → (fine : IsFailed status → ⊥)
          → HasOwn (own_of (if b then None else Some e)) r.origin store
      by true is fine = absurd (fine is)
      by false is fine = r.how.has_own fine

  -- where no failure is told it isn't spent
  pub kept_unspent : ((IsFailed status → ⊥) → e.spent ≡ false) → (IsFailed status → ⊥) → is_spent kept ≡ false
  kept_unspent usable fine = subst (λ (k : Option (EngineValue N)). is_spent k ≡ false) (sym same) (by failed is_failed)
    where
      by : (b : Bool) → MatchBool b (IsFailed status) (IsFailed status → ⊥) → is_spent (if b then None else Some e) ≡ false
      by true is = absurd (fine is)
      by false is = usable fine

-- what follows behind an ask is what is kept, where no failure is told
module _ {N P S : Type 0} (g : Ghosts N P S) (planned : Planned P) {D : Type 0} (tells : Bool) (seen : D → Image)
    (moment : D → ℕ) (may_leave : D → Image → Type 0) (left_since : D → ℕ → Image → Type 0) (old new : D)
    (before after : ℕ) (refused : List ℕ) (e behind : EngineValue N) (ask : Ask) (now : ℤ) (reply : ReplyValue) where
  pub kept_answered : (failed : Bool) → MatchBool failed (IsFailed reply.status) (IsFailed reply.status → ⊥)
      → (kept : Option (EngineValue N)) → kept ≡ (if failed then None else Some behind)
      → HasAnswered g planned tells seen moment may_leave left_since old new before after refused e (Some behind) ask now reply
      → HasAnswered g planned tells seen moment may_leave left_since old new before after refused e kept ask now reply
  kept_answered failed is_failed kept same answered = record {
    due = answered.due;
    next = λ told rs at fine.
        let n = answered.next told rs at fine in
        (n.0, by failed is_failed same fine ∙ n.1, n.2);
    any_moment = answered.any_moment;
  }
    where
      by : (b : Bool) → MatchBool b (IsFailed reply.status) (IsFailed reply.status → ⊥)
          → kept ≡ (if b then None else Some behind) → (IsFailed reply.status → ⊥) → kept ≡ Some behind
      by true is so fine = absurd (fine is)
      by false is so fine = so
