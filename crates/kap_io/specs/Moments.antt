-- What a crash may have left at each moment of a run of calls.
use Rattle.std.specs.Prelude.{◌≡◌, ◌⊎◌, ℕ, ◌≤◌, List}
use Rattle.std.proofs.Common.{inl, inr, ⊎_elim, refl, sym, ◌∙◌, subst, arith}
use Rattle.kap_io.specs.Disk.{Image, On, OnlyIn, Reached, Elapses}
use Rattle.kap_io.specs.declared.disk.Part.{Part}

-- Each image at each moment from old to new is one that stood at the start, with this change.
pub record Moments {D : Type 0} (moment : D → ℕ) (may_leave : D → Image → Type 0) (left_since : D → ℕ → Image → Type 0)
    (old new : D)
    (becomes : Image → Image → Type 0) : Type 0 where
  pub later : moment old ≤ moment new
  -- now
  pub now : (c : Image) → may_leave new c → Reached (may_leave old) becomes c
  -- at each moment of the run, also for a run that began earlier
  pub each : (t : ℕ) (c : Image) → t ≤ moment old → left_since new t c → left_since old t c
      ⊎ Reached (may_leave old) becomes c

module _ {D : Type 0} (moment : D → ℕ) (may_leave : D → Image → Type 0) (left_since : D → ℕ → Image → Type 0) where
  -- no call
  pub no_call : (old : D) (becomes : Image → Image → Type 0) → ((c : Image) → may_leave old c → becomes c c)
      → Moments moment may_leave left_since old old becomes
  no_call old becomes stays = record {
    later = omega arith;
    now = λ c left. record { origin = c; was = left; how = stays c left };
    each = λ t c le left. inl left;
  }

  -- one call of a disk
  pub one_call : (old new : D) (becomes : Image → Image → Type 0)
      → Elapses (moment old) (moment new) (left_since old) (left_since new) (may_leave new)
      → ((c : Image) → may_leave new c → Reached (may_leave old) becomes c)
      → Moments moment may_leave left_since old new becomes
  one_call old new becomes time reached = record {
    later = time.later;
    now = reached;
    each = λ t c le left. ⊎_elim (λ past. inl past) (λ now. inr (reached c now)) (time.nothing_else t c le left);
  }

  -- one run, and then another
  pub then_run : (old mid new : D) (first second both : Image → Image → Type 0)
      → Moments moment may_leave left_since old mid first
      → Moments moment may_leave left_since mid new second
      → ((a b : Image) → may_leave old a → first a b → both a b)
      → ((a b c : Image) → may_leave old a → first a b → may_leave mid b → second b c → both a c)
      → Moments moment may_leave left_since old new both
  then_run old mid new first second both one two sooner later = record {
    later = omega (arith, one.later, two.later);
    now = λ c left. after c (two.now c left);
    each = λ t c le left. ⊎_elim (λ past. ⊎_elim (λ gone. inl gone) (λ r. inr (before c r)) (one.each t c le past))
        (λ r. inr (after c r))
        (two.each t c (omega (arith, le, one.later)) left);
  }
    where
      before : (c : Image) → Reached (may_leave old) first c → Reached (may_leave old) both c
      before c r = record { origin = r.origin; was = r.was; how = sooner r.origin c r.was r.how }

      after : (c : Image) → Reached (may_leave mid) second c → Reached (may_leave old) both c
      after c r =
          let start = one.now r.origin r.was in
          record {
            origin = start.origin;
            was = start.was;
            how = later start.origin r.origin c start.was start.how r.was r.how;
          }

  -- a run, by what is known of the images at its start
  pub weaker : (old new : D) (fine coarse : Image → Image → Type 0) → Moments moment may_leave left_since old new fine
      → ((a b : Image) → may_leave old a → fine a b → coarse a b) → Moments moment may_leave left_since old new coarse
  weaker old new fine coarse run of_fine = record {
    later = run.later;
    now = λ c left. loosened c (run.now c left);
    each = λ t c le left. ⊎_elim (λ past. inl past) (λ r. inr (loosened c r)) (run.each t c le left);
  }
    where
      loosened : (c : Image) → Reached (may_leave old) fine c → Reached (may_leave old) coarse c
      loosened c r = record { origin = r.origin; was = r.was; how = of_fine r.origin c r.was r.how }

-- an image that stays as it was
abbrev pub Same : Image → Image → Type 0
Same old new = new ≡ old

-- Calls that change nothing: what is read, and each image at each moment, is as before.
pub record Quiet {D : Type 0} (seen : D → Image) (moment : D → ℕ) (may_leave : D → Image → Type 0) (left_since : D → ℕ
    → Image → Type 0)
    (old new : D) : Type 0 where
  pub reads : seen new ≡ seen old
  pub moments : Moments moment may_leave left_since old new Same

module _ {D : Type 0} (seen : D → Image) (moment : D → ℕ) (may_leave : D → Image → Type 0) (left_since : D → ℕ → Image
    → Type 0) where
  pub quiet_start : (disk : D) → Quiet seen moment may_leave left_since disk disk
  quiet_start disk = record { reads = refl; moments = no_call moment may_leave left_since disk Same (λ c left. refl) }

  pub quiet_call : (old new : D) → seen new ≡ seen old → ((c : Image) → may_leave new c → may_leave old c)
      → Elapses (moment old) (moment new) (left_since old) (left_since new) (may_leave new)
      → Quiet seen moment may_leave left_since old new
  quiet_call old new reads images time = record {
    reads = reads;
    moments = one_call moment may_leave left_since old new Same time
        (λ c left. record { origin = c; was = images c left; how = refl });
  }

  pub quiet_then : (old mid new : D) → Quiet seen moment may_leave left_since old mid
      → Quiet seen moment may_leave left_since mid new
      → Quiet seen moment may_leave left_since old new
  quiet_then old mid new one two = record {
    reads = two.reads ∙ one.reads;
    moments = then_run moment may_leave left_since old mid new Same Same Same one.moments two.moments
        (λ a b was same. same)
        (λ a b c was first still second. second ∙ first);
  }

  -- each image after quiet calls is one from before them
  pub quiet_images : (old new : D) → Quiet seen moment may_leave left_since old new → (c : Image) → may_leave new c
      → may_leave old c
  quiet_images old new quiet c left =
      let from = quiet.moments.now c left in
      subst (may_leave old) (sym from.how) from.was

module _ {D : Type 0} (moment : D → ℕ) (may_leave : D → Image → Type 0) (left_since : D → ℕ → Image → Type 0)
    (part : Part) (P : List ℕ → Type 0) where
  -- a call that changes nothing, where the file has P
  pub stays : (file : List ℕ) (old new : D) → OnlyIn part file (may_leave old) → P file
      → Elapses (moment old) (moment new) (left_since old) (left_since new) (may_leave new)
      → ((c : Image) → may_leave new c → may_leave old c)
      → Moments moment may_leave left_since old new (On part (λ _ f. P f))
  stays file old new only has time images =
      one_call moment may_leave left_since old new _ time
      (λ c left. record {
        origin = c;
        was = images c left;
        how =
            record { step = subst P (sym (only c (images c left))) has; elsewhere = λ q apart. refl };
      })

  -- a step on a file that is on the disk, each outcome of which has P
  pub first_step : (becomes : List ℕ → List ℕ → Type 0) (file : List ℕ) (old new : D) → OnlyIn part file (may_leave old)
      → Moments moment may_leave left_since old new (On part becomes) → ((c : List ℕ) → becomes file c → P c)
      → Moments moment may_leave left_since old new (On part (λ _ f. P f))
  first_step becomes file old new only run has =
      weaker moment may_leave left_since old new _ _ run
      (λ a b was how. record {
        step = has (b part) (subst (λ (f : List ℕ). becomes f (b part)) (only a was) how.step);
        elsewhere = how.elsewhere;
      })

  -- the same, behind a run whose outcomes have P
  pub then_step : (becomes : List ℕ → List ℕ → Type 0) (file : List ℕ) (old mid new : D)
      → Moments moment may_leave left_since old mid (On part (λ _ f. P f))
      → OnlyIn part file (may_leave mid) → Moments moment may_leave left_since mid new (On part becomes)
      → ((c : List ℕ) → becomes file c → P c) → Moments moment may_leave left_since old new (On part (λ _ f. P f))
  then_step becomes file old mid new one only two has = then_run moment may_leave left_since old mid new _ _ _ one two
      (λ a b was how. how)
      (λ a b c was how now step. record {
        step = has (c part) (subst (λ (f : List ℕ). becomes f (c part)) (only b now) step.step);
        elsewhere =
            λ q apart. step.elsewhere q apart ∙ how.elsewhere q apart;
      })
