-- What the lock keeps, behind an answer.
use Rattle.std.proofs.Common.{◌≡◌, ℕ, ◌+◌, if◌then◌else◌, Bool, true, false, List, ◌++◌, length, Result, Ok, Err, inl, inr, refl, sym, ap, subst, ◌∙◌, arith}
use Rattle.std.specs.Prelude.{◌&&◌, IfOk}
use mathlib.Core.List.{IsPrefix}
use Rattle.kap_http.specs.declared.ask.Ask.{Ask}
use Rattle.topic_core.specs.declared.transition.Transition.{Transition}
use Rattle.topic_board.specs.Values.{Posts}
use Rattle.reply_bodies.specs.Asks.{IsFailed, change_of}
use Rattle.kap_service.specs.Asks.{fault_of}
use Rattle.kap_service.specs.Causes.{AreCaused, AreLater, HasFailed}
use Rattle.kap_service.specs.Kept.{IsTold, posted}
use Rattle.kap_service.specs.Stores.{HasOwn, IsAlmostPosted, IsAnswered}
use Rattle.kap_service.specs.Values.{Faults, Stores}
use Rattle.topic_board.proofs.Fronts.{prefix_whole}
use Rattle.kap_service.proofs.StoreLaws.{prefix_trans}

-- ---- causes

-- nothing was due to the counts yet
pub caused_none : (faults : Faults) → AreCaused faults faults 0
caused_none faults = record {
  by_disk = 0;
  by_patterns = 0;
  all = refl;
  disk = omega arith;
  patterns = omega arith;
}

-- the counts went on
pub caused_later : (before old new : Faults) (replies : ℕ) → AreCaused before old replies → AreLater old new
    → AreCaused before new replies
caused_later before old new replies c later = record {
  by_disk = c.by_disk;
  by_patterns = c.by_patterns;
  all = c.all;
  disk = (let a = c.disk in let b = later.disk in omega arith);
  patterns = (let a = c.patterns in let b = later.patterns in omega arith);
}

-- one of them rose, for one reply more
caused_more : (before old new : Faults) (replies : ℕ) → AreCaused before old replies → AreLater old new
    → HasFailed old new → AreCaused before new (replies + 1)
caused_more before old new replies c later (inl rose) = record {
  by_disk = c.by_disk + 1;
  by_patterns = c.by_patterns;
  all = (let a = c.all in omega arith);
  disk = (let a = c.disk in omega arith);
  patterns = (let a = c.patterns in let b = later.patterns in omega arith);
}
caused_more before old new replies c later (inr rose) = record {
  by_disk = c.by_disk;
  by_patterns = c.by_patterns + 1;
  all = (let a = c.all in omega arith);
  disk = (let a = c.disk in let b = later.disk in omega arith);
  patterns = (let a = c.patterns in omega arith);
}

-- behind a reply that says that the store failed, or another one
pub caused_on : (failed : Bool) (before old mid new : Faults) (replies : ℕ) → AreCaused before old replies
    → AreLater old mid → (failed ≡ true → HasFailed old mid) → AreLater mid new
    → AreCaused before new (replies + (if failed then 1 else 0))
caused_on true before old mid new replies c later rose behind =
    caused_later before mid new (replies + 1) (caused_more before old mid replies c later (rose refl)) behind
caused_on false before old mid new replies c later rose behind =
    let here = caused_later before mid new replies (caused_later before old mid replies c later) behind in
    subst (λ (n : ℕ). AreCaused before new n) (omega arith) here

-- ---- stores

-- the status doesn't say that the store failed
no_fault : (status : ℕ) → fault_of status ≡ 0 → status ≡ 500 → ⊥
no_fault status none e =
    let one : fault_of 500 ≡ 0 = subst (λ (s : ℕ). fault_of s ≡ 0) e none in
    absurd (omega (arith, one))

-- nor that memory ran out
pub not_failed : (second status : ℕ) → second + fault_of status ≡ 0 → (status ≡ 503 → ⊥) → IsFailed status → ⊥
not_failed second status zero calm (inl e) = no_fault status (omega (arith, zero)) e
not_failed second status zero calm (inr e) = calm e

-- nothing is missing, or only what the last change stored
almost : (now own : List Transition) (origin store : Stores) → now ≡ origin.stored → HasOwn own origin store
    → IsAlmostPosted now own store.stored
almost now own origin store all (inl same) = inl (all ∙ sym same)
almost now own origin store all (inr more) =
    inr (ap (λ (z : List Transition). z ++ own) all ∙ sym more)

module _ (first second : ℕ) (short lacks spent now_spent now_short : Bool) (posts now_posts : Posts) (ask : Ask)
    (status : ℕ) (own : List Transition) (origin store : Stores) where
  -- A store is told so behind an answer.
  pub told_on : IsTold first second short posts origin → IsAnswered spent ask status own origin store
      → (second ≡ 0 → short ≡ false → spent ≡ false)
      → ((IsFailed status → ⊥) → now_spent ≡ false)
      → (now_short ≡ false → (short ≡ false) × ((status ≡ 503 → ⊥) × (lacks ≡ false)))
      → (IsPrefix (posted posts) store.stored → IsPrefix (posted now_posts) store.stored)
      → (lacks ≡ false → now_spent ≡ false → IsPrefix (posted posts) store.stored
      → IsAlmostPosted (posted posts) own store.stored → posted now_posts ≡ store.stored)
      → IsTold (first + change_of ask status) (second + fault_of status) now_short now_posts store
  told_on told how usable now_usable shorts begun whole =
      let pre = prefix_trans (posted posts) origin.stored store.stored told.begun how.changed.stored in
      record {
        below = (let a = told.below in let b = how.changed.least in omega arith);
        begun = begun pre;
        tied = λ zero calm.
            let s = shorts calm in
            let fine = not_failed second status zero s.1.0 in
            let a = told.tied (omega arith) s.0 in
            let b = how.changed.exact fine in
            omega arith;
        whole = λ zero calm.
            let s = shorts calm in
            let none : second ≡ 0 = omega arith in
            let fine = not_failed second status zero s.1.0 in
            let has = how.has_own (usable none s.0) fine in
            whole s.1.1 (now_usable fine) pre
            (almost (posted posts) own origin store (told.whole none s.0) has);
      }

-- ---- what is told

pub both_true : (a b : Bool) → (a && b) ≡ true → (a ≡ true) × (b ≡ true)
both_true true true is = (refl, refl)
both_true true false is = absurd (cc is)
both_true false b is = absurd (cc is)

-- what holds of an answer where another thing does
pub if_ok : {A E : Type 0} (P Q : A → Type 0) (r : Result A E) → ((a : A) → P a → Q a) → IfOk r P → IfOk r Q
if_ok P Q (Ok a) f p = f a p
if_ok P Q (Err e) f p = tt

-- What was told is all that is stored, where it is as long: it was posted, and what was posted begins what is stored.
pub told_all : (posts : Posts) (stored told : List Transition) → IsPrefix (posted posts) stored
    → told ≡ posts.published → length told ≡ length stored → told ≡ stored
told_all posts stored told p is size =
    is ∙ prefix_whole posts.published stored
    (prefix_trans posts.published (posted posts) stored (posts.pending, refl) p)
    (let same = ap (λ (z : List Transition). length z) is in omega arith)
