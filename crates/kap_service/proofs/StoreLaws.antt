-- What calls of an engine leave of its store, one after the other.
use Rattle.std.proofs.Common.{◌≡◌, ℕ, ◌+◌, Bool, true, false, List, ◌++◌, refl, sym, ap, subst, ◌∙◌, arith, append_assoc}
use mathlib.Core.List.{IsPrefix}
use Rattle.kap_http.specs.declared.ask.Ask.{Ask}
use Rattle.topic_core.specs.declared.transition.Transition.{Transition}
use Rattle.reply_bodies.specs.Asks.{IsFailed, change_of}
use Rattle.kap_service.specs.Stores.{HasRead, IsAnswered, IsDecided, IsMadeAgain, Reached}
use Rattle.kap_service.specs.Values.{Engines, Stores}

-- a beginning of a beginning
pub prefix_trans : (xs ys zs : List Transition) → IsPrefix xs ys → IsPrefix ys zs → IsPrefix xs zs
prefix_trans xs ys zs p q = (
  p.0 ++ q.0,
  sym (append_assoc xs p.0 q.0) ∙ ap (λ (z : List Transition). z ++ q.0) p.1 ∙ q.1,
)

-- an ask was decided on an engine that was made again where it was spent
pub answered_again : (spent : Bool) (ask : Ask) (status : ℕ) (own : List Transition) (old mid : Stores → Type 0)
    (store : Stores)
    → ((s : Stores) → mid s → Reached old IsMadeAgain s)
    → (spent ≡ false → (s : Stores) → mid s → old s)
    → Reached mid (IsDecided ask status own) store
    → Reached old (IsAnswered spent ask status own) store
answered_again true ask status own old mid store made still d =
    let m = made d.origin d.was in
    record {
      origin = m.origin;
      was = m.was;
      how = record {
        changed = record {
          least = (let more = d.how.changed.least in let same = m.how.changes in omega arith);
          exact = λ fine. (let more = d.how.changed.exact fine in let same = m.how.changes in omega arith);
          stored = prefix_trans m.origin.stored d.origin.stored store.stored m.how.stored d.how.changed.stored;
        };
        has_own = λ e. absurd (cc e);
      };
    }
answered_again false ask status own old mid store made still d = record {
  origin = d.origin;
  was = still refl d.origin d.was;
  how = record { changed = d.how.changed; has_own = λ e. d.how.has_own };
}

module _ {E : Type 0} (value : E → Engines) (right : E → Type 0) (leaves : E → Stores → Type 0) where
  -- no reading
  pub read_none : (e : E) → HasRead value right leaves e e
  read_none e = record {
    later = record { disk = omega arith; patterns = omega arith };
    changes = refl;
    spent = refl;
    own = refl;
    stays_right = λ r. r;
    stores = λ r store left. left;
  }

  -- one reading, and then another
  pub read_then : (old mid new : E) → HasRead value right leaves old mid → HasRead value right leaves mid new
      → HasRead value right leaves old new
  read_then old mid new one two = record {
    later = record {
      disk = (let a = one.later.disk in let b = two.later.disk in omega arith);
      patterns = (let a = one.later.patterns in let b = two.later.patterns in omega arith);
    };
    changes = two.changes ∙ one.changes;
    spent = two.spent ∙ one.spent;
    own = two.own ∙ one.own;
    stays_right = λ r. two.stays_right (one.stays_right r);
    stores = λ r store left. one.stores r store (two.stores (one.stays_right r) store left);
  }

  -- an engine that isn't spent behind an ask counts the changes that this left
  pub counted_exactly : ((e : E) → right e → (store : Stores) × leaves e store)
      → ((e : E) → right e → (value e).spent ≡ false → (store : Stores) → leaves e store
      → store.changes ≡ (value e).changes)
      → (old new : E) (ask : Ask) (status : ℕ) (own : List Transition) → right old → right new
      → (value old).spent ≡ false → (value new).spent ≡ false
      → ((store : Stores) → leaves new store → Reached (leaves old) (IsDecided ask status own) store)
      → (IsFailed status → ⊥) → (value new).changes ≡ (value old).changes + change_of ask status
  counted_exactly some counts old new ask status own r r' unspent unspent' reached fine =
      let w = some new r' in
      let to = reached w.0 w.1 in
      let now = counts new r' unspent' w.0 w.1 in
      let was = counts old r unspent to.origin to.was in
      let more = to.how.changed.exact fine in
      omega arith

  -- the store over which an engine stands is left behind a reading
  pub read_stays : ((e : E) → right e → (store : Stores) × leaves e store)
      → ((e : E) → right e → (value e).spent ≡ false → (store other : Stores) → leaves e store → leaves e other
      → store ≡ other)
      → (old new : E) → HasRead value right leaves old new → right old → (value old).spent ≡ false
      → (store : Stores) → leaves old store → leaves new store
  read_stays some one old new read r unspent store left =
      let w = some new (read.stays_right r) in
      subst (leaves new) (sym (one old r unspent store w.0 left (read.stores r w.0 w.1))) w.1
