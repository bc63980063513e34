-- What the making of an engine leaves.
use Rattle.std.proofs.Common.{◌≡◌, ⊎_elim, List, [], ◌++◌, Result, Ok, Err, refl, sym, ap, subst, ◌∙◌, append-nil}
use Rattle.std.specs.Prelude.{IfOk}
use Rattle.kap_io.specs.Disk.{Image, Reached as ReachedImage}
use Rattle.node_core.specs.declared.node.Node.{Ghosts}
use Rattle.node_set.specs.Tasks.{Planned}
use Rattle.store_records.specs.Histories.{held}
use Rattle.store_records.specs.declared.rec.Rec.{Rec}
use Rattle.topic_core.specs.declared.transition.Transition.{Transition}
use Rattle.topic_store.specs.Stores.{Stands}
use Rattle.topic_store.proofs.Apart.{stands_unique}
use Rattle.engine_store.specs.Good.{StandsGood, stays_or_good}
use Rattle.kap_engine.specs.Engines.{EngineValue, IsEngineBehind}
use Rattle.kap_service.specs.Stores.{IsMadeAgain, Reached}
use Rattle.kap_service.specs.Values.{Stores}
use Rattle.service_engine.specs.Engines.{AreRight, IsOver, Leaves, StandsRight, store_of}
use Rattle.service_engine.specs.StoreLaws.{leaves_these}

module _ {N P S : Type 0} (g : Ghosts N P S) (planned : Planned P) where
  -- an engine that was made stands over its store, and nothing was stored by a change of it
  pub over_made : (rs : List Rec) (seen : Image) (images : Image → Type 0) (e : EngineValue N) → e.stored ≡ []
      → IsEngineBehind g planned rs seen images e → IsOver g planned seen images e
  over_made rs seen images e none made = record {
    records = made.records;
    engine = made.engine;
    before = (held made.records).transitions;
    last = sym (append-nil (held made.records).transitions)
        ∙ ap (λ (l : List Transition). (held made.records).transitions ++ l) (sym none);
  }

  -- the same of a result
  pub over_opened : {E : Type 0} (rs : List Rec) (seen : Image) (images : Image → Type 0) (result : Result (EngineValue N) E)
      → IfOk result (λ e. e.stored ≡ []) → IfOk result (IsEngineBehind g planned rs seen images)
      → IfOk result (IsOver g planned seen images)
  over_opened rs seen images (Ok e) none made = over_made rs seen images e none made
  over_opened rs seen images (Err fault) none made = tt

  -- while it is made each image stands for a right store
  stays_right : (rs : List Rec) (old : Image → Type 0) → AreRight g planned old → (a files : Image) → old a
      → stays_or_good g planned rs a files → StandsRight g planned files
  stays_right rs old each a files was how =
      ⊎_elim (λ same. subst (StandsRight g planned) (sym same) (each a was))
      (λ (s : StandsGood g planned rs files). record { records = s.records; stands = s.stands; good = s.good })
      how

  pub each_opened : (rs : List Rec) (old new : Image → Type 0) → AreRight g planned old
      → ((c : Image) → new c → ReachedImage old (stays_or_good g planned rs) c) → AreRight g planned new
  each_opened rs old new each reached files left =
      let from = reached files left in
      stays_right rs old each from.origin files from.was from.how

  -- and each store is one from before, or has transitions more
  module _ (rs : List Rec) (seen : Image) (old new : Image → Type 0) (reads : old seen) (stands : Stands rs seen) where
    made_same : (store : Stores) (l : Leaves new store) (a : Image) → old a → l.files ≡ a
        → Reached (Leaves old) IsMadeAgain store
    made_same store l a was same = record {
      origin = store;
      was = record {
        files = a;
        left = was;
        records = l.records;
        stands = subst (Stands l.records) same l.stands;
        is = l.is;
      };
      how = record { changes = refl; stored = ([], append-nil store.stored) };
    }

    made_more : (store : Stores) (l : Leaves new store) → StandsGood g planned rs l.files
        → Reached (Leaves old) IsMadeAgain store
    made_more store l s =
        let is = l.is ∙ ap store_of (stands_unique l.files l.records s.records l.stands s.stands) in
        record {
          origin = store_of rs;
          was = leaves_these rs old seen reads stands;
          how = record {
            changes = ap (λ (t : Stores). t.changes) is ∙ s.added.changes;
            stored = (s.more, sym s.added.transitions ∙ sym (ap (λ (t : Stores). t.stored) is));
          };
        }

    pub made_again : ((c : Image) → new c → ReachedImage old (stays_or_good g planned rs) c) → (store : Stores)
        → Leaves new store → Reached (Leaves old) IsMadeAgain store
    made_again reached store l =
        let from = reached l.files l.left in
        ⊎_elim (λ same. made_same store l from.origin from.was same) (λ s. made_more store l s) from.how
