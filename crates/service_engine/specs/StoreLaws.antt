-- The stores for which the disk of an engine stands.
use Rattle.std.proofs.Common.{◌≡◌, Bool, false, List, Option, Some, None, refl, sym, ap, ◌∙◌}
use Rattle.kap_io.specs.Disk.{Image}
use Rattle.node_core.specs.declared.node.Node.{Ghosts}
use Rattle.node_set.specs.Tasks.{Planned}
use Rattle.store_records.specs.declared.rec.Rec.{Rec}
use Rattle.topic_store.specs.Stores.{IsOn, Stands, StoreState}
use Rattle.topic_store.proofs.Adding.{image_stands}
use Rattle.topic_store.proofs.Apart.{stands_unique}
use Rattle.kap_engine.specs.Engines.{EngineValue}
use Rattle.kap_service.specs.Values.{Stores}
use Rattle.service_engine.specs.Engines.{IsOver, IsRight, Leaves, changes_of, is_spent, store_of}

-- where a store stands on its disk, that stands for no other
pub leaves_on : (rs : List Rec) (seen : Image) (images : Image → Type 0) (on_disk : StoreState)
    → IsOn rs seen images on_disk → (store : Stores) → Leaves images store → store ≡ store_of rs
leaves_on rs seen images on_disk on store l =
    l.is ∙ ap store_of (stands_unique l.files l.records rs l.stands (image_stands rs seen images on_disk on l.files l.left))

-- an image stands for the store of records for which its files stand
pub leaves_these : (rs : List Rec) (images : Image → Type 0) (files : Image) → images files → Stands rs files
    → Leaves images (store_of rs)
leaves_these rs images files left stands = record { files = files; left = left; records = rs; stands = stands; is = refl }

module _ {N P S : Type 0} (g : Ghosts N P S) (planned : Planned P) (tells : Bool) (seen : Image) (images : Image → Type 0)
  where
    -- what an engine stands over is the only store
    pub over_is : (e : EngineValue N) (o : IsOver g planned seen images e) (store : Stores) → Leaves images store
        → store ≡ store_of o.records
    over_is e o store l = leaves_on o.records seen images e.store o.engine.on store l

    -- some store is left
    pub leaves_some : (e : Option (EngineValue N)) → images seen → IsRight g planned tells seen images e
        → (store : Stores) × Leaves images store
    leaves_some e reads r =
        let now = r.each seen reads in
        (store_of now.records, leaves_these now.records images seen reads now.stands)

    -- and no other while the engine isn't spent
    pub leaves_one : (e : Option (EngineValue N)) → IsRight g planned tells seen images e → is_spent e ≡ false
        → (store other : Stores) → Leaves images store → Leaves images other → store ≡ other
    leaves_one (Some e) r unspent store other l m =
        over_is e (r.over unspent) store l ∙ sym (over_is e (r.over unspent) other m)
    leaves_one None r unspent store other l m = absurd (cc unspent)

    -- whose changes it counts
    pub leaves_counts : (e : Option (EngineValue N)) → IsRight g planned tells seen images e → is_spent e ≡ false
        → (store : Stores) → Leaves images store → store.changes ≡ changes_of e
    leaves_counts (Some e) r unspent store l =
        ap (λ (s : Stores). s.changes) (over_is e (r.over unspent) store l)
        ∙ sym (r.over unspent).engine.on.kept.keeps.changes
    leaves_counts None r unspent store l = absurd (cc unspent)
