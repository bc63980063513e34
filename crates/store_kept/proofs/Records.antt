-- A record that is taken in, or may not follow.
use Rattle.std.proofs.Common.{◌≡◌, ℕ, true, false, List, [], ◌∷◌, ◌++◌, length, map, sym, ap, ◌∙◌, subst, Option, append-nil}
use Rattle.std.specs.Prelude.{IfSome}
use Rattle.std.specs.List.{list_all}
use Rattle.kap_base.specs.Points.{PointValue}
use Rattle.kap_base.proofs.TestLaws.{both}
use Rattle.state_code.specs.Laws.{once}
use Rattle.topic_core.specs.Topics.{StandsFor, TopicsValue, event_of}
use Rattle.topic_core.specs.declared.transition.Transition.{Transition}
use Rattle.store_records.specs.Batches.{IsBatchOf}
use Rattle.store_records.specs.Held.{Held, MayFollow, transitions_in}
use Rattle.store_records.specs.Histories.{end_of, held}
use Rattle.store_records.specs.Lines.{are_lines, is_of}
use Rattle.store_records.specs.Records.{IsBodyOf, record_spelled}
use Rattle.store_records.specs.declared.rec.Rec.{Rec}
use Rattle.store_records.specs.declared.rec.Rec.TheVariants as kinds
use Rattle.store_kept.specs.Changing.{ArePartsFor, IsMarkAt, kept_with}
use Rattle.store_kept.specs.Keeping.{KeepsRecords, KeptValue}
use Rattle.store_kept.specs.Taking.{Holds, Takes, follows}
use Rattle.store_kept.specs.declared.kept.Mark.{Mark}
use Rattle.store_kept.specs.declared.parts.Parts.{Parts}
use Rattle.store_kept.proofs.Following.{may_of, not_of}
use Rattle.store_kept.proofs.Keeping.{follow_push, held_push, keeps_push}

-- ---- one record at most has a body

pub same_record : (r q : Rec) (body : List ℕ) → IsBodyOf r body → IsBodyOf q body → r ≡ q
same_record r q body one two =
    (once record_spelled r q [] [] one.fits two.fits (ap (λ (t : List ℕ). t ++ []) (sym one.is ∙ two.is))).0

-- ---- what is kept behind one more record

-- a record is taken in
pub taken : (rs : List Rec) (r : Rec) (body : List ℕ) (k later : KeptValue) (topics more : TopicsValue) (mark : Option Mark) → Holds rs k topics → IsBodyOf r body
    → true ≡ follows k (held rs).transitions r → later ≡ kept_with (end_of rs) r mark k → IfSome mark (IsMarkAt (end_of rs) k)
    → StandsFor (map event_of ((held rs).transitions ++ transitions_in r)) more → Takes rs body later more
taken rs r body k later topics more mark holds is may later_is at stands = record {
  next = r;
  body_of = is;
  holds = record {
    follow = follow_push rs r holds.follow is.fits (may_of (held rs) k holds.kept.keeps r is.fits (sym may));
    kept = subst (KeepsRecords (rs ++ r ∷ [])) (sym later_is) (keeps_push rs r k mark holds.kept at);
    topics_are = subst (λ (ts : List Transition). StandsFor (map event_of ts) more) (sym (ap (λ (h : Held). h.transitions) (held_push rs r))) stands;
  };
}

-- a record may not follow
pub refused : (rs : List Rec) (r : Rec) (body : List ℕ) (k : KeptValue) (topics : TopicsValue) → Holds rs k topics → IsBodyOf r body
    → false ≡ follows k (held rs).transitions r → (q : Rec) → IsBodyOf q body → MayFollow (held rs) q → ⊥
refused rs r body k topics holds is may q other follow =
    not_of (held rs) k holds.kept.keeps r (sym may) (subst (MayFollow (held rs)) (same_record q r body other is) follow)

-- the parts of a record that may follow were put in
pub committed : (rs : List Rec) (r : Rec) (body : List ℕ) (gate : ℕ) (k mid later : KeptValue) (topics more : TopicsValue) (parts : Parts) → Holds rs k topics → gate ≡ end_of rs
    → IsBodyOf r body → true ≡ follows k (held rs).transitions r → mid ≡ k → ArePartsFor gate r k parts
    → ((at : ℕ) → ArePartsFor at r mid parts → later ≡ kept_with at r parts.mark mid)
    → StandsFor (map event_of ((held rs).transitions ++ transitions_in r)) more → Takes rs body later more
committed rs r body gate k mid later topics more parts holds at is may mid_is are puts stands =
    let there = subst (λ (n : ℕ). ArePartsFor n r k parts) at are in
    let later_is = puts (end_of rs) (subst (λ (m : KeptValue). ArePartsFor (end_of rs) r m parts) (sym mid_is) there)
    ∙ ap (λ (m : KeptValue). kept_with (end_of rs) r parts.mark m) mid_is in
    taken rs r body k later topics more parts.mark holds is may later_is there.mark stands

-- the parts of a batch were put in, whose points are so many
pub batch_committed : (rs : List Rec) (body : List ℕ) (count gate : ℕ) (k mid later : KeptValue) (topics : TopicsValue) (parts : Parts) → Holds rs k topics → gate ≡ end_of rs
    → IsBatchOf count body → mid ≡ k
    → ((db rp : List ℕ) (points : List PointValue) → length points ≡ count → ArePartsFor gate (kinds.Batch db rp points) k parts)
    → ((at : ℕ) (db rp : List ℕ) (points : List PointValue) → ArePartsFor at (kinds.Batch db rp points) mid parts → later ≡ kept_with at (kinds.Batch db rp points) parts.mark mid)
    → Takes rs body later topics
batch_committed rs body count gate k mid later topics parts holds at batch mid_is are puts =
    committed rs (kinds.Batch batch.db batch.rp batch.points) body gate k mid later topics topics parts holds at batch.body_of
    (sym (both (are_lines (batch.db, batch.rp)) (list_all (is_of batch.db batch.rp) batch.points) batch.form.0 batch.form.1))
    mid_is (are batch.db batch.rp batch.points batch.count_is) (λ n. puts n batch.db batch.rp batch.points)
    (subst (λ (ts : List Transition). StandsFor (map event_of ts) topics) (sym (append-nil (held rs).transitions)) holds.topics_are)
