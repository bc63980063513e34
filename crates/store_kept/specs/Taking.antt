-- Taking in the next record, by its body.
use Rattle.std.specs.Prelude.{ℕ, ◌&&◌, ◌==◌, Bool, true, false, List, [], ◌∷◌, ◌++◌, map}
use Rattle.std.specs.List.{list_all}
use Rattle.topic_core.specs.Topics.{StandsFor, TopicsValue, event_of}
use Rattle.topic_core.specs.declared.transition.Transition.{Transition}
use Rattle.store_records.specs.Held.{MayFollow, are_next, has_task, may_define}
use Rattle.store_records.specs.Histories.{Follow, held}
use Rattle.store_records.specs.Lines.{are_lines, is_of}
use Rattle.store_records.specs.Records.{IsBodyOf}
use Rattle.store_records.specs.declared.rec.Rec.{Rec}
use Rattle.store_records.specs.declared.rec.Rec.TheVariants as kinds
use Rattle.store_kept.specs.Keeping.{KeepsRecords, KeptValue}

-- whether the record may follow, by what is kept and the transitions so far
abbrev pub follows : KeptValue → List Transition → Rec → Bool
follows k ts (kinds.Define id script enabled) = may_define id script k.tasks
follows k ts (kinds.Enable id) = has_task id k.tasks
follows k ts (kinds.Disable id) = has_task id k.tasks
follows k ts (kinds.Delete id) = has_task id k.tasks
follows k ts (kinds.Batch db rp points) = are_lines (db, rp) && list_all (is_of db rp) points
follows k ts (kinds.Trans transitions) = are_next ts transitions
follows k ts (kinds.Snap points trans states) = (points == k.points) && (trans == k.transitions)

-- what is kept, and the topics, are those of a store with these records
pub record Holds (rs : List Rec) (k : KeptValue) (topics : TopicsValue) : Type 0 where
  pub follow : Follow rs
  pub kept : KeepsRecords rs k
  pub topics_are : StandsFor (map event_of (held rs).transitions) topics

-- the body is that of a record that may follow, which is taken in
pub record Takes (rs : List Rec) (body : List ℕ) (k : KeptValue) (topics : TopicsValue) : Type 0 where
  pub next : Rec
  pub body_of : IsBodyOf next body
  pub holds : Holds (rs ++ next ∷ []) k topics

-- the body is taken in, or it is that of no record that may follow
abbrev pub TakesOrNot : List Rec → List ℕ → KeptValue → TopicsValue → Bool → Type 0
TakesOrNot rs body k topics true = Takes rs body k topics
TakesOrNot rs body k topics false = (r : Rec) → IsBodyOf r body → MayFollow (held rs) r → ⊥
