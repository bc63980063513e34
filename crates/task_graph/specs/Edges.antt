-- What nodes give on and take.
use Rattle.std.specs.Prelude.{Bool, true, false, Option, Some, None, is_none}
use Rattle.task_graph.specs.declared.graph.Flow.{Flow}
use Rattle.task_graph.specs.declared.graph.Flow.TheVariants.{Points, Batches}
use Rattle.task_graph.specs.declared.spec.Spec.{Spec}
use Rattle.task_graph.specs.declared.spec.Spec.TheVariants.{Stream, From, Window, Select, Union, Join, Alert}

-- a window gives batches, an alert nothing, and each other node points
abbrev pub gives : {L : Type 0} → Spec L → Option Flow
gives (Window w) = Some Batches
gives (Alert a) = None
gives _ = Some Points

-- a select node takes batches, and each other node points
abbrev pub takes : {L : Type 0} → Spec L → Flow
takes (Select s) = Batches
takes _ = Points

-- a union and a join take the nodes that they are called with, besides the one that they stand under
abbrev pub takes_nodes : {L : Type 0} → Spec L → Bool
takes_nodes (Union rename) = true
takes_nodes (Join join) = true
takes_nodes _ = false

-- it is the stream
abbrev pub is_stream : {L : Type 0} → Spec L → Bool
is_stream (Stream dbrps) = true
is_stream _ = false

-- nothing stands under it
abbrev pub ends_chain : {L : Type 0} → Spec L → Bool
ends_chain parent = is_none (gives parent)

-- A `from` stands under the stream or a `from` alone, and any other node not under the stream. The stream stands under
-- nothing.
abbrev pub cannot_stand : {L : Type 0} → Spec L → Spec L → Bool
cannot_stand (Stream dbrps) parent = true
cannot_stand (From f) (Stream dbrps) = false
cannot_stand (From f) (From g) = false
cannot_stand (From f) parent = true
cannot_stand child (Stream dbrps) = true
cannot_stand child parent = false

-- batches where points are taken, or the reverse
abbrev pub is_other_flow : Flow → Flow → Bool
is_other_flow Points Points = false
is_other_flow Batches Batches = false
is_other_flow taken given = true

-- the parent gives something, and not what the child takes
abbrev pub differs : Flow → Option Flow → Bool
differs taken None = false
differs taken (Some given) = is_other_flow taken given

-- the child takes batches where its parent gives points, or the reverse
abbrev pub is_wrong_kind : {L : Type 0} → Spec L → Spec L → Bool
is_wrong_kind child parent = differs (takes child) (gives parent)
