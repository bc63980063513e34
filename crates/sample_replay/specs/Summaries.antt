-- The summary of a replay.
use Rattle.std.specs.Prelude.{◌≡◌, ℕ, Bool, true, false, List, ◌++◌, codes, length}
use Rattle.std.specs.Fmt.{decimal}
use Rattle.std.specs.List.{count_by}
use Rattle.kap_base.specs.Points.{PointValue}
use Rattle.kap_base.specs.declared.items.Effect.{Effect}
use Rattle.kap_base.specs.declared.items.What.{What}
use Rattle.kap_base.specs.declared.items.What.TheVariants as what
use Rattle.node_core.specs.Meaning.{Answer}
use Rattle.effect_text.specs.Lines.{events_of, text_of}
use Rattle.effect_text.specs.declared.names.TaskNames.{TaskNames}
use Rattle.task_run.specs.Graphs.{Placed}
use Rattle.task_run.specs.Lives.{effects_of}
use Rattle.topic_core.specs.Topics.{StandsFor, Trans, TopicsValue}

-- it tells of a point, and not of an event
abbrev pub is_point : What → Bool
is_point (what.Line p) = true
is_point (what.Event e) = false

-- how many points are logged
abbrev pub logged : List Effect → ℕ
logged effects = count_by (λ e. is_point e.what) effects

-- the four lines of a summary: how many points there were, how many lines of each kind they gave, and how long these
-- are together
abbrev pub summary_lines : ℕ → ℕ → ℕ → ℕ → List ℕ
summary_lines points out alerts bytes =
    codes "points " ++ decimal points ++ codes "\nout " ++ decimal out ++ codes "\nalerts " ++ decimal alerts
    ++ codes "\nbytes " ++ decimal bytes ++ codes "\n"

-- the summary of the text of these effects of so many points
abbrev pub summary_of : List TaskNames → ℕ → List Effect → List ℕ
summary_of names points effects =
    summary_lines points (logged effects) (length (Trans (events_of effects))) (length (text_of names effects))

-- so many logged points, so many bytes and these topics are those of these effects
pub record HasCounted (names : List TaskNames) (effects : List Effect) (points bytes : ℕ)
    (topics : TopicsValue) : Type 0 where
  pub points_are : points ≡ logged effects
  pub bytes_are : bytes ≡ length (text_of names effects)
  pub topics_are : StandsFor (events_of effects) topics

module _ {P : Type 0} (answer : P → Answer) where
  -- the summary of a replay of these points by the nodes of lives
  abbrev pub summary : List TaskNames → List (List (Placed P)) → List PointValue → List ℕ
  summary names lives points = summary_of names (length points) (effects_of answer lives points)
