-- Examples: the transitions of events, and the level of a topic.
use Rattle.std.specs.Prelude.{◌≡◌, ℕ, pos, List, [], ◌∷◌, codes}
use Rattle.kap_base.specs.Events.{EventValue}
use Rattle.kap_base.specs.declared.items.Level.{Level}
use Rattle.kap_base.specs.declared.items.Level.TheVariants.{Fine, Info, Warning, Critical}
use Rattle.topic_core.specs.Topics.{Trans, greatest_level, transition}

-- an event of a topic and an id, at this time
abbrev pub event : List ℕ → List ℕ → Level → ℕ → EventValue
event topic id level time = record { topic = topic; id = id; level = level; time = pos time; message = codes "m" }

-- a first OK makes none
abbrev pub FirstIsFine : Type 0
FirstIsFine = Trans (event (codes "t") (codes "a") Fine 1 ∷ []) ≡ []

-- a level that is repeated makes none
abbrev pub RepeatedLevel : Type 0
RepeatedLevel =
    Trans (event (codes "t") (codes "a") Critical 1 ∷ event (codes "t") (codes "a") Critical 2 ∷ [])
    ≡ transition 1 Fine (event (codes "t") (codes "a") Critical 1) ∷ []

-- back to OK is one more
abbrev pub BackToFine : Type 0
BackToFine =
    Trans (event (codes "t") (codes "a") Critical 1 ∷ event (codes "t") (codes "a") Fine 2 ∷ [])
    ≡ transition 1 Fine (event (codes "t") (codes "a") Critical 1) ∷ transition 2 Critical
    (event (codes "t") (codes "a") Fine 2) ∷ []

-- two ids of one topic are apart, though they come in turn
abbrev pub TwoIds : Type 0
TwoIds =
    Trans (event (codes "t") (codes "a") Warning 1 ∷ event (codes "t") (codes "b") Warning 1 ∷ event (codes "t")
    (codes "a") Warning 2 ∷ [])
    ≡ transition 1 Fine (event (codes "t") (codes "a") Warning 1) ∷ transition 2 Fine
    (event (codes "t") (codes "b") Warning 1) ∷ []

-- one id of two topics is two
abbrev pub TwoTopics : Type 0
TwoTopics =
    Trans (event (codes "t") (codes "a") Info 1 ∷ event (codes "u") (codes "a") Info 2 ∷ [])
    ≡ transition 1 Fine (event (codes "t") (codes "a") Info 1) ∷ transition 2 Fine
    (event (codes "u") (codes "a") Info 2) ∷ []

-- two senders that share an id take its level from each other
abbrev pub SharedId : Type 0
SharedId =
    Trans (event (codes "t") (codes "a") Critical 1 ∷ event (codes "t") (codes "a") Fine 2 ∷ event (codes "t")
    (codes "a") Critical 3 ∷ [])
    ≡ transition 1 Fine (event (codes "t") (codes "a") Critical 1)
    ∷ transition 2 Critical (event (codes "t") (codes "a") Fine 2)
    ∷ transition 3 Fine (event (codes "t") (codes "a") Critical 3)
    ∷ []

-- the level of a topic is the greatest of its ids, and OK where there are none
abbrev pub GreatestOfIds : Type 0
GreatestOfIds = greatest_level ((codes "a", Warning) ∷ (codes "b", Critical) ∷ (codes "c", Info) ∷ []) ≡ Critical

abbrev pub GreatestOfNone : Type 0
GreatestOfNone = greatest_level [] ≡ Fine
