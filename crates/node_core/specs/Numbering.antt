-- How what a node says is stamped, and its effects numbered.
use Rattle.std.specs.Prelude.{◌≡◌, ℕ, ◌+◌, ◌==◌, if◌then◌else◌, List, [], ◌∷◌, ◌++◌, map, length}
use Rattle.kap_base.specs.declared.items.Body.{Body}
use Rattle.kap_base.specs.declared.items.Item.{Item}
use Rattle.kap_base.specs.declared.items.Stamp.{Stamp}
use Rattle.kap_base.specs.declared.items.Effect.{Effect}
use Rattle.kap_base.specs.declared.items.What.{What}
use Rattle.node_core.specs.declared.said.Said.{Said}
use Rattle.node_core.specs.declared.running.Tally.{Tally}
use Rattle.node_core.specs.declared.running.Running.{Running}
use Rattle.node_core.specs.declared.alone.Alone.{Alone}
use Rattle.node_core.specs.declared.grouped.Grouped.{Grouped}
use Rattle.node_core.specs.declared.numbered.Seat.{Seat}
use Rattle.node_core.specs.Meaning.{Arrival, Saying, Turn, Input, Answer, Given, Move, given}

-- an input without its stamp
abbrev pub arrival : Input → Arrival
arrival x = (x.0, x.1.body)

-- what is given out, with a stamp
abbrev pub item_at : Stamp → Body → Item
item_at stamp body = record { stamp = stamp; body = body }

-- what is done, by which node in which life, and its number
abbrev pub effect_at : ℕ → ℕ → Stamp → ℕ → What → Effect
effect_at life node stamp seq what = record { stamp = stamp; life = life; node = node; seq = seq; what = what }

-- each of them, with a stamp
abbrev pub items_at : Stamp → List Body → List Item
items_at stamp bodies = map (item_at stamp) bodies

-- numbered from here on
abbrev pub effects_from : ℕ → ℕ → Stamp → ℕ → List What → List Effect
effects_from life node stamp seq [] = []
effects_from life node stamp seq (what ∷ whats) =
    effect_at life node stamp seq what ∷ effects_from life node stamp (seq + 1) whats

-- what is said, with a stamp, and its effects numbered from here on
abbrev pub given_at : ℕ → ℕ → Stamp → ℕ → Said → Given
given_at life node stamp seq said =
    record {
      items = items_at stamp said.bodies;
      effects = effects_from life node stamp seq said.deeds;
      drops = said.drops;
    }

-- how many effects were given with this stamp, by the last stamp with which some were given and their number
abbrev pub number_at : Tally → ℕ → ℕ
number_at t stamp = if t.stamp == stamp then t.count else 0

-- with more of them given with this stamp
abbrev pub counted : Tally → ℕ → ℕ → Tally
counted t stamp more = if more == 0 then t else record { stamp = stamp; count = number_at t stamp + more }

-- none was given
abbrev pub no_tally : Tally
no_tally = record { stamp = 0; count = 0 }

-- behind the inputs xs that come behind others
abbrev pub tally_after : Saying → Tally → List Input → List Input → Tally
tally_after saying t before [] = t
tally_after saying t before (x ∷ xs) =
    tally_after saying (counted t x.1.stamp.0 (length (saying (map arrival before) (arrival x)).deeds)) (before
    ++ x ∷ []) xs

-- the last stamp with which effects were given, and how many, behind these inputs
abbrev pub tally : Saying → List Input → Tally
tally saying before = tally_after saying no_tally [] before

-- what a node answers that says this: an effect's number counts those that were given last before it, where they have
-- its stamp
abbrev pub stamped : ℕ → ℕ → Saying → Answer
stamped life node saying before x =
    given_at life node x.1.stamp (number_at (tally saying before) x.1.stamp.0) (saying (map arrival before) (arrival x))

-- how many effects the inputs xs that come behind others cause with this stamp
abbrev pub given_with : ℕ → Saying → List Input → List Input → ℕ
given_with stamp saying before [] = 0
given_with stamp saying before (x ∷ xs) =
    (if x.1.stamp.0 == stamp then length (saying (map arrival before) (arrival x)).deeds
    else 0) + given_with stamp saying (before ++ x ∷ []) xs

-- what a node does in each group by itself, with the life in which it runs, and its number
abbrev pub rule_seat : {R : Type 0} → ℕ → ℕ → R → Seat (Grouped R)
rule_seat life node rule = record { life = life; node = node; kind = record { rule = rule } }

-- what a node does with each body by itself, with the life in which it runs, and its number
abbrev pub plain_seat : {P : Type 0} → ℕ → ℕ → P → Seat (Alone P)
plain_seat life node plain = record { life = life; node = node; kind = record { plain = plain } }

-- ---- the machine of a node, from the machine of what it says

-- a step: what is said gets its stamp, its effects their numbers, and its drops are counted
abbrev pub running_step : {S : Type 0} → ℕ → ℕ → (S → Arrival → Turn S) → Running S → Input → Move (Running S)
running_step life node step s x =
    let turn = step s.inner (arrival x) in
    record {
      state = record {
        tally = counted s.tally x.1.stamp.0 (length turn.said.deeds);
        dropped = s.dropped + turn.said.drops;
        inner = turn.state;
      };
      given = given_at life node x.1.stamp (number_at s.tally x.1.stamp.0) turn.said;
    }

-- the state before the first input
abbrev pub running_first : {S : Type 0} → S → Running S
running_first s = record { tally = no_tally; dropped = 0; inner = s }

-- what is kept of the inputs so far
pub record KeptRunning {S : Type 0} (life node : ℕ) (saying : Saying) (Kept : List Arrival → S → Type 0)
    (before : List Input) (s : Running S) : Type 0 where
  pub tally : s.tally ≡ tally saying before
  pub dropped : s.dropped ≡ (given (stamped life node saying) before).drops
  pub inner : Kept (map arrival before) s.inner
