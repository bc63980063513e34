-- Transitions as a record spells them.
use Rattle.std.specs.Prelude.{ℕ, ◌<◌, ◌^◌, ℤ, List, FitsSigned, refl}
use Rattle.std.specs.Int.{w64}
use Rattle.kap_base.specs.declared.items.Level.{Level}
use Rattle.state_code.specs.Laws.{as_parts, pair_spelled, u64_spelled}
use Rattle.state_code.specs.Levels.{FitsLevel, level_spelled, read_level, spell_level}
use Rattle.state_code.specs.Numbers.{i64_spelled, read_i64, spell_i64}
use Rattle.state_code.specs.Spelling.{FitsPair, IsSpelling, Reading, read_as, read_number, read_pair, spell_bytes, spell_number, spell_pair}
use Rattle.state_code.specs.Texts.{FitsText, read_text, text_spelled}
use Rattle.topic_core.specs.declared.transition.Transition.{Transition}

-- number, topic and id; old and new level; time and message
abbrev pub Parts : Type 0
Parts = (ℕ × (List ℕ × List ℕ)) × ((Level × Level) × (ℤ × List ℕ))

-- a transition as a tuple of its parts
abbrev pub parts_of : Transition → Parts
parts_of t = ((t.number, (t.topic, t.id)), ((t.old_level, t.new_level), (t.time, t.message)))

-- the transition of these parts
abbrev pub transition_of : Parts → Transition
transition_of x =
    record {
      number = x.0.0;
      topic = x.0.1.0;
      id = x.0.1.1;
      old_level = x.1.0.0;
      new_level = x.1.0.1;
      time = x.1.1.0;
      message = x.1.1.1;
    }

-- the number is below 2^64, and topic and id have a spelling
abbrev pub FitsNamed : ℕ × (List ℕ × List ℕ) → Type 0
FitsNamed = FitsPair (λ n. n < 2 ^ 64) (FitsPair FitsText FitsText)

-- the time is within 64 bits, and the message has a spelling
abbrev pub FitsSaid : ℤ × List ℕ → Type 0
FitsSaid = FitsPair (FitsSigned w64) FitsText

-- texts of fewer than 2^32 bytes
abbrev pub FitsTransition : Transition → Type 0
FitsTransition t = FitsPair FitsNamed (FitsPair (FitsPair FitsLevel FitsLevel) FitsSaid) (parts_of t)

-- number, topic and id, one behind the other
abbrev pub spell_named : ℕ × (List ℕ × List ℕ) → List ℕ
spell_named = spell_pair (spell_number w64) (spell_pair spell_bytes spell_bytes)

-- time and message, one behind the other
abbrev pub spell_said : ℤ × List ℕ → List ℕ
spell_said = spell_pair spell_i64 spell_bytes

-- its parts, one behind the other
abbrev pub spell_transition : Transition → List ℕ
spell_transition t = spell_pair spell_named (spell_pair (spell_pair spell_level spell_level) spell_said) (parts_of t)

-- and the transition whose parts stand there
abbrev pub read_transition : Reading Transition
read_transition = read_as transition_of
    (read_pair (read_pair (read_number w64) (read_pair read_text read_text))
    (read_pair (read_pair read_level read_level) (read_pair read_i64 read_text)))

-- what is spelled is read again, and only that
pub transition_spelled : IsSpelling FitsTransition spell_transition read_transition
transition_spelled = as_parts
    (pair_spelled (pair_spelled u64_spelled (pair_spelled text_spelled text_spelled))
    (pair_spelled (pair_spelled level_spelled level_spelled) (pair_spelled i64_spelled text_spelled)))
    transition_of parts_of (λ t. refl) (λ x. refl)
