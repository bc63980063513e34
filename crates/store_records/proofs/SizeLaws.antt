-- How many bytes a transition takes in a record.
use Rattle.std.proofs.Common.{◌≡◌, ℕ, ◌+◌, List, ◌++◌, length, refl, arith, length-append}
use Rattle.std.specs.Int.{cast_unsigned, w32, w64}
use Rattle.kap_base.specs.declared.items.Level.{Level}
use Rattle.kap_base.specs.declared.items.Level.TheVariants.{Fine, Info, Warning, Critical}
use Rattle.state_code.specs.Levels.{spell_level}
use Rattle.state_code.specs.Spelling.{spell_bytes, spell_number}
use Rattle.topic_core.specs.declared.transition.Transition.{Transition}
use Rattle.store_records.specs.Transitions.{spell_transition}

number_size : (n : ℕ) → length (spell_number w64 n) ≡ 8
unfolding spell_number
number_size n = refl

count_size : (n : ℕ) → length (spell_number w32 n) ≡ 4
unfolding spell_number
count_size n = refl

text_size : (text : List ℕ) → length (spell_bytes text) ≡ 4 + length text
unfolding spell_bytes
text_size text = omega (arith, length-append (spell_number w32 (length text)) text, count_size (length text))

level_size : (level : Level) → length (spell_level level) ≡ 1
level_size Fine = refl
level_size Info = refl
level_size Warning = refl
level_size Critical = refl

pub transition_size : (t : Transition) → length (spell_transition t) ≡ 30 + (length t.topic + (length t.id + length t.message))
transition_size t =
    let number = spell_number w64 t.number in
    let topic = spell_bytes t.topic in
    let id = spell_bytes t.id in
    let old = spell_level t.old_level in
    let new = spell_level t.new_level in
    let time = spell_number w64 (cast_unsigned w64 t.time) in
    let message = spell_bytes t.message in
    omega (
      arith,
      length-append (number ++ (topic ++ id)) ((old ++ new) ++ (time ++ message)),
      length-append number (topic ++ id),
      length-append topic id,
      length-append (old ++ new) (time ++ message),
      length-append old new,
      length-append time message,
      number_size t.number,
      text_size t.topic,
      text_size t.id,
      level_size t.old_level,
      level_size t.new_level,
      number_size (cast_unsigned w64 t.time),
      text_size t.message,
    )
