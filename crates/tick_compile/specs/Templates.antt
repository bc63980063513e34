-- The template that a text is: its actions are read from the left.
use Rattle.std.specs.Prelude.{ℕ, zero, suc, ◌+◌, Bool, if◌then◌else◌, List, [], ◌∷◌, ◌++◌, length, drop, nat_eq, nat_le, Option, Some, None, Result, Ok, Err, option_map}
use Rattle.std.specs.List.{starts_with}
use Rattle.std.specs.Option.{option_map_or}
use Rattle.kap_base.specs.Words.{◌>>=◌}
use Rattle.msg_template.specs.Actions.{action_at}
use Rattle.msg_template.specs.Reading.{closing, opening, words}
use Rattle.msg_template.specs.declared.fault.TemplateFault.{TemplateFault}
use Rattle.msg_template.specs.declared.fault.TemplateFault.TheVariants as faults
use Rattle.msg_template.specs.declared.template.Part.{Part}
use Rattle.msg_template.specs.declared.template.Part.TheVariants as parts
use Rattle.msg_template.specs.declared.template.TheConstants.{TEMPLATE_LIMIT}
use Rattle.tick_compile.specs.declared.node_fault.NodeFault.{NodeFault}
use Rattle.tick_compile.specs.declared.node_fault.NodeFault.TheVariants.{Template}
use Rattle.tick_compile.specs.declared.given.Given.{Given}
use Rattle.tick_compile.specs.Words.{fitting, needed}
use Rattle.tick_compile.specs.Sorts.{as_text, one}

-- what stands before the first of these marks, and what stands behind it
unfoldable pub cut_at : List ℕ → List ℕ → Option (List ℕ × List ℕ)
cut_at mark [] = None
cut_at mark (b ∷ bytes) =
    if starts_with nat_eq (b ∷ bytes) mark then Some ([], drop (length mark) (b ∷ bytes))
    else option_map (λ cut. (b ∷ cut.0, cut.1)) (cut_at mark bytes)

-- The parts of a text that stands at the place `at`, or its first fault: the words before the first `{{`, the action up
-- to the first `}}` behind it, and the parts of the rest. It has no more actions than `most`; `of_id` where it is an
-- id's.
unfoldable pub parts_from : ℕ → Bool → ℕ → List ℕ → Result (List Part) TemplateFault
parts_from zero of_id at text = Ok (words text)
parts_from (suc most) of_id at text =
    option_map_or (λ cut.
    option_map_or (λ end.
    action_at of_id (at + length cut.0) end.0
    >>= λ action. parts_from most of_id (at + (length cut.0 + length end.0 + 4)) end.1 >>= λ others.
    Ok (words cut.0 ++ parts.Action action ∷ others))
    (cut_at closing cut.1) (Err (faults.Action (at + length cut.0))))
    (cut_at opening text) (Ok (words text))

-- the template of a text, `of_id` where it is that of an id: it has no more actions than bytes
unfoldable pub template_of : Bool → List ℕ → Result (List Part) TemplateFault
template_of of_id text = parts_from (length text) of_id 0 text

-- the fault of a template as one of the property at this place
abbrev pub template_at : ℕ → Result (List Part) TemplateFault → Result (List Part) NodeFault
template_at at (Ok template) = Ok template
template_at at (Err fault) = Err (Template at fault)

-- a text that is a template; one that is longer than any script is none
abbrev pub template_given : {L : Type 0} → Bool → ℕ → List (Given L) → Result (List Part) NodeFault
template_given of_id at args =
    needed at (one as_text args) >>= λ text. fitting at (nat_le (length text) TEMPLATE_LIMIT) text
    >>= λ short. template_at at (template_of of_id short)
