-- What a template is read as.
use Rattle.std.specs.Prelude.{◌≡◌, ℕ, ◌+◌, ◌<◌, ◌≤◌, Bool, if◌then◌else◌, codes, List, [], ◌∷◌, ◌++◌, length, Ok, Err}
use Rattle.std.specs.Str.Pattern.{LacksTextAt}
use Rattle.kap_base.specs.Texts.{is_empty}
use Rattle.msg_template.specs.declared.action.Action.{Action}
use Rattle.msg_template.specs.declared.template.Part.{Part}
use Rattle.msg_template.specs.declared.template.Part.TheVariants as parts
use Rattle.msg_template.specs.declared.fault.TemplateFault.{TemplateFault}
use Rattle.msg_template.specs.declared.fault.TemplateFault.TheVariants as faults
use Rattle.msg_template.specs.Actions.{action_at}

-- the mark stands nowhere in the text
abbrev pub Lacks : List ℕ → List ℕ → Type 0
Lacks mark text = (k : ℕ) → k ≤ length text → LacksTextAt mark text k

-- the text is what stands before the first of these marks, the mark, and what stands behind it
pub record Cut (mark text before behind : List ℕ) : Type 0 where
  pub is : text ≡ before ++ (mark ++ behind)
  pub first : (k : ℕ) → k < length before → LacksTextAt mark text k

-- the mark that an action begins with
abbrev pub opening : List ℕ
opening = codes "{{"

-- the mark that an action ends with
abbrev pub closing : List ℕ
closing = codes "}}"

-- The text is words, an action that runs from the first `{{` to the first `}}` behind it, and the rest.
pub record OneAction (text before body rest : List ℕ) : Type 0 where
  pub behind : List ℕ
  pub begins : Cut opening text before behind
  pub ends : Cut closing behind body rest

-- words that stand for themselves
abbrev pub words : List ℕ → List Part
words text = if is_empty text then [] else parts.Words text ∷ []

-- The parts of a template, `of_id` where it is that of an id: words without `{{`; or words, an action, and the parts of
-- the rest.
pub data Reads (of_id : Bool) : List ℕ → List Part → Type 0 where
  last_words : (text : List ℕ) → Lacks opening text → Reads of_id text (words text)
  next_action : (text before body rest : List ℕ) (at : ℕ) (action : Action) (others : List Part) →
      OneAction text before body rest → action_at of_id at body ≡ Ok action → Reads of_id rest others →
      Reads of_id text (words before ++ parts.Action action ∷ others)

-- The first fault from the left of a text that stands at the place `at`: `{{` without `}}`; the fault of the action;
-- or, behind an action that has none, the first fault of the rest.
pub data Refuses (of_id : Bool) : List ℕ → ℕ → TemplateFault → Type 0 where
  no_end : (text before behind : List ℕ) (at : ℕ) → Cut opening text before behind → Lacks closing behind →
      Refuses of_id text at (faults.Action (at + length before))
  this_action : (text before body rest : List ℕ) (at : ℕ) (fault : TemplateFault) → OneAction text before body rest →
      action_at of_id (at + length before) body ≡ Err fault → Refuses of_id text at fault
  later_action : (text before body rest : List ℕ) (at : ℕ) (action : Action) (fault : TemplateFault) →
      OneAction text before body rest → action_at of_id (at + length before) body ≡ Ok action →
      Refuses of_id rest (at + (length before + length body + 4)) fault → Refuses of_id text at fault
