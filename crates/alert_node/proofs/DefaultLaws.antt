-- The default templates are what their texts are read as.
use Rattle.std.proofs.Common.{◌≡◌, ℕ, zero, suc, ◌<◌, ◌≤◌, Bool, true, false, not, ◌&&◌, List, [], ◌∷◌, ◌++◌, length, refl, ap, ◌∙◌, sym, eq-eqb, arith}
use Rattle.std.specs.Prelude.{◌==◌, codes}
use Rattle.std.specs.List.{list_all}
use Rattle.std.specs.Str.Pattern.{LacksTextAt}
use Rattle.msg_template.specs.declared.action.Action.TheVariants as actions
use Rattle.msg_template.specs.declared.template.Part.TheVariants.{Words, Action}
use Rattle.msg_template.specs.Reading.{Cut, OneAction, Reads, last_words, next_action, opening}
use Rattle.alert_node.specs.Events.{default_id, default_message}

-- ---- marks

both : (a b : Bool) → (a && b) ≡ true → (a ≡ true) × (b ≡ true)
both true b e = (refl, e)
both false b e = absurd cc

-- no byte of these is this one
abbrev lacks_byte : ℕ → List ℕ → Bool
lacks_byte byte bytes = list_all (λ b. not (b == byte)) bytes

differs : (b byte : ℕ) (xs ys : List ℕ) → not (b == byte) ≡ true → b ∷ xs ≡ byte ∷ ys → ⊥
differs b byte xs ys e same =
    let is : b ≡ byte = cc in
    let yes : (b == byte) ≡ true = eq-eqb b byte is in
    let contradiction : true ≡ false = sym e ∙ ap not yes in
    absurd cc

lacks_front : (byte : ℕ) (mark before rest : List ℕ) → lacks_byte byte before ≡ true → (k : ℕ) → k < length before → LacksTextAt (byte ∷ mark) (before ++ rest) k
lacks_front byte mark [] rest e k lt = absurd (omega arith)
lacks_front byte mark (b ∷ before) rest e zero lt = λ more same. differs b byte (before ++ rest) (mark ++ more) (both _ _ e).0 same
lacks_front byte mark (b ∷ before) rest e (suc k) lt = lacks_front byte mark before rest (both _ _ e).1 k (omega arith)

first_mark : (byte other : ℕ) (before behind : List ℕ) → lacks_byte byte before ≡ true → Cut (byte ∷ other ∷ []) (before ++ (byte ∷ other ∷ behind)) before behind
first_mark byte other before behind e = record { is = refl; first = lacks_front byte (other ∷ []) before (byte ∷ other ∷ behind) e }

-- the action between these words and the rest
one_action : (before body rest : List ℕ) → lacks_byte 123 before ≡ true → lacks_byte 125 body ≡ true → OneAction (before ++ (123 ∷ 123 ∷ (body ++ (125 ∷ 125 ∷ rest)))) before body rest
one_action before body rest words inner =
    record { behind = body ++ (125 ∷ 125 ∷ rest); begins = first_mark 123 123 before (body ++ (125 ∷ 125 ∷ rest)) words; ends = first_mark 125 125 body rest inner }

no_mark : (k : ℕ) → k ≤ 0 → LacksTextAt opening [] k
no_mark zero le = λ more same. absurd cc
no_mark (suc k) le = absurd (omega arith)

-- ---- the defaults

group_reads : Reads true (codes ":{{ .Group }}") (Words (codes ":") ∷ Action actions.Group ∷ [])
group_reads =
    next_action (codes ":{{ .Group }}") (codes ":") (codes " .Group ") [] 0 actions.Group [] (one_action (codes ":") (codes " .Group ") [] refl refl) refl (last_words [] no_mark)

pub id_reads : Reads true (codes "{{ .Name }}:{{ .Group }}") default_id
id_reads =
    next_action (codes "{{ .Name }}:{{ .Group }}") [] (codes " .Name ") (codes ":{{ .Group }}") 0 actions.Name (Words (codes ":") ∷ Action actions.Group ∷ [])
    (one_action [] (codes " .Name ") (codes ":{{ .Group }}") refl refl) refl group_reads

level_reads : Reads false (codes " is {{ .Level }}") (Words (codes " is ") ∷ Action actions.Level ∷ [])
level_reads =
    next_action (codes " is {{ .Level }}") (codes " is ") (codes " .Level ") [] 0 actions.Level [] (one_action (codes " is ") (codes " .Level ") [] refl refl) refl (last_words [] no_mark)

pub message_reads : Reads false (codes "{{ .ID }} is {{ .Level }}") default_message
message_reads =
    next_action (codes "{{ .ID }} is {{ .Level }}") [] (codes " .ID ") (codes " is {{ .Level }}") 0 actions.Id (Words (codes " is ") ∷ Action actions.Level ∷ [])
    (one_action [] (codes " .ID ") (codes " is {{ .Level }}") refl refl) refl level_reads
