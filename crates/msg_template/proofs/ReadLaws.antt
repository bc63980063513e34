-- A template is read from action to action.
use Rattle.std.proofs.Common.{◌≡◌, ℕ, ◌+◌, List, [], ◌∷◌, ◌++◌, length, ap, ◌∙◌, arith, append_assoc}
use Rattle.std.proofs.lemmas.List.{length-append}
use Rattle.msg_template.specs.declared.action.Action.{Action}
use Rattle.msg_template.specs.declared.template.Part.{Part}
use Rattle.msg_template.specs.declared.template.Part.TheVariants as parts
use Rattle.msg_template.specs.Reading.{Cut, opening, closing, words}

pub cut_length : (mark text before behind : List ℕ) → Cut mark text before behind → length text ≡ length before + (length mark + length behind)
cut_length mark text before behind c =
    let whole = length-append before (mark ++ behind) in
    let rest = length-append mark behind in
    ap (λ (l : List ℕ). length l) c.is ∙ omega (arith, whole, rest)

-- the lengths of what an action parts
pub one_action_length : (text before behind body rest : List ℕ) → Cut opening text before behind → Cut closing behind body rest → length text ≡ length before + length body + 4 + length rest
one_action_length text before behind body rest begins ends = omega (arith, cut_length opening text before behind begins, cut_length closing behind body rest ends)

-- the parts that were read, behind one action more
pub more_parts : (front now : List Part) (before : List ℕ) (action : Action) (others : List Part) → now ≡ (front ++ words before) ++ parts.Action action ∷ [] → now ++ others ≡ front ++ (words before ++ parts.Action action ∷ others)
more_parts front now before action others is =
    rw is (append_assoc (front ++ words before) (parts.Action action ∷ []) others ∙ append_assoc front (words before) (parts.Action action ∷ others))
