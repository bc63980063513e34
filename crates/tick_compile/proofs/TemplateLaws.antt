-- A text's template is what its crate reads in it.
use Rattle.std.proofs.Common.{◌≡◌, ◌≢◌, ◌<◌, ◌≤◌, ◌+◌, ℕ, zero, suc, Bool, true, false, cond, List, [], ◌∷◌, ◌++◌, length, drop, Option, Some, None, Result, Ok, Err, refl, sym, ap, ◌∙◌, arith, length-append, subst, true≢false}
use Rattle.std.specs.Prelude.{IfErr, IfOk, nat_eq, option_map}
use Rattle.std.specs.List.{starts_with}
use Rattle.std.specs.Option.{option_map_or}
use Rattle.std.proofs.lemmas.Bool.Decides.{Decides-eqb}
use Rattle.std.proofs.lemmas.Slice.Eq.{starts_is}
use Rattle.kap_base.specs.Words.{◌>>=◌, Answers}
use Rattle.msg_template.specs.Actions.{action_at}
use Rattle.msg_template.specs.Reading.{Cut, Lacks, OneAction, Reads, Refuses, closing, last_words, later_action, next_action, no_end, opening, this_action, words}
use Rattle.msg_template.specs.declared.action.Action.{Action}
use Rattle.msg_template.specs.declared.fault.TemplateFault.{TemplateFault}
use Rattle.msg_template.specs.declared.fault.TemplateFault.TheVariants as faults
use Rattle.msg_template.specs.declared.template.Part.{Part}
use Rattle.msg_template.specs.declared.template.Part.TheVariants as parts
use Rattle.tick_compile.specs.Templates.{cut_at, parts_from, template_of}

-- ---- cuts

-- these are a cut, or there is no mark
abbrev CutTold : List ℕ → List ℕ → Option (List ℕ × List ℕ) → Type 0
CutTold mark text None = Lacks mark text
CutTold mark text (Some cut) = Cut mark text cut.0 cut.1

module _ (mark : List ℕ) (b : ℕ) (bytes : List ℕ) where
  abbrev begins : Bool
  begins = starts_with nat_eq (b ∷ bytes) mark

  lacks_first : begins ≡ false → Lacks mark bytes → Lacks mark (b ∷ bytes)
  lacks_first none lacks zero le rest is = absurd (true≢false (sym ((starts_is Decides-eqb (b ∷ bytes) mark begins refl).1 rest is) ∙ none))
  lacks_first none lacks (suc k) le rest is = lacks k (omega (arith, le)) rest is

  later_cut : begins ≡ false → (o : Option (List ℕ × List ℕ)) → CutTold mark bytes o → CutTold mark (b ∷ bytes) (option_map (λ cut. (b ∷ cut.0, cut.1)) o)
  later_cut none None lacks = lacks_first none lacks
  later_cut none (Some cut) c = record { is = ap (λ (l : List ℕ). b ∷ l) c.is; first = first }
    where
      first : (k : ℕ) → k < length (b ∷ cut.0) → (rest : List ℕ) → drop k (b ∷ bytes) ≢ mark ++ rest
      first zero lt rest is = absurd (true≢false (sym ((starts_is Decides-eqb (b ∷ bytes) mark begins refl).1 rest is) ∙ none))
      first (suc k) lt rest is = c.first k (omega (arith, lt)) rest is

  either_cut : (t : Bool) → begins ≡ t → CutTold mark bytes (cut_at mark bytes)
      → CutTold mark (b ∷ bytes) (cond t (Some ([], drop (length mark) (b ∷ bytes))) (option_map (λ cut. (b ∷ cut.0, cut.1)) (cut_at mark bytes)))
  either_cut true all told = record { is = (starts_is Decides-eqb (b ∷ bytes) mark begins refl).0 all; first = λ k lt. absurd (omega (arith, lt)) }
  either_cut false none told = later_cut none (cut_at mark bytes) told

cut_told : (m : ℕ) (ms text : List ℕ) → CutTold (m ∷ ms) text (cut_at (m ∷ ms) text)
unfolding cut_at
cut_told m ms [] = none
  where
    none : (k : ℕ) → k ≤ 0 → (rest : List ℕ) → drop k [] ≢ (m ∷ ms) ++ rest
    none zero le rest is = absurd cc
    none (suc k) le rest is = absurd (omega (arith, le))
cut_told m ms (b ∷ bytes) = either_cut (m ∷ ms) b bytes (starts_with nat_eq (b ∷ bytes) (m ∷ ms)) refl (cut_told m ms bytes)

cut_length : (mark text before behind : List ℕ) → Cut mark text before behind → length text ≡ length before + (length mark + length behind)
cut_length mark text before behind c =
    let whole = length-append before (mark ++ behind) in
    let rest = length-append mark behind in
    ap (λ (l : List ℕ). length l) c.is ∙ omega (arith, whole, rest)

-- ---- parts

-- these are the parts that are read, or this is the fault
abbrev Told : Bool → ℕ → List ℕ → Result (List Part) TemplateFault → Type 0
Told of_id at text (Ok ps) = Reads of_id text ps
Told of_id at text (Err f) = Refuses of_id text at f

-- the parts of the rest of a text, where the rest is shorter than the text
abbrev RestTold : ℕ → Bool → Type 0
RestTold most of_id = (at : ℕ) (text : List ℕ) → length text ≤ most → Told of_id at text (parts_from most of_id at text)

module _ (most : ℕ) (of_id : Bool) (rest_told : RestTold most of_id) (at : ℕ) (text : List ℕ) (short : length text ≤ suc most) where
  module _ (before behind body rest : List ℕ) (begun : Cut opening text before behind) (ends : Cut closing behind body rest) where
    one : OneAction text before body rest
    one = record { behind = behind; begins = begun; ends = ends }

    behind_action : (action : Action) → action_at of_id (at + length before) body ≡ Ok action → (r : Result (List Part) TemplateFault)
        → Told of_id (at + (length before + length body + 4)) rest r → Told of_id at text (r >>= λ others. Ok (words before ++ parts.Action action ∷ others))
    behind_action action is (Ok others) reads = next_action text before body rest (at + length before) action others one is reads
    behind_action action is (Err f) refuses = later_action text before body rest at action f one is refuses

    shorter : length rest ≤ most
    shorter = omega (arith, short, cut_length opening text before behind begun, cut_length closing behind body rest ends)

    acted : (r : Result Action TemplateFault) → action_at of_id (at + length before) body ≡ r
        → Told of_id at text (r >>= λ action. parts_from most of_id (at + (length before + length body + 4)) rest >>= λ others. Ok (words before ++ parts.Action action ∷ others))
    acted (Err f) is = this_action text before body rest at f one is
    acted (Ok action) is =
        behind_action action is (parts_from most of_id (at + (length before + length body + 4)) rest) (rest_told (at + (length before + length body + 4)) rest shorter)

  abbrev ended : (before : List ℕ) → List ℕ × List ℕ → Result (List Part) TemplateFault
  ended before end =
      action_at of_id (at + length before) end.0 >>= λ action. parts_from most of_id (at + (length before + length end.0 + 4)) end.1 >>= λ others.
      Ok (words before ++ parts.Action action ∷ others)

  closed : (before behind : List ℕ) → Cut opening text before behind → (o : Option (List ℕ × List ℕ)) → CutTold closing behind o
      → Told of_id at text (option_map_or (ended before) o (Err (faults.Action (at + length before))))
  closed before behind begun None lacks = no_end text before behind at begun lacks
  closed before behind begun (Some end) ends = acted before behind end.0 end.1 begun ends (action_at of_id (at + length before) end.0) refl

  opened : (o : Option (List ℕ × List ℕ)) → CutTold opening text o
      → Told of_id at text (option_map_or (λ cut. option_map_or (ended cut.0) (cut_at closing cut.1) (Err (faults.Action (at + length cut.0)))) o (Ok (words text)))
  opened None lacks = last_words text lacks
  opened (Some cut) begun = closed cut.0 cut.1 begun (cut_at closing cut.1) (cut_told 125 (125 ∷ []) cut.1)

parts_told : (most : ℕ) (of_id : Bool) → RestTold most of_id
unfolding parts_from cut_at
parts_told zero of_id at [] short = last_words [] (cut_told 123 (123 ∷ []) [])
parts_told zero of_id at (b ∷ bytes) short = absurd (omega (arith, short))
parts_told (suc most) of_id at text short = opened most of_id (parts_told most of_id) at text short (cut_at opening text) (cut_told 123 (123 ∷ []) text)

pub template_told : (of_id : Bool) (text : List ℕ) → Told of_id 0 text (template_of of_id text)
unfolding template_of
template_told of_id text = parts_told (length text) of_id 0 text (omega arith)

-- ---- what is read is the template, since a text is read in one way

abbrev pub OneReading : Type 0
OneReading = (of_id : Bool) (text : List ℕ) (ps qs : List Part) → Reads of_id text ps → Reads of_id text qs → ps ≡ qs

abbrev pub OneFault : Type 0
OneFault = (of_id : Bool) (text : List ℕ) (at : ℕ) (f g : TemplateFault) → Refuses of_id text at f → Refuses of_id text at g → f ≡ g

abbrev pub Apart : Type 0
Apart = (of_id : Bool) (text : List ℕ) (at : ℕ) (ps : List Part) (f : TemplateFault) → Reads of_id text ps → Refuses of_id text at f → ⊥

pub template_read : OneReading → Apart → (of_id : Bool) (text : List ℕ) (ps : List Part) → Reads of_id text ps → template_of of_id text ≡ Ok ps
template_read one apart of_id text ps reads = go (template_of of_id text) (template_told of_id text)
  where
    go : (r : Result (List Part) TemplateFault) → Told of_id 0 text r → r ≡ Ok ps
    go (Ok qs) told = ap Ok (one of_id text qs ps told reads)
    go (Err f) told = absurd (apart of_id text 0 ps f reads told)

pub template_refused : OneFault → Apart → (of_id : Bool) (text : List ℕ) (f : TemplateFault) → Refuses of_id text 0 f → template_of of_id text ≡ Err f
template_refused one apart of_id text f refuses = go (template_of of_id text) (template_told of_id text)
  where
    go : (r : Result (List Part) TemplateFault) → Told of_id 0 text r → r ≡ Err f
    go (Ok ps) told = absurd (apart of_id text 0 ps f told refuses)
    go (Err g) told = ap Err (one of_id text 0 g f told refuses)

-- the answer of reading is the template
pub answered : OneReading → OneFault → Apart → (of_id : Bool) (text : List ℕ) (r : Result (List Part) TemplateFault) → IfOk r (λ ps. Reads of_id text ps)
    → IfErr r (λ f. f ≢ faults.NoMemory → Refuses of_id text 0 f) → Answers faults.NoMemory r (template_of of_id text)
answered reading fault apart of_id text (Ok ps) ok err = template_read reading apart of_id text ps ok
answered reading fault apart of_id text (Err f) ok err = λ known. template_refused fault apart of_id text f (err known)

-- the template of a text is what is read in it
pub parts_are_read : (of_id : Bool) (text : List ℕ) (ps : List Part) → template_of of_id text ≡ Ok ps → Reads of_id text ps
parts_are_read of_id text ps is = subst (λ (r : Result (List Part) TemplateFault). Told of_id 0 text r) is (template_told of_id text)

pub fault_is_read : (of_id : Bool) (text : List ℕ) (f : TemplateFault) → template_of of_id text ≡ Err f → Refuses of_id text 0 f
fault_is_read of_id text f is = subst (λ (r : Result (List Part) TemplateFault). Told of_id 0 text r) is (template_told of_id text)
