-- Texts of effects, one behind the other.
use Rattle.std.proofs.Common.{◌≡◌, ℕ, ◌+◌, ◌<◌, Bool, true, false, ◌&&◌, List, [], ◌∷◌, ◌++◌, Option, drop, get_or, length, take, refl, sym, ap, ◌∙◌, append-nil, append_assoc}
use Rattle.std.proofs.lemmas.List.{take_more}
use Rattle.std.proofs.lemmas.List.Concat.{flat_map-append}
use Rattle.std.specs.List.{AllByRecursion as Each, flat_map, list_all, slice_get}
use Rattle.std.specs.Option.{option_map_or}
use Rattle.kap_base.specs.declared.items.Effect.{Effect}
use Rattle.kap_base.specs.Events.{EventValue}
use Rattle.kap_base.specs.Points.{is_time}
use Rattle.topic_core.specs.Print.{transition_line}
use Rattle.topic_core.specs.Topics.{Trans}
use Rattle.topic_core.specs.declared.transition.Transition.{Transition}
use Rattle.effect_text.specs.Lines.{effect_lines, event_in, events_of, new_transitions, task_of, text_behind, what_lines}
use Rattle.effect_text.specs.declared.names.TaskNames.{TaskNames}

pub text_more : (tasks : List TaskNames) (events : List EventValue) (xs ys : List Effect) → text_behind tasks events (xs ++ ys) ≡ text_behind tasks events xs ++ text_behind tasks (events ++ events_of xs) ys
unfolding text_behind
text_more tasks events [] ys = sym (ap (λ es. text_behind tasks es ys) (append-nil events))
text_more tasks events (x ∷ xs) ys =
    ap (λ l. effect_lines tasks events x ++ l) (text_more tasks (events ++ event_in x.what) xs ys)
    ∙ sym (append_assoc (effect_lines tasks events x) (text_behind tasks (events ++ event_in x.what) xs) _)
    ∙ ap (λ es. (effect_lines tasks events x ++ text_behind tasks (events ++ event_in x.what) xs) ++ text_behind tasks es ys) (append_assoc events (event_in x.what) (events_of xs))

-- the text of one effect more is that of the others, and its lines
pub text_one_more : (tasks : List TaskNames) (events : List EventValue) (xs : List Effect) (x : Effect) → text_behind tasks events (xs ++ x ∷ []) ≡ text_behind tasks events xs ++ effect_lines tasks (events ++ events_of xs) x
unfolding text_behind
text_one_more tasks events xs x =
    text_more tasks events xs (x ∷ []) ∙ ap (λ l. text_behind tasks events xs ++ l) (append-nil (effect_lines tasks (events ++ events_of xs) x))

-- the lines of an effect are those by any names that are the same for its life
lines_by_names : (some others : List TaskNames) (events : List EventValue) (e : Effect) → task_of others e.life ≡ task_of some e.life → effect_lines others events e ≡ effect_lines some events e
lines_by_names some others events e same =
    ap (λ (task : Option TaskNames). what_lines (option_map_or (λ t. t.id) task []) (option_map_or (λ t. option_map_or (λ name. name) (slice_get t.nodes e.node) []) task []) events e.what) same

-- and so is the text of effects
pub text_by_names : (some others : List TaskNames) (events : List EventValue) (effects : List Effect) → Each (λ e. task_of others e.life ≡ task_of some e.life) effects
    → text_behind others events effects ≡ text_behind some events effects
unfolding text_behind
text_by_names some others events [] same = refl
text_by_names some others events (e ∷ effects) same =
    ap (λ l. l ++ text_behind others (events ++ event_in e.what) effects) (lines_by_names some others events e same.0)
    ∙ ap (λ l. effect_lines some events e ++ l) (text_by_names some others (events ++ event_in e.what) effects same.1)

drop_behind : {A : Type 0} (xs ys : List A) → drop (length xs) (xs ++ ys) ≡ ys
drop_behind [] ys = refl
drop_behind (x ∷ xs) ys = drop_behind xs ys

-- what comes behind the transitions of the events before is new
pub new_are : (events : List EventValue) (e : EventValue) (ts : List Transition) → Trans (events ++ e ∷ []) ≡ Trans events ++ ts → new_transitions events e ≡ ts
new_are events e ts is = ap (drop (length (Trans events))) is ∙ drop_behind (Trans events) ts

-- the line of one new transition
pub line_of_one : (events : List EventValue) (e : EventValue) (t : Transition) (text more : List ℕ) → Trans (events ++ e ∷ []) ≡ Trans events ++ t ∷ [] → more ≡ text ++ transition_line t → more ≡ text ++ flat_map transition_line (new_transitions events e)
line_of_one events e t text more is added =
    added ∙ ap (λ l. text ++ l) (sym (append-nil (transition_line t))) ∙ ap (λ ts. text ++ flat_map transition_line ts) (sym (new_are events e (t ∷ []) is))

-- no new transition has no line
pub line_of_none : (events : List EventValue) (e : EventValue) (text : List ℕ) → Trans (events ++ e ∷ []) ≡ Trans events ++ [] → text ≡ text ++ flat_map transition_line (new_transitions events e)
line_of_none events e text is = sym (append-nil text) ∙ ap (λ ts. text ++ flat_map transition_line ts) (sym (new_are events e [] is))

-- ---- effects, one after the other

take_one : (effects : List Effect) (i : ℕ) (e : Effect) → i < length effects → e ≡ get_or effects i e → take (i + 1) effects ≡ take i effects ++ e ∷ []
take_one effects i e lt is = take_more effects i e lt ∙ ap (λ x. take i effects ++ x ∷ []) (sym is)

pub no_text : (tasks : List TaskNames) (events : List EventValue) (text : List ℕ) → text ≡ text ++ text_behind tasks events []
unfolding text_behind
no_text tasks events text = sym (append-nil text)

pub one_text : (tasks : List TaskNames) (events : List EventValue) (effects : List Effect) (i : ℕ) (e : Effect) (start old new : List ℕ) → i < length effects → e ≡ get_or effects i e
    → old ≡ start ++ text_behind tasks events (take i effects) → new ≡ old ++ effect_lines tasks (events ++ events_of (take i effects)) e
    → new ≡ start ++ text_behind tasks events (take (i + 1) effects)
one_text tasks events effects i e start old new lt is before added =
    added ∙ ap (λ l. l ++ effect_lines tasks (events ++ events_of (take i effects)) e) before
    ∙ append_assoc start (text_behind tasks events (take i effects)) (effect_lines tasks (events ++ events_of (take i effects)) e)
    ∙ ap (λ l. start ++ l) (sym (text_one_more tasks events (take i effects) e) ∙ ap (text_behind tasks events) (sym (take_one effects i e lt is)))

pub one_event : (events : List EventValue) (effects : List Effect) (i : ℕ) (e : Effect) → i < length effects → e ≡ get_or effects i e
    → (events ++ events_of (take i effects)) ++ event_in e.what ≡ events ++ events_of (take (i + 1) effects)
one_event events effects i e lt is =
    append_assoc events (events_of (take i effects)) (event_in e.what)
    ∙ ap (λ l. events ++ (events_of (take i effects) ++ l)) (sym (append-nil (event_in e.what)))
    ∙ ap (λ l. events ++ l) (sym (flat_map-append (λ (x : Effect). event_in x.what) (take i effects) (e ∷ [])) ∙ ap events_of (sym (take_one effects i e lt is)))

-- ---- the times of their events

abbrev pub are_timely : List EventValue → Bool
are_timely es = list_all (λ e. is_time e.time) es

timely-append : (xs ys : List EventValue) → are_timely (xs ++ ys) ≡ (are_timely xs && are_timely ys)
timely-append [] ys = refl
timely-append (x ∷ xs) ys = elim (is_time x.time) as (λ b. (b && are_timely (xs ++ ys)) ≡ ((b && are_timely xs) && are_timely ys)) [
  | true ↦ timely-append xs ys
  | false ↦ refl
]

-- those of more events are in range too
pub times_behind : (xs ys : List EventValue) → are_timely xs ≡ true → are_timely ys ≡ true → are_timely (xs ++ ys) ≡ true
times_behind xs ys a b = timely-append xs ys ∙ rw (a, b) refl
