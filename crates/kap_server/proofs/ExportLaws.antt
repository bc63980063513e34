-- What the alerts of a store have to do with a replay of what it exports.
use Rattle.std.proofs.Common.{◌≡◌, ◌⊎◌, ℕ, suc, ◌+◌, ◌≤◌, ◌||◌, inl, inr, arith, Bool, true, false, List, [], ◌∷◌, ◌++◌, Option, length, map, drop, refl, sym, ap, subst, ◌∙◌, append-nil, append_assoc}
use Rattle.std.specs.Prelude.{if◌then◌else◌, filter, flat_map}
use Rattle.std.specs.List.{AllZip}
use Rattle.std.specs.Cmp.Lexicographic.{bytes_decides}
use Rattle.std.specs.Str.{bytes_eq}
use Rattle.std.proofs.lemmas.List.Concat.{flat_map-append}
use Rattle.kap_base.specs.Events.{EventValue}
use Rattle.kap_base.specs.Points.{PointValue}
use Rattle.kap_base.specs.Tree.{Tree}
use Rattle.kap_base.specs.declared.items.Effect.{Effect}
use Rattle.kap_base.specs.declared.items.What.{What}
use Rattle.kap_base.specs.declared.items.What.TheVariants as what
use Rattle.effect_text.specs.Lines.{event_in, events_of, id_of, node_of, text_behind, what_lines}
use Rattle.effect_text.specs.declared.names.TaskNames.{TaskNames}
use Rattle.life_effects.proofs.OpenAloneLaws.{alone_effects}
use Rattle.life_effects.proofs.RenumberLaws.{effects_alike}
use Rattle.life_effects.proofs.TransLaws.{trans_rest}
use Rattle.life_effects.specs.Effects.{stored_effects}
use Rattle.life_effects.specs.OpenAlone.{AreOpenAlone, of_open}
use Rattle.life_effects.specs.Renumbered.{AreAlike, SaysAlike, whats}
use Rattle.node_core.specs.Meaning.{Answer}
use Rattle.node_set.specs.Tasks.{Planned, nodes_from}
use Rattle.recording_file.specs.Recording.{Recording}
use Rattle.store_lists.specs.Lists.{points_text, transitions_text}
use Rattle.store_records.specs.Held.{Held, is_enabled, is_open, is_open_of}
use Rattle.store_records.specs.Orders.{AreValidLives, HasOpenLives, IsInOrder, IsValid}
use Rattle.store_records.specs.declared.task.Life.{Life}
use Rattle.task_graph.specs.declared.spec.NodeSpec.{NodeSpec}
use Rattle.task_run.specs.Lives.{effects_of}
use Rattle.tick_compile.specs.declared.tasks.Task.{Task}
use Rattle.topic_core.specs.Print.{transition_line}
use Rattle.topic_core.specs.Topics.{Trans, changes, numbered}
use Rattle.topic_core.specs.declared.transition.Transition.{Transition}
use Rattle.engine_runs.specs.Scripts.{AreTasksOf, IsTaskOf, graphs_from}
use Rattle.kap_server.specs.Exporting.{SayInEachLife, TellsAsReplay, alert_text, event_effects, is_event, open_pairs, pair_of}
use Rattle.kap_server.specs.Listing.{Shows}
use Rattle.kap_server.specs.Pairs.{AreTasks, is_among, task_names}
use Rattle.kap_server.specs.Runs.{lives_from}
use Rattle.kap_server.specs.Words.{Pair}
use Rattle.kap_server.specs.declared.status.Status.{Status}

-- ---- the lines of alerts are those of transitions

-- the events of effects are those of what they tell
events-told : (es : List Effect) → events_of es ≡ flat_map event_in (whats es)
events-told [] = refl
events-told (e ∷ es) = ap (λ (l : List EventValue). event_in e.what ++ l) (events-told es)

drop-front : {A : Type 0} (xs ys : List A) → drop (length xs) (xs ++ ys) ≡ ys
drop-front [] ys = refl
drop-front (x ∷ xs) ys = drop-front xs ys

-- the transitions that more events make behind others
abbrev more-trans : List EventValue → List EventValue → List Transition
more-trans events new = drop (length (Trans events)) (Trans (events ++ new))

-- those of one event and then of others
more-of : (events : List EventValue) (e : EventValue) (others : List EventValue) → more-trans events (e ∷ others) ≡ more-trans events (e ∷ []) ++ more-trans (events ++ e ∷ []) others
more-of events e others =
    let t = Trans events in
    let a = more-trans events (e ∷ []) in
    let b = more-trans (events ++ e ∷ []) others in
    let first : Trans (events ++ e ∷ []) ≡ t ++ a = trans_rest events (e ∷ []) in
    let all : Trans (events ++ e ∷ others) ≡ t ++ (a ++ b) =
    ap Trans (sym (append_assoc events (e ∷ []) others)) ∙ trans_rest (events ++ e ∷ []) others ∙ ap (λ (l : List Transition). l ++ b) first ∙ append_assoc t a b in
    ap (drop (length t)) all ∙ drop-front t (a ++ b)

none-more : (events : List EventValue) → more-trans events [] ≡ []
none-more events = ap (λ (es : List EventValue). drop (length (Trans events)) (Trans es)) (append-nil events) ∙ ap (drop (length (Trans events))) (sym (append-nil (Trans events))) ∙ drop-front (Trans events) []

no-trans : Trans [] ≡ []
unfolding changes numbered
no-trans = refl

-- the text of an effect and of others, without the lines of points
alerts-one : (names : List TaskNames) (events : List EventValue) (e : Effect) (es : List Effect) (w : What) → e.what ≡ w
    → ((before : List EventValue) → text_behind names before (event_effects es) ≡ flat_map transition_line (more-trans before (events_of es)))
    → text_behind names events (if is_event w then e ∷ event_effects es else event_effects es) ≡ flat_map transition_line (more-trans events (event_in w ++ events_of es))
unfolding text_behind
alerts-one names events e es (what.Line p) is rest = rest events
alerts-one names events e es (what.Event x) is rest =
    ap (λ (w : What). what_lines (id_of names e.life) (node_of names e.life e.node) events w ++ text_behind names (events ++ event_in w) (event_effects es)) is
    ∙ ap (λ (l : List ℕ). flat_map transition_line (more-trans events (x ∷ [])) ++ l) (rest (events ++ x ∷ []))
    ∙ sym (flat_map-append transition_line (more-trans events (x ∷ [])) (more-trans (events ++ x ∷ []) (events_of es)))
    ∙ ap (flat_map transition_line) (sym (more-of events x (events_of es)))

-- and of all
from-none : (es : List EventValue) → Trans es ≡ more-trans [] es
from-none es = trans_rest [] es ∙ ap (λ (ts : List Transition). ts ++ more-trans [] es) no-trans

alerts-behind : (names : List TaskNames) (events : List EventValue) (es : List Effect) → text_behind names events (event_effects es) ≡ flat_map transition_line (more-trans events (events_of es))
unfolding text_behind
alerts-behind names events [] = sym (ap (flat_map transition_line) (none-more events))
alerts-behind names events (e ∷ es) = alerts-one names events e es e.what refl (λ before. alerts-behind names before es)

-- ---- open lives are those of the pairs

module _ {P : Type 0} (answer : P → Answer) (planned : Planned P) (say : SayInEachLife answer planned) where
  nodes-alike : (task : List ℕ) (one other number : ℕ) (nodes : List (NodeSpec Tree)) → AllZip (SaysAlike answer one other) (nodes_from planned task one number nodes) (nodes_from planned task other number nodes)
  nodes-alike task one other number [] = tt
  nodes-alike task one other number (node ∷ nodes) =
      let s = say task number node in
      (record { parents = refl; saying = s.0; node = number; answer_one = s.1 one; answer_other = s.1 other }, nodes-alike task one other (number + 1) nodes)

  abbrev Alike : ℕ → ℕ → List Life → List Task → Type 0
  Alike one other lives tasks = AllZip (AreAlike answer) (of_open lives (graphs_from planned one lives tasks)) (lives_from planned other (open_pairs lives) (of_open lives tasks))

  none-alike : (other : ℕ) (pairs : List Pair) → AllZip (AreAlike answer) [] (lives_from planned other pairs [])
  none-alike other [] = tt
  none-alike other (p ∷ pairs) = tt

  one-alike : (one other : ℕ) (life : Life) (lives : List Life) (task : Task) (tasks : List Task) (b : Bool) → ((n : ℕ) → Alike (one + 1) n lives tasks)
      → AllZip (AreAlike answer) (if b then nodes_from planned life.task one 0 task.graph ∷ of_open lives (graphs_from planned (one + 1) lives tasks) else of_open lives (graphs_from planned (one + 1) lives tasks))
      (lives_from planned other (map pair_of (if b then life ∷ of_open lives lives else of_open lives lives)) (if b then task ∷ of_open lives tasks else of_open lives tasks))
  one-alike one other life lives task tasks true rest = (record { number = one; other_number = other; nodes = nodes-alike life.task one other 0 task.graph }, rest (other + 1))
  one-alike one other life lives task tasks false rest = rest other

  lives-alike : (one other : ℕ) (lives : List Life) (tasks : List Task) → Alike one other lives tasks
  lives-alike one other [] tasks = tt
  lives-alike one other (life ∷ lives) [] = none-alike other (open_pairs (life ∷ lives))
  lives-alike one other (life ∷ lives) (task ∷ tasks) = one-alike one other life lives task tasks (is_open life) (λ n. lives-alike (one + 1) n lives tasks)

  -- the transitions of a store whose open lives alone have seen its points are told by a replay of these
  pub alerts_replayed : (names : List TaskNames) (points : List PointValue) (lives : List Life) (tasks : List Task) → AreOpenAlone points lives
      → flat_map transition_line (Trans (events_of (stored_effects answer lives (graphs_from planned 1 lives tasks) points)))
      ≡ alert_text names (effects_of answer (lives_from planned 1 (open_pairs lives) (of_open lives tasks)) points)
  alerts_replayed names points lives tasks alone =
      let graphs = graphs_from planned 1 lives tasks in
      let replayed = effects_of answer (lives_from planned 1 (open_pairs lives) (of_open lives tasks)) points in
      let same : whats (stored_effects answer lives graphs points) ≡ whats replayed =
      ap whats (alone_effects answer points lives graphs alone) ∙ effects_alike answer points (of_open lives graphs) (lives_from planned 1 (open_pairs lives) (of_open lives tasks)) (lives-alike 1 1 lives tasks) in
      let events : events_of (stored_effects answer lives graphs points) ≡ events_of replayed =
      events-told (stored_effects answer lives graphs points) ∙ ap (flat_map event_in) same ∙ sym (events-told replayed) in
      ap (λ (es : List EventValue). flat_map transition_line (Trans es)) events ∙ ap (flat_map transition_line) (from-none (events_of replayed)) ∙ sym (alerts-behind names [] replayed)

-- ---- and these are tasks

or-false : (b : Bool) → (b || false) ≡ true → b ≡ true
or-false true h = refl
or-false false h = h

among-more : (b : Bool) (x id : List ℕ) (ids : List (List ℕ)) → ((is_among x (ids ++ id ∷ [])) ≡ true → (is_among x ids ≡ true) ⊎ (bytes_eq x id ≡ true))
    → (b || is_among x (ids ++ id ∷ [])) ≡ true → ((b || is_among x ids) ≡ true) ⊎ (bytes_eq x id ≡ true)
among-more true x id ids rest h = inl refl
among-more false x id ids rest h = rest h

among-last : (x id : List ℕ) (ids : List (List ℕ)) → is_among x (ids ++ id ∷ []) ≡ true → (is_among x ids ≡ true) ⊎ (bytes_eq x id ≡ true)
among-last x id [] h = inr (or-false (bytes_eq x id) h)
among-last x id (y ∷ ids) h = among-more (bytes_eq x y) x id ids (among-last x id ids) h

-- how many open lives there are of a task
abbrev open-count : List ℕ → List Life → ℕ
open-count id lives = length (filter (is_open_of id) lives)

count-less : (id : List ℕ) (life : Life) (lives : List Life) → open-count id lives ≤ open-count id (life ∷ lives)
count-less id life lives = pick (is_open_of id life)
  where
    pick : (b : Bool) → open-count id lives ≤ length (if b then life ∷ filter (is_open_of id) lives else filter (is_open_of id) lives)
    pick true = omega arith
    pick false = omega arith

count-own : (life : Life) (lives : List Life) → is_open life ≡ true → open-count life.task (life ∷ lives) ≡ suc (open-count life.task lives)
count-own life lives h = rw ((bytes_decides life.task life.task).1 refl, h) refl

-- the ids of so many pairs before are those of no open life, and each task has one open life at most
record AreNew (ids : List (List ℕ)) (lives : List Life) : Type 0 where
  one : (id : List ℕ) → open-count id lives ≤ 1
  none : (id : List ℕ) → is_among id ids ≡ true → open-count id lives ≡ 0

new-behind : (ids : List (List ℕ)) (life : Life) (lives : List Life) → AreNew ids (life ∷ lives) → AreNew ids lives
new-behind ids life lives n = record {
  one = λ id. let less = count-less id life lives in let few = n.one id in omega (arith, less, few);
  none = λ id among. let less = count-less id life lives in let none = n.none id among in omega (arith, less, none);
}

new-id : (ids : List (List ℕ)) (life : Life) (lives : List Life) → is_open life ≡ true → AreNew ids (life ∷ lives) → (b : Bool) → is_among life.task ids ≡ b → is_among life.task ids ≡ false
new-id ids life lives h n true e = let own = count-own life lives h in let none = n.none life.task e in absurd (omega (arith, own, none))
new-id ids life lives h n false e = e

new-next : (ids : List (List ℕ)) (life : Life) (lives : List Life) → is_open life ≡ true → AreNew ids (life ∷ lives) → AreNew (ids ++ life.task ∷ []) lives
new-next ids life lives h n =
    let own = count-own life lives h in
    let most = n.one life.task in
    let rest : open-count life.task lives ≡ 0 = omega (arith, own, most) in
    let before = new-behind ids life lives n in
    record {
      one = before.one;
      none = λ id among. elim (among-last id life.task ids among) as (λ s. open-count id lives ≡ 0) [
        | inl there ↦ before.none id there
        | inr same ↦ ap (λ (x : List ℕ). open-count x lives) ((bytes_decides id life.task).0 same) ∙ rest
      ];
    }

-- the pairs of open lives, of which each task has one at most, are tasks
one-pair : (life : Life) (lives : List Life) (task : Task) (tasks : List Task) (ids : List (List ℕ)) (b : Bool) → is_open life ≡ b → IsTaskOf life task → IsValid life.task life.script → AreNew ids (life ∷ lives)
    → ((others : List (List ℕ)) → AreNew others lives → AreTasks others (open_pairs lives) (of_open lives tasks))
    → AreTasks ids (map pair_of (if b then life ∷ of_open lives lives else of_open lives lives)) (if b then task ∷ of_open lives tasks else of_open lives tasks)
one-pair life lives task tasks ids true h accepts valid n rest =
    (record { short = valid.short; new = new-id ids life lives h n (is_among life.task ids) refl; accepted = accepts }, rest (ids ++ life.task ∷ []) (new-next ids life lives h n))
one-pair life lives task tasks ids false h accepts valid n rest = rest ids (new-behind ids life lives n)

pairs-are : (lives : List Life) (tasks : List Task) (ids : List (List ℕ)) → AreTasksOf lives tasks → AreValidLives lives → AreNew ids lives → AreTasks ids (open_pairs lives) (of_open lives tasks)
pairs-are [] [] ids are valid n = tt
pairs-are [] (t ∷ tasks) ids are valid n = absurd are
pairs-are (life ∷ lives) [] ids are valid n = absurd are
pairs-are (life ∷ lives) (task ∷ tasks) ids are valid n =
    one-pair life lives task tasks ids (is_open life) refl are.0 valid.0 n (λ others new. pairs-are lives tasks others are.1 valid.1 new)

open-one : (h : Held) → HasOpenLives h → (id : List ℕ) → open-count id h.lives ≤ 1
open-one h one id = most (is_enabled id h.tasks) (one id)
  where
    most : (b : Bool) → open-count id h.lives ≡ (if b then 1 else 0) → open-count id h.lives ≤ 1
    most true e = omega (arith, e)
    most false e = omega (arith, e)

-- so are those of a store
pub pairs_of_store : {h : Held} → IsInOrder h → (tasks : List Task) → AreTasksOf h.lives tasks → AreTasks [] (open_pairs h.lives) (of_open h.lives tasks)
pairs_of_store {h} order tasks are = pairs-are h.lives tasks [] are order.lives (record { one = open-one h order.one_open; none = λ id among. absurd cc })

-- ---- what `alerts` writes of a store that a replay may take

pub tells_as_replay : {P : Type 0} (answer : P → Answer) (planned : Planned P) (h : Held) (tasks : List Task) (ts : List Transition) (result : Status) (w v : Option (List ℕ))
    → ((names : List TaskNames) → transitions_text ts ≡ alert_text names (effects_of answer (lives_from planned 1 (open_pairs h.lives) (of_open h.lives tasks)) h.points))
    → AreTasks [] (open_pairs h.lives) (of_open h.lives tasks) → Recording (points_text h.points) h.points
    → Shows (transitions_text ts) result w v → TellsAsReplay answer planned h tasks result w v
tells_as_replay answer planned h tasks ts result w v told pairs read shown = record {
  pairs = pairs;
  read = read;
  alerts = subst (λ (text : List ℕ). Shows text result w v) (told (task_names (open_pairs h.lives) (of_open h.lives tasks))) shown;
}
