-- What is printed of the values are the texts.
use Rattle.std.proofs.Common.{◌≡◌, ◌≢◌, ℕ, ◌==◌, Bool, true, false, List, [], ◌∷◌, ◌++◌, codes, map, Result, Ok, Err, inl, inr, refl, sym, ap, ◌∙◌, append_assoc, eqb-true}
use Rattle.std.proofs.lemmas.Bool.{false≢true}
use Rattle.std.specs.Prelude.{IfOk}
use Rattle.std.specs.FinMap.{entries}
use Rattle.std.specs.List.{flat_map}
use Rattle.json.specs.Print.{escape_byte, print, quoted}
use Rattle.json.specs.Tree.{json_tokens}
use Rattle.kap_base.specs.Levels.{level_name}
use Rattle.kap_base.specs.Maps.{KeyMap}
use Rattle.kap_base.specs.declared.items.Level.{Level}
use Rattle.kap_http.specs.Replies.{out_of_memory}
use Rattle.kap_http.specs.ReplyValues.{ReplyValue}
use Rattle.serde_json.specs.Data.{Data}
use Rattle.serde_json.specs.View.{items_of}
use Rattle.serde_json.specs.Written.{compact_text, items_text, outline}
use Rattle.serde_json.proofs.Texts.{print-outline}
use Rattle.store_records.specs.declared.task.StoredTask.{StoredTask}
use Rattle.topic_core.specs.Topics.{greatest_level}
use Rattle.reply_bodies.specs.Bodies.{IsDueOrShort, IsGiven, given_reply}
use Rattle.reply_bodies.specs.Texts.{id_entry, joined, level_text, stored_text, task_text, tasks_text, topic_entry, topic_text, topics_text}
use Rattle.reply_bodies.specs.Values.{entry_value, id_value, level_value, stored_value, task_value, tasks_value, topic_value, topics_value}

-- ---- lists

module _ {T : Type 0} (value : T → Data) (text : T → List ℕ) (same : (x : T) → compact_text (value x) ≡ text x) where
  -- the others, each behind a comma
  others_text : (xs : List T) → items_text true (items_of (map value xs)) ≡ flat_map (λ other. codes "," ++ other) (map text xs) ++ 93 ∷ []
  others_text [] = refl
  others_text (x ∷ xs) =
      ap (λ (s : List ℕ). 44 ∷ (s ++ items_text true (items_of (map value xs)))) (same x)
      ∙ ap (λ (s : List ℕ). 44 ∷ (text x ++ s)) (others_text xs)
      ∙ sym (append_assoc (44 ∷ text x) (flat_map (λ other. codes "," ++ other) (map text xs)) (93 ∷ []))

  pub list_text : (xs : List T) → items_text false (items_of (map value xs)) ≡ joined (map text xs) ++ 93 ∷ []
  list_text [] = refl
  list_text (x ∷ xs) =
      ap (λ (s : List ℕ). s ++ items_text true (items_of (map value xs))) (same x)
      ∙ ap (λ (s : List ℕ). text x ++ s) (others_text xs)
      ∙ sym (append_assoc (text x) (flat_map (λ other. codes "," ++ other) (map text xs)) (93 ∷ []))

-- ---- texts

pub task_compact : (id script : List ℕ) (enabled : Bool) → compact_text (task_value id script enabled) ≡ task_text id script enabled
unfolding escape_byte
task_compact id script enabled = simp append_assoc

pub level_compact : (name : List ℕ) (level : Level) → compact_text (level_value name level) ≡ level_text name level
unfolding escape_byte
level_compact name level = simp append_assoc

-- behind a list stand its end and more
behind : (front list rest items : List ℕ) → items ≡ list ++ 93 ∷ [] → front ++ (items ++ rest) ≡ front ++ list ++ 93 ∷ rest
behind front list rest items is = ap (λ (s : List ℕ). front ++ (s ++ rest)) is ∙ simp append_assoc

-- the parts of a text, one behind the other
regroup : (front list a b c d e : List ℕ) → front ++ list ++ (a ++ (b ++ (c ++ (d ++ e)))) ≡ front ++ list ++ a ++ b ++ c ++ d ++ e
regroup front list a b c d e = simp append_assoc

pub tasks_compact : (tasks : List StoredTask) → compact_text (tasks_value tasks) ≡ tasks_text tasks
unfolding escape_byte
tasks_compact tasks =
    behind (codes "{\"tasks\":[") (joined (map stored_text tasks)) (125 ∷ []) (items_text false (items_of (map stored_value tasks)))
    (list_text stored_value stored_text (λ task. task_compact task.id task.script task.enabled) tasks)

pub topics_compact : (levels : KeyMap (KeyMap Level)) → compact_text (topics_value levels) ≡ topics_text levels
unfolding escape_byte
topics_compact levels =
    behind (codes "{\"topics\":[") (joined (map topic_entry (entries levels))) (125 ∷ []) (items_text false (items_of (map entry_value (entries levels))))
    (list_text entry_value topic_entry (λ topic. level_compact topic.0 (greatest_level (entries topic.1))) (entries levels))

pub topic_compact : (name : List ℕ) (ids : KeyMap Level) → compact_text (topic_value name ids) ≡ topic_text name ids
unfolding escape_byte
topic_compact name ids =
    let level = greatest_level (entries ids) in
    behind (codes "{\"events\":[") (joined (map id_entry (entries ids))) (codes ",\"id\":" ++ (quoted name ++ (codes ",\"level\":" ++ (quoted (level_name level) ++ codes "}"))))
    (items_text false (items_of (map id_value (entries ids))))
    (list_text id_value id_entry (λ id. level_compact id.0 id.1) (entries ids))
    ∙ regroup (codes "{\"events\":[") (joined (map id_entry (entries ids))) (codes "],\"id\":") (quoted name) (codes ",\"level\":") (quoted (level_name level)) (codes "}")

-- ---- what is printed

pub task_printed : (id script : List ℕ) (enabled : Bool) → print (json_tokens (outline (task_value id script enabled))) ≡ task_text id script enabled
task_printed id script enabled = print-outline (task_value id script enabled) ∙ task_compact id script enabled

pub tasks_printed : (tasks : List StoredTask) → print (json_tokens (outline (tasks_value tasks))) ≡ tasks_text tasks
tasks_printed tasks = print-outline (tasks_value tasks) ∙ tasks_compact tasks

pub topics_printed : (levels : KeyMap (KeyMap Level)) → print (json_tokens (outline (topics_value levels))) ≡ topics_text levels
topics_printed levels = print-outline (topics_value levels) ∙ topics_compact levels

pub topic_printed : (name : List ℕ) (ids : KeyMap Level) → print (json_tokens (outline (topic_value name ids))) ≡ topic_text name ids
topic_printed name ids = print-outline (topic_value name ids) ∙ topic_compact name ids

-- ---- replies

pub given_due : {E : Type 0} (body : Result (List ℕ) E) (text : List ℕ) (reply : ReplyValue) → IfOk body (λ b. b ≡ text)
    → IsGiven body reply → IsDueOrShort (given_reply text) reply
given_due (Ok body) text reply is given = inl (given ∙ ap given_reply is)
given_due (Err fault) text reply is given = inr given

pub refused_due : (due reply : ReplyValue) → (reply ≢ out_of_memory false → reply ≡ due) → IsDueOrShort due reply
refused_due due reply else_due = by_test (reply.status == 503) refl
  where
    by_test : (t : Bool) → (reply.status == 503) ≡ t → IsDueOrShort due reply
    by_test true short = inr (eqb-true reply.status 503 short)
    by_test false given = inl (else_due (λ is. false≢true (sym given ∙ ap (λ (r : ReplyValue). r.status == 503) is)))
