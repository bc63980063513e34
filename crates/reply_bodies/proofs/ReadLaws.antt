-- The texts are read back as their values.
use Rattle.std.proofs.Common.{◌≡◌, ℕ, ◌≤◌, Bool, List, [], ◌∷◌, map, Option, Some, option_and_then, refl, sym, ap, ◌∙◌, arith, append-nil}
use Rattle.std.specs.FinMap.{entries}
use Rattle.json.specs.Json as json
use Rattle.json.specs.Lex.{tokens}
use Rattle.json.specs.Print.{print}
use Rattle.json.specs.Token.{Token}
use Rattle.json.specs.Tree as tree
use Rattle.json.proofs.Printed.Tokens.{tokens-print}
use Rattle.json.proofs.Printed.Trees.{ArePrintable-json_tokens, value-json_tokens}
use Rattle.kap_base.specs.Maps.{KeyMap}
use Rattle.kap_base.specs.declared.items.Level.{Level}
use Rattle.serde_json.specs.Data.{Data}
use Rattle.serde_json.specs.Read.{max_depth, of_items, of_json, read}
use Rattle.serde_json.specs.View.{items_of}
use Rattle.serde_json.specs.Written.{items_outline, outline}
use Rattle.store_records.specs.declared.task.StoredTask.{StoredTask}
use Rattle.topic_core.specs.Topics.{greatest_level}
use Rattle.reply_bodies.specs.Texts.{task_text, tasks_text, topic_text, topics_text}
use Rattle.reply_bodies.specs.Values.{entry_value, id_value, level_value, stored_value, task_value, tasks_value, topic_value, topics_value}
use Rattle.reply_bodies.proofs.TextLaws.{task_printed, tasks_printed, topic_printed, topics_printed}

abbrev whole : Option (json.Json × List Token) → Option Data
whole o = option_and_then of_json (option_and_then (λ p. json.if_last p.0 p.1) o)

-- a value without numbers that isn't nested too deep is read back from what is printed of it
printed_read : (d : Data) (text : List ℕ) → print (tree.json_tokens (outline d)) ≡ text → tree.HasNumbers (outline d)
    → tree.depth (outline d) ≤ 127 → of_json (outline d) ≡ Some d → read text ≡ Some d
printed_read d text is numbers shallow back =
    let ts = tree.json_tokens (outline d) in
    let seen : tokens text ≡ ts = ap tokens (sym is) ∙ tokens-print ts (ArePrintable-json_tokens (outline d) numbers) in
    ap whole (ap (json.value max_depth) (seen ∙ sym (append-nil ts)) ∙ value-json_tokens (outline d) max_depth [] shallow) ∙ back

-- ---- lists of values without numbers, each as deep as one object

module _ {T : Type 0} (value : T → Data) where
  abbrev list_outline : List T → json.Items
  list_outline xs = items_outline (items_of (map value xs))

  list_numbers : ((x : T) → tree.HasNumbers (outline (value x))) → (xs : List T) → tree.ItemsHaveNumbers (list_outline xs)
  list_numbers numbers [] = tt
  list_numbers numbers (x ∷ xs) = (numbers x, list_numbers numbers xs)

  list_shallow : ((x : T) → tree.depth (outline (value x)) ≤ 1) → (xs : List T) → tree.items_depth (list_outline xs) ≤ 1
  list_shallow shallow [] = omega arith
  list_shallow shallow (x ∷ xs) =
      let one = shallow x in
      let others = list_shallow shallow xs in
      omega (arith, one, others)

  list_back : ((x : T) → of_json (outline (value x)) ≡ Some (value x)) → (xs : List T) → of_items (list_outline xs) ≡ Some (items_of (map value xs))
  list_back back [] = refl
  list_back back (x ∷ xs) = rw (back x, list_back back xs) refl

-- ---- texts

level_back : (name : List ℕ) (level : Level) → of_json (outline (level_value name level)) ≡ Some (level_value name level)
level_back name level = refl

task_back : (id script : List ℕ) (enabled : Bool) → of_json (outline (task_value id script enabled)) ≡ Some (task_value id script enabled)
task_back id script enabled = refl

pub task_read : (id script : List ℕ) (enabled : Bool) → read (task_text id script enabled) ≡ Some (task_value id script enabled)
task_read id script enabled =
    printed_read (task_value id script enabled) (task_text id script enabled) (task_printed id script enabled)
    (tt, (tt, (tt, (tt, tt)))) (omega arith) (task_back id script enabled)

pub tasks_read : (tasks : List StoredTask) → read (tasks_text tasks) ≡ Some (tasks_value tasks)
tasks_read tasks =
    let numbers = list_numbers stored_value (λ task. (tt, (tt, (tt, (tt, tt))))) tasks in
    let few = list_shallow stored_value (λ task. omega arith) tasks in
    let back = list_back stored_value (λ task. task_back task.id task.script task.enabled) tasks in
    printed_read (tasks_value tasks) (tasks_text tasks) (tasks_printed tasks) (numbers, tt) (omega (arith, few)) (rw back refl)

pub topics_read : (levels : KeyMap (KeyMap Level)) → read (topics_text levels) ≡ Some (topics_value levels)
topics_read levels =
    let numbers = list_numbers entry_value (λ topic. (tt, (tt, tt))) (entries levels) in
    let few = list_shallow entry_value (λ topic. omega arith) (entries levels) in
    let back = list_back entry_value (λ topic. level_back topic.0 (greatest_level (entries topic.1))) (entries levels) in
    printed_read (topics_value levels) (topics_text levels) (topics_printed levels) (numbers, tt) (omega (arith, few)) (rw back refl)

pub topic_read : (name : List ℕ) (ids : KeyMap Level) → read (topic_text name ids) ≡ Some (topic_value name ids)
topic_read name ids =
    let numbers = list_numbers id_value (λ id. (tt, (tt, tt))) (entries ids) in
    let few = list_shallow id_value (λ id. omega arith) (entries ids) in
    let back = list_back id_value (λ id. level_back id.0 id.1) (entries ids) in
    printed_read (topic_value name ids) (topic_text name ids) (topic_printed name ids) (numbers, (tt, (tt, tt))) (omega (arith, few)) (rw back refl)
