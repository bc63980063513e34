-- The sorts of what can be given: `s` a text, `n` a number, `d` a duration, `l` a lambda, `node` a node, `*` each tag.
use Rattle.std.specs.Prelude.{ℕ, ℤ, Bool, true, false, if◌then◌else◌, List, [], ◌∷◌, Option, Some, None, option_and_then, option_map, codes, bytes_eq}
use Rattle.kap_base.specs.declared.expr.Lit.TheVariants as lits
use Rattle.kap_base.specs.Texts.{is_line, is_measurement, is_name}
use Rattle.task_graph.specs.Sorts.{is_count, is_period, is_span, is_unit, tested, tested_number}
use Rattle.task_graph.specs.declared.spec.DefaultValue.{DefaultValue}
use Rattle.task_graph.specs.declared.spec.DefaultValue.TheVariants as defaults
use Rattle.task_graph.specs.declared.spec.Dims.{Dims}
use Rattle.task_graph.specs.declared.spec.Dims.TheVariants.{Names, All}
use Rattle.task_graph.specs.declared.spec.Fill.{Fill}
use Rattle.task_graph.specs.declared.spec.Fill.TheVariants as fills
use Rattle.tick_compile.specs.declared.given.Given.{Given}
use Rattle.tick_compile.specs.declared.given.Given.TheVariants.{Lit, Star, Lambda, Node}
use Rattle.tick_compile.specs.Words.{both, each, only, two}

-- a text
abbrev pub as_text : {L : Type 0} → Given L → Option (List ℕ)
as_text (Lit (lits.Str text)) = Some text
as_text _ = None

-- a number
abbrev pub as_number : {L : Type 0} → Given L → Option ℤ
as_number (Lit (lits.Int number)) = Some number
as_number _ = None

-- a duration
abbrev pub as_duration : {L : Type 0} → Given L → Option ℤ
as_duration (Lit (lits.Dur nanos)) = Some nanos
as_duration _ = None

-- a text that becomes a key or the value of a tag
abbrev pub as_name : {L : Type 0} → Given L → Option (List ℕ)
as_name given = option_and_then (tested is_name) (as_text given)

-- a text that becomes a measurement
abbrev pub as_measurement : {L : Type 0} → Given L → Option (List ℕ)
as_measurement given = option_and_then (tested is_measurement) (as_text given)

-- a text on one line
abbrev pub as_line : {L : Type 0} → Given L → Option (List ℕ)
as_line given = option_and_then (tested is_line) (as_text given)

-- a number of at least 1
abbrev pub as_count : {L : Type 0} → Given L → Option ℕ
as_count given = option_and_then (tested_number is_count) (as_number given)

-- a duration of at least 0
abbrev pub as_span : {L : Type 0} → Given L → Option ℕ
as_span given = option_and_then (tested_number is_span) (as_duration given)

-- a duration above 0
abbrev pub as_period : {L : Type 0} → Given L → Option ℕ
as_period given = option_and_then (tested_number is_period) (as_duration given)

-- a duration that time is counted in: a microsecond or more
abbrev pub as_unit : {L : Type 0} → Given L → Option ℕ
as_unit given = option_and_then (tested_number is_unit) (as_duration given)

-- the value of a field: an integer, a truth value or a text on one line
abbrev pub as_default : {L : Type 0} → Given L → Option DefaultValue
as_default (Lit (lits.Int number)) = Some (defaults.Int number)
as_default (Lit (lits.Bool truth)) = Some (defaults.Bool truth)
as_default (Lit (lits.Str text)) = option_map defaults.Str (tested is_line text)
as_default _ = None

-- what stands for a point that is missing, by its name: 'none' or 'null'
abbrev pub fill_named : List ℕ → Option Fill
fill_named text = if bytes_eq text (codes "none") then Some fills.None
    else (if bytes_eq text (codes "null") then Some fills.Null else None)

-- what stands for a point that is missing: 'none', 'null' or a number
abbrev pub as_fill : {L : Type 0} → Given L → Option Fill
as_fill (Lit (lits.Str text)) = fill_named text
as_fill (Lit (lits.Int number)) = Some (fills.Number number)
as_fill _ = None

-- a node
abbrev pub as_node : {L : Type 0} → Given L → Option ℕ
as_node (Node number) = Some number
as_node _ = None

-- a lambda
abbrev pub as_lambda : {L : Type 0} → Given L → Option L
as_lambda (Lambda lambda) = Some lambda
as_lambda _ = None

-- one of a sort
abbrev pub one : {L A : Type 0} → (Given L → Option A) → List (Given L) → Option A
one sort args = option_and_then sort (only args)

-- one of a sort, and then one of another
abbrev pub pair : {L A B : Type 0} → (Given L → Option A) → (Given L → Option B) → List (Given L) → Option (A × B)
pair first second args = option_and_then (λ given. both (first given.0) (second given.1)) (two args)

-- nothing is given
abbrev pub nothing : {L : Type 0} → List (Given L) → Option (Unit {0})
nothing [] = Some tt
nothing (given ∷ args) = None

-- `*` alone
abbrev pub is_star : {L : Type 0} → List (Given L) → Bool
is_star (Star ∷ []) = true
is_star _ = false

-- `*` alone, or texts
abbrev pub dimensions : {L : Type 0} → List (Given L) → Option Dims
dimensions args = if is_star args then Some All else option_map Names (each as_text args)
