-- Which texts are tasks, and the first fault of those that are none.
use Rattle.std.specs.Prelude.{◌≡◌, ◌⊎◌, ℕ, List, Option, Some, Result, Ok, Err, IsUtf8}
use Rattle.kap_base.specs.Utf8.{BreaksAt}
use Rattle.kap_base.specs.Words.{◌>>=◌}
use Rattle.lambda_types.specs.Faults.{Refusal}
use Rattle.tick_lexer.specs.declared.token.Token.{Token}
use Rattle.tick_lexer.specs.Script.{HasTokens, HasFirstFault}
use Rattle.tick_parser.specs.Trees.{StmtTree}
use Rattle.tick_parser.specs.Script.{IsScriptOf}
use Rattle.tick_parser.specs.Refusal.{IsRefused}
use Rattle.tick_vars.specs.declared.fault.VarFault.{VarFault}
use Rattle.tick_vars.specs.Binding.{bound_of}
use Rattle.tick_compile.specs.declared.script_fault.ScriptFault.{ScriptFault}
use Rattle.tick_compile.specs.declared.script_fault.ScriptFault.TheVariants.{NotUtf8, Lex, Parse, Name}
use Rattle.tick_compile.specs.declared.tasks.Task.{Task}
use Rattle.tick_compile.specs.Tasks.{compiled}

-- the text is UTF-8, and its tokens are this script's, within the parser's limits
pub record Parses (text : List ℕ) (script : List StmtTree) : Type 0 where
  pub tokens : List Token
  pub utf8 : IsUtf8 text
  pub lexed : HasTokens text tokens
  pub spelled : IsScriptOf tokens script

-- the first fault of a text that is no script's: of its bytes, else of its tokens, else of the grammar
abbrev pub IsMisread : List ℕ → ScriptFault → Type 0
IsMisread text (NotUtf8 at) = (¬ (IsUtf8 text)) × BreaksAt text at
IsMisread text (Lex fault) = IsUtf8 text × HasFirstFault text fault
IsMisread text (Parse fault) = IsUtf8 text × ((tokens : List Token) × HasTokens text tokens × IsRefused tokens fault)
IsMisread text other = ⊥

-- what is bound, or the fault of a name as one of the script
abbrev pub named : {A : Type 0} → Result A VarFault → Result A ScriptFault
named (Ok x) = Ok x
named (Err fault) = Err (Name fault)

-- The task of a script, where this pattern is refused, or none is: each name is replaced by what it stands for, the
-- nodes are the task's, and it sees what the script names. Or its first fault: of its names, else of its nodes.
abbrev pub task_of : Option Refusal → List StmtTree → Result Task ScriptFault
task_of refused script =
    named (bound_of script) >>= λ made. compiled refused made
    >>= λ nodes. Ok (record { graph = nodes; dbrps = made.dbrps })

-- the text is a script of this task, where this pattern is refused, or none is
pub record Accepts (refused : Option Refusal) (text : List ℕ) (task : Task) : Type 0 where
  pub script : List StmtTree
  pub parsed : Parses text script
  pub is : task_of refused script ≡ Ok task

-- the text is a script, which has this first fault
pub record IsMiswritten (refused : Option Refusal) (text : List ℕ) (fault : ScriptFault) : Type 0 where
  pub script : List StmtTree
  pub parsed : Parses text script
  pub is : task_of refused script ≡ Err fault

-- the first fault of a text that is no task, where this pattern is refused, or none is: where it is no script's, else
-- of the script
abbrev pub Refuses : Option Refusal → List ℕ → ScriptFault → Type 0
Refuses refused text fault = IsMisread text fault ⊎ IsMiswritten refused text fault

-- the pattern at this place is the refused one
abbrev pub IsRefusedPattern : Option Refusal → ℕ → Type 0
IsRefusedPattern refused at = (pattern : List ℕ) × (refused ≡ Some (record { text = pattern; at = at }))
