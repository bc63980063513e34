-- What is said of a text that is no task.
use Rattle.std.specs.Prelude.{ℕ, List, ◌++◌, codes}
use Rattle.std.specs.Fmt.{decimal}
use Rattle.lambda_types.specs.declared.fault.TypeFault.{TypeFault}
use Rattle.lambda_types.specs.declared.fault.TypeFault.TheVariants as types
use Rattle.msg_template.specs.declared.fault.TemplateFault.{TemplateFault}
use Rattle.msg_template.specs.declared.fault.TemplateFault.TheVariants as templates
use Rattle.task_graph.specs.declared.graph.GraphFault.{GraphFault}
use Rattle.task_graph.specs.declared.graph.GraphFault.TheVariants as graphs
use Rattle.tick_lexer.specs.declared.token.LexFault.{LexFault}
use Rattle.tick_lexer.specs.declared.token.LexFault.TheVariants as lexes
use Rattle.tick_parser.specs.declared.fault.ParseFault.{ParseFault}
use Rattle.tick_parser.specs.declared.fault.ParseFault.TheVariants as parses
use Rattle.tick_parser.specs.declared.fault.Want.{Want}
use Rattle.tick_parser.specs.declared.fault.Want.TheVariants as wants
use Rattle.tick_vars.specs.declared.fault.VarFault.{VarFault}
use Rattle.tick_vars.specs.declared.fault.VarFault.TheVariants as names
use Rattle.tick_compile.specs.declared.script_fault.ScriptFault.{ScriptFault}
use Rattle.tick_compile.specs.declared.script_fault.ScriptFault.TheVariants.{NotUtf8, Lex, Parse, Name, NoKind, Property, Argument, Handler, Template, Lambda, Graph, NoFrom, NoMemory}

-- a fault's name, and its place
abbrev pub with_place : List ℕ → ℕ → List ℕ
with_place name at = name ++ (codes " at " ++ decimal at)

-- what the grammar needs
abbrev pub want_name : Want → List ℕ
want_name wants.Statement = codes "Statement"
want_name wants.Name = codes "Name"
want_name wants.Equal = codes "Equal"
want_name wants.Value = codes "Value"
want_name wants.Open = codes "Open"
want_name wants.Close = codes "Close"
want_name wants.Ref = codes "Ref"
want_name wants.Dot = codes "Dot"
want_name wants.Operand = codes "Operand"

-- what is said of a fault of the tokens
abbrev pub lex_text : LexFault → List ℕ
lex_text (lexes.BadChar at) = with_place (codes "Lex.BadChar") at
lex_text (lexes.OpenString at) = with_place (codes "Lex.OpenString") at
lex_text (lexes.OpenRegex at) = with_place (codes "Lex.OpenRegex") at
lex_text (lexes.BadNumber at) = with_place (codes "Lex.BadNumber") at
lex_text (lexes.FloatLiteral at) = with_place (codes "Lex.FloatLiteral") at
lex_text (lexes.OctalLiteral at) = with_place (codes "Lex.OctalLiteral") at
lex_text (lexes.WideInt at) = with_place (codes "Lex.WideInt") at
lex_text (lexes.WideDuration at) = with_place (codes "Lex.WideDuration") at
lex_text (lexes.UserFunction at) = with_place (codes "Lex.UserFunction") at
lex_text lexes.NoMemory = codes "Lex.NoMemory"

-- what is said of a fault of the grammar
abbrev pub parse_text : ParseFault → List ℕ
parse_text (parses.Expected want at) = with_place (codes "Parse.Expected." ++ want_name want) at
parse_text (parses.Deep at) = with_place (codes "Parse.Deep") at
parse_text (parses.TooMany at) = with_place (codes "Parse.TooMany") at
parse_text parses.NoMemory = codes "Parse.NoMemory"

-- what is said of a fault of the names
abbrev pub name_text : VarFault → List ℕ
name_text (names.Unknown at) = with_place (codes "Name.Unknown") at
name_text (names.Twice at) = with_place (codes "Name.Twice") at
name_text (names.NotValue at) = with_place (codes "Name.NotValue") at
name_text (names.NotNode at) = with_place (codes "Name.NotNode") at
name_text (names.Batch at) = with_place (codes "Name.Batch") at
name_text names.NoMemory = codes "Name.NoMemory"

-- the place is that of the property, and the one in the template is left out
abbrev pub template_text : ℕ → TemplateFault → List ℕ
template_text at (templates.Action place) = with_place (codes "Template.Action") at
template_text at (templates.Field place) = with_place (codes "Template.Field") at
template_text at templates.NoMemory = codes "Template.NoMemory"

-- what is said of a fault of a lambda's types
abbrev pub type_text : TypeFault → List ℕ
type_text (types.Mismatch at) = with_place (codes "Lambda.Mismatch") at
type_text (types.Arity at) = with_place (codes "Lambda.Arity") at
type_text (types.NoFunction at) = with_place (codes "Lambda.NoFunction") at
type_text (types.TimeUse at) = with_place (codes "Lambda.TimeUse") at
type_text (types.RegexUse at) = with_place (codes "Lambda.RegexUse") at
type_text (types.Pattern at) = with_place (codes "Lambda.Pattern") at
type_text (types.NewLine at) = with_place (codes "Lambda.NewLine") at
type_text types.NoMemory = codes "Lambda.NoMemory"

-- the node's number stands for a place
abbrev pub graph_text : GraphFault → List ℕ
graph_text graphs.TooManyNodes = codes "Graph.TooManyNodes"
graph_text (graphs.Chain node) = with_place (codes "Graph.Chain") node
graph_text (graphs.Parents node) = with_place (codes "Graph.Parents") node
graph_text (graphs.Kind node) = with_place (codes "Graph.Kind") node
graph_text graphs.NoMemory = codes "Graph.NoMemory"

-- the names of the fault's variants, joined by dots, and its place
abbrev pub fault_text : ScriptFault → List ℕ
fault_text (NotUtf8 at) = with_place (codes "NotUtf8") at
fault_text (Lex fault) = lex_text fault
fault_text (Parse fault) = parse_text fault
fault_text (Name fault) = name_text fault
fault_text (NoKind at) = with_place (codes "NoKind") at
fault_text (Property at) = with_place (codes "Property") at
fault_text (Argument at) = with_place (codes "Argument") at
fault_text (Handler at) = with_place (codes "Handler") at
fault_text (Template at fault) = template_text at fault
fault_text (Lambda fault) = type_text fault
fault_text (Graph fault) = graph_text fault
fault_text NoFrom = codes "NoFrom"
fault_text NoMemory = codes "NoMemory"

-- what is said of a fault of a script
abbrev pub text_of_fault : ScriptFault → List ℕ
text_of_fault fault = codes "script: " ++ fault_text fault
