-- The faults of the crates below, as faults of a script.
use Rattle.tick_lexer.specs.declared.token.LexFault.{LexFault}
use Rattle.tick_lexer.specs.declared.token.LexFault.TheVariants as lexes
use Rattle.tick_parser.specs.declared.fault.ParseFault.{ParseFault}
use Rattle.tick_parser.specs.declared.fault.ParseFault.TheVariants as parses
use Rattle.tick_vars.specs.declared.fault.VarFault.{VarFault}
use Rattle.tick_vars.specs.declared.fault.VarFault.TheVariants as names
use Rattle.tick_compile.specs.declared.script_fault.ScriptFault.{ScriptFault}
use Rattle.tick_compile.specs.declared.script_fault.ScriptFault.TheVariants.{Lex, Parse, Name, NoMemory}

-- want of memory is one fault, wherever it is met
abbrev pub of_lex : LexFault → ScriptFault
of_lex lexes.NoMemory = NoMemory
of_lex fault = Lex fault

-- a fault of the grammar as one of the script
abbrev pub of_parse : ParseFault → ScriptFault
of_parse parses.NoMemory = NoMemory
of_parse fault = Parse fault

-- a fault of the names as one of the script
abbrev pub of_name : VarFault → ScriptFault
of_name names.NoMemory = NoMemory
of_name fault = Name fault
