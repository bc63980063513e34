-- Scripts that were read, and texts that are read as they are.
use Rattle.std.specs.Prelude.{◌≡◌, ℕ, List}
use Rattle.tick_lexer.specs.declared.token.Token.{Token}
use Rattle.tick_lexer.specs.Script.{HasTokens}
use Rattle.tick_parser.specs.declared.limits.TheConstants.{DEPTH_LIMIT, OPERATOR_LIMIT, STATEMENT_LIMIT}
use Rattle.tick_parser.specs.Trees.{StmtTree}
use Rattle.tick_parser.specs.Script.{Reads, Within}
use Rattle.tick_print.specs.Places.{bare_script}

-- some text's tokens are this script's, and it keeps the parser's limits
pub record WasRead (script : List StmtTree) : Type 0 where
  pub text : List ℕ
  pub tokens : List Token
  pub lexed : HasTokens text tokens
  pub parsed : Reads tokens script
  pub within : Within DEPTH_LIMIT OPERATOR_LIMIT STATEMENT_LIMIT script

-- the text has tokens, and these are a script's that keeps the parser's limits and is this one, places aside
pub record IsTextOf (script : List StmtTree) (text : List ℕ) : Type 0 where
  pub tokens : List Token
  pub again : List StmtTree
  pub lexed : HasTokens text tokens
  pub parsed : Reads tokens again
  pub within : Within DEPTH_LIMIT OPERATOR_LIMIT STATEMENT_LIMIT again
  pub same : bare_script again ≡ bare_script script
