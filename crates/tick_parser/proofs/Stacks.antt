-- The stacks of the code, the last on top, and its statements.
use Rattle.std.proofs.Common.{◌≡◌, ℕ, List, [], ◌∷◌, ◌++◌, length, refl, ap, suc}
use Rattle.tick_lexer.specs.declared.token.Kind.{Kind}
use Rattle.tick_parser.specs.declared.stack.Frame.{Frame}
use Rattle.tick_parser.specs.declared.state.Context.{Context}
use Rattle.tick_parser.specs.declared.script.Stmt.{Stmt}
use Rattle.tick_parser.specs.declared.lambda.OpenLambda.{OpenLambda}
use Rattle.tick_parser.specs.declared.lambda.OpenLambda.TheVariants.{OperandNext, CallOpened, OperandRead}
use Rattle.tick_parser.specs.Trees.{StmtTree, script_tree, stmt_tree}
use Rattle.tick_parser.specs.Stack.{frame_of, lambda_of, frames_onto}
use Rattle.tick_parser.specs.States.{contexts_onto, context_of}
use Rattle.tick_parser.specs.Lambdas as lambdas
use Rattle.tick_parser.specs.Machine as machine

pub frames_push : (frames : List Frame) (frame : Frame) (onto : List lambdas.Frame) → frames_onto (frames ++ frame ∷ []) onto ≡ frame_of frame ∷ frames_onto frames onto
frames_push [] frame onto = refl
frames_push (first ∷ frames) frame onto = frames_push frames frame (frame_of first ∷ onto)

pub contexts_push : (contexts : List Context) (context : Context) (onto : List machine.Context) → contexts_onto (contexts ++ context ∷ []) onto ≡ context_of context ∷ contexts_onto contexts onto
contexts_push [] context onto = refl
contexts_push (first ∷ contexts) context onto = contexts_push contexts context (context_of first ∷ onto)

pub script_push : (script : List Stmt) (stmt : Stmt) → script_tree (script ++ stmt ∷ []) ≡ script_tree script ++ stmt_tree stmt ∷ []
script_push [] stmt = refl
script_push (first ∷ script) stmt = ap (λ (l : List StmtTree). stmt_tree first ∷ l) (script_push script stmt)

pub script_length : (script : List Stmt) → length (script_tree script) ≡ length script
script_length [] = refl
script_length (first ∷ script) = ap (λ (n : ℕ). suc n) (script_length script)

-- a lambda that goes on is read on
pub within_on : (m : ℕ) (done : List StmtTree) (stack : List machine.Context) (context : machine.Context) (place at : ℕ) (kind : Kind) (lambda : OpenLambda) → machine.within m done stack context place at kind (lambda_of lambda) ≡ machine.InLambda done stack context place (lambda_of lambda)
within_on m done stack context place at kind (OperandNext stack2) = refl
within_on m done stack context place at kind (CallOpened stack2) = refl
within_on m done stack context place at kind (OperandRead stack2 tree) = refl
