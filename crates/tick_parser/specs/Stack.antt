-- What the code holds of a lambda, as the reader of lambdas holds it.
use Rattle.std.specs.Prelude.{◌≡◌, ◌⊎◌, List, [], ◌∷◌, Result, Ok, Err}
use Rattle.kap_base.specs.declared.expr.Expr.{Expr}
use Rattle.kap_base.specs.Tree.{tree_of, trees_of}
use Rattle.tick_parser.specs.declared.stack.Frame.{Frame}
use Rattle.tick_parser.specs.declared.stack.Frame.TheVariants.{Minus, Negation, Left, Paren, Args}
use Rattle.tick_parser.specs.declared.stack.Stack.{Stack}
use Rattle.tick_parser.specs.declared.stack.HeldOperand.{HeldOperand}
use Rattle.tick_parser.specs.declared.lambda.OpenLambda.{OpenLambda}
use Rattle.tick_parser.specs.declared.lambda.OpenLambda.TheVariants.{OperandNext, CallOpened, OperandRead}
use Rattle.tick_parser.specs.declared.lambda.LambdaStep.{LambdaStep}
use Rattle.tick_parser.specs.declared.lambda.LambdaStep.TheVariants.{On, Ended}
use Rattle.tick_parser.specs.declared.fault.ParseFault.{ParseFault}
use Rattle.tick_parser.specs.declared.fault.ParseFault.TheVariants.{NoMemory}
use Rattle.tick_parser.specs.Lambdas as lambdas

-- what is open, as the reader of lambdas holds it
abbrev pub frame_of : Frame → lambdas.Frame
frame_of (Minus at) = lambdas.Minus at
frame_of (Negation at) = lambdas.Negation at
frame_of (Left op left at) = lambdas.Left op (tree_of left) at
frame_of (Paren at) = lambdas.Paren at
frame_of (Args name done at) = lambdas.Args name (trees_of done) at

-- the last on top
abbrev pub frames_onto : List Frame → List lambdas.Frame → List lambdas.Frame
frames_onto [] onto = onto
frames_onto (frame ∷ frames) onto = frames_onto frames (frame_of frame ∷ onto)

-- all that is open, the innermost first
abbrev pub frames_of : Stack → List lambdas.Frame
frames_of stack = frames_onto stack.frames.items []

-- an operand that was read, over what is open
abbrev pub held_of : HeldOperand → lambdas.HeldOperand
held_of held = record { stack = frames_of held.stack; tree = tree_of held.tree }

-- the code's count of what is open is right
abbrev pub IsCounted : Stack → Type 0
IsCounted stack = stack.open ≡ lambdas.opens (frames_of stack)

-- the lambda so far, as a state of the reader
abbrev pub lambda_of : OpenLambda → lambdas.State
lambda_of (OperandNext stack) = lambdas.OperandNext (frames_of stack) stack.count
lambda_of (CallOpened stack) = lambdas.CallOpened (frames_of stack) stack.count
lambda_of (OperandRead stack tree) = lambdas.OperandRead (frames_of stack) (tree_of tree) stack.count

-- the code's count of what is open in this lambda is right
abbrev pub IsCountedLambda : OpenLambda → Type 0
IsCountedLambda (OperandNext stack) = IsCounted stack
IsCountedLambda (CallOpened stack) = IsCounted stack
IsCountedLambda (OperandRead stack tree) = IsCounted stack

-- the reader goes on so, or the lambda has ended
abbrev pub StepsTo : LambdaStep → lambdas.State → Type 0
StepsTo (On lambda) to = (lambda_of lambda ≡ to) × IsCountedLambda lambda
StepsTo (Ended tree) to = lambdas.Ended (tree_of tree) ≡ to

-- the code goes where the reader goes, or it has stopped with this fault
abbrev pub LambdaMoves : Result LambdaStep ParseFault → lambdas.State → Type 0
LambdaMoves (Ok turn) to = StepsTo turn to
LambdaMoves (Err fault) to = (fault ≡ NoMemory) ⊎ (to ≡ lambdas.Stopped fault)

-- the lambda is the reader's, or it refuses with this fault
abbrev pub LambdaEnds : Result Expr ParseFault → lambdas.Answer → Type 0
LambdaEnds (Ok expr) answer = answer ≡ lambdas.Got (tree_of expr)
LambdaEnds (Err fault) answer = (fault ≡ NoMemory) ⊎ (answer ≡ lambdas.Refuses fault)
