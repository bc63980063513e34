use Rattle.std.proofs.Common.{◌≡◌, ◌⊎◌, ◌∷◌, ◌∙◌, suc, arith, drop, drop-cons, ap, sym}
use Rattle.std.proofs.lemmas.List.{drop_all}
use Rattle.tick_parser.specs.declared.fault.ParseFault.TheVariants.{NoMemory}
use Rattle.tick_parser.specs.Refusal.{Refused}
use Rattle.tick_parser.specs.States.{state_of}
use Rattle.tick_parser.proofs.Parsing.{parsed_tree, parsed_fault, stopped_fault, handed_on}
use Rattle.tick_parser.proofs.parser.read.Goals as goal

pub returns-in_err-state-clause-fault : goal.returns-in_err-state-clause-fault
returns-in_err-state-clause-fault c =
    let i = c.loop-token.invariant in
    let at = c.loop-token.token-index in
    let tokens = c.args.tokens.now in
    let fault = c.in_err-state.field-0.0 in
    let next : drop at tokens ≡ c.token-item.result ∷ drop (suc at) tokens =
    drop-cons tokens at c.token-item.result c.loop-token-test.true ∙ ap (λ x. x ∷ drop (suc at) tokens) (sym c.token-item.is) in
    handed_on (λ f. (f ≡ NoMemory) ⊎ Refused 64 512 4096 tokens f) fault c.from_residual.result c.from_residual.ensures.1
    (stopped_fault tokens (drop at tokens) (drop (suc at) tokens) c.token-item.result (state_of c.loop-token.state) fault next i.same c.in_err-state.ensures)

pub returns-clause-tree : goal.returns-clause-tree
returns-clause-tree c =
    let i = c.loop-token.invariant in
    let none = drop_all c.loop-token.token-index c.args.tokens.now (omega arith) in
    parsed_tree c.args.tokens.now (drop c.loop-token.token-index c.args.tokens.now) (state_of c.loop-token.state) c.loop-token.end c.finish.result none i.same i.place c.finish.ensures

pub returns-clause-fault : goal.returns-clause-fault
returns-clause-fault c =
    let i = c.loop-token.invariant in
    let none = drop_all c.loop-token.token-index c.args.tokens.now (omega arith) in
    parsed_fault c.args.tokens.now (drop c.loop-token.token-index c.args.tokens.now) (state_of c.loop-token.state) c.loop-token.end c.finish.result none i.same i.place c.finish.ensures
