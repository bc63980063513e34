use Rattle.std.proofs.Common.{◌≡◌, ◌⊎◌, arith}
use Rattle.tick_lexer.specs.declared.token.LexFault.TheVariants.{NoMemory}
use Rattle.tick_lexer.specs.Script.{HasFirstFault}
use Rattle.tick_lexer.proofs.Lexing.{behind_of, taken_of, at_end, at_fault, handed_on, go_on}
use Rattle.tick_lexer.proofs.Texts.{tokens_in_place}
use Rattle.tick_lexer.proofs.lexer.lex.Goals as goal

pub returns-then-start-text-clause-tokens : goal.returns-then-start-text-clause-tokens
returns-then-start-text-clause-tokens c =
    let i = c.tokens.invariant in
    let gap = c.gap_length.ensures in
    let b = behind_of c.args.text.now c.as_bytes.result.now c.split_at.result.1.now c.tokens.at c.gap_length.result i.within c.as_bytes.ensures.value c.split_at.ensures.back gap.within gap.gap in
    at_end c.tokens.tokens c.tokens.pattern c.tokens.at c.gap_length.result c.args.text.now i.runs b c.if-start-text.true

pub returns-then-start-text-clause-places : goal.returns-then-start-text-clause-places
returns-then-start-text-clause-places c = tokens_in_place c.args.text.now c.tokens.tokens (returns-then-start-text-clause-tokens c)

pub returns-in_err-front-clause-fault : goal.returns-in_err-front-clause-fault
returns-in_err-front-clause-fault c =
    let i = c.tokens.invariant in
    let gap = c.gap_length.ensures in
    let b = behind_of c.args.text.now c.as_bytes.result.now c.split_at.result.1.now c.tokens.at c.gap_length.result i.within c.as_bytes.ensures.value c.split_at.ensures.back gap.within gap.gap in
    let fault = c.in_err-front.field-0.0 in
    handed_on (λ f. (f ≡ NoMemory) ⊎ HasFirstFault c.args.text.now f) fault c.from_residual.result c.from_residual.ensures.1
    (at_fault c.tokens.tokens c.tokens.pattern c.tokens.at c.gap_length.result c.args.text.now fault i.runs b c.if-start-text.false c.in_err-front.ensures)

pub overflow_add-at : goal.overflow_add-at
overflow_add-at c =
    let i = c.tokens.invariant in
    let gap = c.gap_length.ensures in
    let b = behind_of c.args.text.now c.as_bytes.result.now c.split_at.result.1.now c.tokens.at c.gap_length.result i.within c.as_bytes.ensures.value c.split_at.ensures.back gap.within gap.gap in
    let t = taken_of c.tokens.pattern c.tokens.at c.gap_length.result c.args.text.now c.in_ok-front.front.kind c.in_ok-front.front.bytes b c.if-start-text.false c.in_ok-front.ensures in
    let within = t.within in
    omega arith

pub overflow_cast-at : goal.overflow_cast-at
overflow_cast-at c =
    let i = c.tokens.invariant in
    let gap = c.gap_length.ensures in
    let b = behind_of c.args.text.now c.as_bytes.result.now c.split_at.result.1.now c.tokens.at c.gap_length.result i.within c.as_bytes.ensures.value c.split_at.ensures.back gap.within gap.gap in
    let t = taken_of c.tokens.pattern c.tokens.at c.gap_length.result c.args.text.now c.in_ok-front.front.kind c.in_ok-front.front.bytes b c.if-start-text.false c.in_ok-front.ensures in
    let within = t.within in
    let limit = c.requires in
    omega arith

pub tokens-smaller : goal.tokens-smaller
tokens-smaller c =
    let i = c.tokens.invariant in
    let gap = c.gap_length.ensures in
    let b = behind_of c.args.text.now c.as_bytes.result.now c.split_at.result.1.now c.tokens.at c.gap_length.result i.within c.as_bytes.ensures.value c.split_at.ensures.back gap.within gap.gap in
    let t = taken_of c.tokens.pattern c.tokens.at c.gap_length.result c.args.text.now c.in_ok-front.front.kind c.in_ok-front.front.bytes b c.if-start-text.false c.in_ok-front.ensures in
    let within = t.within in
    let some = t.some in
    omega arith

pub tokens-preserved : goal.tokens-preserved
tokens-preserved c =
    let i = c.tokens.invariant in
    let gap = c.gap_length.ensures in
    let b = behind_of c.args.text.now c.as_bytes.result.now c.split_at.result.1.now c.tokens.at c.gap_length.result i.within c.as_bytes.ensures.value c.split_at.ensures.back gap.within gap.gap in
    let t = taken_of c.tokens.pattern c.tokens.at c.gap_length.result c.args.text.now c.in_ok-front.front.kind c.in_ok-front.front.bytes b c.if-start-text.false c.in_ok-front.ensures in
    let pushed = c.in_ok-push.ensures in
    record {
      within = t.within;
      runs = go_on c.tokens.tokens c.push.new.self c.tokens.pattern c.takes_pattern-pattern.result c.tokens.at c.gap_length.result c.in_ok-front.front.bytes c.args.text.now c.in_ok-front.front.kind i.runs t c.takes_pattern-pattern.ensures pushed.ok;
    }
