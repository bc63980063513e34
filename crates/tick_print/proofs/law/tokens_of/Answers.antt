use Rattle.std.proofs.Common.{◌≡◌, ⊎_elim, sym, ◌∙◌}
use Rattle.tick_lexer.specs.Script.{HasFirstFault}
use Rattle.tick_lexer.specs.declared.token.LexFault.TheVariants.{NoMemory}
use Rattle.tick_print.proofs.law.tokens_of.Goals as goal

pub unreachable-requires : goal.unreachable-requires
unreachable-requires c =
    let has = c.requires.has in
    let test = sym c.if-ne.true ∙ c.ne.ensures in
    ⊎_elim
    (λ (q : c.in-Err.fault ≡ NoMemory). let never = rw q at test in absurd (cc))
    (λ (q : HasFirstFault c.args.text.now c.in-Err.fault). c.text_reads_in_one_way.ensures.not_both c.args.text.now has.0 c.in-Err.fault has.1 q)
    c.in-Err.ensures.fault
