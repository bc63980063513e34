-- What was read is printed so that it is read again.
use Rattle.std.proofs.Common.{ℕ, false, List, [], ◌++◌, subst}
use Rattle.std.proofs.lemmas.List.{append-nil}
use Rattle.tick_lexer.specs.declared.token.Token.{Token}
use Rattle.tick_lexer.specs.Script.{Whole, ContinuesWith}
use Rattle.tick_parser.specs.Trees.{StmtTree}
use Rattle.tick_print.specs.Print.{script_text}
use Rattle.tick_print.specs.Law.{WasRead, IsTextOf}
use Rattle.tick_print.proofs.Spelt.{all_spelt}
use Rattle.tick_print.proofs.Printable.{can_script}
use Rattle.tick_print.proofs.PrintingScript.{printed_script}
use Rattle.tick_print.proofs.Sizes.{same_within}

pub text_again : (script : List StmtTree) → WasRead script → IsTextOf script (script_text script)
text_again script h =
    let parsed = h.parsed in
    let p = printed_script script 0 [] (can_script script h.tokens false parsed.spelled (all_spelt h.tokens false 0 h.text h.lexed)) in
    let w = p.written in
    let text = script_text script in
    let read : ContinuesWith (w.tokens ++ []) Whole false 0 (text ++ []) = w.reads [] tt in
    record {
      tokens = w.tokens;
      again = p.again;
      lexed = subst (λ (l : List Token). ContinuesWith l Whole false 0 text) (append-nil w.tokens) (subst (λ (l : List ℕ). ContinuesWith (w.tokens ++ []) Whole false 0 l) (append-nil text) read);
      parsed = record { fits = p.fits parsed.fits; spelled = w.agrees };
      within = same_within 64 512 4096 p.again script p.same h.within;
      same = p.same;
    }
