use Rattle.std.proofs.Common.{◌≡◌, List, ℕ, ◌++◌, length, take, drop, sym, ap, ◌∙◌, inr}
use Rattle.std.proofs.lemmas.Bool.{eqb-true}
use Rattle.std.proofs.lemmas.List.{take-append-drop}
use Rattle.recording_file.specs.declared.got.GotBytes.{GotBytes}
use Rattle.recording_file.specs.Finding.{ReadPlace}
use Rattle.recording_file.specs.Got.{bytes_of}
use Rattle.recording_file.proofs.FindLaws.{stays_kept, at_end_over}
use Rattle.recording_file.proofs.lines.Lines.fill.Goals as goal

pub returns-in_err-count-clause-stays : goal.returns-in_err-count-clause-stays
returns-in_err-count-clause-stays g c =
    let kept = c.in_err-count.ensures.err in
    let place : List ℕ → ReadPlace = λ w. record { bytes = w; got = bytes_of c.self.inside.got; line = c.self.inside.line; passed = c.self.inside.passed; ended = c.self.inside.ended } in
    stays_kept _ _ _ _ (ap place kept.0 ∙ c.self.view_is) kept.1

pub returns-clause-stays : goal.returns-clause-stays
returns-clause-stays g c =
    let old = c.self.inside.window in
    let new = c.fill.new.self in
    let piece = drop (length old) new in
    let held : old ≡ c.args.self.now.bytes = ap (λ (a : ReadPlace). a.bytes) c.self.view_is in
    let was : bytes_of c.self.inside.got ≡ c.args.self.now.got = ap (λ (a : ReadPlace). a.got) c.self.view_is in
    let size : c.args.size ≡ length old = c.requires.all ∙ ap length (sym held) in
    let kept : take (length old) new ≡ old = c.in_ok-count.ensures.kept in
    record {
      reads = record {
        piece = piece;
        got = ap (λ (b : GotBytes). bytes_of b ++ drop c.of-2.result.value c.of.result.value) c.of-before.ensures
            ∙ ap (λ (l : List ℕ). l ++ drop c.of-2.result.value c.of.result.value) was
            ∙ ap (λ (n : ℕ). c.args.self.now.got ++ drop n c.of.result.value) (c.of-2.ensures ∙ size)
            ∙ ap (λ (l : List ℕ). c.args.self.now.got ++ drop (length old) l) c.of.ensures;
        took = c.in_ok-count.ensures.bytes;
        stays_ended = λ e. let open_still = c.requires.not_ended in cc;
        none = λ e. let open_still = c.requires.not_ended in cc;
        ends = λ e. inr (at_end_over _ _ piece c.in_ok-count.ensures.bytes (c.in_ok-count.ensures.end (eqb-true _ _ e)));
      };
      bytes = sym (take-append-drop (length old) new) ∙ ap (λ (l : List ℕ). l ++ piece) kept ∙ ap (λ (l : List ℕ). l ++ piece) held;
      line = ap (λ (a : ReadPlace). a.line) c.self.view_is;
      passed = ap (λ (a : ReadPlace). a.passed) c.self.view_is;
    }
