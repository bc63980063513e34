use Rattle.std.proofs.Common.{◌≤◌, Bool, List, ℕ, Ok, Err, sym, refl, subst}
use Rattle.std.specs.Prelude.{Result, IfOk}
use Rattle.std.specs.Bool.{OnTrue}
use Rattle.std.specs.List.{position_or_len}
use Rattle.std.proofs.lemmas.Bool.{OnTrue_from}
use Rattle.std.proofs.KnownBytes.{Keeps-refl}
use Rattle.recording_file.specs.Lines.{is_feed}
use Rattle.recording_file.proofs.FindLaws.{pos_more, stays_kept}
use Rattle.recording_file.proofs.lines.Lines.read_on.Goals as goal

pub returns-in_err-check_limits-clause-stays : goal.returns-in_err-check_limits-clause-stays
returns-in_err-check_limits-clause-stays g c = stays_kept _ _ _ _ refl (Keeps-refl _)

pub returns-then-self-clause-stays : goal.returns-then-self-clause-stays
returns-then-self-clause-stays g c = stays_kept _ _ _ _ refl (Keeps-refl _)

-- a fact that holds anyway
anyway : {E : Type 0} (r : Result Bool E) (F : Type 0) → F → IfOk r (λ more. OnTrue more F)
anyway (Ok more) F holds = OnTrue_from more F (λ _. holds)
anyway (Err e) F holds = tt

pub returns-clause-searched : goal.returns-clause-searched
returns-clause-searched g c =
    let stays = c.fill.ensures.stays in
    let old = c.args.self.now.bytes in
    let further : c.args.size ≤ position_or_len is_feed c.fill.new.self.bytes =
    rw (sym c.requires.no_feed) (subst (λ (l : List ℕ). position_or_len is_feed old ≤ position_or_len is_feed l) (sym stays.bytes) (pos_more old stays.reads.piece)) in
    anyway c.fill.result _ further
