use Rattle.std.proofs.Common.{◌≡◌, ◌∙◌, true, false, length, take, get_or, sym, ap, arith}
use Rattle.std.proofs.lemmas.Bool.{OnTrue_from}
use Rattle.std.proofs.lemmas.Bool.Decides.{nat_tests}
use Rattle.std.proofs.lemmas.Slice.Eq.{bytes_eq-Decides}
use Rattle.std.specs.List.{position_or_len}
use Rattle.kap_base.specs.Texts.{has_line_feed}
use Rattle.line_points.specs.Body.{without_return}
use Rattle.recording_file.specs.Lines.{is_feed}
use Rattle.recording_file.proofs.FeedLaws.{known_end}
use Rattle.recording_file.proofs.feeds.begins_line.Goals as goal

pub returns-clause-end : goal.returns-clause-end
returns-clause-end c =
    let text = c.args.text.now in
    let bytes = c.args.bytes.now in
    OnTrue_from c.are_same.result (length text ≡ position_or_len is_feed bytes) (λ e.
    let none : has_line_feed text ≡ false = grind (arith, nat_tests) in
    let feed : is_feed (get_or bytes (length text) 0) ≡ true = grind (arith, nat_tests) in
    let front : c.split_at.result.0.now ≡ take (length text) bytes = cc in
    let equal = (bytes_eq-Decides c.without_return.result.now text).0 (sym c.are_same.ensures ∙ e) in
    known_end bytes text none c.requires.within feed (ap without_return (sym front) ∙ sym c.without_return.ensures ∙ equal))
