use Rattle.std.proofs.Common.{List, ℕ, ap, ◌∙◌, length}
use Rattle.std.specs.List.{take_while}
use Rattle.tick_lexer.specs.Bytes.{is_word}
use Rattle.tick_lexer.proofs.Scans.{word_cut}
use Rattle.tick_lexer.proofs.front.word.Goals as goal

pub split_at-requires : goal.split_at-requires
split_at-requires c =
    word_cut c.args.text.now c.word_length.result c.utf8.text (c.word_length.ensures ∙ ap (λ (l : List ℕ). length (take_while is_word l)) c.as_bytes.ensures.value)
