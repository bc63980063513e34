use Rattle.board_tests.proofs.rows.a_look_reads_what_was_published.Given as goal

abbrev pub ghosts-read_one : goal.ghosts-read_one
ghosts-read_one g a = record { book = a.opened }
