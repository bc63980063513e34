use Rattle.board_tests.proofs.watches.a_look_never_goes_back.Given as goal

abbrev pub ghosts-watched : goal.ghosts-watched
ghosts-watched g a = record { book = a.opened }
