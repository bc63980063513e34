use Rattle.board_tests.proofs.locks.two_threads_post_under_a_lock.Given as goal

abbrev pub ghosts-shared : goal.ghosts-shared
ghosts-shared g a = record { book = a.opened }
