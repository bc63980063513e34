use Rattle.std.proofs.Common.{true}
use Rattle.service_tests.proofs.single.one_seat_serves_all_links.Given as goal

abbrev pub ghosts-day-J-Naming : goal.ghosts-day-J-Naming
ghosts-day-J-Naming g a = record { book = a.opened }

abbrev pub ghosts-day-L1-Ledger : goal.ghosts-day-L1-Ledger
ghosts-day-L1-Ledger g a = record { name = a.first.name; parts = a.first.parts }

abbrev pub ghosts-day-L2-Ledger : goal.ghosts-day-L2-Ledger
ghosts-day-L2-Ledger g a = record { name = a.second.name; parts = a.second.parts }

abbrev pub ghosts-day-L2-Since : goal.ghosts-day-L2-Since
ghosts-day-L2-Since g a = record { before = record { disk = 0; patterns = 0 }; owned = true }
