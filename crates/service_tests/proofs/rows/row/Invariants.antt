use Rattle.std.proofs.Common.{true}
use Rattle.service_tests.proofs.rows.row.Given as goal

abbrev pub ghosts-row_by-J-Naming : goal.ghosts-row_by-J-Naming
ghosts-row_by-J-Naming g a = record { book = a.opened }

abbrev pub ghosts-row_by-L1-Ledger : goal.ghosts-row_by-L1-Ledger
ghosts-row_by-L1-Ledger g a = record { name = a.first.name; parts = a.first.parts }

abbrev pub ghosts-row_by-L2-Ledger : goal.ghosts-row_by-L2-Ledger
ghosts-row_by-L2-Ledger g a = record { name = a.second.name; parts = a.second.parts }

abbrev pub ghosts-row_by-L2-Since : goal.ghosts-row_by-L2-Since
ghosts-row_by-L2-Since g a = record { before = (g.E.Engine.value a.engine).faults; owned = true }
