use Rattle.std.proofs.Common.{false}
use Rattle.kap_cases.proofs.links.serve_alone.Given as goal

abbrev pub ghosts-serve_by-J-Naming : goal.ghosts-serve_by-J-Naming
ghosts-serve_by-J-Naming g a = record { book = a.opened }

abbrev pub ghosts-serve_by-L1-Ledger : goal.ghosts-serve_by-L1-Ledger
ghosts-serve_by-L1-Ledger g a = record { name = a.first.name; parts = a.first.parts }

abbrev pub ghosts-serve_by-L2-Ledger : goal.ghosts-serve_by-L2-Ledger
ghosts-serve_by-L2-Ledger g a = record { name = a.second.name; parts = a.second.parts }

abbrev pub ghosts-serve_by-L2-Since : goal.ghosts-serve_by-L2-Since
ghosts-serve_by-L2-Since g a = record { before = (g.E.Engine.value a.engine).faults; owned = false }
