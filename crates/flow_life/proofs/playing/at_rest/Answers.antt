use Rattle.flow_life.proofs.AliveLaws.{alive}
use Rattle.flow_life.proofs.CountLaws.{moves-twice}
use Rattle.flow_life.proofs.LeftLaws.{left-none}
use Rattle.flow_life.proofs.RestLaws.{buffers_empty, carries_streams}
use Rattle.flow_life.proofs.playing.at_rest.Goals as goal

pub returns-clause-empty : goal.returns-clause-empty
returns-clause-empty g c = λ rest. buffers_empty g.N.Node c.args.cells.now c.requires.ready (c.are_quiet.ensures.yes rest) c.requires.loaded

pub returns-clause-streams : goal.returns-clause-streams
returns-clause-streams g c = λ rest. carries_streams g.N.Node c.args.cells.now c.requires.ready (c.are_quiet.ensures.yes rest)

pub returns-clause-twice : goal.returns-clause-twice
returns-clause-twice g c = λ rest streams are. moves-twice g.N.Node c.args.cells.now c.requires.ready (c.are_quiet.ensures.yes rest) streams are

pub returns-clause-alive : goal.returns-clause-alive
returns-clause-alive g c = λ busy. alive c.args.cells.now c.requires.ready.wired (c.are_quiet.ensures.no busy)

pub returns-clause-none : goal.returns-clause-none
returns-clause-none g c = λ rest. left-none g.N.Node c.args.cells.now c.requires (c.are_quiet.ensures.yes rest)
