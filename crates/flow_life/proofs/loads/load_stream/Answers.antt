use Rattle.std.proofs.lemmas.Result.{on_ok_weaker}
use Rattle.flow_life.proofs.LoadLaws.{all-own, loads-stream}
use Rattle.flow_life.proofs.loads.load_stream.Goals as goal

pub load-requires-clause-own : goal.load-requires-clause-own
load-requires-clause-own g c = all-own c.args.cell.now.ins.items c.args.source.items c.requires.none

pub returns-clause-loads : goal.returns-clause-loads
returns-clause-loads g c = on_ok_weaker c.load.result (loads-stream c.args.keeps c.args.source.items c.args.cell.now c.load.new.self c.requires.none) c.load.ensures.begins
