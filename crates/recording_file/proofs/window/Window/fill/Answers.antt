use Rattle.std.proofs.Common.{◌≡◌, ◌-◌, length, arith}
use Rattle.std.proofs.lemmas.List.{drop-take}
use Rattle.std.proofs.lemmas.Grind.{common_steps}
use Rattle.recording_file.proofs.window.Window.fill.Goals as goal

pub returns-clause-bytes : goal.returns-clause-bytes
returns-clause-bytes g c =
    let size : length c.args.self.now ≡ c.self.inside.end - c.self.inside.start = grind (arith, common_steps) in
    rw (size, drop-take (c.self.inside.end - c.self.inside.start) c.in_ok-count.count c.append.new.buffer.items) c.in_ok-count.ensures.bytes
