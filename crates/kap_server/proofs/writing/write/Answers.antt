use Rattle.std.proofs.Common.{◌≡◌, ℤ, inr, ap, ◌∙◌, to_z, of_z}
use mir.Val.{SFits}
use Rattle.std.specs.Int.{w64}
use Rattle.std.proofs.lemmas.Int.{to_z-of_z}
use Rattle.line_points.specs.declared.mode.Mode.TheVariants.{Live}
use Rattle.line_points.specs.declared.mode.Unit.{Unit}
use Rattle.kap_server.specs.Options.{unit_of}
use Rattle.kap_server.proofs.WriteLaws.{names_are_lines, read_as_asked}
use Rattle.kap_server.proofs.writing.write.Goals as goal

-- the mode is that of the unit that is asked for, and of now
mode-same : (unit asked : Unit) (now : ℤ) → unit ≡ asked → SFits w64 now → Live unit (to_z w64 (of_z w64 now)) ≡ Live asked now
mode-same unit asked now is fits = ap (λ (u : Unit). Live u (to_z w64 (of_z w64 now))) is ∙ ap (λ (t : ℤ). Live asked t) (to_z-of_z w64 now fits)

pub write_on-requires-clause-lines : goal.write_on-requires-clause-lines
write_on-requires-clause-lines g c κs within =
    let one = c.in-Ok.ensures.one in
    let other = c.in-Ok.ensures.other in
    names_are_lines _ _ (rw one.0 c.requires.db) (rw other.0 c.requires.rp) one.1 other.1

pub returns-in-Ok-read_points-clause-written : goal.returns-in-Ok-read_points-clause-written
returns-in-Ok-read_points-clause-written g c = λ tells rs good stands.
    let mode-is = mode-same c.unit_of.result (unit_of c.args.options) c.args.now c.unit_of.ensures c.ranges.now in
    let read = read_as_asked _ _ _ _ _ _ c.in-Ok.ensures.one.0 c.in-Ok.ensures.other.0 mode-is (g.S.Source.left c.args.input.now) c.in-Ok-read_points.points c.in-Ok-read_points.ensures.points in
    inr (record {
      body = read.0;
      all = read.1;
      points = c.in-Ok-read_points.points;
      are = read.2;
      ends = c.write_on.ensures.ends tells rs good stands;
      any_moment = c.write_on.ensures.any_moment tells rs good stands;
    })
