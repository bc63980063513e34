use Rattle.std.proofs.Common.{◌∙◌, [], ◌∷◌, arith, refl, subst, sym}
use Rattle.std.specs.Prelude.{Contains}
use Rattle.merge_node.specs.Merge.{barriers}
use Rattle.flow_core.specs.Messages.{load_messages}
use Rattle.flow_tests.proofs.captures.stop_inside.Goals as goal

pub capture-requires-clause-passed : goal.capture-requires-clause-passed
capture-requires-clause-passed g c =
    let mark = c.args.mark in
    let marks = mark ∷ [] in
    let points = c.args.points.now in
    let last = c.args.last in
    let long = c.requires.last in
    let msgs = load_messages points last marks in
    let e = c.in_ok-net.ensures in
    let goes = c.in_ok-play.ensures.goes in
    let has : Contains (barriers msgs) mark =
    subst (λ stamps. Contains stamps mark) (sym (c.loads_have_messages.ensures.barriers points last marks (omega (arith, long)) c.requires.marks)) (0, omega arith, refl) in
    c.if-not-has_passed_inside.ensures.passed refl
    (c.streams_are_steady.ensures.loaded mark msgs (c.args.plan ∷ []) e.made c.play.new.self.lives e.are (c.requires.steady, tt) has (goes.plans ∙ e.plans) (goes.specs ∙ e.specs))

pub returns : goal.returns
returns g c =
    let e = c.in_ok-net.ensures in
    let played = c.in_ok-play.ensures in
    record {
      made = e.made;
      are = e.are;
      loaded = record {
        plans = played.goes.plans ∙ e.plans;
        specs = played.goes.specs ∙ e.specs;
        lives = c.in_ok-bytes.ensures.lives;
      };
      capture = c.in_ok-bytes.ensures.capture;
      gathered = c.effects_are_gathered.ensures.moved [] c.in_ok-net.net c.play.new.self e.gathered played.goes.gathers;
      unspent = played.unspent;
    }
