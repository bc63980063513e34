use Rattle.std.proofs.Common.{◌≡◌, ◌++◌, length, ap, ◌∙◌, rules, sym}
use Rattle.std.specs.List.{sum_by}
use Rattle.std.proofs.lemmas.Bool.{eqb-true}
use Rattle.std.proofs.lemmas.List.{nil_from_length}
use Rattle.effect_text.specs.Lines.{events_of}
use Rattle.task_run.specs.Lives.{effects_of}
use Rattle.kap_server.specs.Parts.{IsToldInParts}
use Rattle.kap_server.proofs.PaceLaws.{paces_none, paces_on}
use Rattle.kap_server.proofs.PartLaws.{parts_have}
use Rattle.kap_server.proofs.TellLaws.{GoBehind, adds_text, effects_in_parts, events_next, parts_behind, parts_count, done_by_parts, told_by_stamp}
use Rattle.kap_server.proofs.telling.Telling.tell.Goals as goal

pub returns-then-is_empty-clause-pace : goal.returns-then-is_empty-clause-pace
returns-then-is_empty-clause-pace g c =
    let node = g.N.Node in
    let none = nil_from_length c.args.points.items (sym c.args.points.ok.0 ∙ eqb-true _ _ (sym c.if-is_empty.ensures)) in
    paces_none node.answer c.args.self.now.run.lives c.args.self.now.run.points c.args.points.items c.args.text.now c.args.self.now.pace.limit none c.args.self.now.pace.some

-- ---- where all lives are one part

pub returns-in_ok-put_effects-in-Whole-clause-text : goal.returns-in_ok-put_effects-in-Whole-clause-text
returns-in_ok-put_effects-in-Whole-clause-text g c =
    let node = g.N.Node in
    let lives = c.args.self.now.run.lives in
    let points = c.args.self.now.run.points in
    let new = c.args.points.items in
    let behind : GoBehind node.answer c.args.names.now lives points new c.in-Whole.effects = rw c.in-Whole.is at c.in_ok-effects.ensures.ran in
    adds_text node.answer c.args.names.now lives points new c.in-Whole.effects c.args.text.now c.put_effects.new.text behind
    (rw c.as_slice.ensures at (c.in_ok-put_effects-in-Whole.ensures.text (events_of (effects_of node.answer lives points)) c.requires.topics))

pub returns-in_ok-put_effects-in-Whole-clause-topics : goal.returns-in_ok-put_effects-in-Whole-clause-topics
returns-in_ok-put_effects-in-Whole-clause-topics g c =
    let node = g.N.Node in
    let lives = c.args.self.now.run.lives in
    let points = c.args.self.now.run.points in
    let new = c.args.points.items in
    let behind : GoBehind node.answer c.args.names.now lives points new c.in-Whole.effects = rw c.in-Whole.is at c.in_ok-effects.ensures.ran in
    rw (c.in_ok-effects.ensures.lives, c.in_ok-effects.ensures.points, events_next node.answer c.args.names.now lives points new c.in-Whole.effects behind)
    (rw c.as_slice.ensures at (c.in_ok-put_effects-in-Whole.ensures.topics (events_of (effects_of node.answer lives points)) c.requires.topics))

pub returns-in_ok-put_effects-in-Whole-clause-pace : goal.returns-in_ok-put_effects-in-Whole-clause-pace
returns-in_ok-put_effects-in-Whole-clause-pace g c =
    let node = g.N.Node in
    let lives = c.args.self.now.run.lives in
    let points = c.args.self.now.run.points in
    let new = c.args.points.items in
    let behind : GoBehind node.answer c.args.names.now lives points new c.in-Whole.effects = rw c.in-Whole.is at c.in_ok-effects.ensures.ran in
    paces_on node.answer lives points new c.in-Whole.effects c.args.text.now c.put_effects.new.text c.args.self.now.pace.limit _ behind
    (search rules)

-- ---- where they are told in parts

pub returns-in_ok-put_printed-in-InParts-clause-text : goal.returns-in_ok-put_printed-in-InParts-clause-text
returns-in_ok-put_printed-in-InParts-clause-text g c =
    let node = g.N.Node in
    let met = g.met.N.Node g.world.𝓛 g.world.𝓜 g.world.𝓡 (λ s x. x, λ x. x, λ x. x, λ x. x) in
    let names = c.args.names.now in
    let lives = c.args.self.now.run.lives in
    let points = c.args.self.now.run.points in
    let new = c.args.points.items in
    let told = c.in-InParts.told.items in
    let t : IsToldInParts node.answer names points new lives told = rw c.in-InParts.is at c.in_ok-effects.ensures.ran in
    let from = c.given-from.result in
    let count = c.len-count.result in
    let first : from ≡ length points = c.given-from.ensures in
    let many : count ≡ length new = c.len-count.ensures ∙ c.args.points.ok.0 in
    let parts = c.as_mut_slice-parts.ensures.value ∙ told_by_stamp node.answer names lives points new told t from count first many in
    adds_text node.answer names lives points new (effects_in_parts node.answer names lives points new told t from count) c.args.text.now c.put_printed.new.text
    (parts_behind node.answer names lives points new told t from count node.life node.number met.stamped first many)
    (c.in_ok-put_printed-in-InParts.ensures.text names (events_of (effects_of node.answer lives points)) (done_by_parts node.answer names lives points new told t from count) c.requires.topics (parts_have node.answer (points ++ new) t.parts) parts)

pub returns-in_ok-put_printed-in-InParts-clause-topics : goal.returns-in_ok-put_printed-in-InParts-clause-topics
returns-in_ok-put_printed-in-InParts-clause-topics g c =
    let node = g.N.Node in
    let met = g.met.N.Node g.world.𝓛 g.world.𝓜 g.world.𝓡 (λ s x. x, λ x. x, λ x. x, λ x. x) in
    let names = c.args.names.now in
    let lives = c.args.self.now.run.lives in
    let points = c.args.self.now.run.points in
    let new = c.args.points.items in
    let told = c.in-InParts.told.items in
    let t : IsToldInParts node.answer names points new lives told = rw c.in-InParts.is at c.in_ok-effects.ensures.ran in
    let from = c.given-from.result in
    let count = c.len-count.result in
    let first : from ≡ length points = c.given-from.ensures in
    let many : count ≡ length new = c.len-count.ensures ∙ c.args.points.ok.0 in
    let parts = c.as_mut_slice-parts.ensures.value ∙ told_by_stamp node.answer names lives points new told t from count first many in
    rw (
      c.in_ok-effects.ensures.lives,
      c.in_ok-effects.ensures.points,
      events_next node.answer names lives points new (effects_in_parts node.answer names lives points new told t from count) (parts_behind node.answer names lives points new told t from count node.life node.number met.stamped first many),
    )
    (c.in_ok-put_printed-in-InParts.ensures.topics names (events_of (effects_of node.answer lives points)) (done_by_parts node.answer names lives points new told t from count) c.requires.topics (parts_have node.answer (points ++ new) t.parts) parts)

pub returns-in_ok-put_printed-in-InParts-clause-pace : goal.returns-in_ok-put_printed-in-InParts-clause-pace
returns-in_ok-put_printed-in-InParts-clause-pace g c =
    let node = g.N.Node in
    let met = g.met.N.Node g.world.𝓛 g.world.𝓜 g.world.𝓡 (λ s x. x, λ x. x, λ x. x, λ x. x) in
    let names = c.args.names.now in
    let lives = c.args.self.now.run.lives in
    let points = c.args.self.now.run.points in
    let new = c.args.points.items in
    let told = c.in-InParts.told.items in
    let t : IsToldInParts node.answer names points new lives told = rw c.in-InParts.is at c.in_ok-effects.ensures.ran in
    let from = c.given-from.result in
    let count = c.len-count.result in
    let first : from ≡ length points = c.given-from.ensures in
    let many : count ≡ length new = c.len-count.ensures ∙ c.args.points.ok.0 in
    let as_many : c.in-Some.effects ≡ length (effects_in_parts node.answer names lives points new told t from count) =
    c.in-Some.ensures ∙ ap (sum_by length) c.as_slice-in-InParts.ensures.value ∙ parts_count node.answer names lives points new told t from count first many in
    paces_on node.answer lives points new (effects_in_parts node.answer names lives points new told t from count) c.args.text.now c.put_printed.new.text c.args.self.now.pace.limit _
    (parts_behind node.answer names lives points new told t from count node.life node.number met.stamped first many)
    (rw (← as_many) (search rules))
