use Rattle.std.proofs.Common.{◌≡◌, ◌++◌, [], subst, ◌∙◌, drop, length, None}
use Rattle.std.specs.Prelude.{MatchOption}
use Rattle.left_right.specs.Handles.{published, pending}
use Rattle.topic_board.specs.Values.{Posts}
use Rattle.topic_board.specs.Ops.{last_of}
use Rattle.topic_board.proofs.LastOp.{published_all}
use Rattle.topic_board.proofs.poster.Poster.publish.Goals as goal

pub returns-clause-ok : goal.returns-clause-ok
returns-clause-ok g c =
    let none : c.self.inside.stuck ≡ None = c.if-not-is_free.ensures in
    let was = published c.self.inside.handle in
    let all : last_of g.T.Shown.posted (g.T.Shown.list was) (pending c.self.inside.handle) ≡ c.self.inside.front =
    subst (λ o. MatchOption o (last_of g.T.Shown.posted (g.T.Shown.list was) (pending c.self.inside.handle) ≡ c.self.inside.front) (λ op. g.T.Shown.posted op ≡ c.self.inside.front)) none c.self.invariant.1 in
    let now = g.T.Shown.list (published c.show.new.handle) in
    subst (λ (p : Posts). (now ≡ p.published ++ p.pending) × (drop (length now) c.self.inside.front ≡ [])) (c.self.view_is ∙ c.unstick.ensures)
    (published_all (g.T.Shown.list was) now c.self.inside.front c.self.invariant.0 (c.in_ok-show.ensures.0 ∙ all))
