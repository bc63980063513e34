use Rattle.std.proofs.Common.{◌≡◌, List, Result, Ok, Err, sym, subst}
use Rattle.std.specs.Prelude.{IfOk, OnOk}
use Rattle.node_core.specs.declared.node.Node.{Ghosts}
use Rattle.flow_cells.specs.declared.parts.CellParts.{CellParts}
use Rattle.flow_life.specs.Graphs.{IsLoaded}
use Rattle.flow_life.proofs.LeftLaws.{left-moved}
use Rattle.flow_life.proofs.ListingLaws.{ends-planned}
use Rattle.flow_life.specs.Lives.{IsLife}
use Rattle.flow_life.proofs.OneLaws.{all-but}
use Rattle.flow_life.specs.Steps.{one_if}
use Rattle.flow_life.specs.Streams.{plans_of}
use Rattle.flow_life.specs.Wired.{IsReady}
use Rattle.flow_life.proofs.StreamLaws.{carries_prefixes}
use Rattle.flow_life.proofs.playing.step.Goals as goal
use Rattle.kap_base.proofs.ResultLaws.{on_both}

-- where it is Ok, two facts give a third
-- two facts and one of the value
all-ok : {T E A B : Type 0} {C D : T → Type 0} (r : Result T E) → ((x : T) → A → B → C x → D x) → OnOk r A → OnOk r B → IfOk r C → IfOk r D
all-ok (Ok x) f a b c = f x a b c
all-ok (Err e) f a b c = a

-- what a step leaves is a life
stays : {N P S : Type 0} (g : Ghosts N P S) (old new : List (CellParts N)) → IsLife g old → IsReady g new → plans_of g new ≡ plans_of g old → IsLife g new
stays g old new life ready plans = record { ready = ready; loaded = subst IsLoaded (sym plans) life.loaded }

pub returns-in-Take-clause-life : goal.returns-in-Take-clause-life
returns-in-Take-clause-life g c = on_both c.take.result (λ ready plans. record { ready = ready; loaded = subst IsLoaded (sym plans) c.requires.loaded }) c.take.ensures.ready c.take.ensures.plans

pub returns-in-Take-clause-prefixes : goal.returns-in-Take-clause-prefixes
returns-in-Take-clause-prefixes g c = on_both c.take.result (λ ready _. carries_prefixes g.N.Node c.take.new.cells ready) c.take.ensures.ready c.take.ensures.ready

pub returns-in-Put-clause-life : goal.returns-in-Put-clause-life
returns-in-Put-clause-life g c = record { ready = c.put.ensures.ready; loaded = subst IsLoaded (sym c.put.ensures.plans) c.requires.loaded }

pub returns-in-Put-clause-prefixes : goal.returns-in-Put-clause-prefixes
returns-in-Put-clause-prefixes g c = carries_prefixes g.N.Node c.put.new.cells c.put.ensures.ready

pub returns-in-Take-clause-no : goal.returns-in-Take-clause-no
returns-in-Take-clause-no g c = rw c.in-Take.is c.take.ensures.no

pub returns-in-Put-clause-no : goal.returns-in-Put-clause-no
returns-in-Put-clause-no g c = rw c.in-Put.is c.put.ensures.no

pub returns-in-Put-clause-yes : goal.returns-in-Put-clause-yes
returns-in-Put-clause-yes g c = rw c.in-Put.is c.put.ensures.yes

pub returns-in-Take-clause-ends : goal.returns-in-Take-clause-ends
returns-in-Take-clause-ends g c = on_both c.take.result (λ ready plans. ends-planned g.N.Node _ _ c.requires (stays g.N.Node _ _ c.requires ready plans) plans) c.take.ensures.ready c.take.ensures.plans

pub returns-in-Put-clause-ends : goal.returns-in-Put-clause-ends
returns-in-Put-clause-ends g c = ends-planned g.N.Node _ _ c.requires (stays g.N.Node _ _ c.requires c.put.ensures.ready c.put.ensures.plans) c.put.ensures.plans

pub returns-in-Take-clause-left : goal.returns-in-Take-clause-left
returns-in-Take-clause-left g c = all-ok c.take.result (λ made ready plans count. left-moved g.N.Node _ _ (one_if made) (stays g.N.Node _ _ c.requires ready plans) plans count) c.take.ensures.ready c.take.ensures.plans c.take.ensures.count

pub returns-in-Put-clause-left : goal.returns-in-Put-clause-left
returns-in-Put-clause-left g c = left-moved g.N.Node _ _ (one_if c.put.result) (stays g.N.Node _ _ c.requires c.put.ensures.ready c.put.ensures.plans) c.put.ensures.plans c.put.ensures.count

pub returns-in-Take-clause-others : goal.returns-in-Take-clause-others
returns-in-Take-clause-others g c = rw c.in-Take.is c.take.ensures.left

pub returns-in-Put-clause-others : goal.returns-in-Put-clause-others
returns-in-Put-clause-others g c = λ all. all-but _ _ (c.put.ensures.left all)
