-- What a net keeps from one epoch to the next, whose lives all began at the first point.
use Rattle.std.specs.Prelude.{◌≡◌, List, [], length}
use Rattle.std.specs.List.{AllZip}
use Rattle.kap_base.specs.Points.{PointValue}
use Rattle.node_core.specs.declared.node.Node.{Ghosts}
use Rattle.task_run.specs.Courses.{from_first}
use Rattle.task_run.specs.Graphs.{Placed}
use Rattle.flow_core.specs.Carried.{HasCarried}
use Rattle.flow_core.specs.Gathering.{LivesRise}
use Rattle.flow_core.specs.Nets.{NetValue}
use Rattle.net_epochs.specs.Epochs.{IsOnCourse}

-- A net of lives of these nodes stands behind these points: its last barrier is that of the last point, all that its
-- nodes did was collected, and its lives are where the points have brought them. It is at rest, and since it was made
-- each of its edges has carried, barriers aside, what its parent gives out for the points.
pub record Stands {N P S : Type 0} (g : Ghosts N P S) (nodes : List (List (Placed P))) (points : List PointValue)
    (net : NetValue N) : Type 0 where
  pub last : net.last.0 ≡ length points
  pub none : net.gathered ≡ []
  pub lives : AllZip (IsOnCourse g) (from_first points nodes) net.lives
  pub carried : HasCarried g nodes points net
  pub rise : LivesRise g.life g.number 1 nodes
