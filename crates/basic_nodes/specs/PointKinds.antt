-- What is said of each point by itself.
use Rattle.std.specs.Prelude.{◌≡◌, ℕ, false, refl}
use Rattle.kap_base.specs.Points.{PointValue}
use Rattle.kap_base.specs.declared.items.Body.{Body}
use Rattle.kap_base.specs.declared.items.Body.TheVariants as bodies
use Rattle.node_core.specs.declared.said.Said.{Said}
use Rattle.node_core.specs.Groups.{is_point}
use Rattle.node_core.specs.Meaning.{silence}
use Rattle.basic_nodes.specs.declared.point_kind.PointKind.{PointKind}
use Rattle.basic_nodes.specs.declared.point_kind.PointKind.TheVariants.{Stream, GroupBy, Log, Default, Delete, Shift}
use Rattle.basic_nodes.specs.Defaults.{default_says}
use Rattle.basic_nodes.specs.Deletions.{delete_says}
use Rattle.basic_nodes.specs.Dimensions.{group_by_says}
use Rattle.basic_nodes.specs.Logs.{log_says}
use Rattle.basic_nodes.specs.Shifts.{shift_says}
use Rattle.basic_nodes.specs.Streams.{stream_says}
use Rattle.basic_nodes.specs.Words.{of_points}

-- what is said of a point by itself
abbrev pub says_of : PointKind → PointValue → Said
says_of (Stream dbrps) p = stream_says dbrps p
says_of (GroupBy regrouping) p = group_by_says regrouping p
says_of Log p = log_says p
says_of (Default settings) p = default_says settings p
says_of (Delete deletion) p = delete_says deletion p
says_of (Shift by) p = shift_says by p

-- what is said of a body, whatever its port
abbrev pub point_says : PointKind → ℕ → Body → Said
point_says kind port body = of_points (says_of kind) body

-- nothing is said of a batch
pub point_silent : (kind : PointKind) (port : ℕ) (body : Body) → is_point body ≡ false
    → point_says kind port body ≡ silence
point_silent kind port (bodies.Point p) e = absurd cc
point_silent kind port (bodies.Batch b) e = refl
