-- Points whose records are read again.
use Rattle.std.specs.Prelude.{◌≡◌, ◌≤◌, length}
use Rattle.kap_base.specs.Points.{PointValue}
use Rattle.line_points.specs.Body.{without_return}
use Rattle.line_points.specs.Print.{Print}
use Rattle.line_points.specs.declared.line.TheConstants.{LINE_LIMIT}

-- no line of the point's record is too long for a recording, and its database and policy don't end in a carriage return
pub record HasShortLines (p : PointValue) : Type 0 where
  pub db : without_return p.db ≡ p.db
  pub rp : without_return p.rp ≡ p.rp
  pub db_within : length p.db ≤ LINE_LIMIT
  pub rp_within : length p.rp ≤ LINE_LIMIT
  pub line_within : length (Print p) ≤ LINE_LIMIT
