-- The records of points, and which of them are read again.
use Rattle.std.specs.Prelude.{◌≡◌, ◌≤◌, ℕ, false, List, [], ◌∷◌, ◌++◌, length}
use Rattle.kap_base.specs.Points.{PointValue, IsPoint}
use Rattle.kap_base.specs.Texts.{line_feed}
use Rattle.line_points.specs.declared.line.TheConstants.{LINE_LIMIT}
use Rattle.line_points.specs.Body.{without_return}
use Rattle.line_points.specs.Print.{Print}

-- the three lines of a point, each with its line feed
abbrev pub record_text : PointValue → List ℕ
record_text p = p.db ++ (line_feed ∷ (p.rp ++ (line_feed ∷ (Print p ++ line_feed ∷ []))))

-- no line of the point's record is too long, and its database and policy don't end in a carriage return
pub record IsRecordable (p : PointValue) : Type 0 where
  pub point : IsPoint p
  pub db : without_return p.db ≡ p.db
  pub rp : without_return p.rp ≡ p.rp
  pub db_within : length p.db ≤ LINE_LIMIT
  pub rp_within : length p.rp ≤ LINE_LIMIT
  pub line_within : length (Print p) ≤ LINE_LIMIT

-- the point as it is read again: without what it is grouped by
abbrev pub read_again : PointValue → PointValue
read_again p = record p { dims = []; by_name = false }
