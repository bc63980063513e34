-- What a reader has read and given, which it keeps for contracts alone.
use Rattle.std.specs.Prelude.{ℕ, List, [], ◌∷◌, ◌++◌, drop}
use Rattle.kap_base.specs.Points.{PointValue}
use Rattle.recording_file.specs.declared.got.GotBytes.{GotBytes, Start, More'}
use Rattle.recording_file.specs.declared.got.GivenPoints.{GivenPoints}
use Rattle.recording_file.specs.declared.got.GivenPoints as given

-- the bytes, one piece behind the other
abbrev pub bytes_of : GotBytes → List ℕ
bytes_of Start = []
bytes_of (More' shape before window size) = bytes_of before ++ drop size.value window.value

-- the points, one behind the other
abbrev pub points_of : GivenPoints → List PointValue
points_of given.Start = []
points_of (given.More' shape before point) = points_of before ++ point.value ∷ []
