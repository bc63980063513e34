-- A replay whose reader may be an epoch ahead of what was told.
use Rattle.std.specs.Prelude.{◌≡◌, ℕ, List, Option}
use Rattle.kap_base.specs.Points.{PointValue}
use Rattle.recording_file.specs.Reading.{ReaderState}
use Rattle.kap_server.specs.Epochs.{IsAhead}
use Rattle.kap_server.specs.Replaying.{HasWritten, TextOf}
use Rattle.kap_server.specs.declared.reading.Epoch.{Epoch}

-- These points were told, which the reader has given, or had before it read an epoch ahead.
pub record HasToldBehind (text : TextOf) (due : List ℕ) (points : List PointValue) (reader : ReaderState)
    (ahead : Option Epoch) (s t w v : Option (List ℕ)) : Type 0 where
  pub before : ReaderState
  pub is_ahead : IsAhead before reader ahead
  pub written : HasWritten text due before s t w v
  pub fed : points ≡ before.given
