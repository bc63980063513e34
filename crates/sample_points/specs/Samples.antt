-- The sample recording: a point for each number from 1 on.
use Rattle.std.specs.Prelude.{ℕ, zero, suc, ◌+◌, ◌*◌, ◌^◌, ◌%◌, ℤ, pos, false, List, [], ◌∷◌, ◌++◌, codes}
use Rattle.std.specs.List.{flat_map}
use Rattle.std.specs.Fmt.{decimal}
use Rattle.std.specs.FinMap as map
use Rattle.kap_base.specs.declared.value.Value.{Value}
use Rattle.kap_base.specs.declared.value.Value.TheVariants as values
use Rattle.kap_base.specs.Maps.{KeyMap}
use Rattle.kap_base.specs.Points.{PointValue}
use Rattle.kap_base.specs.Texts.{line_feed}
use Rattle.recording_file.specs.Printed.{record_text}

-- the tag of a host: its name, made of its number
abbrev pub tags_of : ℕ → KeyMap (List ℕ)
tags_of host = map.insert map.empty (codes "host") (codes "h" ++ decimal host)

-- how idle a host is, in percent
abbrev pub fields_of : ℤ → KeyMap Value
fields_of idle = map.insert map.empty (codes "usage_idle") (values.Int idle)

-- the point of a number: of one of eight hosts in turn, one point a second
unfoldable pub sample_of : ℕ → PointValue
sample_of i = record {
  db = codes "telegraf";
  rp = codes "autogen";
  name = codes "cpu";
  tags = tags_of (i % 8);
  fields = fields_of (pos (37 * i % 101));
  dims = [];
  by_name = false;
  time = pos (i * 10 ^ 9);
}

-- the same, letter by letter: its three lines, each with its line feed
unfoldable pub sample_record : ℕ → List ℕ
sample_record i = codes "telegraf\nautogen\ncpu,host=h" ++ decimal (i % 8) ++ codes " usage_idle="
    ++ decimal (37 * i % 101) ++ codes "i " ++ decimal (i * 10 ^ 9) ++ line_feed ∷ []

-- the points of the numbers from 1 to n, in order
unfoldable pub samples : ℕ → List PointValue
samples zero = []
samples (suc n) = samples n ++ sample_of (suc n) ∷ []

-- the recording of n points
abbrev pub sample_text : ℕ → List ℕ
sample_text n = flat_map record_text (samples n)
