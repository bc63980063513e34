use Rattle.std.proofs.Common.{◌≡◌, bytes_eq}
use Rattle.percent_encoding.specs.Percent.{percent_decode}
use Rattle.percent_encoding.specs.Iter.{decoded_bytes}
use Rattle.kap_http.proofs.path.decodes_to.Given as goal

abbrev pub invariant-bytes : goal.invariant-bytes
invariant-bytes l = bytes_eq (decoded_bytes l.byte-iterator) l.left ≡ bytes_eq (percent_decode l.bytes) l.word
