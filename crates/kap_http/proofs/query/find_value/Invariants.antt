use Rattle.std.proofs.Common.{◌≡◌}
use Rattle.form_urlencoded.specs.Form.{raw_pairs}
use Rattle.form_urlencoded.specs.Parse.{raw_pairs_left}
use Rattle.kap_http.specs.Queries.{value_of}
use Rattle.kap_http.proofs.query.find_value.Given as goal

abbrev pub invariant-pairs : goal.invariant-pairs
invariant-pairs l = value_of l.name (raw_pairs_left l.key-iterator) ≡ value_of l.name (raw_pairs l.query)
