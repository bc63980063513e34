use Rattle.state_code.specs.Laws.{once}
use Rattle.store_records.specs.Records.{record_spelled}
use Rattle.store_records.proofs.laws.record_laws.Goals as goal

pub returns : goal.returns
returns c = record {
  again = λ r rest fits. record_spelled.again r rest fits;
  only = λ bytes r rest fits reads. let stands = record_spelled.only bytes r rest fits reads in (stands.fits, stands.parts);
  apart = λ a b x y fits_a fits_b same. once record_spelled a b x y fits_a fits_b same;
}
