use Rattle.std.proofs.Common.{◌≡◌, refl}
use Rattle.service_tests.proofs.NewStores.{new_right}
use Rattle.service_tests.proofs.disks.new_disk.Goals as goal

pub returns-in-Ok : goal.returns-in-Ok
returns-in-Ok c = record { right = new_right _ _ _ _ (c.in-Ok.ensures.made refl) }
