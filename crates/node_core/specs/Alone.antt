-- A node that keeps nothing.
use Rattle.std.proofs.Common.{ap}
use Rattle.std.specs.Prelude.{◌≡◌, List, ⊤}
use Rattle.node_core.specs.declared.said.Said.{Said}
use Rattle.node_core.specs.Meaning.{Arrival, Turn, silence}

-- nothing is kept, whatever arrived
abbrev pub NothingKept : List Arrival → Unit {0} → Type 0
NothingKept before s = ⊤

-- where nothing is said, nothing changes
pub alone_stays : (s : Unit {0}) (said : Said) → said ≡ silence
    → ◌≡◌ {A = Turn (Unit {0})} (record { state = s; said = said }) (record { state = s; said = silence })
alone_stays s said e = ap (λ (x : Said). record { state = s; said = x }) e
