-- Lists of items merged by their stamps.
use Rattle.std.specs.Prelude.{ℕ, zero, suc, ◌+◌, List, [], ◌∷◌, ◌++◌, map, flat_map}
use Rattle.kap_base.specs.declared.items.Item.{Item}
use Rattle.node_core.specs.Meaning.{Input}
use Rattle.task_run.specs.Stamps.{of_item, with_stamp}

-- the stamps 1 to n
abbrev pub stamps : ℕ → List ℕ
stamps zero = []
stamps (suc n) = stamps n ++ suc n ∷ []

-- the items with a stamp
abbrev pub items_with : ℕ → List Item → List Item
items_with stamp items = with_stamp of_item stamp items

-- items that come at a port
abbrev pub at_port : ℕ → List Item → List Input
at_port port items = map (λ i. (port, i)) items

-- lists that come at ports of their own, numbered from here on, one list after the other
abbrev pub at_ports : ℕ → List (List Item) → List Input
at_ports port [] = []
at_ports port (l ∷ ls) = at_port port l ++ at_ports (port + 1) ls

-- what has a stamp in lists, each at a port of its own: by port, then by place
abbrev pub inputs_with : ℕ → List (List Item) → List Input
inputs_with stamp lists = at_ports 0 (map (items_with stamp) lists)

-- lists with the stamps 1 to n merged: by stamp, then by port, then by place
abbrev pub merged : ℕ → List (List Item) → List Input
merged n lists = flat_map (λ s. inputs_with s lists) (stamps n)
