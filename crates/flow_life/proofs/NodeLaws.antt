-- Moves, loads and gathering leave each node what it is, and each edge its room; moves leave what was gathered.
use Rattle.std.proofs.Common.{Bool, ◌≡◌, ℕ, ◌<◌, List, [], ◌∷◌, map, set, Some, refl, sym, ap, ◌∙◌, arith}
use Rattle.std.specs.Prelude.{slice_get}
use Rattle.std.specs.List.{AllByRecursion as Each, AllZip}
use Rattle.kap_base.specs.declared.items.Msg.{Msg}
use Rattle.node_core.specs.declared.node.Node.{Ghosts}
use Rattle.flow_cells.specs.declared.parts.CellParts.{CellParts}
use Rattle.flow_cells.specs.Gathers.{Gathers}
use Rattle.flow_cells.specs.Kept.{Keeps, gathered}
use Rattle.flow_cells.specs.Moved.{HasMoved}
use Rattle.flow_cells.proofs.MovedLaws.{put-none_moved, put-one_moved, took-moved}
use Rattle.flow_cells.specs.Moves.{PutsNone, PutsOne, TakesOne}
use Rattle.flow_cells.specs.Rooms.{rooms}
use Rattle.flow_cells.specs.Settles.{Settles}
use Rattle.flow_cells.proofs.RoomLaws.{room, rooms_moved}
use Rattle.edge_queue.proofs.EdgeLaws.{SameTail-capacity}
use Rattle.flow_life.specs.Loads.{LoadsFrom}
use Rattle.flow_life.specs.Nodes.{gathered_of, specs_of}
use Rattle.flow_life.proofs.PlaceLaws.{each-get, get-set_other, map-set}
use Rattle.flow_life.specs.Rooms.{rooms_of}
use Rattle.flow_life.specs.Settling.{SettlesIn}

-- what settling leaves of two cells it leaves of all
pub settle-stays : {N A : Type 0} (f : CellParts N → A) (j k p : ℕ) (cells cells' : List (CellParts N)) → (s : SettlesIn j k p cells cells') → f s.new_parent ≡ f s.old_parent → f s.new_child ≡ f s.old_child → map f cells' ≡ map f cells
settle-stays f j k p cells cells' s parent child =
    let lt : p < j = s.before in
    let mid = set cells p s.new_parent in
    let at_child : slice_get mid j ≡ Some s.old_child = get-set_other cells p j s.new_parent (λ e. absurd (omega (arith, lt, e))) ∙ s.at_child in
    ap (map f) s.is ∙ map-set f mid j s.old_child s.new_child at_child child ∙ map-set f cells p s.old_parent s.new_parent s.at_parent parent

-- settling leaves the room of the parent's edges
rooms-settled : {N : Type 0} (k : ℕ) (parent child parent' child' : CellParts N) → Settles k parent child parent' child' → rooms parent' ≡ rooms parent
rooms-settled k parent child parent' child' t = ap (map room) t.outs ∙ map-set room parent.core.outs.items t.edge.out t.out t.out' t.at_parent (SameTail-capacity t.tail.tail.same)

module _ {N P S : Type 0} (g : Ghosts N P S) where
  -- each node is what it was, as much was gathered from it, and its edges have the same room
  pub record Stays (cells cells' : List (CellParts N)) : Type 0 where
    pub specs : specs_of g cells' ≡ specs_of g cells
    pub gathered : gathered_of cells' ≡ gathered_of cells
    pub rooms : rooms_of cells' ≡ rooms_of cells

  stays-set : (cells : List (CellParts N)) (j : ℕ) (c d : CellParts N) → slice_get cells j ≡ Some c → g.spec d.core.node ≡ g.spec c.core.node → HasMoved c d → Stays cells (set cells j d)
  stays-set cells j c d at spec moved = record {
    specs = map-set (λ (x : CellParts N). g.spec x.core.node) cells j c d at spec;
    gathered = map-set (λ (x : CellParts N). gathered x.core.gathered) cells j c d at (ap gathered moved.gathered);
    rooms = map-set rooms cells j c d at (rooms_moved c d moved);
  }

  -- and still where an edge is settled then
  settled-stays : (cells mid cells' : List (CellParts N)) (j k p : ℕ) → Stays cells mid → SettlesIn j k p mid cells' → Stays cells cells'
  settled-stays cells mid cells' j k p stays s =
      let t = s.settles in
      record {
        specs = settle-stays (λ (x : CellParts N). g.spec x.core.node) j k p mid cells' s (ap g.spec t.of_parent.node) (ap (λ c. g.spec c.node) t.of_child.core) ∙ stays.specs;
        gathered = settle-stays (λ (x : CellParts N). gathered x.core.gathered) j k p mid cells' s (ap gathered t.of_parent.gathered) (ap (λ c. gathered c.gathered) t.of_child.core) ∙ stays.gathered;
        rooms = settle-stays rooms j k p mid cells' s (rooms-settled k s.old_parent s.old_child s.new_parent s.new_child t) (ap (λ c. map room c.outs.items) t.of_child.core) ∙ stays.rooms;
      }

  -- a cell took, and then the edge was settled
  pub take-stays : (cells cells' : List (CellParts N)) (j k p : ℕ) (c d : CellParts N) → Each (Keeps g) cells → slice_get cells j ≡ Some c → Keeps g d → TakesOne k c d → SettlesIn j k p (set cells j d) cells' → Stays cells cells'
  take-stays cells cells' j k p c d keeps at kept t s =
      let old : Keeps g c = each-get (Keeps g) cells j c at keeps in
      settled-stays cells (set cells j d) cells' j k p
      (stays-set cells j c d at (kept.at.spec ∙ ap (λ b. g.spec b.value.node) t.base ∙ sym old.at.spec) (took-moved k c d t)) s

  -- a cell put, and then the edge was settled
  pub put-stays : (cells cells' : List (CellParts N)) (j i n k : ℕ) (c d : CellParts N) → slice_get cells j ≡ Some c → PutsOne i c d → SettlesIn n k j (set cells j d) cells' → Stays cells cells'
  put-stays cells cells' j i n k c d at t s = settled-stays cells (set cells j d) cells' n k j (stays-set cells j c d at (ap g.spec t.others.node) (put-one_moved i c d t)) s

  -- a cell put nothing
  pub held-stays : (cells : List (CellParts N)) (j i : ℕ) (c d : CellParts N) → slice_get cells j ≡ Some c → PutsNone i c d → Stays cells (set cells j d)
  held-stays cells j i c d at t = stays-set cells j c d at (ap g.spec t.others.node) (put-none_moved i c d t)

  -- gathering leaves the nodes
  pub specs-gathered : (cells cells' : List (CellParts N)) → AllZip Gathers cells cells' → specs_of g cells' ≡ specs_of g cells
  specs-gathered [] [] z = refl
  specs-gathered [] (d ∷ cells') z = absurd z
  specs-gathered (c ∷ cells) [] z = absurd z
  specs-gathered (c ∷ cells) (d ∷ cells') z = ap (λ (n : N). g.spec n ∷ specs_of g cells') z.0.node ∙ ap (λ (ps : List P). g.spec c.core.node ∷ ps) (specs-gathered cells cells' z.1)

  -- and so does a load
  pub specs-loaded : (does : Bool) (source : List Msg) (cells cells' : List (CellParts N)) → Each (Keeps g) cells' → AllZip (LoadsFrom does source) cells cells' → specs_of g cells' ≡ specs_of g cells
  specs-loaded does source [] [] keeps z = refl
  specs-loaded does source [] (d ∷ cells') keeps z = absurd z
  specs-loaded does source (c ∷ cells) [] keeps z = absurd z
  specs-loaded does source (c ∷ cells) (d ∷ cells') keeps z = ap (λ (p : P). p ∷ specs_of g cells') (keeps.0.at.spec ∙ ap g.spec z.0.node) ∙ ap (λ (ps : List P). g.spec c.core.node ∷ ps) (specs-loaded does source cells cells' keeps.1 z.1)
