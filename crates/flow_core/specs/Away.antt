-- The cells of a net while each moves by itself.
use Rattle.std.specs.Prelude.{◌≡◌, List}
use Rattle.std.specs.List.{AllByRecursion as Each, AllZip}
use Rattle.kap_base.specs.declared.items.Effect.{Effect}
use Rattle.node_core.specs.declared.node.Node.{Ghosts}
use Rattle.flow_cells.specs.Moved.{HasMoved}
use Rattle.flow_life.specs.Listing.{ends_of}
use Rattle.flow_life.specs.Loose.{IsLoose}
use Rattle.flow_life.specs.Nodes.{specs_of}
use Rattle.flow_life.specs.Rooms.{rooms_of}
use Rattle.flow_life.specs.Streams.{plans_of}
use Rattle.flow_life.specs.Wired.{IsUnspent}
use Rattle.flow_core.specs.LifeLoads.{effects_since}
use Rattle.flow_core.specs.Nets.{IsLifeIn, IsSound, NetValue, NumberedLife, numbers_of, plans_in, specs_in}
use Rattle.flow_core.specs.Done.{GathersAll, effects_in, together}
use Rattle.flow_core.specs.Rooms.{rooms_in}
use Rattle.flow_core.specs.Running.{ends_in}

-- the same life, each of whose cells made moves of its own, none of which failed
pub record HasMovedLife {N : Type 0} (l l' : NumberedLife N) : Type 0 where
  pub number : l'.number ≡ l.number
  pub cells : AllZip HasMoved l.life.cells l'.life.cells
  pub unspent : Each IsUnspent l'.life.cells

-- no call on a cell of a life failed in the middle
abbrev pub HasUnspentCells : {N : Type 0} → NumberedLife N → Type 0
HasUnspentCells l = Each IsUnspent l.life.cells

-- a net with these lives in place of its own
abbrev pub with_lives : {N : Type 0} → List (NumberedLife N) → NetValue N → NetValue N
with_lives lives net = record net { lives = lives }

module _ {N P S : Type 0} (g : Ghosts N P S) where
  -- the cells that a net had, each after moves of its own, none of which failed
  pub record IsBack (before cells : List (NumberedLife N)) : Type 0 where
    pub sound : Each IsSound before
    pub lives : Each (IsLifeIn g) before
    pub moved : AllZip HasMovedLife before cells

  -- the cells that some net had, each after moves of its own, none of which failed
  pub record AreBack (cells : List (NumberedLife N)) : Type 0 where
    pub before : List (NumberedLife N)
    pub back : IsBack before cells

  -- cells of one graph, none of which is spent
  pub record IsLooseLife (l : NumberedLife N) : Type 0 where
    pub unspent : Each IsUnspent l.life.cells
    pub loose : IsLoose g l.life.cells

  -- a life has its nodes, its edges and its load as before, and all that its cells did meanwhile is gathered
  pub record IsGivenBack (before l : NumberedLife N) (gathered gathered' : List Effect) : Type 0 where
    pub number : l.number ≡ before.number
    pub plans : plans_of g l.life.cells ≡ plans_of g before.life.cells
    pub specs : specs_of g l.life.cells ≡ specs_of g before.life.cells
    pub rooms : rooms_of l.life.cells ≡ rooms_of before.life.cells
    pub ends : ends_of l.life.cells ≡ ends_of before.life.cells
    pub gathers : GathersAll (together (effects_since before.life.cells))
        (together (effects_since l.life.cells)) gathered gathered'

  -- and so have lives
  pub record AreGivenBack (before lives : List (NumberedLife N)) (gathered gathered' : List Effect) : Type 0 where
    pub numbers : numbers_of lives ≡ numbers_of before
    pub plans : plans_in g lives ≡ plans_in g before
    pub specs : specs_in g lives ≡ specs_in g before
    pub rooms : rooms_in lives ≡ rooms_in before
    pub ends : ends_in lives ≡ ends_in before
    pub gathers : GathersAll (effects_in before) (effects_in lives) gathered gathered'
