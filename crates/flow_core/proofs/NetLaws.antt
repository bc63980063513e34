-- What lives that go on make of their net, and what it tells at rest.
use Rattle.std.proofs.Common.{◌≡◌, List, [], ◌∷◌, ap, refl, ◌∙◌}
use Rattle.std.specs.List.{AllByRecursion as Each}
use Rattle.kap_base.specs.declared.items.Effect.{Effect}
use Rattle.node_core.specs.declared.node.Node.{Ghosts}
use Rattle.flow_life.proofs.RestLaws.{carries_streams}
use Rattle.flow_core.proofs.DoneLaws.{gathers_none, gathers_stepped, gathers_then}
use Rattle.flow_core.specs.Nets.{HasStreamsCarried, IsLifeIn, IsResting, NetValue, NumberedLife, numbers_of, plans_in, specs_in}
use Rattle.flow_core.specs.Done.{GathersAll, effects_in}
use Rattle.flow_core.specs.Rooms.{rooms_in}
use Rattle.flow_core.specs.Running.{NetGoesOn, ends_in, steps_of, steps_onward}

module _ {N P S : Type 0} (g : Ghosts N P S) where
  -- a net whose lives went on
  pub net_goes : (net net' : NetValue N) (before now : List (NumberedLife N)) (took : List Effect) → before ≡ net.lives → took ≡ net.gathered → net'.lives ≡ now → net'.last ≡ net.last
      → numbers_of now ≡ numbers_of before → plans_in g now ≡ plans_in g before → specs_in g now ≡ specs_in g before → rooms_in now ≡ rooms_in before → ends_in now ≡ ends_in before
      → GathersAll (effects_in before) (effects_in now) took net'.gathered → NetGoesOn g net net'
  net_goes net net' before now took same also here last numbers plans specs rooms ends gathers = record {
    numbers = ap numbers_of here ∙ numbers ∙ ap numbers_of same;
    plans = ap (plans_in g) here ∙ plans ∙ ap (plans_in g) same;
    specs = ap (specs_in g) here ∙ specs ∙ ap (specs_in g) same;
    rooms = ap rooms_in here ∙ rooms ∙ ap rooms_in same;
    steps = ap steps_of here ∙ ap (steps_onward 0) ends ∙ ap steps_of same;
    last = last;
    gathers = gathers_stepped net.lives net'.lives before now net.gathered took net'.gathered same also here gathers;
  }

  -- a net in which nothing moved
  pub net_stays : (net : NetValue N) → NetGoesOn g net net
  net_stays net = record {
    numbers = refl;
    plans = refl;
    specs = refl;
    rooms = refl;
    steps = refl;
    last = refl;
    gathers = gathers_none (effects_in net.lives) net.gathered;
  }

  -- some moves, and then more
  pub net_goes_then : (a b c : NetValue N) → NetGoesOn g a b → NetGoesOn g b c → NetGoesOn g a c
  net_goes_then a b c p q = record {
    numbers = q.numbers ∙ p.numbers;
    plans = q.plans ∙ p.plans;
    specs = q.specs ∙ p.specs;
    rooms = q.rooms ∙ p.rooms;
    steps = q.steps ∙ p.steps;
    last = q.last ∙ p.last;
    gathers = gathers_then (effects_in a.lives) (effects_in b.lives) (effects_in c.lives) a.gathered b.gathered c.gathered p.gathers q.gathers;
  }

  -- at rest the edges of lives have carried their streams
  pub streams_rest : (lives : List (NumberedLife N)) → Each (IsLifeIn g) lives → Each IsResting lives → Each (HasStreamsCarried g) lives
  streams_rest [] kept rest = tt
  streams_rest (l ∷ lives) kept rest = (carries_streams g l.life.cells kept.0.ready rest.0, streams_rest lives kept.1 rest.1)
