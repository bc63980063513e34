-- What the cells of lives do more is gathered.
use Rattle.std.proofs.Common.{Bool, ◌≡◌, List, [], ◌∷◌, ◌++◌, IsPermutation, refl, sym, ap, subst, ◌∙◌, append-nil, append_assoc}
use Rattle.std.specs.List.{AllByRecursion as Each, AllZip}
use Rattle.std.proofs.lemmas.List.Sorted.{IsPermutation-append_comm, IsPermutation-append_left, IsPermutation-append_right, IsPermutation-refl, IsPermutation-trans}
use Rattle.kap_base.specs.declared.items.Effect.{Effect}
use Rattle.kap_base.specs.declared.items.Msg.{Msg}
use Rattle.flow_cells.specs.declared.parts.CellParts.{CellParts}
use Rattle.flow_cells.specs.Gathers.{Gathers}
use Rattle.flow_cells.specs.Kept.{gathered}
use Rattle.flow_life.specs.Gathers.{effects_of as left_of}
use Rattle.flow_life.specs.Loads.{IsGathered, LoadsFrom}
use Rattle.flow_life.specs.Nodes.{gathered_of}
use Rattle.flow_core.specs.LifeLoads.{effects_since}
use Rattle.flow_core.specs.Nets.{NumberedLife}
use Rattle.flow_core.specs.Done.{GathersAll, effects_in, together}

-- ---- in any order

-- two lists and two others, or each with its like
pub paired : (a b c d : List Effect) → IsPermutation ((a ++ b) ++ (c ++ d)) ((a ++ c) ++ (b ++ d))
paired a b c d =
    let mid : IsPermutation ((b ++ c) ++ d) ((c ++ b) ++ d) = IsPermutation-append_left d (b ++ c) (c ++ b) (IsPermutation-append_comm b c) in
    let turned : IsPermutation (b ++ (c ++ d)) (c ++ (b ++ d)) =
    subst (λ (l : List Effect). IsPermutation l (c ++ (b ++ d))) (append_assoc b c d) (subst (λ (l : List Effect). IsPermutation ((b ++ c) ++ d) l) (append_assoc c b d) mid) in
    subst (λ (l : List Effect). IsPermutation l ((a ++ c) ++ (b ++ d))) (sym (append_assoc a b (c ++ d)))
    (subst (λ (l : List Effect). IsPermutation (a ++ (b ++ (c ++ d))) l) (sym (append_assoc a c (b ++ d))) (IsPermutation-append_right a (b ++ (c ++ d)) (c ++ (b ++ d)) turned))

-- two lists behind a third, in either order
last-two : (a m r : List Effect) → IsPermutation ((a ++ m) ++ r) ((a ++ r) ++ m)
last-two a m r =
    subst (λ (l : List Effect). IsPermutation l ((a ++ r) ++ m)) (sym (append_assoc a m r))
    (subst (λ (l : List Effect). IsPermutation (a ++ (m ++ r)) l) (sym (append_assoc a r m)) (IsPermutation-append_right a (m ++ r) (r ++ m) (IsPermutation-append_comm m r)))

-- ---- more is gathered

-- nothing more
pub gathers_none : (a g : List Effect) → GathersAll a a g g
gathers_none a g = record { more = []; given = sym (append-nil g); all = subst (λ (l : List Effect). IsPermutation a l) (sym (append-nil a)) (IsPermutation-refl a) }

-- some, and then more
pub gathers_then : (a b c g0 g1 g2 : List Effect) → GathersAll a b g0 g1 → GathersAll b c g1 g2 → GathersAll a c g0 g2
gathers_then a b c g0 g1 g2 p q = record {
  more = p.more ++ q.more;
  given = q.given ∙ ap (λ (l : List Effect). l ++ q.more) p.given ∙ append_assoc g0 p.more q.more;
  all = subst (λ (l : List Effect). IsPermutation c l) (append_assoc a p.more q.more)
      (IsPermutation-trans c (b ++ q.more) ((a ++ p.more) ++ q.more) q.all (IsPermutation-append_left q.more b (a ++ p.more) p.all));
}

-- and others did nothing
pub gathers-front : (a b r g g' : List Effect) → GathersAll a b g g' → GathersAll (a ++ r) (b ++ r) g g'
gathers-front a b r g g' p = record {
  more = p.more;
  given = p.given;
  all = IsPermutation-trans (b ++ r) ((a ++ p.more) ++ r) ((a ++ r) ++ p.more) (IsPermutation-append_left r b (a ++ p.more) p.all) (last-two a p.more r);
}

-- the same behind others
pub gathers-behind : (r a b g g' : List Effect) → GathersAll a b g g' → GathersAll (r ++ a) (r ++ b) g g'
gathers-behind r a b g g' p = record {
  more = p.more;
  given = p.given;
  all = subst (λ (l : List Effect). IsPermutation (r ++ b) l) (sym (append_assoc r a p.more)) (IsPermutation-append_right r b (a ++ p.more) p.all);
}

module _ {N : Type 0} where
  -- ---- cells

  since-gathered : (cells cells' : List (CellParts N)) → AllZip Gathers cells cells' → effects_since cells' ≡ effects_since cells
  since-gathered [] [] z = refl
  since-gathered [] (d ∷ cells') z = absurd z
  since-gathered (c ∷ cells) [] z = absurd z
  since-gathered (c ∷ cells) (d ∷ cells') z =
      ap (λ (es : List Effect). es ∷ effects_since cells') (ap (λ (es : List Effect). gathered d.core.gathered ++ es) z.0.effects ∙ append-nil (gathered d.core.gathered) ∙ z.0.gathered)
      ∙ ap (λ (ls : List (List Effect)). (gathered c.core.gathered ++ c.core.effects) ∷ ls) (since-gathered cells cells' z.1)

  since-quiet : (cells : List (CellParts N)) → Each IsGathered cells → effects_since cells ≡ gathered_of cells
  since-quiet [] e = refl
  since-quiet (c ∷ cells) e =
      ap (λ (es : List Effect). es ∷ effects_since cells) (ap (λ (es : List Effect). gathered c.core.gathered ++ es) e.0 ∙ append-nil (gathered c.core.gathered))
      ∙ ap (λ (ls : List (List Effect)). gathered c.core.gathered ∷ ls) (since-quiet cells e.1)

  since-split : (cells : List (CellParts N)) → IsPermutation (together (effects_since cells)) (together (gathered_of cells) ++ left_of cells)
  since-split [] = IsPermutation-refl []
  since-split (c ∷ cells) =
      let before = gathered c.core.gathered in
      let es = c.core.effects in
      IsPermutation-trans _ _ _
      (IsPermutation-append_right (before ++ es) (together (effects_since cells)) (together (gathered_of cells) ++ left_of cells) (since-split cells))
      (paired before es (together (gathered_of cells)) (left_of cells))

  -- behind a step all that the cells of a life did is gathered
  pub step_gathers : (old mid new : List (CellParts N)) (g g' : List Effect) → Each IsGathered old → gathered_of mid ≡ gathered_of old → AllZip Gathers mid new → g' ≡ g ++ left_of mid
      → GathersAll (together (effects_since old)) (together (effects_since new)) g g'
  step_gathers old mid new g g' quiet same z given = record {
    more = left_of mid;
    given = given;
    all = subst (λ (ls : List (List Effect)). IsPermutation (together ls) (together (effects_since old) ++ left_of mid)) (sym (since-gathered mid new z))
        (subst (λ (ls : List (List Effect)). IsPermutation (together (effects_since mid)) (together ls ++ left_of mid)) (same ∙ sym (since-quiet old quiet)) (since-split mid));
  }

  -- where a step isn't made nothing is done
  pub idle_gathers : (old new : List (CellParts N)) (g : List Effect) → Each IsGathered old → Each IsGathered new → gathered_of new ≡ gathered_of old → GathersAll (together (effects_since old)) (together (effects_since new)) g g
  idle_gathers old new g quiet quiet' same =
      subst (λ (ls : List (List Effect)). GathersAll (together (effects_since old)) (together ls) g g) (sym (since-quiet new quiet' ∙ same ∙ sym (since-quiet old quiet)))
      (gathers_none (together (effects_since old)) g)

  since-loaded : (keeps : Bool) (source : List Msg) (old mid : List (CellParts N)) → AllZip (LoadsFrom keeps source) old mid → together (effects_since mid) ≡ left_of mid
  since-loaded keeps source [] [] z = refl
  since-loaded keeps source [] (d ∷ mid) z = absurd z
  since-loaded keeps source (c ∷ old) [] z = absurd z
  since-loaded keeps source (c ∷ old) (d ∷ mid) z =
      ap (λ (es : List Effect). (es ++ d.core.effects) ++ together (effects_since mid)) z.0.gathered
      ∙ ap (λ (es : List Effect). d.core.effects ++ es) (since-loaded keeps source old mid z.1)

  -- and behind a load all that they have done in it
  pub load_gathers : (keeps : Bool) (source : List Msg) (old mid new : List (CellParts N)) (g g' : List Effect) → AllZip (LoadsFrom keeps source) old mid → AllZip Gathers mid new → g' ≡ g ++ left_of mid
      → g' ≡ g ++ together (effects_since new)
  load_gathers keeps source old mid new g g' loads z given =
      given ∙ ap (λ (es : List Effect). g ++ es) (sym (since-loaded keeps source old mid loads) ∙ ap together (sym (since-gathered mid new z)))

  -- ---- lives

  -- a step of the first life
  pub lives_here : (lives : List (NumberedLife N)) (l l' : NumberedLife N) (others : List (NumberedLife N)) (g g' : List Effect) → lives ≡ l ∷ others
      → GathersAll (together (effects_since l.life.cells)) (together (effects_since l'.life.cells)) g g' → GathersAll (effects_in lives) (effects_in (l' ∷ others)) g g'
  lives_here lives l l' others g g' is p =
      subst (λ (ls : List (NumberedLife N)). GathersAll (effects_in ls) (effects_in (l' ∷ others)) g g') (sym is)
      (gathers-front (together (effects_since l.life.cells)) (together (effects_since l'.life.cells)) (effects_in others) g g' p)

  -- a step of a later life
  pub lives_behind : (lives : List (NumberedLife N)) (l : NumberedLife N) (others others' : List (NumberedLife N)) (g g' : List Effect) → lives ≡ l ∷ others
      → GathersAll (effects_in others) (effects_in others') g g' → GathersAll (effects_in lives) (effects_in (l ∷ others')) g g'
  lives_behind lives l others others' g g' is p =
      subst (λ (ls : List (NumberedLife N)). GathersAll (effects_in ls) (effects_in (l ∷ others')) g g') (sym is)
      (gathers-behind (together (effects_since l.life.cells)) (effects_in others) (effects_in others') g g' p)

  -- the same of lives and effects that are these
  pub gathers_stepped : (lives lives' before now : List (NumberedLife N)) (g took g' : List Effect) → before ≡ lives → took ≡ g → lives' ≡ now
      → GathersAll (effects_in before) (effects_in now) took g' → GathersAll (effects_in lives) (effects_in lives') g g'
  gathers_stepped lives lives' before now g took g' same also here p =
      subst (λ (ls : List (NumberedLife N)). GathersAll (effects_in lives) (effects_in ls) g g') (sym here)
      (subst (λ (es : List Effect). GathersAll (effects_in lives) (effects_in now) es g') also
      (subst (λ (ls : List (NumberedLife N)). GathersAll (effects_in ls) (effects_in now) took g') same p))
