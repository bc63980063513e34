-- What nodes give out, by their numbers, and points with their stamps.
use Rattle.std.proofs.Common.{◌≡◌, ℕ, zero, suc, ◌+◌, ◌≤◌, List, [], ◌∷◌, ◌++◌, length, get_or, refl, ap, ◌∙◌, arith}
use Rattle.std.specs.List.{AllZip}
use Rattle.kap_base.specs.Points.{PointValue}
use Rattle.kap_base.specs.declared.items.Item.{Item}
use Rattle.kap_base.specs.declared.items.Msg.{Msg}
use Rattle.kap_base.specs.declared.items.Stamp.{Stamp}
use Rattle.node_core.specs.Meaning.{Answer, Given}
use Rattle.merge_node.specs.Merge.{items}
use Rattle.flow_cells.specs.Outs.{item_msgs}
use Rattle.task_run.specs.Graphs.{Placed, gives_behind, node_gives, stamped_from}
use Rattle.task_run.specs.MoreLaws.{Part, mores, olds, out_at, wholes}
use Rattle.task_run.specs.PointLaws.{stamped_point}
use Rattle.task_run.specs.Stamps.{StampsFrom, StampsRise, of_item}
use Rattle.flow_core.proofs.SpanLaws.{Carries}

-- ---- points with their stamps

pub from-low : (s t : ℕ) (ps : List PointValue) → s ≤ t → StampsFrom of_item s (stamped_from t ps)
from-low s t [] le = tt
from-low s t (p ∷ ps) le = (le, from-low s (t + 1) ps (omega arith))

pub from-rises : (t : ℕ) (ps : List PointValue) → StampsRise of_item (stamped_from t ps)
from-rises t [] = tt
from-rises t (p ∷ ps) = (from-low t (t + 1) ps (omega arith), from-rises (t + 1) ps)

pub from-append : (t : ℕ) (ps qs : List PointValue) → stamped_from t (ps ++ qs) ≡ stamped_from t ps ++ stamped_from (t + length ps) qs
from-append t [] qs = let same : t ≡ t + 0 = omega arith in ap (λ (k : ℕ). stamped_from k qs) same
from-append t (p ∷ ps) qs =
    let same : t + 1 + length ps ≡ t + suc (length ps) = omega arith in
    ap (λ (l : List Item). stamped_point t p ∷ l) (from-append (t + 1) ps qs ∙ ap (λ (k : ℕ). stamped_from (t + 1) ps ++ stamped_from k qs) same)

-- ---- what nodes gave, by their numbers

-- barriers aside, streams have what is given more
pub items-carried : (n m : ℕ) (bs : List Stamp) (ts : List Part) (ss : List (List Msg)) (i : ℕ) → AllZip (Carries n m bs) ts ss → items (get_or ss i []) ≡ item_msgs (out_at (mores ts) i)
items-carried n m bs [] [] i z = refl
items-carried n m bs [] (s ∷ ss) i z = absurd z
items-carried n m bs (t ∷ ts) [] i z = absurd z
items-carried n m bs (t ∷ ts) (s ∷ ss) zero z = z.0.into.has.items
items-carried n m bs (t ∷ ts) (s ∷ ss) (suc i) z = items-carried n m bs ts ss i z.1

-- all that is given out is what was given out before, and what is given out more
pub out-whole : (ts : List Part) (i : ℕ) → out_at (wholes ts) i ≡ out_at (olds ts) i ++ out_at (mores ts) i
out-whole [] i = refl
out-whole (t ∷ ts) zero = refl
out-whole (t ∷ ts) (suc i) = out-whole ts i

module _ {P : Type 0} (answer : P → Answer) where
  -- of no points nothing is given out
  pub nothing-out : (earlier : List Given) (nodes : List (Placed P)) (i : ℕ) → out_at (gives_behind answer 0 [] earlier nodes) i ≡ []
  nothing-out earlier [] i = refl
  nothing-out earlier (d ∷ nodes) zero = refl
  nothing-out earlier (d ∷ nodes) (suc i) = nothing-out (earlier ++ node_gives answer 0 [] earlier d ∷ []) nodes i
