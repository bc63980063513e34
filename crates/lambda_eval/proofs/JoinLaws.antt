-- The value of conditions joined by `AND`, condition by condition.
use Rattle.std.proofs.Common.{◌≡◌, ◌∙◌, ℕ, ◌+◌, ◌<◌, List, [], ◌∷◌, length, get_or, drop, Result, Ok, Err, refl, ap, arith}
use Rattle.std.proofs.lemmas.List.{drop_more}
use Rattle.kap_base.specs.declared.expr.Op.TheVariants.{And}
use Rattle.kap_base.specs.declared.value.Value.{Value}
use Rattle.kap_base.specs.Points.{PointValue}
use Rattle.kap_base.specs.Tree.{Tree, BinTree}
use Rattle.kap_base.specs.Words.{◌>>=◌}
use Rattle.lambda_fns.specs.declared.fault.EvalFault.{EvalFault}
use Rattle.lambda_eval.specs.Values.{and_value, joined_by_and, joined_onto, val}

-- what comes of a value so far and the conditions behind it
abbrev pub conjunction : ℕ → Result Value EvalFault → List Tree → ℕ → PointValue → Result Value EvalFault
conjunction at left [] k point = left
conjunction at left (next ∷ rest) k point = conjunction at (left >>= and_value at (val next k point)) rest k point

pub joined_is : (at : ℕ) (left : Tree) (rest : List Tree) (k : ℕ) (point : PointValue) → val (joined_onto at left rest) k point ≡ conjunction at (val left k point) rest k point
joined_is at left [] k point = refl
joined_is at left (next ∷ rest) k point = joined_is at (BinTree And left next at) rest k point

-- a fault stays the first
pub fault_stays : (at : ℕ) (e : EvalFault) (rest : List Tree) (k : ℕ) (point : PointValue) → conjunction at (Err e) rest k point ≡ Err e
fault_stays at e [] k point = refl
fault_stays at e (next ∷ rest) k point = fault_stays at e rest k point

-- a list of one and more begins with the value of its first
pub first_of_all : (at : ℕ) (all : List Tree) (d : Tree) (k : ℕ) (point : PointValue) → 0 < length all → val (joined_by_and at all) k point ≡ conjunction at (val (get_or all 0 d) k point) (drop 1 all) k point
first_of_all at [] d k point filled = absurd (omega arith)
first_of_all at (first ∷ rest) d k point filled = joined_is at first rest k point

-- the step that gives a fault ends all
pub fault_ends : (at : ℕ) (left : Value) (all : List Tree) (place : ℕ) (d : Tree) (k : ℕ) (point : PointValue) (e : EvalFault) → place < length all →
    and_value at (val (get_or all place d) k point) left ≡ Err e → conjunction at (Ok left) (drop place all) k point ≡ Err e
fault_ends at left all place d k point e lt h =
    ap (λ l. conjunction at (Ok left) l k point) (drop_more all place d lt)
    ∙ ap (λ r. conjunction at r (drop (place + 1) all) k point) h ∙ fault_stays at e (drop (place + 1) all) k point
