-- The lambdas of an `eval` at a point, lambda by lambda.
use Rattle.std.proofs.Common.{◌≡◌, ℕ, ◌+◌, ◌<◌, ◌≤◌, List, [], ◌∷◌, ◌++◌, length, get_or, take, drop, Option, Some, None, refl, sym, ap, subst, ◌∙◌, append_assoc, arith, option_map}
use Rattle.std.proofs.lemmas.List.{drop_more, length-take-le}
use Rattle.std.proofs.Math.Seq.{drop-append-add, take-append-add}
use Rattle.kap_base.specs.declared.value.Value.{Value}
use Rattle.kap_base.specs.Points.{PointValue}
use Rattle.kap_base.specs.Tree.{Tree}
use Rattle.lambda_eval.specs.Outcomes.{value_or_none}
use Rattle.lambda_eval.specs.Values.{val}
use Rattle.task_graph.specs.declared.spec.EvalResult.{EvalResult}
use Rattle.eval_node.specs.Evaluations.{Evaluated, evaluated, first_count, followed, other_counts, with_result}

-- numbers in front of the others
abbrev joined : List ℕ → Evaluated → Evaluated
joined front r = record { counts = front ++ r.counts; point = r.point }

-- what comes of a point whose first lambdas, so many, were evaluated
abbrev pub ended : List (EvalResult Tree) → ℕ → List ℕ → PointValue → Evaluated
ended xs place counts p = joined (take place counts) (evaluated (drop place xs) (drop place counts) p)

-- the numbers where one was put at a place
abbrev pub IsPut : ℕ → List ℕ → List ℕ → Type 0
IsPut place old new = new ≡ take place old ++ (first_count (drop place old) + 1) ∷ other_counts (drop place old)

length-append-cons : (front : List ℕ) (n : ℕ) (rest : List ℕ) → length (front ++ n ∷ rest) ≡ length front + (length rest + 1)
length-append-cons [] n rest = omega arith
length-append-cons (x ∷ front) n rest = let e = length-append-cons front n rest in omega (arith, e)

put_length : (place : ℕ) (old new : List ℕ) → place ≤ length old → IsPut place old new → place + 1 ≤ length new
put_length place old new within is =
    let e = length-append-cons (take place old) (first_count (drop place old) + 1) (other_counts (drop place old)) in
    let l = length-take-le place old within in
    rw is (omega (arith, e, l))

module _ (xs : List (EvalResult Tree)) (place : ℕ) (x : EvalResult Tree) (old new : List ℕ) (p : PointValue)
    (within : place < length xs) (filled : place ≤ length old) (put : IsPut place old new) where
  long : length (take place old) ≡ place
  long = length-take-le place old filled

  front_is : take (place + 1) new ≡ take place old ++ (first_count (drop place old) + 1) ∷ []
  front_is = rw put (subst (λ (n : ℕ). take (n + 1) (take place old ++ (first_count (drop place old) + 1) ∷ other_counts (drop place old)) ≡ take place old ++ (first_count (drop place old) + 1) ∷ []) long
      (take-append-add (take place old) ((first_count (drop place old) + 1) ∷ other_counts (drop place old)) 1))

  others_is : drop (place + 1) new ≡ other_counts (drop place old)
  others_is = rw put (subst (λ (n : ℕ). drop (n + 1) (take place old ++ (first_count (drop place old) + 1) ∷ other_counts (drop place old)) ≡ other_counts (drop place old)) long
      (drop-append-add (take place old) ((first_count (drop place old) + 1) ∷ other_counts (drop place old)) 1))

  -- what follows the value
  opened : (v : Option Value) → value_or_none (val (get_or xs place x).lambda (first_count (drop place old)) p) ≡ v
      → ended xs place old p ≡ joined (take place old) (followed (first_count (drop place old)) (other_counts (drop place old)) (get_or xs place x).name p (evaluated (drop (place + 1) xs)) v)
  opened v is =
      ap (λ l. joined (take place old) (evaluated l (drop place old) p)) (drop_more xs place x within)
      ∙ ap (λ o. joined (take place old) (followed (first_count (drop place old)) (other_counts (drop place old)) (get_or xs place x).name p (evaluated (drop (place + 1) xs)) o)) is

  after_value : (v : Value) → value_or_none (val (get_or xs place x).lambda (first_count (drop place old)) p) ≡ Some v
      → ended xs place old p ≡ ended xs (place + 1) new (with_result (get_or xs place x).name v p)
  after_value v is =
      let q : PointValue = with_result (get_or xs place x).name v p in
      let r : Evaluated = evaluated (drop (place + 1) xs) (other_counts (drop place old)) q in
      opened (Some v) is
      ∙ ap (λ (l : List ℕ). let s : Evaluated = record { counts = l; point = r.point } in s) (sym (append_assoc (take place old) ((first_count (drop place old) + 1) ∷ []) r.counts))
      ∙ ap (λ l. joined l r) (sym front_is)
      ∙ ap (λ l. joined (take (place + 1) new) (evaluated (drop (place + 1) xs) l q)) (sym others_is)

-- ---- as the loop has it

option_map_some : {A B : Type 0} (f : A → B) (o : Option A) (y : B) → option_map f o ≡ Some y → (x : A) × (o ≡ Some x) × (y ≡ f x)
option_map_some f None y h = absurd cc
option_map_some f (Some x) y h = (x, refl, cc)

-- where a number was put at a place, and the lambda there evaluated
pub record Evaluates (xs : List (EvalResult Tree)) (place : ℕ) (x : EvalResult Tree) (old new : List ℕ) (p : PointValue) (k number : ℕ) (next : Option PointValue) : Type 0 where
  pub within : place < length xs
  pub filled : place ≤ length old
  pub count : k ≡ first_count (drop place old)
  pub more : number ≡ k + 1
  pub put : new ≡ take place old ++ number ∷ other_counts (drop place old)
  pub here : x ≡ get_or xs place x
  pub gives : next ≡ option_map (λ v. with_result x.name v p) (value_or_none (val x.lambda k p))

is_put : (xs : List (EvalResult Tree)) (place : ℕ) (x : EvalResult Tree) (old new : List ℕ) (p : PointValue) (k number : ℕ) (next : Option PointValue)
    → Evaluates xs place x old new p k number next → IsPut place old new
is_put xs place x old new p k number next e =
    e.put ∙ ap (λ (n : ℕ). take place old ++ n ∷ other_counts (drop place old)) (e.more ∙ ap (λ (j : ℕ). j + 1) e.count)

pub still_filled : (xs : List (EvalResult Tree)) (place : ℕ) (x : EvalResult Tree) (old new : List ℕ) (p : PointValue) (k number : ℕ) (next : Option PointValue)
    → Evaluates xs place x old new p k number next → place + 1 ≤ length new
still_filled xs place x old new p k number next e = put_length place old new e.filled (is_put xs place x old new p k number next e)

pub after_some : (xs : List (EvalResult Tree)) (place : ℕ) (x : EvalResult Tree) (old new : List ℕ) (p : PointValue) (k number : ℕ) (next : PointValue)
    → Evaluates xs place x old new p k number (Some next) → ended xs (place + 1) new next ≡ ended xs place old p
after_some xs place x old new p k number next e =
    let m : (v : Value) × (value_or_none (val x.lambda k p) ≡ Some v) × (next ≡ with_result x.name v p) =
    option_map_some (λ (v : Value). with_result x.name v p) (value_or_none (val x.lambda k p)) next (sym e.gives) in
    let value : value_or_none (val (get_or xs place x).lambda (first_count (drop place old)) p) ≡ Some m.0 =
    sym (λ i. value_or_none (val (e.here i).lambda (e.count i) p)) ∙ m.1 in
    let same : next ≡ with_result (get_or xs place x).name m.0 p = m.2 ∙ ap (λ (y : EvalResult Tree). with_result y.name m.0 p) e.here in
    ap (ended xs (place + 1) new) same ∙ sym (after_value xs place x old new p e.within e.filled (is_put xs place x old new p k number (Some next) e) m.0 value)
