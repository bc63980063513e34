-- The fault that binding finds is that of the first name, from left to right, that isn't as it is needed.
use Rattle.std.proofs.Common.{◌≡◌, ℕ, Bool, true, false, cond, ◌||◌, List, [], ◌∷◌, ◌++◌, Option, Some, None, Result, Ok, Err, refl, sym, ap, subst, ◌∙◌}
use Rattle.std.specs.Prelude.{is_some}
use Rattle.kap_base.specs.declared.expr.Lit.TheVariants as lits
use Rattle.kap_base.specs.Tree.{Tree, LitTree, RefTree, NameTree, CallTree, GroupTree, NegTree, NotTree, BinTree, Trees, NoTrees, MoreTrees}
use Rattle.kap_base.specs.Words.{◌>>=◌}
use Rattle.tick_parser.specs.Trees.{ValTree, LitVal, StarVal, LambdaVal, ChainVal, ValTrees, NoVals, MoreVals, JointTrees, NoJoints, MoreJoints, StmtTree, VarStmt, DbrpStmt, ChainStmt}
use Rattle.tick_vars.specs.declared.fault.VarFault.{VarFault}
use Rattle.tick_vars.specs.declared.fault.VarFault.TheVariants.{Unknown, Twice, NotValue, NotNode, Batch, NoMemory}
use Rattle.tick_vars.specs.Nodes.{ArgTree, LitArg, StarArg, LambdaArg, NodeArg, NodeTree}
use Rattle.tick_vars.specs.Names.{Scope, as_node, as_value, bound_lambda, bound_lambdas, handed_on, is_batch, is_taken, known, looked_up, with_name}
use Rattle.tick_vars.specs.Binding.{WithNodes, Progress, and_arg, bound_links, bound_stmt, bound_val, bound_vals, linked}
use Rattle.tick_vars.specs.FirstFault.{Need, New, Known, ForNode, ForValue, Use, Meets, Misses, AllHold, Breaks, fault_place, uses_along, uses_among, uses_by, uses_in, uses_in_lambda, uses_in_lambdas}
use Rattle.tick_vars.proofs.Steps.{NoBatch}

-- the fault of an answer
abbrev pub fault_in : {A : Type 0} → Result A VarFault → Option VarFault
fault_in (Ok x) = None
fault_in (Err fault) = Some fault

-- the first of two
abbrev pub earlier : Option VarFault → Option VarFault → Option VarFault
earlier None second = second
earlier (Some fault) second = Some fault

earlier_none : (first : Option VarFault) → earlier first None ≡ first
earlier_none None = refl
earlier_none (Some fault) = refl

earlier_both : (a b c : Option VarFault) → earlier (earlier a b) c ≡ earlier a (earlier b c)
earlier_both None b c = refl
earlier_both (Some fault) b c = refl

-- the fault of two steps, where that of the second hangs on nothing that the first gives
then_fault : {A B : Type 0} (r : Result A VarFault) (f : A → Result B VarFault) (first second : Option VarFault) → fault_in r ≡ first → ((x : A) → fault_in (f x) ≡ second)
    → fault_in (r >>= f) ≡ earlier first second
then_fault (Ok x) f first second one two = two x ∙ ap (λ o. earlier o second) one
then_fault (Err fault) f first second one two = ap (λ o. earlier o second) one

-- the fault of a step, and of one behind it that has none
then_none : {A B : Type 0} (r : Result A VarFault) (f : A → Result B VarFault) (first : Option VarFault) → fault_in r ≡ first → ((x : A) → fault_in (f x) ≡ None) → fault_in (r >>= f) ≡ first
then_none r f first one two = then_fault r f first None one two ∙ earlier_none first

-- the fault of a name that is `batch` or isn't, and stands for this
abbrev pub need_fault : Bool → Option ArgTree → ℕ → Need → Option VarFault
need_fault batch there at New = cond (batch || is_some there) (Some (Twice at)) None
need_fault batch there at Known = fault_in (cond batch (Err (Batch at)) (known at there))
need_fault batch there at ForNode = fault_in (cond batch (Err (Batch at)) (known at there) >>= as_node at)
need_fault batch there at ForValue = fault_in (cond batch (Err (Batch at)) (known at there) >>= as_value at)

abbrev pub fault_of : Scope → Use → Option VarFault
fault_of scope it = need_fault (is_batch it.name) (scope it.name) it.at it.need

-- the first fault of these
abbrev pub first_of : Scope → List Use → Option VarFault
first_of scope [] = None
first_of scope (it ∷ others) = earlier (fault_of scope it) (first_of scope others)

first_append : (s : Scope) (us vs : List Use) → first_of s (us ++ vs) ≡ earlier (first_of s us) (first_of s vs)
first_append s [] vs = refl
first_append s (it ∷ us) vs = ap (earlier (fault_of s it)) (first_append s us vs) ∙ sym (earlier_both (fault_of s it) (first_of s us) (first_of s vs))

-- ---- the fault of each part is the first of its names

module _ (s : Scope) where
  mutual
    lambda_fault : (t : Tree) → fault_in (bound_lambda s t) ≡ first_of s (uses_in_lambda t)
    lambda_fault (LitTree lit at) = refl
    lambda_fault (RefTree name at) = refl
    lambda_fault (NameTree name at) = sym (earlier_none (fault_in (looked_up s name at >>= as_value at)))
    lambda_fault (CallTree name args at) = then_none (bound_lambdas s args) (λ args. Ok (CallTree name args at)) (first_of s (uses_in_lambdas args)) (lambdas_fault args) (λ x. refl)
    lambda_fault (GroupTree inner at) = then_none (bound_lambda s inner) (λ inner. Ok (GroupTree inner at)) (first_of s (uses_in_lambda inner)) (lambda_fault inner) (λ x. refl)
    lambda_fault (NegTree operand at) = then_none (bound_lambda s operand) (λ operand. Ok (NegTree operand at)) (first_of s (uses_in_lambda operand)) (lambda_fault operand) (λ x. refl)
    lambda_fault (NotTree operand at) = then_none (bound_lambda s operand) (λ operand. Ok (NotTree operand at)) (first_of s (uses_in_lambda operand)) (lambda_fault operand) (λ x. refl)
    lambda_fault (BinTree op left right at) =
        then_fault (bound_lambda s left) (λ left. bound_lambda s right >>= λ right. Ok (BinTree op left right at)) (first_of s (uses_in_lambda left)) (first_of s (uses_in_lambda right)) (lambda_fault left)
        (λ x. then_none (bound_lambda s right) (λ right. Ok (BinTree op x right at)) (first_of s (uses_in_lambda right)) (lambda_fault right) (λ y. refl))
        ∙ sym (first_append s (uses_in_lambda left) (uses_in_lambda right))

    lambdas_fault : (ts : Trees) → fault_in (bound_lambdas s ts) ≡ first_of s (uses_in_lambdas ts)
    lambdas_fault NoTrees = refl
    lambdas_fault (MoreTrees first rest) =
        then_fault (bound_lambda s first) (λ first. bound_lambdas s rest >>= λ rest. Ok (MoreTrees first rest)) (first_of s (uses_in_lambda first)) (first_of s (uses_in_lambdas rest)) (lambda_fault first)
        (λ x. then_none (bound_lambdas s rest) (λ rest. Ok (MoreTrees x rest)) (first_of s (uses_in_lambdas rest)) (lambdas_fault rest) (λ y. refl))
        ∙ sym (first_append s (uses_in_lambda first) (uses_in_lambdas rest))

  -- a chain, where its links are told
  chain_fault : (head : List ℕ) (links : JointTrees) (at : ℕ) (nodes : List NodeTree) → ((made : WithNodes ℕ) → fault_in (bound_links s made links) ≡ first_of s (uses_along links))
      → fault_in (bound_val s nodes (ChainVal head links at)) ≡ first_of s (uses_in (ChainVal head links at))
  chain_fault head NoJoints at nodes along = then_fault (looked_up s head at) (λ arg. Ok (record { value = handed_on at arg; nodes = nodes })) (fault_in (looked_up s head at)) None refl (λ x. refl)
  chain_fault head (MoreJoints node name args place rest) at nodes along =
      let links = MoreJoints node name args place rest in
      let go : ℕ → Result (WithNodes ℕ) VarFault = λ number. bound_links s (record { value = number; nodes = nodes }) links in
      let first = fault_in (looked_up s head at >>= as_node at) in
      then_none (looked_up s head at >>= as_node at >>= go) (λ made. Ok (record { value = NodeArg made.value at; nodes = made.nodes })) (earlier first (first_of s (uses_along links)))
      (then_fault (looked_up s head at >>= as_node at) go first (first_of s (uses_along links)) refl (λ number. along (record { value = number; nodes = nodes })))
      (λ x. refl)

  mutual
    val_fault : (v : ValTree) (nodes : List NodeTree) → fault_in (bound_val s nodes v) ≡ first_of s (uses_in v)
    val_fault (LitVal lit at) nodes = refl
    val_fault (StarVal at) nodes = refl
    val_fault (LambdaVal body at) nodes = then_none (bound_lambda s body) (λ body. Ok (record { value = LambdaArg body at; nodes = nodes })) (first_of s (uses_in_lambda body)) (lambda_fault body) (λ x. refl)
    val_fault (ChainVal head links at) nodes = chain_fault head links at nodes (links_fault links)

    vals_fault : (vs : ValTrees) (made : WithNodes (List ArgTree)) → fault_in (bound_vals s made vs) ≡ first_of s (uses_among vs)
    vals_fault NoVals made = refl
    vals_fault (MoreVals first rest) made =
        then_fault (bound_val s made.nodes first) (λ n. bound_vals s (and_arg made.value n) rest) (first_of s (uses_in first)) (first_of s (uses_among rest)) (val_fault first made.nodes)
        (λ n. vals_fault rest (and_arg made.value n))
        ∙ sym (first_append s (uses_in first) (uses_among rest))

    links_fault : (links : JointTrees) (made : WithNodes ℕ) → fault_in (bound_links s made links) ≡ first_of s (uses_along links)
    links_fault NoJoints made = refl
    links_fault (MoreJoints node name args at rest) made =
        then_fault (bound_vals s (record { value = []; nodes = made.nodes }) args) (λ w. bound_links s (linked node name at made.value w) rest) (first_of s (uses_among args)) (first_of s (uses_along rest))
        (vals_fault args (record { value = []; nodes = made.nodes })) (λ w. links_fault rest (linked node name at made.value w))
        ∙ sym (first_append s (uses_among args) (uses_along rest))

test_fault : {A : Type 0} (taken : Bool) (fault : VarFault) (r : Result A VarFault) → fault_in (cond taken (Err fault) r) ≡ earlier (cond taken (Some fault) None) (fault_in r)
test_fault true fault r = refl
test_fault false fault r = refl

pub stmt_fault : (s : Progress) (stmt : StmtTree) → fault_in (bound_stmt s stmt) ≡ first_of s.scope (uses_by stmt)
stmt_fault s (VarStmt name value at) =
    let go : WithNodes ArgTree → Result Progress VarFault = λ made. Ok (record { scope = with_name name made.value s.scope; nodes = made.nodes; dbrps = s.dbrps }) in
    test_fault (is_taken s.scope name) (Twice at) (bound_val s.scope s.nodes value >>= go)
    ∙ ap (earlier (cond (is_taken s.scope name) (Some (Twice at)) None))
    (then_none (bound_val s.scope s.nodes value) go (first_of s.scope (uses_in value)) (val_fault s.scope value s.nodes) (λ x. refl))
stmt_fault s (DbrpStmt db rp at) = refl
stmt_fault s (ChainStmt head links at) =
    let chain = ChainVal head links at in
    then_none (bound_val s.scope s.nodes chain) (λ made. Ok (record s { nodes = made.nodes })) (first_of s.scope (uses_in chain)) (val_fault s.scope chain s.nodes) (λ x. refl)

-- ---- a name has a fault where it isn't as it is needed

no_test : (test : Bool) (fault : VarFault) → cond test (Some fault) None ≡ None → test ≡ false
no_test true fault is = absurd cc
no_test false fault is = refl

some_test : (test : Bool) (fault f : VarFault) → cond test (Some fault) None ≡ Some f → (test ≡ true) × (fault ≡ f)
some_test true fault f is = (refl, cc)
some_test false fault f is = absurd cc

none_meets : (batch : Bool) (there : Option ArgTree) (at : ℕ) (need : Need) → need_fault batch there at need ≡ None → Meets batch there need
none_meets batch there at New is = no_test (batch || is_some there) (Twice at) is
none_meets true there at Known is = absurd cc
none_meets false None at Known is = absurd cc
none_meets false (Some arg) at Known is = (arg, refl)
none_meets true there at ForNode is = absurd cc
none_meets false None at ForNode is = absurd cc
none_meets false (Some (LitArg lit place)) at ForNode is = absurd cc
none_meets false (Some (StarArg place)) at ForNode is = absurd cc
none_meets false (Some (LambdaArg body place)) at ForNode is = absurd cc
none_meets false (Some (NodeArg number place)) at ForNode is = (number, place, refl)
none_meets true there at ForValue is = absurd cc
none_meets false None at ForValue is = absurd cc
none_meets false (Some (LitArg (lits.Int number) place)) at ForValue is = tt
none_meets false (Some (LitArg (lits.Dur span) place)) at ForValue is = absurd cc
none_meets false (Some (LitArg (lits.Str text) place)) at ForValue is = tt
none_meets false (Some (LitArg (lits.Bool truth) place)) at ForValue is = tt
none_meets false (Some (LitArg (lits.Regex pattern) place)) at ForValue is = tt
none_meets false (Some (StarArg place)) at ForValue is = absurd cc
none_meets false (Some (LambdaArg body place)) at ForValue is = absurd cc
none_meets false (Some (NodeArg number place)) at ForValue is = absurd cc

-- a name that is `batch` stands for nothing
abbrev Apart : Bool → Option ArgTree → Type 0
Apart batch there = batch ≡ true → there ≡ None

meets_none : (batch : Bool) (there : Option ArgTree) (at : ℕ) (need : Need) → Apart batch there → Meets batch there need → need_fault batch there at need ≡ None
meets_none batch there at New apart h = ap (λ t. cond t (Some (Twice at)) None) h
meets_none true None at Known apart h = let none = h.1 in absurd cc
meets_none true (Some arg) at Known apart h = let none = apart refl in absurd cc
meets_none false None at Known apart h = let none = h.1 in absurd cc
meets_none false (Some arg) at Known apart h = refl
meets_none true None at ForNode apart h = let none = h.2 in absurd cc
meets_none true (Some arg) at ForNode apart h = let none = apart refl in absurd cc
meets_none false None at ForNode apart h = let none = h.2 in absurd cc
meets_none false (Some (LitArg lit place)) at ForNode apart h = let other = h.2 in absurd cc
meets_none false (Some (StarArg place)) at ForNode apart h = let other = h.2 in absurd cc
meets_none false (Some (LambdaArg body place)) at ForNode apart h = let other = h.2 in absurd cc
meets_none false (Some (NodeArg number place)) at ForNode apart h = refl
meets_none true None at ForValue apart h = absurd h
meets_none true (Some arg) at ForValue apart h = let none = apart refl in absurd cc
meets_none false None at ForValue apart h = absurd h
meets_none false (Some (LitArg (lits.Int number) place)) at ForValue apart h = refl
meets_none false (Some (LitArg (lits.Dur span) place)) at ForValue apart h = absurd h
meets_none false (Some (LitArg (lits.Str text) place)) at ForValue apart h = refl
meets_none false (Some (LitArg (lits.Bool truth) place)) at ForValue apart h = refl
meets_none false (Some (LitArg (lits.Regex pattern) place)) at ForValue apart h = refl
meets_none false (Some (StarArg place)) at ForValue apart h = absurd h
meets_none false (Some (LambdaArg body place)) at ForValue apart h = absurd h
meets_none false (Some (NodeArg number place)) at ForValue apart h = absurd h

abbrev Broken : Bool → Option ArgTree → ℕ → Need → VarFault → Type 0
Broken batch there at need fault = Misses batch there need fault × (fault_place fault ≡ at)

-- this is the fault that was found
this : (batch : Bool) (there : Option ArgTree) (at : ℕ) (need : Need) (fault f : VarFault) → Broken batch there at need fault → ◌≡◌ {A = Option VarFault} (Some fault) (Some f) → Broken batch there at need f
this batch there at need fault f broken is = let same : fault ≡ f = cc in subst (Broken batch there at need) same broken

some_misses : (batch : Bool) (there : Option ArgTree) (at : ℕ) (need : Need) (f : VarFault) → need_fault batch there at need ≡ Some f → Broken batch there at need f
some_misses batch there at New f is =
    let t = some_test (batch || is_some there) (Twice at) f is in
    subst (Broken batch there at New) t.1 (t.0, refl)
some_misses true there at Known f is = this true there at Known (Batch at) f (refl, refl) is
some_misses false None at Known f is = this false None at Known (Unknown at) f ((refl, refl), refl) is
some_misses false (Some arg) at Known f is = absurd cc
some_misses true there at ForNode f is = this true there at ForNode (Batch at) f (refl, refl) is
some_misses false None at ForNode f is = this false None at ForNode (Unknown at) f ((refl, refl), refl) is
some_misses false (Some (LitArg lit place)) at ForNode f is = this false (Some (LitArg lit place)) at ForNode (NotNode at) f ((LitArg lit place, refl, λ h. let other = h.2 in absurd cc), refl) is
some_misses false (Some (StarArg place)) at ForNode f is = this false (Some (StarArg place)) at ForNode (NotNode at) f ((StarArg place, refl, λ h. let other = h.2 in absurd cc), refl) is
some_misses false (Some (LambdaArg body place)) at ForNode f is = this false (Some (LambdaArg body place)) at ForNode (NotNode at) f ((LambdaArg body place, refl, λ h. let other = h.2 in absurd cc), refl) is
some_misses false (Some (NodeArg number place)) at ForNode f is = absurd cc
some_misses true there at ForValue f is = this true there at ForValue (Batch at) f (refl, refl) is
some_misses false None at ForValue f is = this false None at ForValue (Unknown at) f ((refl, refl), refl) is
some_misses false (Some (LitArg (lits.Int number) place)) at ForValue f is = absurd cc
some_misses false (Some (LitArg (lits.Dur span) place)) at ForValue f is = this false (Some (LitArg (lits.Dur span) place)) at ForValue (NotValue at) f ((LitArg (lits.Dur span) place, refl, λ h. h), refl) is
some_misses false (Some (LitArg (lits.Str text) place)) at ForValue f is = absurd cc
some_misses false (Some (LitArg (lits.Bool truth) place)) at ForValue f is = absurd cc
some_misses false (Some (LitArg (lits.Regex pattern) place)) at ForValue f is = absurd cc
some_misses false (Some (StarArg place)) at ForValue f is = this false (Some (StarArg place)) at ForValue (NotValue at) f ((StarArg place, refl, λ h. h), refl) is
some_misses false (Some (LambdaArg body place)) at ForValue f is = this false (Some (LambdaArg body place)) at ForValue (NotValue at) f ((LambdaArg body place, refl, λ h. h), refl) is
some_misses false (Some (NodeArg number place)) at ForValue f is = this false (Some (NodeArg number place)) at ForValue (NotValue at) f ((NodeArg number place, refl, λ h. h), refl) is

-- a name without a fault is as it is needed, and one that is as it is needed has none: so one that has this fault has it alone
misses_some : (batch : Bool) (there : Option ArgTree) (at : ℕ) (need : Need) (f : VarFault) → Apart batch there → Misses batch there need f → fault_place f ≡ at → need_fault batch there at need ≡ Some f
misses_some batch there at New (Twice place) apart h is = ap (λ t. cond t (Some (Twice at)) None) h ∙ ap (λ p. Some (Twice p)) (sym is)
misses_some batch there at New (Unknown place) apart h is = absurd h
misses_some batch there at New (NotValue place) apart h is = absurd h
misses_some batch there at New (NotNode place) apart h is = absurd h
misses_some batch there at New (Batch place) apart h is = absurd h
misses_some batch there at New NoMemory apart h is = absurd h
misses_some true there at Known (Batch place) apart h is = ap (λ p. Some (Batch p)) (sym is)
misses_some false there at Known (Batch place) apart h is = absurd cc
misses_some true there at Known (Unknown place) apart h is = let other = h.0 in absurd cc
misses_some false None at Known (Unknown place) apart h is = ap (λ p. Some (Unknown p)) (sym is)
misses_some false (Some arg) at Known (Unknown place) apart h is = let other = h.1 in absurd cc
misses_some batch there at Known (Twice place) apart h is = absurd h
misses_some batch there at Known (NotValue place) apart h is = absurd h
misses_some batch there at Known (NotNode place) apart h is = absurd h
misses_some batch there at Known NoMemory apart h is = absurd h
misses_some true there at ForNode (Batch place) apart h is = ap (λ p. Some (Batch p)) (sym is)
misses_some false there at ForNode (Batch place) apart h is = absurd cc
misses_some true there at ForNode (Unknown place) apart h is = let other = h.0 in absurd cc
misses_some false None at ForNode (Unknown place) apart h is = ap (λ p. Some (Unknown p)) (sym is)
misses_some false (Some arg) at ForNode (Unknown place) apart h is = let other = h.1 in absurd cc
misses_some batch there at ForNode (Twice place) apart h is = absurd h
misses_some batch there at ForNode (NotValue place) apart h is = absurd h
misses_some true None at ForNode (NotNode place) apart h is = let other = h.1 in absurd cc
misses_some true (Some arg) at ForNode (NotNode place) apart h is = let none = apart refl in absurd cc
misses_some false None at ForNode (NotNode place) apart h is = let other = h.1 in absurd cc
misses_some false (Some (LitArg lit spot)) at ForNode (NotNode place) apart h is = ap (λ p. Some (NotNode p)) (sym is)
misses_some false (Some (StarArg spot)) at ForNode (NotNode place) apart h is = ap (λ p. Some (NotNode p)) (sym is)
misses_some false (Some (LambdaArg body spot)) at ForNode (NotNode place) apart h is = ap (λ p. Some (NotNode p)) (sym is)
misses_some false (Some (NodeArg number spot)) at ForNode (NotNode place) apart h is = absurd (h.2 (number, spot, refl))
misses_some batch there at ForNode NoMemory apart h is = absurd h
misses_some true there at ForValue (Batch place) apart h is = ap (λ p. Some (Batch p)) (sym is)
misses_some false there at ForValue (Batch place) apart h is = absurd cc
misses_some true there at ForValue (Unknown place) apart h is = let other = h.0 in absurd cc
misses_some false None at ForValue (Unknown place) apart h is = ap (λ p. Some (Unknown p)) (sym is)
misses_some false (Some arg) at ForValue (Unknown place) apart h is = let other = h.1 in absurd cc
misses_some batch there at ForValue (Twice place) apart h is = absurd h
misses_some batch there at ForValue (NotNode place) apart h is = absurd h
misses_some true None at ForValue (NotValue place) apart h is = let other = h.1 in absurd cc
misses_some true (Some arg) at ForValue (NotValue place) apart h is = let none = apart refl in absurd cc
misses_some false None at ForValue (NotValue place) apart h is = let other = h.1 in absurd cc
misses_some false (Some (LitArg (lits.Int number) spot)) at ForValue (NotValue place) apart h is = absurd (h.2 tt)
misses_some false (Some (LitArg (lits.Dur span) spot)) at ForValue (NotValue place) apart h is = ap (λ p. Some (NotValue p)) (sym is)
misses_some false (Some (LitArg (lits.Str text) spot)) at ForValue (NotValue place) apart h is = absurd (h.2 tt)
misses_some false (Some (LitArg (lits.Bool truth) spot)) at ForValue (NotValue place) apart h is = absurd (h.2 tt)
misses_some false (Some (LitArg (lits.Regex pattern) spot)) at ForValue (NotValue place) apart h is = absurd (h.2 tt)
misses_some false (Some (StarArg spot)) at ForValue (NotValue place) apart h is = ap (λ p. Some (NotValue p)) (sym is)
misses_some false (Some (LambdaArg body spot)) at ForValue (NotValue place) apart h is = ap (λ p. Some (NotValue p)) (sym is)
misses_some false (Some (NodeArg number spot)) at ForValue (NotValue place) apart h is = ap (λ p. Some (NotValue p)) (sym is)
misses_some batch there at ForValue NoMemory apart h is = absurd h

-- ---- the first of a list

-- where the first fault of these stands
pub record Found (s : Scope) (uses : List Use) (fault : VarFault) : Type 0 where
  pub held : List Use
  pub broken : Use
  pub others : List Use
  pub joined : uses ≡ held ++ broken ∷ others
  pub holds : AllHold s held
  pub breaks : Breaks s broken fault

find : (s : Scope) (it : Use) (others : List Use) (fault : VarFault) (here : Option VarFault) → fault_of s it ≡ here → earlier here (first_of s others) ≡ Some fault
    → (first_of s others ≡ Some fault → Found s others fault) → Found s (it ∷ others) fault
find s it others fault (Some f) here is behind = record {
  held = [];
  broken = it;
  others = others;
  joined = refl;
  holds = tt;
  breaks = some_misses (is_batch it.name) (s it.name) it.at it.need fault (here ∙ is);
}
find s it others fault None here is behind =
    let rest = behind is in
    record {
      held = it ∷ rest.held;
      broken = rest.broken;
      others = rest.others;
      joined = ap (λ l. it ∷ l) rest.joined;
      holds = (none_meets (is_batch it.name) (s it.name) it.at it.need here, rest.holds);
      breaks = rest.breaks;
    }

pub first_found : (s : Scope) (uses : List Use) (fault : VarFault) → first_of s uses ≡ Some fault → Found s uses fault
first_found s [] fault is = absurd cc
first_found s (it ∷ others) fault is = find s it others fault (fault_of s it) refl is (first_found s others fault)

pub found_first : (s : Scope) → NoBatch s → (held : List Use) (broken : Use) (others : List Use) (fault : VarFault) → AllHold s held → Breaks s broken fault → first_of s (held ++ broken ∷ others) ≡ Some fault
found_first s no_batch [] broken others fault holds breaks =
    ap (λ o. earlier o (first_of s others)) (misses_some (is_batch broken.name) (s broken.name) broken.at broken.need fault (no_batch broken.name) breaks.0 breaks.1)
found_first s no_batch (it ∷ held) broken others fault holds breaks =
    ap (λ o. earlier o (first_of s (held ++ broken ∷ others))) (meets_none (is_batch it.name) (s it.name) it.at it.need (no_batch it.name) holds.0)
    ∙ found_first s no_batch held broken others fault holds.1 breaks
