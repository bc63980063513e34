-- The fault that a walk finds is that of the first part that breaks a rule.
use Rattle.std.proofs.Common.{◌≡◌, ◌≢◌, ◌==◌, ◌&&◌, ℕ, suc, Bool, true, false, cond, List, [], ◌∷◌, ◌++◌, length, Option, Some, None, refl, sym, ◌∙◌, subst, ap, bytes_eq}
use Rattle.std.proofs.lemmas.Bool.{eq-eqb, eqb-true, both_ways}
use Rattle.std.proofs.lemmas.Slice.Eq.{bytes_eq-Decides}
use Rattle.kap_base.specs.declared.expr.Lit.{Lit}
use Rattle.kap_base.specs.declared.expr.Lit.TheVariants as lits
use Rattle.kap_base.specs.Texts.{has_line_feed}
use Rattle.kap_base.specs.Tree.{Tree, LitTree, RefTree, NameTree, CallTree, GroupTree, NegTree, NotTree, BinTree, Trees, NoTrees, MoreTrees}
use Rattle.lambda_types.specs.declared.fault.TypeFault.{TypeFault}
use Rattle.lambda_types.specs.declared.fault.TypeFault.TheVariants.{Mismatch, Arity, NoFunction, TimeUse, RegexUse, Pattern, NewLine, NoMemory}
use Rattle.lambda_types.specs.declared.functions.Function.{Function}
use Rattle.lambda_types.specs.declared.types.Ty.{Ty}
use Rattle.lambda_types.specs.declared.types.Ty.TheVariants.{Time, Regex}
use Rattle.lambda_types.specs.declared.types.Types.{Types}
use Rattle.lambda_types.specs.declared.walk.Position.{Position}
use Rattle.lambda_types.specs.declared.walk.Position.TheVariants.{Anywhere, TimeArgument, RightOfMatch}
use Rattle.lambda_types.specs.Faults.{Refusal, argument_position, call_fault, fault, faults, first, first_fault, is_refused, lit_fault, mismatch, pattern_fault, reference_fault, right_position, time_use}
use Rattle.lambda_types.specs.FirstFault.{Breaks, CallsNothing, HasNoType, HasOtherCount, HoldsLineFeed, IsPatternAt, IsRefusedAt, IsTimeAt, IsUntyped, IsFirstFault, NoneBreaks, PartAt, all_parts_of, argument_count, part_at, parts_of}
use Rattle.lambda_types.specs.Functions.{function_named, arity}
use Rattle.lambda_types.specs.Sets.{all_types, has, has_value, types_of}
use Rattle.lambda_types.specs.Typed.{HasSomeType, is_time_name}
use Rattle.lambda_types.proofs.CleanLaws.{no_mismatch, time_on_one_line, typed_if_clean}
use Rattle.lambda_types.proofs.TypeLaws.{has_it, is_in, value_of}

-- ---- the walk goes over the parts in order

-- what the walk says of a part itself
abbrev own : Option Refusal → Position → Tree → Option TypeFault
own refused position (LitTree lit at) = lit_fault refused position lit at
own refused position (RefTree name at) = reference_fault position name at
own refused position (NameTree name at) = Some (Mismatch at)
own refused position (CallTree name args at) = call_fault (function_named name) (all_types args) at (types_of (CallTree name args at))
own refused position (GroupTree inner at) = None
own refused position (NegTree operand at) = mismatch at (types_of (NegTree operand at))
own refused position (NotTree operand at) = mismatch at (types_of (NotTree operand at))
own refused position (BinTree op left right at) = mismatch at (types_of (BinTree op left right at))

abbrev first_own : Option Refusal → List PartAt → Option TypeFault
first_own refused [] = None
first_own refused (part ∷ rest) = first (own refused part.position part.tree) (first_own refused rest)

first_alone : (o : Option TypeFault) → first o None ≡ o
first_alone None = refl
first_alone (Some f) = refl

first_of_three : (a b c : Option TypeFault) → first (first a b) c ≡ first a (first b c)
first_of_three None b c = refl
first_of_three (Some f) b c = refl

own_of_both : (refused : Option Refusal) (a b : List PartAt) → first_own refused (a ++ b) ≡ first (first_own refused a) (first_own refused b)
own_of_both refused [] b = refl
own_of_both refused (part ∷ a) b =
    ap (first (own refused part.position part.tree)) (own_of_both refused a b)
    ∙ sym (first_of_three (own refused part.position part.tree) (first_own refused a) (first_own refused b))

-- the parts of a part, and then the part
own_of_whole : (refused : Option Refusal) (a : List PartAt) (part : PartAt) → first_own refused (a ++ part ∷ []) ≡ first (first_own refused a) (own refused part.position part.tree)
own_of_whole refused a part = own_of_both refused a (part ∷ []) ∙ ap (first (first_own refused a)) (first_alone (own refused part.position part.tree))

mutual
  fault_is : (refused : Option Refusal) (position : Position) (tree : Tree) → first_own refused (parts_of position tree) ≡ fault refused position tree
  fault_is refused position (LitTree lit at) = first_alone (lit_fault refused position lit at)
  fault_is refused position (RefTree name at) = first_alone (reference_fault position name at)
  fault_is refused position (NameTree name at) = refl
  fault_is refused position (CallTree name args at) =
      own_of_whole refused (all_parts_of (argument_position (function_named name)) args) (part_at position (CallTree name args at))
      ∙ ap (λ o. first o (own refused position (CallTree name args at))) (faults_are refused (argument_position (function_named name)) args)
  fault_is refused position (GroupTree inner at) =
      own_of_whole refused (parts_of Anywhere inner) (part_at position (GroupTree inner at))
      ∙ first_alone (first_own refused (parts_of Anywhere inner)) ∙ fault_is refused Anywhere inner
  fault_is refused position (NegTree operand at) =
      own_of_whole refused (parts_of Anywhere operand) (part_at position (NegTree operand at))
      ∙ ap (λ o. first o (own refused position (NegTree operand at))) (fault_is refused Anywhere operand)
  fault_is refused position (NotTree operand at) =
      own_of_whole refused (parts_of Anywhere operand) (part_at position (NotTree operand at))
      ∙ ap (λ o. first o (own refused position (NotTree operand at))) (fault_is refused Anywhere operand)
  fault_is refused position (BinTree op left right at) =
      own_of_both refused (parts_of Anywhere left) (parts_of (right_position op) right ++ part_at position (BinTree op left right at) ∷ [])
      ∙ ap (λ o. first o (first_own refused (parts_of (right_position op) right ++ part_at position (BinTree op left right at) ∷ []))) (fault_is refused Anywhere left)
      ∙ ap (first (fault refused Anywhere left)) (own_of_whole refused (parts_of (right_position op) right) (part_at position (BinTree op left right at))
      ∙ ap (λ o. first o (own refused position (BinTree op left right at))) (fault_is refused (right_position op) right))

  faults_are : (refused : Option Refusal) (position : Position) (args : Trees) → first_own refused (all_parts_of position args) ≡ faults refused position args
  faults_are refused position NoTrees = refl
  faults_are refused position (MoreTrees one rest) =
      own_of_both refused (parts_of position one) (all_parts_of position rest)
      ∙ ap (λ o. first o (first_own refused (all_parts_of position rest))) (fault_is refused position one)
      ∙ ap (first (fault refused position one)) (faults_are refused position rest)

-- ---- what the walk says of a part is how it breaks a rule

-- what is said of one fault is said of the fault that is found
said : (refused : Option Refusal) (part : PartAt) (g f : TypeFault) → Some g ≡ Some f → Breaks refused part g → Breaks refused part f
said refused part g f e h = let same : g ≡ f = cc in subst (λ (x : TypeFault). Breaks refused part x) same h

-- a refusal of this text at this place
refusals : (r : Refusal) (text : List ℕ) (at : ℕ) → text ≡ r.text → at ≡ r.at → r ≡ record { text = text; at = at }
refusals r text at et ea = ap (λ (t : List ℕ). record { text = t; at = r.at }) (sym et) ∙ ap (λ (n : ℕ). record { text = text; at = n }) (sym ea)

counts : (args : Trees) → length (all_types args) ≡ argument_count args
counts NoTrees = refl
counts (MoreTrees one rest) = ap (λ (n : ℕ). suc n) (counts rest)

-- a set of types that isn't empty has one
some_in : (s : Types) (at : ℕ) → ((ty : Ty) → has s ty ≡ true → ⊥) → mismatch at s ≡ Some (Mismatch at)
some_in s at none = go (has_value s) s.time s.pattern refl refl refl
  where
    go : (a b c : Bool) → has_value s ≡ a → s.time ≡ b → s.pattern ≡ c → mismatch at s ≡ Some (Mismatch at)
    go true b c ea eb ec = let v = value_of s ea in absurd (none v.0 v.2)
    go false true c ea eb ec = absurd (none Time eb)
    go false false true ea eb ec = absurd (none Regex ec)
    go false false false ea eb ec = rw (ea, eb, ec) refl

untyped_has_none : (tree : Tree) (at : ℕ) (f : TypeFault) → mismatch at (types_of tree) ≡ Some f → HasNoType tree
untyped_has_none tree at f e ty needs t = let none = no_mismatch (types_of tree) ty at (is_in tree ty needs t) in absurd cc

mismatched_at : (at : ℕ) (s : Types) (f : TypeFault) → mismatch at s ≡ Some f → Some (Mismatch at) ≡ Some f
mismatched_at at s f e = go _ e
  where
    go : (b : Bool) → cond b (Some (Mismatch at)) None ≡ Some f → Some (Mismatch at) ≡ Some f
    go true e = e
    go false e = absurd cc

has_none_untyped : (tree : Tree) (at : ℕ) → HasNoType tree → mismatch at (types_of tree) ≡ Some (Mismatch at)
has_none_untyped tree at none = some_in (types_of tree) at (λ ty h. let t = has_it tree ty h in none ty t.0 t.1)

line_fed : (refused : Option Refusal) (position : Position) (text : List ℕ) (at : ℕ) (f : TypeFault) (part : PartAt)
    → ((here : ℕ) → (has_line_feed text ≡ true) × (at ≡ here) → Breaks refused part (NewLine here))
    → (b : Bool) → has_line_feed text ≡ b → cond b (Some (NewLine at)) None ≡ Some f → Breaks refused part f
line_fed refused position text at f part h true eb e = said refused part (NewLine at) f e (h at (eb, refl))
line_fed refused position text at f part h false eb e = absurd cc

pattern_breaks : (refused : Option Refusal) (position : Position) (text : List ℕ) (at : ℕ) (f : TypeFault) → pattern_fault refused position text at ≡ Some f
    → Breaks refused (part_at position (LitTree (lits.Regex text) at)) f
pattern_breaks refused Anywhere text at f e = said refused (part_at Anywhere (LitTree (lits.Regex text) at)) (RegexUse at) f e (refl, λ x. absurd cc)
pattern_breaks refused TimeArgument text at f e = said refused (part_at TimeArgument (LitTree (lits.Regex text) at)) (RegexUse at) f e (refl, λ x. absurd cc)
pattern_breaks None RightOfMatch text at f e = absurd cc
pattern_breaks (Some r) RightOfMatch text at f e = go (bytes_eq text r.text) (at == r.at) refl refl e
  where
    go : (b c : Bool) → bytes_eq text r.text ≡ b → (at == r.at) ≡ c → cond (b && c) (Some (Pattern at)) None ≡ Some f
        → Breaks (Some r) (part_at RightOfMatch (LitTree (lits.Regex text) at)) f
    go true true eb ec e =
        let same_text : text ≡ r.text = (bytes_eq-Decides text r.text).0 eb in
        let same_place : at ≡ r.at = eqb-true at r.at ec in
        said (Some r) (part_at RightOfMatch (LitTree (lits.Regex text) at)) (Pattern at) f e ((ap (λ (x : Refusal). Some x) (refusals r text at same_text same_place), refl), refl)
    go true false eb ec e = absurd cc
    go false c eb ec e = absurd cc

lit_breaks : (refused : Option Refusal) (position : Position) (lit : Lit) (at : ℕ) (f : TypeFault) → lit_fault refused position lit at ≡ Some f → Breaks refused (part_at position (LitTree lit at)) f
lit_breaks refused position (lits.Int number) at f e = absurd cc
lit_breaks refused position (lits.Dur span) at f e = said refused (part_at position (LitTree (lits.Dur span) at)) (Mismatch at) f e refl
lit_breaks refused position (lits.Str text) at f e = line_fed refused position text at f (part_at position (LitTree (lits.Str text) at)) (λ here h. h) (has_line_feed text) refl e
lit_breaks refused position (lits.Bool truth) at f e = absurd cc
lit_breaks refused position (lits.Regex text) at f e = pattern_breaks refused position text at f e

time_breaks : (refused : Option Refusal) (position : Position) (name : List ℕ) (at : ℕ) (f : TypeFault) → is_time_name name ≡ true → time_use position at ≡ Some f
    → Breaks refused (part_at position (RefTree name at)) f
time_breaks refused Anywhere name at f t e = said refused (part_at Anywhere (RefTree name at)) (TimeUse at) f e ((t, refl), λ x. absurd cc)
time_breaks refused TimeArgument name at f t e = absurd cc
time_breaks refused RightOfMatch name at f t e = said refused (part_at RightOfMatch (RefTree name at)) (TimeUse at) f e ((t, refl), λ x. absurd cc)

reference_breaks : (refused : Option Refusal) (position : Position) (name : List ℕ) (at : ℕ) (f : TypeFault) → reference_fault position name at ≡ Some f
    → Breaks refused (part_at position (RefTree name at)) f
reference_breaks refused position name at f e = go (has_line_feed name) (is_time_name name) refl refl e
  where
    go : (b c : Bool) → has_line_feed name ≡ b → is_time_name name ≡ c → first (cond b (Some (NewLine at)) None) (cond c (time_use position at) None) ≡ Some f
        → Breaks refused (part_at position (RefTree name at)) f
    go true c eb ec e = said refused (part_at position (RefTree name at)) (NewLine at) f e (eb, refl)
    go false true eb ec e = time_breaks refused position name at f ec e
    go false false eb ec e = absurd cc

call_breaks : (refused : Option Refusal) (position : Position) (name : List ℕ) (args : Trees) (at : ℕ) (f : TypeFault) → own refused position (CallTree name args at) ≡ Some f
    → Breaks refused (part_at position (CallTree name args at)) f
call_breaks refused position name args at f e = go (function_named name) refl e
  where
    part : PartAt
    part = part_at position (CallTree name args at)

    counted : (g : Function) → function_named name ≡ Some g → (b : Bool) → (length (all_types args) == arity g) ≡ b
        → cond b (mismatch at (types_of (CallTree name args at))) (Some (Arity at)) ≡ Some f → Breaks refused (part_at position (CallTree name args at)) f
    counted g eg true eb e =
        said refused (part_at position (CallTree name args at)) (Mismatch at) f (mismatched_at at (types_of (CallTree name args at)) f e)
        (g, eg, sym (counts args) ∙ eqb-true (length (all_types args)) (arity g) eb, untyped_has_none (CallTree name args at) at f e, refl)
    counted g eg false eb e =
        said refused (part_at position (CallTree name args at)) (Arity at) f e
        (g, eg, (λ same. both_ways _ eb (eq-eqb (length (all_types args)) (arity g) (counts args ∙ same))), refl)

    go : (o : Option Function) → function_named name ≡ o → call_fault o (all_types args) at (types_of (CallTree name args at)) ≡ Some f
        → Breaks refused (part_at position (CallTree name args at)) f
    go None eo e = said refused (part_at position (CallTree name args at)) (NoFunction at) f e (eo, refl)
    go (Some g) eo e = counted g eo (length (all_types args) == arity g) refl e

to_breaks : (refused : Option Refusal) (position : Position) (tree : Tree) (f : TypeFault) → own refused position tree ≡ Some f → Breaks refused (part_at position tree) f
to_breaks refused position (LitTree lit at) f e = lit_breaks refused position lit at f e
to_breaks refused position (RefTree name at) f e = reference_breaks refused position name at f e
to_breaks refused position (NameTree name at) f e = said refused (part_at position (NameTree name at)) (Mismatch at) f e refl
to_breaks refused position (CallTree name args at) f e = call_breaks refused position name args at f e
to_breaks refused position (GroupTree inner at) f e = absurd cc
to_breaks refused position (NegTree operand at) f e =
    said refused (part_at position (NegTree operand at)) (Mismatch at) f (mismatched_at at (types_of (NegTree operand at)) f e) (untyped_has_none (NegTree operand at) at f e, refl)
to_breaks refused position (NotTree operand at) f e =
    said refused (part_at position (NotTree operand at)) (Mismatch at) f (mismatched_at at (types_of (NotTree operand at)) f e) (untyped_has_none (NotTree operand at) at f e, refl)
to_breaks refused position (BinTree op left right at) f e =
    said refused (part_at position (BinTree op left right at)) (Mismatch at) f (mismatched_at at (types_of (BinTree op left right at)) f e)
    (untyped_has_none (BinTree op left right at) at f e, refl)

-- ---- and a part that breaks a rule is one of which the walk says so

line_own : (refused : Option Refusal) (position : Position) (tree : Tree) (here : ℕ) → HoldsLineFeed tree here → own refused position tree ≡ Some (NewLine here)
line_own refused position (LitTree (lits.Str text) at) here h = rw h.0 (ap (λ (n : ℕ). Some (NewLine n)) h.1)
line_own refused position (RefTree name at) here h = rw h.0 (ap (λ (n : ℕ). Some (NewLine n)) h.1)
line_own refused position _ here h = elim h [ ]

time_own : (refused : Option Refusal) (position : Position) (tree : Tree) (here : ℕ) → IsTimeAt tree here → position ≢ TimeArgument → own refused position tree ≡ Some (TimeUse here)
time_own refused Anywhere (RefTree name at) here h ne = rw (time_on_one_line name h.0, h.0) (ap (λ (n : ℕ). Some (TimeUse n)) h.1)
time_own refused TimeArgument (RefTree name at) here h ne = absurd (ne refl)
time_own refused RightOfMatch (RefTree name at) here h ne = rw (time_on_one_line name h.0, h.0) (ap (λ (n : ℕ). Some (TimeUse n)) h.1)
time_own refused position _ here h ne = elim h [ ]

regex_own : (refused : Option Refusal) (position : Position) (tree : Tree) (here : ℕ) → IsPatternAt tree here → position ≢ RightOfMatch → own refused position tree ≡ Some (RegexUse here)
regex_own refused Anywhere (LitTree (lits.Regex text) at) here h ne = ap (λ (n : ℕ). Some (RegexUse n)) h
regex_own refused TimeArgument (LitTree (lits.Regex text) at) here h ne = ap (λ (n : ℕ). Some (RegexUse n)) h
regex_own refused RightOfMatch (LitTree (lits.Regex text) at) here h ne = absurd (ne refl)
regex_own refused position _ here h ne = elim h [ ]

itself : (text : List ℕ) (at : ℕ) → is_refused (Some (record { text = text; at = at })) text at ≡ true
itself text at = rw ((bytes_eq-Decides text text).1 refl, eq-eqb at at refl) refl

refused_own : (refused : Option Refusal) (position : Position) (tree : Tree) (here : ℕ) → IsRefusedAt refused tree here → position ≡ RightOfMatch → own refused position tree ≡ Some (Pattern here)
refused_own refused Anywhere (LitTree (lits.Regex text) at) here h e = absurd cc
refused_own refused TimeArgument (LitTree (lits.Regex text) at) here h e = absurd cc
refused_own refused RightOfMatch (LitTree (lits.Regex text) at) here h e =
    subst (λ (r : Option Refusal). cond (is_refused r text at) (Some (Pattern at)) None ≡ Some (Pattern here)) (sym h.0)
    (subst (λ (b : Bool). cond b (Some (Pattern at)) None ≡ Some (Pattern here)) (sym (itself text at)) (ap (λ (n : ℕ). Some (Pattern n)) h.1))
refused_own refused position _ here h e = elim h [ ]

nothing_own : (o : Option Function) (sets : List Types) (at here : ℕ) (s : Types) → o ≡ None → at ≡ here → call_fault o sets at s ≡ Some (NoFunction here)
nothing_own None sets at here s e h = ap (λ (n : ℕ). Some (NoFunction n)) h
nothing_own (Some g) sets at here s e h = absurd cc

other_own : (o : Option Function) (g : Function) (sets : List Types) (at here : ℕ) (s : Types) → o ≡ Some g → length sets ≢ arity g → at ≡ here → call_fault o sets at s ≡ Some (Arity here)
other_own None g sets at here s e ne h = absurd cc
other_own (Some k) g sets at here s e ne h = go (length sets == arity k) refl
  where
    go : (b : Bool) → (length sets == arity k) ≡ b → cond b (mismatch at s) (Some (Arity at)) ≡ Some (Arity here)
    go true eb = let same : k ≡ g = cc in absurd (ne (eqb-true (length sets) (arity k) eb ∙ ap arity same))
    go false eb = ap (λ (n : ℕ). Some (Arity n)) h

counted_own : (o : Option Function) (g : Function) (sets : List Types) (at here : ℕ) (s : Types) → o ≡ Some g → length sets ≡ arity g → mismatch at s ≡ Some (Mismatch at) → at ≡ here
    → call_fault o sets at s ≡ Some (Mismatch here)
counted_own None g sets at here s e len m h = absurd cc
counted_own (Some k) g sets at here s e len m h =
    let same : k ≡ g = cc in
    subst (λ (b : Bool). cond b (mismatch at s) (Some (Arity at)) ≡ Some (Mismatch here)) (sym (eq-eqb (length sets) (arity k) (len ∙ ap arity (sym same))))
    (m ∙ ap (λ (n : ℕ). Some (Mismatch n)) h)

unknown_own : (refused : Option Refusal) (position : Position) (tree : Tree) (here : ℕ) → CallsNothing tree here → own refused position tree ≡ Some (NoFunction here)
unknown_own refused position (CallTree name args at) here h = nothing_own (function_named name) (all_types args) at here (types_of (CallTree name args at)) h.0 h.1
unknown_own refused position _ here h = elim h [ ]

count_own : (refused : Option Refusal) (position : Position) (tree : Tree) (here : ℕ) → HasOtherCount tree here → own refused position tree ≡ Some (Arity here)
count_own refused position (CallTree name args at) here h =
    other_own (function_named name) h.0 (all_types args) at here (types_of (CallTree name args at)) h.1 (λ same. h.2 (sym (counts args) ∙ same)) h.3
count_own refused position _ here h = elim h [ ]

untyped_own : (refused : Option Refusal) (position : Position) (tree : Tree) (here : ℕ) → IsUntyped tree here → own refused position tree ≡ Some (Mismatch here)
untyped_own refused position (LitTree (lits.Dur span) at) here h = ap (λ (n : ℕ). Some (Mismatch n)) h
untyped_own refused position (NameTree name at) here h = ap (λ (n : ℕ). Some (Mismatch n)) h
untyped_own refused position (CallTree name args at) here h =
    counted_own (function_named name) h.0 (all_types args) at here (types_of (CallTree name args at)) h.1 (counts args ∙ h.2) (has_none_untyped (CallTree name args at) at h.3) h.4
untyped_own refused position (NegTree operand at) here h = has_none_untyped (NegTree operand at) at h.0 ∙ ap (λ (n : ℕ). Some (Mismatch n)) h.1
untyped_own refused position (NotTree operand at) here h = has_none_untyped (NotTree operand at) at h.0 ∙ ap (λ (n : ℕ). Some (Mismatch n)) h.1
untyped_own refused position (BinTree op left right at) here h = has_none_untyped (BinTree op left right at) at h.0 ∙ ap (λ (n : ℕ). Some (Mismatch n)) h.1
untyped_own refused position _ here h = elim h [ ]

of_breaks : (refused : Option Refusal) (position : Position) (tree : Tree) (f : TypeFault) → Breaks refused (part_at position tree) f → own refused position tree ≡ Some f
of_breaks refused position tree (NewLine here) h = line_own refused position tree here h
of_breaks refused position tree (TimeUse here) h = time_own refused position tree here h.0 h.1
of_breaks refused position tree (RegexUse here) h = regex_own refused position tree here h.0 h.1
of_breaks refused position tree (Pattern here) h = refused_own refused position tree here h.0 h.1
of_breaks refused position tree (NoFunction here) h = unknown_own refused position tree here h
of_breaks refused position tree (Arity here) h = count_own refused position tree here h
of_breaks refused position tree (Mismatch here) h = untyped_own refused position tree here h
of_breaks refused position tree NoMemory h = elim h [ ]

-- ---- the first

-- the parts before the one that breaks a rule, that one, and those behind it
abbrev FirstOf : Option Refusal → List PartAt → TypeFault → Type 0
FirstOf refused parts f =
    (before : List PartAt) × (part : PartAt) × (after : List PartAt) × (parts ≡ before ++ part ∷ after) × NoneBreaks refused before × Breaks refused part f

split : (refused : Option Refusal) (parts : List PartAt) (f : TypeFault) → first_own refused parts ≡ Some f → FirstOf refused parts f
split refused [] f e = absurd cc
split refused (part ∷ rest) f e = go (own refused part.position part.tree) refl (λ h. split refused rest f h) e
  where
    go : (o : Option TypeFault) → own refused part.position part.tree ≡ o → (first_own refused rest ≡ Some f → FirstOf refused rest f)
        → first o (first_own refused rest) ≡ Some f → FirstOf refused (part ∷ rest) f
    go (Some g) eo later e = ([], part, rest, refl, tt, to_breaks refused part.position part.tree f (eo ∙ e))
    go None eo later e =
        let r = later e in
        let whole : (g : TypeFault) → ¬ (Breaks refused part g) = λ g b. (let own_is = of_breaks refused part.position part.tree g b in absurd cc) in
        (part ∷ r.0, r.1, r.2, ap (λ (l : List PartAt). part ∷ l) r.3, (whole, r.4), r.5)

-- of a part that breaks no rule the walk says nothing
nothing_said : (refused : Option Refusal) (part : PartAt) → ((f : TypeFault) → ¬ (Breaks refused part f)) → own refused part.position part.tree ≡ None
nothing_said refused part whole = go (own refused part.position part.tree) refl
  where
    go : (o : Option TypeFault) → own refused part.position part.tree ≡ o → o ≡ None
    go None eo = refl
    go (Some g) eo = absurd (whole g (to_breaks refused part.position part.tree g eo))

first_from : (refused : Option Refusal) (before : List PartAt) (part : PartAt) (after : List PartAt) (f : TypeFault)
    → NoneBreaks refused before → Breaks refused part f → first_own refused (before ++ part ∷ after) ≡ Some f
first_from refused [] part after f whole breaks = ap (λ o. first o (first_own refused after)) (of_breaks refused part.position part.tree f breaks)
first_from refused (one ∷ before) part after f whole breaks =
    ap (λ o. first o (first_own refused (before ++ part ∷ after))) (nothing_said refused one whole.0) ∙ first_from refused before part after f whole.1 breaks

none_of : (refused : Option Refusal) (parts : List PartAt) → NoneBreaks refused parts → first_own refused parts ≡ None
none_of refused [] whole = refl
none_of refused (part ∷ rest) whole = ap (λ o. first o (first_own refused rest)) (nothing_said refused part whole.0) ∙ none_of refused rest whole.1

pub is_first : (refused : Option Refusal) (tree : Tree) (f : TypeFault) → first_fault refused tree ≡ Some f → IsFirstFault refused tree f
is_first refused tree f e =
    let r = split refused (parts_of Anywhere tree) f (fault_is refused Anywhere tree ∙ e) in
    record { before = r.0; part = r.1; after = r.2; order = r.3; whole = r.4; breaks = r.5 }

pub only_first : (refused : Option Refusal) (tree : Tree) (f : TypeFault) → IsFirstFault refused tree f → first_fault refused tree ≡ Some f
only_first refused tree f h =
    sym (fault_is refused Anywhere tree) ∙ ap (first_own refused) h.order ∙ first_from refused h.before h.part h.after f h.whole h.breaks

pub typed_if_none_breaks : (tree : Tree) → NoneBreaks None (parts_of Anywhere tree) → HasSomeType tree
typed_if_none_breaks tree whole = typed_if_clean tree (sym (fault_is None Anywhere tree) ∙ none_of None (parts_of Anywhere tree) whole)
