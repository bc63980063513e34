-- Events of values, which declare nothing, and events one after the other.
use Rattle.std.proofs.Common.{◌≡◌, ℕ, ◌+◌, true, false, List, [], ◌∷◌, ◌++◌, refl, ap}
use Rattle.tick_parser.specs.Trees.{ValTree, LitVal, StarVal, LambdaVal, ChainVal, ValTrees, NoVals, MoreVals, JointTrees, NoJoints, MoreJoints}
use Rattle.tick_vars.specs.Names.{Scope, with_name}
use Rattle.tick_vars.specs.Law.{Upstream, OnName, OnNode, Event, MakesNode, SetsProp, DeclaresName, UsesValue, NamesDbrp, arg_of, dbrps_seen, done_along, done_among, done_in, in_the_end, pipes_among, pipes_in, written_vals}

abbrev pub Quiet : List Event → Type 0
Quiet [] = Unit {0}
Quiet (MakesNode kind under args at ∷ es) = Quiet es
Quiet (SetsProp name on args at ∷ es) = Quiet es
Quiet (DeclaresName name value ∷ es) = ⊥
Quiet (UsesValue value ∷ es) = ⊥
Quiet (NamesDbrp dbrp ∷ es) = ⊥

pub quiet_append : (es fs : List Event) → Quiet es → Quiet fs → Quiet (es ++ fs)
quiet_append [] fs a b = b
quiet_append (MakesNode kind under args at ∷ es) fs a b = quiet_append es fs a b
quiet_append (SetsProp name on args at ∷ es) fs a b = quiet_append es fs a b
quiet_append (DeclaresName name value ∷ es) fs a b = absurd a
quiet_append (UsesValue value ∷ es) fs a b = absurd a
quiet_append (NamesDbrp dbrp ∷ es) fs a b = absurd a

mutual
  pub quiet_in : (v : ValTree) (next : ℕ) → Quiet (done_in next v)
  quiet_in (LitVal lit at) next = tt
  quiet_in (StarVal at) next = tt
  quiet_in (LambdaVal body at) next = tt
  quiet_in (ChainVal head links at) next = quiet_along links next (OnName head)

  pub quiet_among : (vs : ValTrees) (next : ℕ) → Quiet (done_among next vs)
  quiet_among NoVals next = tt
  quiet_among (MoreVals first rest) next = quiet_append (done_in next first) (done_among (next + pipes_in first) rest) (quiet_in first next) (quiet_among rest (next + pipes_in first))

  pub quiet_along : (links : JointTrees) (next : ℕ) (on : Upstream) → Quiet (done_along next on links)
  quiet_along NoJoints next on = tt
  quiet_along (MoreJoints true name args at rest) next on =
      let then = next + pipes_among args in
      quiet_append (done_among next args) (MakesNode name on (written_vals next args) at ∷ done_along (then + 1) (OnNode then) rest) (quiet_among args next) (quiet_along rest (then + 1) (OnNode then))
  quiet_along (MoreJoints false name args at rest) next on =
      let then = next + pipes_among args in
      quiet_append (done_among next args) (SetsProp name on (written_vals next args) at ∷ done_along then on rest) (quiet_among args next) (quiet_along rest then on)

pub quiet_scope : (s : Scope) (es : List Event) → Quiet es → in_the_end s es ≡ s
quiet_scope s [] q = refl
quiet_scope s (MakesNode kind under args at ∷ es) q = quiet_scope s es q
quiet_scope s (SetsProp name on args at ∷ es) q = quiet_scope s es q
quiet_scope s (DeclaresName name value ∷ es) q = absurd q
quiet_scope s (UsesValue value ∷ es) q = absurd q
quiet_scope s (NamesDbrp dbrp ∷ es) q = absurd q

pub quiet_dbrps : (es : List Event) → Quiet es → dbrps_seen es ≡ []
quiet_dbrps [] q = refl
quiet_dbrps (MakesNode kind under args at ∷ es) q = quiet_dbrps es q
quiet_dbrps (SetsProp name on args at ∷ es) q = quiet_dbrps es q
quiet_dbrps (DeclaresName name value ∷ es) q = absurd q
quiet_dbrps (UsesValue value ∷ es) q = absurd q
quiet_dbrps (NamesDbrp dbrp ∷ es) q = absurd q

pub scope_append : (s : Scope) (es fs : List Event) → in_the_end s (es ++ fs) ≡ in_the_end (in_the_end s es) fs
scope_append s [] fs = refl
scope_append s (MakesNode kind under args at ∷ es) fs = scope_append s es fs
scope_append s (SetsProp name on args at ∷ es) fs = scope_append s es fs
scope_append s (DeclaresName name value ∷ es) fs = scope_append (with_name name (arg_of s value) s) es fs
scope_append s (UsesValue value ∷ es) fs = scope_append s es fs
scope_append s (NamesDbrp dbrp ∷ es) fs = scope_append s es fs

pub dbrps_append : (es fs : List Event) → dbrps_seen (es ++ fs) ≡ dbrps_seen es ++ dbrps_seen fs
dbrps_append [] fs = refl
dbrps_append (MakesNode kind under args at ∷ es) fs = dbrps_append es fs
dbrps_append (SetsProp name on args at ∷ es) fs = dbrps_append es fs
dbrps_append (DeclaresName name value ∷ es) fs = dbrps_append es fs
dbrps_append (UsesValue value ∷ es) fs = dbrps_append es fs
dbrps_append (NamesDbrp dbrp ∷ es) fs = ap (λ l. dbrp ∷ l) (dbrps_append es fs)
