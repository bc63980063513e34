-- Lists cut at a barrier.
use Rattle.std.proofs.Common.{◌≡◌, ℕ, suc, ◌+◌, ◌*◌, ◌<◌, ◌≤◌, Bool, true, false, filter, ltb, List, [], ◌∷◌, ◌++◌, refl, sym, ap, subst, ◌∙◌, ⊎_elim, append_assoc, arith}
use Rattle.std.specs.Prelude.{⊤}
use Rattle.std.specs.List.{AllByRecursion as Each}
use Rattle.std.proofs.lemmas.Bool.{cases_order, le-ltb, lt-ltb}
use Rattle.std.proofs.lemmas.List.Elements.{filter-append}
use Rattle.kap_base.specs.declared.items.Effect.{Effect}
use Rattle.kap_base.specs.declared.items.Msg.{Msg}
use Rattle.kap_base.specs.declared.items.Msg.TheVariants as messages
use Rattle.kap_base.specs.declared.items.Stamp.{Stamp}
use Rattle.merge_node.specs.Merge.{AreOrdered, Entry, IsClosed, IsClosedBy, PrecedesAll, RisesFrom, barriers, rank}
use Rattle.merge_node.proofs.ClosingLaws.{EntriesClosed, entry_barriers}
use Rattle.flow_cells.specs.Runs.{inputs}
use Rattle.task_run.specs.Stamps.{StampsFrom, StampsUpTo, of_effect, of_input}
use Rattle.barrier_snapshot.specs.Resuming.{effects_behind, msgs_behind}

-- none of these barriers has this stamp
abbrev pub NoneIs : Stamp → List Stamp → Type 0
NoneIs u [] = ⊤
NoneIs u (b ∷ bs) = (b.0 ≡ u.0 → ⊥) × NoneIs u bs

not-nothing : {A : Type 0} (xs ys : List A) (x : A) → xs ++ x ∷ ys ≡ [] → ⊥
not-nothing [] ys x e = absurd cc
not-nothing (z ∷ xs) ys x e = absurd cc

-- ---- the place of a barrier

barrier-there : (u : Stamp) (ys ws : List Entry) (l : ℕ) → NoneIs u (entry_barriers (ys ++ (l, messages.Barrier u) ∷ ws)) → ⊥
barrier-there u [] ws l h = h.0 refl
barrier-there u ((p, messages.Item x) ∷ ys) ws l h = barrier-there u ys ws l h
barrier-there u ((p, messages.Barrier b) ∷ ys) ws l h = barrier-there u ys ws l h.1

-- a list with a barrier that stands in it once is cut at it in one way
pub same_cut : (u : Stamp) (xs zs ys ws : List Entry) (k l : ℕ) → xs ++ (k, messages.Barrier u) ∷ zs ≡ ys ++ (l, messages.Barrier u) ∷ ws
    → NoneIs u (entry_barriers xs) → NoneIs u (entry_barriers zs) → xs ++ (k, messages.Barrier u) ∷ [] ≡ ys ++ (l, messages.Barrier u) ∷ []
same_cut u [] zs [] ws k l e before behind =
    let head : ◌≡◌ {A = Entry} (k, messages.Barrier u) (l, messages.Barrier u) = cc in ap (λ (x : Entry). x ∷ []) head
same_cut u [] zs (y ∷ ys) ws k l e before behind =
    let tail : zs ≡ ys ++ (l, messages.Barrier u) ∷ ws = cc in
    absurd (barrier-there u ys ws l (subst (λ (es : List Entry). NoneIs u (entry_barriers es)) tail behind))
same_cut u ((p, m) ∷ xs) zs [] ws k l e before behind =
    let head : ◌≡◌ {A = Entry} (p, m) (l, messages.Barrier u) = cc in
    let same : m ≡ messages.Barrier u = ap (λ (x : Entry). x.1) head in
    absurd (barrier-there u [] xs p (subst (λ (n : Msg). NoneIs u (entry_barriers ((p, n) ∷ xs))) same before))
same_cut u (x ∷ xs) zs (y ∷ ys) ws k l e before behind =
    let head : x ≡ y = cc in
    let tail : xs ++ (k, messages.Barrier u) ∷ zs ≡ ys ++ (l, messages.Barrier u) ∷ ws = cc in
    let rest = same_cut u xs zs ys ws k l tail (rest_none x xs before) behind in
    ap (λ (z : Entry). z ∷ xs ++ (k, messages.Barrier u) ∷ []) head ∙ ap (λ (es : List Entry). y ∷ es) rest
  where
    rest_none : (x : Entry) (xs : List Entry) → NoneIs u (entry_barriers (x ∷ xs)) → NoneIs u (entry_barriers xs)
    rest_none (p, messages.Item i) xs h = h
    rest_none (p, messages.Barrier b) xs h = h.1

-- ---- lists that end with a barrier

-- entries that are closed by no barrier are none
pub no_entries : (xs : List Entry) → entry_barriers xs ≡ [] → EntriesClosed xs → xs ≡ []
no_entries [] e c = refl
no_entries ((k, messages.Item x) ∷ xs) e c = absurd (c.0 e)
no_entries ((k, messages.Barrier b) ∷ xs) e c = absurd cc

-- entries whose last one is a barrier, behind these barriers
pub record EndWith (u : Stamp) (marks : List Stamp) (xs : List Entry) : Type 0 where
  pub front : List Entry
  pub parent : ℕ
  pub is : xs ≡ front ++ (parent, messages.Barrier u) ∷ []
  pub barriers : entry_barriers front ≡ marks

pub end_with : (u : Stamp) (marks : List Stamp) (xs : List Entry) → entry_barriers xs ≡ marks ++ u ∷ [] → EntriesClosed xs → EndWith u marks xs
end_with u marks [] e c = absurd (not-nothing marks [] u (sym e))
end_with u marks ((k, messages.Item x) ∷ xs) e c =
    let r = end_with u marks xs e c.1 in
    record { front = (k, messages.Item x) ∷ r.front; parent = r.parent; is = ap (λ (l : List Entry). (k, messages.Item x) ∷ l) r.is; barriers = r.barriers }
end_with u [] ((k, messages.Barrier b) ∷ xs) e c =
    let here : b ≡ u = cc in
    let none : entry_barriers xs ≡ [] = cc in
    record {
      front = [];
      parent = k;
      is = ap (λ (t : Stamp). (k, messages.Barrier t) ∷ xs) here ∙ ap (λ (l : List Entry). (k, messages.Barrier u) ∷ l) (no_entries xs none c);
      barriers = refl;
    }
end_with u (m ∷ marks) ((k, messages.Barrier b) ∷ xs) e c =
    let here : b ≡ m = cc in
    let tail : entry_barriers xs ≡ marks ++ u ∷ [] = cc in
    let r = end_with u marks xs tail c in
    record {
      front = (k, messages.Barrier b) ∷ r.front;
      parent = r.parent;
      is = ap (λ (l : List Entry). (k, messages.Barrier b) ∷ l) {y = r.front ++ (r.parent, messages.Barrier u) ∷ []} r.is;
      barriers = ap (λ (l : List Stamp). b ∷ l) r.barriers ∙ ap (λ (t : Stamp). t ∷ marks) here;
    }

no-msgs : (l : List Msg) → barriers l ≡ [] → IsClosed l → l ≡ []
no-msgs [] e c = refl
no-msgs (messages.Item x ∷ l) e c = absurd (c.0 e)
no-msgs (messages.Barrier b ∷ l) e c = absurd cc

-- messages whose last one is a barrier
pub record MsgsEnd (u : Stamp) (l : List Msg) : Type 0 where
  pub front : List Msg
  pub is : l ≡ front ++ messages.Barrier u ∷ []

pub msgs_end : (u : Stamp) (marks : List Stamp) (l : List Msg) → barriers l ≡ marks ++ u ∷ [] → IsClosed l → MsgsEnd u l
msgs_end u marks [] e c = absurd (not-nothing marks [] u (sym e))
msgs_end u marks (messages.Item x ∷ l) e c =
    let r = msgs_end u marks l e c.1 in
    record { front = messages.Item x ∷ r.front; is = ap (λ (k : List Msg). messages.Item x ∷ k) r.is }
msgs_end u [] (messages.Barrier b ∷ l) e c =
    let here : b ≡ u = cc in
    let none : barriers l ≡ [] = cc in
    record { front = []; is = ap (λ (t : Stamp). messages.Barrier t ∷ l) here ∙ ap (λ (k : List Msg). messages.Barrier u ∷ k) (no-msgs l none c) }
msgs_end u (m ∷ marks) (messages.Barrier b ∷ l) e c =
    let tail : barriers l ≡ marks ++ u ∷ [] = cc in
    let r = msgs_end u marks l tail c in
    record { front = messages.Barrier b ∷ r.front; is = ap (λ (k : List Msg). messages.Barrier b ∷ k) r.is }

-- ---- what is behind a barrier by rank

-- what passes no test, and what passes each
filter-none : {A : Type 0} (t : A → Bool) (xs : List A) → Each (λ x. t x ≡ false) xs → filter t xs ≡ []
filter-none t [] h = refl
filter-none t (x ∷ xs) h = rw h.0 (filter-none t xs h.1)

filter-each : {A : Type 0} (t : A → Bool) (xs : List A) → Each (λ x. t x ≡ true) xs → filter t xs ≡ xs
filter-each t [] h = refl
filter-each t (x ∷ xs) h = rw h.0 (ap (λ l. x ∷ l) (filter-each t xs h.1))

-- the test of what is behind a barrier
abbrev is_behind : Stamp → Msg → Bool
is_behind u m = ltb (2 * u.0 + 1) (rank m)

reaches : (r : ℕ) (u : Stamp) (f b : List Msg) → RisesFrom r (f ++ messages.Barrier u ∷ b) → r ≤ 2 * u.0 + 1
reaches r u [] b h = h.0
reaches r u (m ∷ f) b h =
    let one : r ≤ rank m = h.0 in
    let rest : rank m ≤ 2 * u.0 + 1 = reaches (rank m) u f b h.1 in
    omega (arith, one, rest)

front-low : (r : ℕ) (u : Stamp) (f b : List Msg) → RisesFrom r (f ++ messages.Barrier u ∷ b) → Each (λ m. is_behind u m ≡ false) (f ++ messages.Barrier u ∷ [])
front-low r u [] b h = (le-ltb (2 * u.0 + 1) (2 * u.0 + 1) (omega arith), tt)
front-low r u (m ∷ f) b h = (le-ltb (2 * u.0 + 1) (rank m) (reaches (rank m) u f b h.1), front-low (rank m) u f b h.1)

back-rises : (r : ℕ) (u : Stamp) (f b : List Msg) → RisesFrom r (f ++ messages.Barrier u ∷ b) → RisesFrom (2 * u.0 + 1) b
back-rises r u [] b h = h.1
back-rises r u (m ∷ f) b h = back-rises (rank m) u f b h.1

back-high : (r : ℕ) (u : Stamp) (b : List Msg) → 2 * u.0 + 1 ≤ r → RisesFrom r b → NoneIs u (barriers b) → Each (λ m. is_behind u m ≡ true) b
back-high r u [] le h none = tt
back-high r u (messages.Item x ∷ b) le h none =
    let one : r ≤ 2 * x.stamp.0 = h.0 in
    (lt-ltb (2 * u.0 + 1) (2 * x.stamp.0) (omega (arith, le, one)), back-high (2 * x.stamp.0) u b (omega (arith, le, one)) h.1 none)
back-high r u (messages.Barrier c ∷ b) le h none =
    let one : r ≤ 2 * c.0 + 1 = h.0 in
    let low : u.0 ≤ c.0 = omega (arith, le, one) in
    let lt : u.0 < c.0 = ⊎_elim (λ (same : u.0 ≡ c.0). absurd (none.0 (sym same))) (λ other. ⊎_elim (λ (lt : u.0 < c.0). lt) (λ (gt : c.0 < u.0). absurd (omega (arith, low, gt))) other) (cases_order u.0 c.0) in
    (lt-ltb (2 * u.0 + 1) (2 * c.0 + 1) (omega (arith, lt)), back-high (2 * c.0 + 1) u b (omega (arith, le, one)) h.1 none.1)

-- of messages in order, cut at a barrier that stands once, those behind it are those of higher ranks
pub behind_cut : (u : Stamp) (marks : List Stamp) (f b : List Msg) → IsClosedBy (marks ++ u ∷ []) f → NoneIs u (barriers b) → RisesFrom 0 (f ++ b) → msgs_behind u (f ++ b) ≡ b
behind_cut u marks f b c none h =
    let r = msgs_end u marks f c.barriers c.closed in
    let same : f ++ b ≡ r.front ++ messages.Barrier u ∷ b = ap (λ (l : List Msg). l ++ b) r.is ∙ append_assoc r.front (messages.Barrier u ∷ []) b in
    let rises : RisesFrom 0 (r.front ++ messages.Barrier u ∷ b) = subst (RisesFrom 0) same h in
    filter-append (is_behind u) f b
    ∙ ap (λ (l : List Msg). l ++ filter (is_behind u) b) (filter-none (is_behind u) f (subst (λ (l : List Msg). Each (λ m. is_behind u m ≡ false) l) (sym r.is) (front-low 0 u r.front b rises)))
    ∙ filter-each (is_behind u) b (back-high (2 * u.0 + 1) u b (omega arith) (back-rises 0 u r.front b rises) none)

-- ---- effects

effects-low : (u : Stamp) (es : List Effect) → StampsUpTo of_effect u.0 es → Each (λ e. ltb u.0 e.stamp.0 ≡ false) es
effects-low u [] h = tt
effects-low u (e ∷ es) h = (le-ltb u.0 e.stamp.0 h.0, effects-low u es h.1)

effects-high : (u : Stamp) (es : List Effect) → StampsFrom of_effect (suc u.0) es → Each (λ e. ltb u.0 e.stamp.0 ≡ true) es
effects-high u [] h = tt
effects-high u (e ∷ es) h = let lt : suc u.0 ≤ e.stamp.0 = h.0 in (lt-ltb u.0 e.stamp.0 (omega (arith, lt)), effects-high u es h.1)

-- of effects up to a stamp and others behind it, those with higher stamps are the others
pub effects_cut : (u : Stamp) (es fs : List Effect) → StampsUpTo of_effect u.0 es → StampsFrom of_effect (suc u.0) fs → effects_behind u (es ++ fs) ≡ fs
effects_cut u es fs low high =
    filter-append (λ e. ltb u.0 e.stamp.0) es fs
    ∙ ap (λ (l : List Effect). l ++ filter (λ e. ltb u.0 e.stamp.0) fs) (filter-none (λ e. ltb u.0 e.stamp.0) es (effects-low u es low))
    ∙ filter-each (λ e. ltb u.0 e.stamp.0) fs (effects-high u fs high)

-- ---- the inputs of a merged list

at-barrier : (x : Entry) (f ys : List Entry) (k : ℕ) (u : Stamp) → PrecedesAll x (f ++ (k, messages.Barrier u) ∷ ys) → rank x.1 ≤ 2 * u.0 + 1
at-barrier x [] ys k u h = ⊎_elim
    (λ (lt : rank x.1 < 2 * u.0 + 1). omega (arith, lt))
    (λ (same : (rank x.1 ≡ 2 * u.0 + 1) × (x.0 ≤ k)). let e : rank x.1 ≡ 2 * u.0 + 1 = same.0 in omega (arith, e))
    h.0
at-barrier x (y ∷ f) ys k u h = at-barrier x f ys k u h.1

-- the inputs up to a barrier have its stamp at most
pub low_inputs : (f ys : List Entry) (k : ℕ) (u : Stamp) → AreOrdered (f ++ (k, messages.Barrier u) ∷ ys) → StampsUpTo of_input u.0 (inputs (f ++ (k, messages.Barrier u) ∷ []))
low_inputs [] ys k u h = tt
low_inputs ((p, messages.Item x) ∷ f) ys k u h =
    let le : 2 * x.stamp.0 ≤ 2 * u.0 + 1 = at-barrier (p, messages.Item x) f ys k u h.0 in
    (omega (arith, le), low_inputs f ys k u h.1)
low_inputs ((p, messages.Barrier b) ∷ f) ys k u h = low_inputs f ys k u h.1

behind-all : (k : ℕ) (u : Stamp) (ys : List Entry) → PrecedesAll (k, messages.Barrier u) ys → StampsFrom of_input (suc u.0) (inputs ys)
behind-all k u [] h = tt
behind-all k u ((p, messages.Item x) ∷ ys) h = (
  ⊎_elim
      (λ (lt : 2 * u.0 + 1 < 2 * x.stamp.0). omega (arith, lt))
      (λ (same : (2 * u.0 + 1 ≡ 2 * x.stamp.0) × (k ≤ p)). let e : 2 * u.0 + 1 ≡ 2 * x.stamp.0 = same.0 in omega (arith, e))
      h.0,
  behind-all k u ys h.1,
)
behind-all k u ((p, messages.Barrier b) ∷ ys) h = behind-all k u ys h.1

-- and those behind it a higher one
pub high_inputs : (f ys : List Entry) (k : ℕ) (u : Stamp) → AreOrdered (f ++ (k, messages.Barrier u) ∷ ys) → StampsFrom of_input (suc u.0) (inputs ys)
high_inputs [] ys k u h = behind-all k u ys h.0
high_inputs (x ∷ f) ys k u h = high_inputs f ys k u h.1
