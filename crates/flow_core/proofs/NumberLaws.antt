-- A node whose effects are numbered as they are said numbers them.
use Rattle.std.proofs.Common.{◌≡◌, ℕ, ◌+◌, ◌≤◌, ◌<◌, ◌==◌, true, false, cond, List, [], ◌∷◌, ◌++◌, map, length, refl, sym, ap, subst, ◌∙◌, append_assoc, append-nil, arith}
use Rattle.std.specs.List.{AllByRecursion as Each}
use Rattle.std.proofs.lemmas.Bool.Decides.{nat_tests}
use Rattle.kap_base.specs.declared.items.Effect.{Effect}
use Rattle.kap_base.specs.declared.items.Stamp.{Stamp}
use Rattle.kap_base.specs.declared.items.What.{What}
use Rattle.node_core.specs.declared.running.Tally.{Tally}
use Rattle.node_core.specs.Meaning.{Input, Saying, given_after}
use Rattle.node_core.specs.Numbering.{arrival, counted, effect_at, effects_from, no_tally, number_at, stamped, tally, tally_after}
use Rattle.task_run.specs.Stamps.{StampsFrom, StampsRise, of_input}
use Rattle.flow_core.specs.Gathering.{AreNumbered, IsNumberedBelow, NumbersEffects}
use Rattle.flow_core.proofs.PortLaws.{from_less}
use Rattle.flow_core.proofs.RisingLaws.{each_append}

-- ---- the next number

-- an effect is numbered from where a tally stands
abbrev IsPast : Tally → Effect → Type 0
IsPast t e = number_at t e.stamp.0 ≤ e.seq

-- one more was given, and more with the stamp `now`
counted-past : (t : Tally) (now more stamp : ℕ) → t.stamp ≤ now → now ≤ stamp → number_at (counted t now more) stamp ≡ number_at t stamp + cond (now == stamp) more 0
counted-past t now more stamp low high = elim (more == 0) as (λ b. (more == 0) ≡ b → number_at (cond b t (record { stamp = now; count = number_at t now + more })) stamp ≡ number_at t stamp + cond (now == stamp) more 0) [
  | true ↦ λ e.
      let none : more ≡ 0 = grind (arith, nat_tests) in
      rw none (elim (now == stamp) as (λ b. number_at t stamp ≡ number_at t stamp + cond b 0 0) [
        | true ↦ omega arith
        | false ↦ omega arith
      ])
  | false ↦ λ e. elim (now == stamp) as (λ b. (now == stamp) ≡ b → cond b (number_at t now + more) 0 ≡ number_at t stamp + cond b more 0) [
    | true ↦ λ f. let same : now ≡ stamp = grind (arith, nat_tests) in ap (λ (s : ℕ). number_at t s + more) same
    | false ↦ λ f. let other : (t.stamp == stamp) ≡ false = grind (arith, nat_tests) in rw other refl
  ] refl
] refl

counted-low : (t : Tally) (now more : ℕ) → t.stamp ≤ now → (counted t now more).stamp ≤ now
counted-low t now more low = elim (more == 0) as (λ b. (cond b t (record { stamp = now; count = number_at t now + more })).stamp ≤ now) [
  | true ↦ low
  | false ↦ omega arith
]

-- effects that are numbered from one number up to another
abbrev IsBetween : ℕ → ℕ → ℕ → Effect → Type 0
IsBetween stamp low high e = (e.stamp.0 ≡ stamp) × (low ≤ e.seq) × (e.seq < high)

numbers-between : (life node : ℕ) (stamp : Stamp) (low seq : ℕ) (whats : List What) (high : ℕ) → low ≤ seq → high ≡ seq + length whats → Each (IsBetween stamp.0 low high) (effects_from life node stamp seq whats)
numbers-between life node stamp low seq [] high le e = tt
numbers-between life node stamp low seq (w ∷ whats) high le e = ((refl, le, omega arith), numbers-between life node stamp low (seq + 1) whats high (omega arith) (omega arith))

below-between : (stamp low high : ℕ) (a : Effect) (xs : List Effect) → a.seq < low → Each (IsBetween stamp low high) xs → IsNumberedBelow a xs
below-between stamp low high a [] lt h = tt
below-between stamp low high a (x ∷ xs) lt h = let le : low ≤ x.seq = h.0.1 in ((λ same. omega arith), below-between stamp low high a xs lt h.1)

own-numbered : (life node : ℕ) (stamp : Stamp) (seq : ℕ) (whats : List What) → AreNumbered (effects_from life node stamp seq whats)
own-numbered life node stamp seq [] = tt
own-numbered life node stamp seq (w ∷ whats) = (
  below-between stamp.0 (seq + 1) (seq + 1 + length whats) (effect_at life node stamp seq w) (effects_from life node stamp (seq + 1) whats) (omega arith) (numbers-between life node stamp (seq + 1) (seq + 1) whats (seq + 1 + length whats) (omega arith) refl),
  own-numbered life node stamp (seq + 1) whats,
)

below-append : (a : Effect) (xs ys : List Effect) → IsNumberedBelow a xs → IsNumberedBelow a ys → IsNumberedBelow a (xs ++ ys)
below-append a [] ys h k = k
below-append a (x ∷ xs) ys h k = (h.0, below-append a xs ys h.1 k)

-- behind effects with one stamp, numbered up to where a tally stands, come those that are numbered from there
numbered-append : (t : Tally) (stamp low high : ℕ) (xs ys : List Effect) → number_at t stamp ≡ high → Each (IsBetween stamp low high) xs → AreNumbered xs → Each (IsPast t) ys → AreNumbered ys → AreNumbered (xs ++ ys)
numbered-append t stamp low high [] ys at h a p b = b
numbered-append t stamp low high (x ∷ xs) ys at h a p b = (
  below-append x xs ys a.0 (past x ys h.0 p),
  numbered-append t stamp low high xs ys at h.1 a.1 p b,
)
  where
    past : (e : Effect) (zs : List Effect) → IsBetween stamp low high e → Each (IsPast t) zs → IsNumberedBelow e zs
    past e [] i q = tt
    past e (z ∷ zs) i q = (
      (λ same.
          let there : z.stamp.0 ≡ stamp = sym same ∙ i.0 in
          let from : number_at t stamp ≤ z.seq = subst (λ (s : ℕ). number_at t s ≤ z.seq) there q.0 in
          let under : e.seq < high = i.2 in
          omega (arith, at, from, under)),
      past e zs i q.1,
    )

each-both : (P Q R : Effect → Type 0) (xs : List Effect) → ((x : Effect) → P x → Q x → R x) → Each P xs → Each Q xs → Each R xs
each-both P Q R [] f h k = tt
each-both P Q R (x ∷ xs) f h k = (f x h.0 k.0, each-both P Q R xs f h.1 k.1)

-- ---- all effects

tally-more : (saying : Saying) (t : Tally) (before xs : List Input) (x : Input)
    → tally_after saying t before (xs ++ x ∷ []) ≡ counted (tally_after saying t before xs) x.1.stamp.0 (length (saying (map arrival (before ++ xs)) (arrival x)).deeds)
tally-more saying t before [] x = rw append-nil refl
tally-more saying t before (y ∷ xs) x =
    tally-more saying (counted t y.1.stamp.0 (length (saying (map arrival before) (arrival y)).deeds)) (before ++ y ∷ []) xs x ∙ rw append_assoc refl

module _ (life node : ℕ) (saying : Saying) where
  -- numbers rise, and each effect is numbered from where the tally stands
  record Numbered (t : Tally) (effects : List Effect) : Type 0 where
    numbered : AreNumbered effects
    past : Each (IsPast t) effects

  after-from : (low : ℕ) (before xs : List Input) → StampsFrom of_input low xs → Each (λ e. low ≤ e.stamp.0) (given_after (stamped life node saying) before xs).effects
  after-from low before [] h = tt
  after-from low before (x ∷ xs) h = each_append (λ e. low ≤ e.stamp.0) _ _ (own x.1.stamp (number_at (tally saying before) x.1.stamp.0) (saying (map arrival before) (arrival x)).deeds h.0) (after-from low (before ++ x ∷ []) xs h.1)
    where
      own : (stamp : Stamp) (seq : ℕ) (whats : List What) → low ≤ stamp.0 → Each (λ e. low ≤ e.stamp.0) (effects_from life node stamp seq whats)
      own stamp seq [] le = tt
      own stamp seq (w ∷ whats) le = (le, own stamp (seq + 1) whats le)

  numbered-after : (before xs : List Input) → StampsFrom of_input (tally saying before).stamp xs → StampsRise of_input xs → Numbered (tally saying before) (given_after (stamped life node saying) before xs).effects
  numbered-after before [] from rising = record { numbered = tt; past = tt }
  numbered-after before (x ∷ xs) from rising =
      let t = tally saying before in
      let now = x.1.stamp.0 in
      let deeds = (saying (map arrival before) (arrival x)).deeds in
      let more = length deeds in
      let low : t.stamp ≤ now = from.0 in
      let seq = number_at t now in
      let next : tally saying (before ++ x ∷ []) ≡ counted t now more = tally-more saying no_tally [] before x in
      let behind : StampsFrom of_input (tally saying (before ++ x ∷ [])).stamp xs =
      subst (λ (u : Tally). StampsFrom of_input u.stamp xs) (sym next) (from_less of_input (counted t now more).stamp now xs (counted-low t now more low) rising.0) in
      let rest = numbered-after (before ++ x ∷ []) xs behind rising.1 in
      let others = (given_after (stamped life node saying) (before ++ x ∷ []) xs).effects in
      let past : Each (IsPast (counted t now more)) others = subst (λ (u : Tally). Each (IsPast u) others) next rest.past in
      let stamps : Each (λ e. now ≤ e.stamp.0) others = after-from now (before ++ x ∷ []) xs rising.0 in
      let between = numbers-between life node x.1.stamp seq seq deeds (seq + more) (omega arith) refl in
      let here : number_at (counted t now more) now ≡ seq + more =
      counted-past t now more now low (omega arith) ∙ (let same : (now == now) ≡ true = grind (arith, nat_tests) in rw same refl) in
      record {
        numbered = numbered-append (counted t now more) now seq (seq + more) (effects_from life node x.1.stamp seq deeds) others here between (own-numbered life node x.1.stamp seq deeds) past rest.numbered;
        past = each_append (IsPast t) _ _
            (each-both (IsBetween now seq (seq + more)) (IsBetween now seq (seq + more)) (IsPast t) _ (λ e i j. subst (λ (s : ℕ). number_at t s ≤ e.seq) (sym i.0) i.1) between between)
            (each-both (IsPast (counted t now more)) (λ e. now ≤ e.stamp.0) (IsPast t) others (λ e p le. let is = counted-past t now more e.stamp.0 low le in omega (arith, is, p)) past stamps);
      }

  zero-from : (xs : List Input) → StampsFrom of_input 0 xs
  zero-from [] = tt
  zero-from (x ∷ xs) = (omega arith, zero-from xs)

  -- what is said is numbered
  pub stamped_numbers : NumbersEffects (stamped life node saying)
  stamped_numbers xs rising = (numbered-after [] xs (zero-from xs) rising).numbered
