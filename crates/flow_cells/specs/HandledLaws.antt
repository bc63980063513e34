-- Messages that are handled one after the other.
use Rattle.std.proofs.Common.{◌≡◌, ℕ, zero, suc, ◌<◌, List, [], ◌∷◌, ◌++◌, length, Some, refl, sym, subst, ◌∙◌, arith}
use Rattle.kap_base.specs.declared.items.Msg.{Msg}
use Rattle.node_core.specs.declared.node.Node.{Ghosts}
use Rattle.node_core.specs.Meaning.{Input, Move}
use Rattle.merge_node.specs.Merge.{Lists, Entry}
use Rattle.merge_node.specs.Buffers.{done, more, next, put}
use Rattle.merge_node.proofs.BufferLaws.{next-alone, merges-trans, merges-put}
use Rattle.flow_cells.specs.declared.parts.Core.{Core}
use Rattle.flow_cells.specs.Runs.{Run, run, reacted}
use Rattle.flow_cells.specs.Kept.{IsAt}
use Rattle.flow_cells.specs.Handled.{Handles, Reacts}

-- a run over two lists is a run over the first, and then over the second
pub run-append : {S : Type 0} (step : S → Input → Move S) (r : Run S) (xs ys : List Entry)
    → run step r (xs ++ ys) ≡ run step (run step r xs) ys
run-append step r [] ys = refl
run-append step r (x ∷ xs) ys = run-append step (reacted step r x.0 x.1) xs ys

module _ {N P S : Type 0} (g : Ghosts N P S) where
  -- where nothing came, nothing was handled
  pub Handles-none : (c : Core N) (b : Lists) → Handles g c b c b
  Handles-none c b = record { handled = []; merged = done; at = λ r h. h; spec = refl; keeps = refl }

  -- one message more was handled: the one that was next
  pub Handles-more : (c d : Core N) (b e e' : Lists) (parent : ℕ) (m : Msg) (d' : Core N) → Handles g c b d e
      → next e ≡ Some (record { parent = parent; msg = m; rest = e' }) → g.spec d'.node ≡ g.spec d.node
      → d'.keeps ≡ d.keeps → Reacts g d parent m d' → Handles g c b d' e'
  Handles-more c d b e e' parent m d' h t same kept react_ok =
      let Goal : P → Type 0 = λ p. (r : Run S) → IsAt g p r d → IsAt g p (reacted (g.step p) r parent m) d' in
      let react_here : Goal (g.spec c.node) = subst Goal h.spec react_ok in
      record {
        handled = h.handled ++ (parent, m) ∷ [];
        merged = merges-trans h.merged (more (record { parent = parent; msg = m; rest = e' }) t done);
        at = λ r at. subst (λ (q : Run S). IsAt g (g.spec c.node) q d')
            (sym (run-append (g.step (g.spec c.node)) r h.handled ((parent, m) ∷ [])))
            (react_here (run (g.step (g.spec c.node)) r h.handled) (h.at r at));
        spec = same ∙ h.spec;
        keeps = kept ∙ h.keeps;
      }

  handles-first : (c d : Core N) (k : ℕ) (m : Msg) → k < 1 → g.spec d.node ≡ g.spec c.node → d.keeps ≡ c.keeps
      → Reacts g c k m d → Handles g c (put k m ([] ∷ [])) d ([] ∷ [])
  handles-first c d zero m lt same kept react_ok =
      let b : Lists = (m ∷ []) ∷ [] in
      Handles-more c c b b ([] ∷ []) 0 m d (Handles-none c b) (next-alone m) same kept react_ok
  handles-first c d (suc k) m lt same kept react_ok = absurd (omega (arith, lt))

  -- a message of the only parent was handled at once: nothing else was buffered
  pub Handles-alone : (c d : Core N) (b : Lists) (k : ℕ) (m : Msg) → b ≡ [] ∷ [] → k < length b
      → g.spec d.node ≡ g.spec c.node → d.keeps ≡ c.keeps → Reacts g c k m d → Handles g c (put k m b) d b
  Handles-alone c d b k m clear lt same kept react_ok =
      let within : k < 1 = subst (λ (ls : Lists). k < length ls) clear lt in
      subst (λ (ls : Lists). Handles g c (put k m ls) d ls) (sym clear)
      (handles-first c d k m within same kept react_ok)

  -- a message that came behind the others was handled too, with all that was determined then
  pub Handles-put : (c d : Core N) (b e : Lists) (k : ℕ) (m : Msg) (d' : Core N) (e' : Lists) → Handles g c b d e
      → Handles g d (put k m e) d' e' → Handles g c (put k m b) d' e'
  Handles-put c d b e k m d' e' h later =
      let Goal : P → Type 0 = λ p. (r : Run S) → IsAt g p r d → IsAt g p (run (g.step p) r later.handled) d' in
      let later_here : Goal (g.spec c.node) = subst Goal h.spec later.at in
      record {
        handled = h.handled ++ later.handled;
        merged = merges-trans (merges-put k m h.merged) later.merged;
        at = λ r at. subst (λ (q : Run S). IsAt g (g.spec c.node) q d')
            (sym (run-append (g.step (g.spec c.node)) r h.handled later.handled))
            (later_here (run (g.step (g.spec c.node)) r h.handled) (h.at r at));
        spec = later.spec ∙ h.spec;
        keeps = later.keeps ∙ h.keeps;
      }
