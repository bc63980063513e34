-- How the moves of a cell keep what it keeps.
use Rattle.std.proofs.Common.{◌≡◌, ℕ, zero, suc, ◌<◌, ◌≤◌, List, [], ◌∷◌, ◌++◌, map, length, get_or, set, Bool, Option, Some, None, true, false, refl, sym, ap, subst, ◌∙◌, append_assoc, arith}
use Rattle.std.specs.Prelude.{slice_get}
use Rattle.std.specs.List.{AllByRecursion as Each}
use Rattle.kap_base.specs.declared.items.Msg.{Msg}
use Rattle.node_core.specs.declared.node.Node.{Ghosts}
use Rattle.merge_node.specs.Merge.{Lists}
use Rattle.merge_node.specs.Buffers.{next, put}
use Rattle.merge_node.proofs.BufferLaws.{merges-length, merges-put, merges-trans, put-length}
use Rattle.edge_queue.specs.Edges.{received, sent}
use Rattle.edge_queue.proofs.EdgeLaws.{HeadLooked-refl, TailLooked-refl}
use Rattle.flow_cells.specs.declared.parts.OutEdge.{OutEdge}
use Rattle.flow_cells.specs.declared.parts.InEdge.{InEdge}
use Rattle.flow_cells.specs.declared.parts.Core.{Core}
use Rattle.flow_cells.specs.Outs.{LooksOn, SendsOn}
use Rattle.flow_cells.specs.Runs.{Run, begun, run}
use Rattle.flow_cells.specs.Kept.{IsAt, IsGiven, KeptBy, Spells, received_of, run_of}
use Rattle.flow_cells.specs.Handled.{Handles}
use Rattle.flow_cells.specs.HandledLaws.{run-append}
use Rattle.flow_cells.specs.Moves.{Eases, Still}

-- ---- received lists

abbrev heads : List InEdge → Lists
heads ins = map (λ (i : InEdge). received i.head) ins

heads-took : (ins : List InEdge) (i : ℕ) (e d : InEdge) (m : Msg) → i < length ins → received e.head ≡ received (get_or ins i d).head ++ m ∷ [] → heads (set ins i e) ≡ put i m (heads ins)
heads-took [] i e d m lt is = absurd (omega arith)
heads-took (x ∷ ins) zero e d m lt is = ap (λ (l : List Msg). l ∷ heads ins) is
heads-took (x ∷ ins) (suc i) e d m lt is = ap (λ (ls : Lists). received x.head ∷ ls) (heads-took ins i e d m (omega arith) is)

heads-same : (ins : List InEdge) (i : ℕ) (e d : InEdge) → i < length ins → received e.head ≡ received (get_or ins i d).head → heads (set ins i e) ≡ heads ins
heads-same [] i e d lt is = refl
heads-same (x ∷ ins) zero e d lt is = ap (λ (l : List Msg). l ∷ heads ins) is
heads-same (x ∷ ins) (suc i) e d lt is = ap (λ (ls : Lists). received x.head ∷ ls) (heads-same ins i e d (omega arith) is)

-- where a message was taken from an input, it is put behind those that were received there
pub received_of-took : (ins : List InEdge) (source : List Msg) (i : ℕ) (e d : InEdge) (m : Msg) → i < length ins → received e.head ≡ received (get_or ins i d).head ++ m ∷ [] → received_of (set ins i e) source ≡ put i m (received_of ins source)
received_of-took [] source i e d m lt is = absurd (omega arith)
received_of-took (x ∷ ins) source zero e d m lt is = heads-took (x ∷ ins) zero e d m lt is
received_of-took (x ∷ ins) source (suc i) e d m lt is = heads-took (x ∷ ins) (suc i) e d m lt is

-- where an input has the same received messages, all lists are the same
pub received_of-same : (ins : List InEdge) (source : List Msg) (i : ℕ) (e d : InEdge) → i < length ins → received e.head ≡ received (get_or ins i d).head → received_of (set ins i e) source ≡ received_of ins source
received_of-same [] source i e d lt is = absurd (omega arith)
received_of-same (x ∷ ins) source zero e d lt is = heads-same (x ∷ ins) zero e d lt is
received_of-same (x ∷ ins) source (suc i) e d lt is = heads-same (x ∷ ins) (suc i) e d lt is

heads-length : (ins : List InEdge) → length (heads ins) ≡ length ins
heads-length [] = refl
heads-length (x ∷ ins) = ap suc (heads-length ins)

received_of-length : (ins : List InEdge) (source : List Msg) → length ins ≤ length (received_of ins source)
received_of-length [] source = omega arith
received_of-length (x ∷ ins) source = let h : length (heads ins) ≡ length ins = heads-length ins in omega (arith, h)

module _ {N P S : Type 0} (g : Ghosts N P S) where
  -- there are as many buffers as lists of received messages
  pub buffer-length : {base : Core N} {lists buffer : Lists} {c : Core N} → KeptBy g base lists buffer c → length buffer ≡ length lists
  buffer-length k = merges-length k.merged

  -- an input is one of the buffer's parents
  pub input-within : (base : Core N) (ins : List InEdge) (source : List Msg) (buffer : Lists) (c : Core N) (i : ℕ) → KeptBy g base (received_of ins source) buffer c → i < length ins → i < length buffer
  input-within base ins source buffer c i k lt =
      let a : length buffer ≡ length (received_of ins source) = merges-length k.merged in
      let b : length ins ≤ length (received_of ins source) = received_of-length ins source in
      omega (arith, a, b, lt)

  -- a core that keeps what a cell keeps has at most as many buffers as its node has ports
  pub ports-of : (base : Core N) (lists buffer : Lists) (c : Core N) → KeptBy g base lists buffer c → length buffer ≤ g.ports (g.spec c.node)
  ports-of base lists buffer c k = subst (λ (p : P). length buffer ≤ g.ports p) (sym k.at.spec) k.ports

  -- a message came, and all that was then determined was handled
  pub kept-take : (base : Core N) (lists buffer buffer' : Lists) (c c' : Core N) (i : ℕ) (m : Msg) → KeptBy g base lists buffer c → Handles g c (put i m buffer) c' buffer' → next buffer' ≡ None → KeptBy g base (put i m lists) buffer' c'
  kept-take base lists buffer buffer' c c' i m k h stuck =
      let step = g.step (g.spec base.node) in
      let first = begun (g.state base.node) base.passed in
      let Goal : P → Type 0 = λ p. IsAt g p (run (g.step p) (run_of g base k.handled) h.handled) c' in
      let Here : P → Type 0 = λ p. IsAt g p (run_of g base k.handled) c in
      let later : Goal (g.spec c.node) = h.at (run_of g base k.handled) (subst Here (sym k.at.spec) k.at) in
      let here : Goal (g.spec base.node) = subst Goal k.at.spec later in
      let long : length buffer' ≡ length buffer = merges-length h.merged ∙ put-length i m buffer in
      let bound : length buffer ≤ g.ports (g.spec base.node) = k.ports in
      record {
        handled = k.handled ++ h.handled;
        merged = merges-trans (merges-put i m k.merged) h.merged;
        stuck = stuck;
        at = subst (λ (r : Run S). IsAt g (g.spec base.node) r c') (sym (run-append step first k.handled h.handled)) here;
        ports = omega (arith, long, bound);
        keeps = h.keeps ∙ k.keeps;
      }

  -- where the state at the last barrier is spelled anew if it is the node's, and stays if it was spelled, it is spelled
  pub spelled_state : (p : P) (r : Run S) (c : Core N) (saved : List ℕ) → IsAt g p r c → c.keeps ≡ true → (c.clean ≡ true → Spells g (g.spec c.node) (g.state c.node) saved) → (c.clean ≡ false → saved ≡ c.saved) → Spells g p r.saved saved
  spelled_state p r c saved at keeps anew same = cases c.clean refl
    where
      cases : (b : Bool) → c.clean ≡ b → Spells g p r.saved saved
      cases true is =
          let s : Spells g (g.spec c.node) (g.state c.node) saved = anew is in
          let state : g.state c.node ≡ r.saved = at.state ∙ sym (at.still is) in
          subst (λ (x : S). Spells g p x saved) state (subst (λ (q : P). Spells g q (g.state c.node) saved) at.spec s)
      cases false is = subst (Spells g p r.saved) (sym (same is)) (at.saved keeps is)

  -- what was given out stays given out
  pub kept-outs : (base : Core N) (lists buffer : Lists) (c c' : Core N) → (k : KeptBy g base lists buffer c) → c'.node ≡ c.node → c'.gathered ≡ c.gathered → c'.effects ≡ c.effects → c'.saved ≡ c.saved → c'.passed ≡ c.passed → c'.clean ≡ c.clean → c'.keeps ≡ c.keeps
      → ((given : List Msg) → Each (IsGiven given) c.outs.items → Each (IsGiven given) c'.outs.items) → KeptBy g base lists buffer c'
  kept-outs base lists buffer c c' k node gathered effects saved passed clean keeps outs = record {
    handled = k.handled;
    merged = k.merged;
    stuck = k.stuck;
    at = record {
      spec = ap g.spec node ∙ k.at.spec;
      state = ap g.state node ∙ k.at.state;
      outs = outs (run_of g base k.handled).outs k.at.outs;
      effects = cc (k.at.effects);
      passed = passed ∙ k.at.passed;
      clean = clean ∙ k.at.clean;
      still = λ is. k.at.still (sym clean ∙ is);
      saved = λ does is. subst (Spells g (g.spec base.node) (run_of g base k.handled).saved) (sym saved) (k.at.saved (sym keeps ∙ does) (sym clean ∙ is));
    };
    ports = k.ports;
    keeps = keeps ∙ k.keeps;
  }

-- ---- places

-- an input that is as it was is one from which nothing was taken
pub Still-refl : (e : InEdge) → Still e e
Still-refl e = record { head = HeadLooked-refl e.head; from = refl; out = refl }

-- an out that is as it was is one on which nothing was put
pub Eases-refl : (o : OutEdge) → Eases o o
Eases-refl o = record { tail = TailLooked-refl o.tail; unsent = refl; child = refl; input = refl }

-- the element that was put at a place stands there
pub get-set : {A : Type 0} (xs : List A) (i : ℕ) (y : A) → i < length xs → slice_get (set xs i y) i ≡ Some y
get-set [] i y lt = absurd (omega arith)
get-set (x ∷ xs) zero y lt = refl
get-set (x ∷ xs) (suc i) y lt = get-set xs i y (omega arith)

-- where two elements are found as one, they are the same
pub some-value : {A : Type 0} (x y : A) → ◌≡◌ {A = Option A} (Some x) (Some y) → x ≡ y
some-value x y e = cc

-- what holds of the element that was put at a place holds of what stands there
pub at-set : {A : Type 0} (P : A → Type 0) (xs : List A) (i : ℕ) (y : A) → i < length xs → P y → (z : A) → slice_get (set xs i y) i ≡ Some z → P z
at-set P xs i y lt h z e = subst P (some-value y z (sym (get-set xs i y lt) ∙ e)) h

-- ---- what was given out

-- the first message that waited was put: what was given out is the same
pub given-sent : (given : List Msg) (a b : OutEdge) → SendsOn a b → IsGiven given a → IsGiven given b
given-sent given a b s h =
    ap (λ (l : List Msg). l ++ b.unsent) s.put.sent ∙ append_assoc (sent a.tail) (s.msg ∷ []) b.unsent ∙ ap (λ (l : List Msg). sent a.tail ++ l) (sym s.unsent) ∙ h

-- what was given out is the same behind a look at an out
pub given-looked : (given : List Msg) (a b : OutEdge) → LooksOn a b → IsGiven given a → IsGiven given b
given-looked given a b s h = ap (λ (l : List Msg). l ++ b.unsent) s.tail.sent ∙ ap (λ (l : List Msg). sent a.tail ++ l) s.unsent ∙ h
