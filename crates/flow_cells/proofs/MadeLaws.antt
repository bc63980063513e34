-- A cell that begins keeps what a cell keeps.
use Rattle.std.proofs.Common.{◌≡◌, ℕ, zero, suc, ◌≤◌, List, [], ◌∷◌, ◌++◌, length, map, replicate, None, refl, sym, ap, subst, ◌∙◌, arith}
use Rattle.std.proofs.lemmas.List.{length-replicate}
use Rattle.std.specs.List.{AllByRecursion as Each}
use Rattle.kap_base.specs.declared.items.Msg.{Msg}
use Rattle.node_core.specs.declared.node.Node.{Ghosts}
use Rattle.merge_node.specs.Merge.{Lists, Entry}
use Rattle.merge_node.specs.Buffers.{Merges, done, more, next}
use Rattle.edge_queue.specs.Edges.{received}
use Rattle.flow_cells.specs.declared.parts.OutEdge.{OutEdge}
use Rattle.flow_cells.specs.declared.parts.InEdge.{InEdge}
use Rattle.flow_cells.specs.declared.parts.Core.{Core}
use Rattle.flow_cells.specs.Runs.{begun}
use Rattle.flow_cells.specs.Kept.{IsAt, IsGiven, KeptBy, Spells, received_of, run_of}
use Rattle.flow_cells.specs.Made.{IsFresh, IsMade, IsNothing, IsUnused, one_or_more}

fresh-heads : (ins : List InEdge) → Each IsFresh ins → map (λ (i : InEdge). received i.head) ins ≡ replicate (length ins) []
fresh-heads [] h = refl
fresh-heads (e ∷ ins) h =
    ap (λ (l : List Msg). l ∷ map (λ (i : InEdge). received i.head) ins) h.0 ∙ ap (λ (ls : Lists). [] ∷ ls) (fresh-heads ins h.1)

-- nothing was received
pub fresh-received : (ins : List InEdge) → Each IsFresh ins → received_of ins [] ≡ replicate (one_or_more (length ins)) []
fresh-received [] h = refl
fresh-received (e ∷ ins) h = fresh-heads (e ∷ ins) h

fresh-none : (ins : List InEdge) → Each IsFresh ins → Each IsNothing (map (λ (i : InEdge). received i.head) ins)
fresh-none [] h = tt
fresh-none (e ∷ ins) h = (h.0, fresh-none ins h.1)

-- where no input received a message, and a load has none, no list has one
pub nothing-received : (ins : List InEdge) (source : List Msg) → Each IsFresh ins → source ≡ [] → Each IsNothing (received_of ins source)
nothing-received [] source h e = (e, tt)
nothing-received (x ∷ ins) source h e = fresh-none (x ∷ ins) h

-- empty buffers have no message
pub nothing-buffered : (n : ℕ) → Each IsNothing (replicate n [])
nothing-buffered zero = tt
nothing-buffered (suc n) = (refl, nothing-buffered n)

-- where all buffers are empty, no message is next
pub some-parents : (n : ℕ) → next (replicate (one_or_more n) []) ≡ None
unfolding next
some-parents zero = refl
some-parents (suc n) = refl

parents-length : (n : ℕ) (ls : Lists) → ls ≡ replicate (one_or_more n) [] → length ls ≡ one_or_more n
parents-length n ls e = ap length e ∙ length-replicate (one_or_more n) []

-- where nothing was received, nothing is determined, and nothing was handled
empty-next : (l : List Msg) (ls : Lists) → l ≡ [] → next (l ∷ ls) ≡ None
unfolding next
empty-next l ls e = subst (λ (x : List Msg). next (x ∷ ls) ≡ None) (sym e) refl

received-next : (ins : List InEdge) (source : List Msg) → Each IsNothing (received_of ins source) → next (received_of ins source) ≡ None
received-next [] source h = empty-next source [] h.0
received-next (e ∷ ins) source h = empty-next (received e.head) (map (λ (i : InEdge). received i.head) ins) h.0

merges-nothing : (ls left : Lists) (ms : List Entry) → next ls ≡ None → Merges ls ms left → ms ≡ []
merges-nothing ls left ms stuck done = refl
merges-nothing ls left ms stuck (more t e h) = absurd cc

unused-given : (o : OutEdge) → IsUnused o → IsGiven [] o
unused-given o u = ap (λ (l : List Msg). l ++ o.unsent) u.0 ∙ u.1

each-push : {A : Type 0} (Q : A → Type 0) (xs : List A) (y : A) → Each Q xs → Q y → Each Q (xs ++ y ∷ [])
each-push Q [] y h q = (q, tt)
each-push Q (x ∷ xs) y h q = (h.0, each-push Q xs y h.1 q)

module _ {N P S : Type 0} (g : Ghosts N P S) where
  -- the core of a cell that is made stands where its run begins
  made-at : (stamp : ℕ) (n : N) (c base : Core N) → base ≡ c → IsMade g stamp n c → IsAt g (g.spec base.node) (begun (g.state base.node) base.passed) c
  made-at stamp n c base same m = subst (λ (b : Core N). IsAt g (g.spec b.node) (begun (g.state b.node) b.passed) c) (sym same) (record {
    spec = refl;
    state = refl;
    outs = subst (Each (IsGiven [])) (sym m.outs) tt;
    effects = m.effects;
    passed = refl;
    clean = m.clean;
    still = λ _. refl;
    saved = λ keeps _. (let never = m.keeps in absurd cc);
  })

  -- the core of a cell that is made keeps what a cell keeps
  pub made-keeps : (stamp : ℕ) (n : N) (c base : Core N) (ins : List InEdge) (source : List Msg) (buffer : Lists) → base ≡ c → IsMade g stamp n c → Each IsFresh ins → source ≡ [] → buffer ≡ replicate (one_or_more (length ins)) [] → one_or_more (length ins) ≤ g.ports (g.spec n) → KeptBy g base (received_of ins source) buffer c
  made-keeps stamp n c base ins source buffer same m fresh none is ports =
      let lists : received_of ins source ≡ replicate (one_or_more (length ins)) [] = ap (received_of ins) none ∙ fresh-received ins fresh in
      let node : base.node ≡ n = ap (λ (b : Core N). b.node) same ∙ m.node in
      let long : length buffer ≡ one_or_more (length ins) = parents-length (length ins) buffer is in
      record {
        handled = [];
        merged = subst (λ (ls : Lists). Merges ls [] buffer) (is ∙ sym lists) done;
        stuck = subst (λ (ls : Lists). next ls ≡ None) (sym is) (some-parents (length ins));
        at = made-at stamp n c base same m;
        ports = subst (λ (x : N). length buffer ≤ g.ports (g.spec x)) (sym node) (omega (arith, long, ports));
        keeps = ap (λ (b : Core N). b.keeps) (sym same);
      }

  -- an out more, where nothing was received since the load
  pub out-keeps : (base : Core N) (ins : List InEdge) (source : List Msg) (buffer : Lists) (c c' : Core N) (o : OutEdge) → KeptBy g base (received_of ins source) buffer c → Each IsNothing (received_of ins source) → IsUnused o
      → c'.node ≡ c.node → c'.gathered ≡ c.gathered → c'.effects ≡ c.effects → c'.saved ≡ c.saved → c'.passed ≡ c.passed → c'.clean ≡ c.clean → c'.keeps ≡ c.keeps → c'.outs.items ≡ c.outs.items ++ o ∷ [] → KeptBy g base (received_of ins source) buffer c'
  out-keeps base ins source buffer c c' o k nothing unused node gathered effects saved passed clean keeps outs =
      let none : k.handled ≡ [] = merges-nothing (received_of ins source) buffer k.handled (received-next ins source nothing) k.merged in
      let at : IsAt g (g.spec base.node) (run_of g base []) c = subst (λ (ms : List Entry). IsAt g (g.spec base.node) (run_of g base ms) c) none k.at in
      record {
        handled = [];
        merged = subst (λ (ms : List Entry). Merges (received_of ins source) ms buffer) none k.merged;
        stuck = k.stuck;
        at = record {
          spec = ap g.spec node ∙ at.spec;
          state = ap g.state node ∙ at.state;
          outs = subst (Each (IsGiven [])) (sym outs) (each-push (IsGiven []) c.outs.items o at.outs (unused-given o unused));
          effects = cc (at.effects);
          passed = passed ∙ at.passed;
          clean = clean ∙ at.clean;
          still = λ is. at.still (sym clean ∙ is);
          saved = λ does is. subst (Spells g (g.spec base.node) (run_of g base []).saved) (sym saved) (at.saved (sym keeps ∙ does) (sym clean ∙ is));
        };
        ports = k.ports;
        keeps = keeps ∙ k.keeps;
      }
