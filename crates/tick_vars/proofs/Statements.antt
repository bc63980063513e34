-- What statements do is what their events do.
use Rattle.std.proofs.Common.{◌≡◌, ℕ, ◌+◌, Bool, true, false, cond, ◌||◌, List, [], ◌∷◌, ◌++◌, length, Option, Some, None, Result, Ok, Err, refl, sym, ap, subst, ◌∙◌, arith}
use Rattle.std.specs.Prelude.{is_some, bytes_eq}
use Rattle.kap_base.proofs.TestLaws.{bind_ok, ok_is}
use Rattle.kap_base.specs.Words.{◌>>=◌}
use Rattle.std.proofs.lemmas.List.{append-nil, append_assoc}
use Rattle.std.proofs.lemmas.Slice.Eq.{bytes_eq-Decides}
use Rattle.tick_parser.specs.Trees.{ValTree, ChainVal, StmtTree, VarStmt, DbrpStmt, ChainStmt}
use Rattle.tick_vars.specs.declared.fault.VarFault.{VarFault}
use Rattle.tick_vars.specs.declared.fault.VarFault.TheVariants.{Twice}
use Rattle.tick_vars.specs.Nodes.{ArgTree}
use Rattle.tick_vars.specs.Names.{Scope, is_batch, is_taken, with_name}
use Rattle.tick_vars.specs.Binding.{WithNodes, Progress, bound_stmt, bound_stmts, bound_val}
use Rattle.tick_vars.specs.Law.{OnName, Event, DeclaresName, UsesValue, NamesDbrp, Settled, all_done, dbrps_seen, done_along, done_by, done_in, in_the_end, pipes_along, pipes_in, pipes_of, written_val}
use Rattle.tick_vars.proofs.Steps.{Extends}
use Rattle.tick_vars.proofs.Quiet.{dbrps_append, quiet_along, quiet_dbrps, quiet_in, quiet_scope, scope_append}
use Rattle.tick_vars.proofs.Simulation.{Done, InScope, done_both, done_nothing, length_done, scope_more, arg_settled, val_done}

-- a name that is new
fresh : (batch : Bool) (there : Option ArgTree) → (batch || is_some there) ≡ false → there ≡ None
fresh true there is = absurd cc
fresh false None is = refl
fresh false (Some arg) is = absurd cc

with_name_extends : (s : Scope) (name : List ℕ) (arg : ArgTree) → s name ≡ None → Extends s (with_name name arg s)
with_name_extends s name arg none other told is =
    elim (bytes_eq name other) as (λ b. bytes_eq name other ≡ b → cond b (Some arg) (s other) ≡ Some told) [
      | true ↦ λ e. let same : name ≡ other = (bytes_eq-Decides name other).0 e in let told_none : s other ≡ None = subst (λ n. s n ≡ None) same none in absurd cc
      | false ↦ λ e. is
    ] refl

pub with_name_scope : (k : ℕ) (s : Scope) (name : List ℕ) (arg : ArgTree) → InScope k s → Settled k arg → InScope k (with_name name arg s)
with_name_scope k s name arg ins settled other told =
    elim (bytes_eq name other) as (λ b. cond b (Some arg) (s other) ≡ Some told → Settled k told) [
      | true ↦ λ e. let same : arg ≡ told = cc in subst (Settled k) same settled
      | false ↦ λ e. ins other told e
    ]

-- a `var` that was bound
pub declared_ok : (s s' : Progress) (name : List ℕ) (value : ValTree) (at : ℕ) → bound_stmt s (VarStmt name value at) ≡ Ok s'
    → (made : WithNodes ArgTree) × (bound_val s.scope s.nodes value ≡ Ok made) × (s.scope name ≡ None) × (record { scope = with_name name made.value s.scope; nodes = made.nodes; dbrps = s.dbrps } ≡ s') × (is_taken s.scope name ≡ false)
declared_ok s s' name value at is =
    let rest : Result Progress VarFault = bound_val s.scope s.nodes value >>= λ made. Ok (record { scope = with_name name made.value s.scope; nodes = made.nodes; dbrps = s.dbrps }) in
    let free : (is_taken s.scope name ≡ false) × (rest ≡ Ok s') =
    elim (is_taken s.scope name) as (λ b. cond b (Err (Twice at)) rest ≡ Ok s' → (b ≡ false) × (rest ≡ Ok s')) [ true ↦ λ e. absurd cc | false ↦ λ e. (refl, e) ] is in
    let a = bind_ok (bound_val s.scope s.nodes value) (λ made. Ok (record { scope = with_name name made.value s.scope; nodes = made.nodes; dbrps = s.dbrps })) s' free.1 in
    (a.0, a.1, fresh (is_batch name) (s.scope name) free.0, ok_is _ s' a.2, free.0)

pub stmt_extends : (s s' : Progress) (stmt : StmtTree) → bound_stmt s stmt ≡ Ok s' → Extends s.scope s'.scope
stmt_extends s s' (VarStmt name value at) is =
    let d = declared_ok s s' name value at is in
    subst (λ (x : Progress). Extends s.scope x.scope) d.3 (with_name_extends s.scope name (d.0).value d.2)
stmt_extends s s' (DbrpStmt db rp at) is = subst (λ (x : Progress). Extends s.scope x.scope) (ok_is _ s' is) (λ name arg told. told)
stmt_extends s s' (ChainStmt head links at) is =
    let a = bind_ok (bound_val s.scope s.nodes (ChainVal head links at)) (λ made. Ok (record s { nodes = made.nodes })) s' is in
    subst (λ (x : Progress). Extends s.scope x.scope) (ok_is _ s' a.2) (λ name arg told. told)

pub stmts_extend : (script : List StmtTree) (s s' : Progress) → bound_stmts s script ≡ Ok s' → Extends s.scope s'.scope
stmts_extend [] s s' is = subst (λ (x : Progress). Extends s.scope x.scope) (ok_is s s' is) (λ name arg told. told)
stmts_extend (stmt ∷ script) s s' is =
    let a = bind_ok (bound_stmt s stmt) (λ x. bound_stmts x script) s' is in
    λ name arg told. stmts_extend script a.0 s' a.2 name arg (stmt_extends s a.0 stmt a.1 name arg told)

pub record StmtsDone (f : Scope) (next count : ℕ) (events : List Event) (s s' : Progress) : Type 0 where
  pub scope_is : s'.scope ≡ in_the_end s.scope events
  pub dbrps_are : s'.dbrps ≡ s.dbrps ++ dbrps_seen events
  pub in_scope : InScope (next + count) s'.scope
  pub done : Done f next count events s.nodes s'.nodes

pub stmt_done : (f : Scope) (s s' : Progress) (stmt : StmtTree) (next : ℕ) → Extends s.scope f → InScope next s.scope → length s.nodes ≡ next → bound_stmt s stmt ≡ Ok s'
    → StmtsDone f next (pipes_of stmt) (done_by next stmt) s s'
stmt_done f s s' (VarStmt name value at) next ext ins len is =
    let d = declared_ok s s' name value at is in
    let count = pipes_in value in
    let src = written_val next value in
    let here = val_done s.scope s.scope (λ n a told. told) value next s.nodes d.0 ins len d.1 in
    let v = val_done s.scope f ext value next s.nodes d.0 ins len d.1 in
    let last : List Event = DeclaresName name src ∷ [] in
    let scope : with_name name (d.0).value s.scope ≡ in_the_end s.scope (done_in next value ++ last) =
    ap (λ x. with_name name x s.scope) here.0 ∙ sym (scope_append s.scope (done_in next value) last ∙ ap (λ x. in_the_end x last) (quiet_scope s.scope (done_in next value) (quiet_in value next))) in
    let dbrps : s.dbrps ≡ s.dbrps ++ dbrps_seen (done_in next value ++ last) =
    sym (ap (λ l. s.dbrps ++ l) (dbrps_append (done_in next value) last ∙ ap (λ l. l ++ []) (quiet_dbrps (done_in next value) (quiet_in value next))) ∙ append-nil s.dbrps) in
    let settled : Settled (next + count) (d.0).value = subst (Settled (next + count)) (sym here.0) (arg_settled s.scope (next + count) src here.1) in
    let tail : Done f (next + count) 0 last (d.0).nodes (d.0).nodes = record { after_is = refl; counted = refl; stands = (v.1, tt) } in
    subst (λ x. StmtsDone f next count (done_in next value ++ last) s x) d.3 (record {
      scope_is = scope;
      dbrps_are = dbrps;
      in_scope = with_name_scope (next + count) s.scope name (d.0).value (scope_more next (next + count) s.scope (omega arith) ins) settled;
      done = done_both f next count 0 count (done_in next value) last s.nodes (d.0).nodes (d.0).nodes (omega arith) v.2 tail;
    })
stmt_done f s s' (DbrpStmt db rp at) next ext ins len is =
    subst (λ x. StmtsDone f next 0 (NamesDbrp (record { db = db; rp = rp }) ∷ []) s x) (ok_is (record s { dbrps = s.dbrps ++ record { db = db; rp = rp } ∷ [] }) s' is) (record {
      scope_is = refl;
      dbrps_are = refl;
      in_scope = scope_more next (next + 0) s.scope (omega arith) ins;
      done = record { after_is = refl; counted = refl; stands = tt };
    })
stmt_done f s s' (ChainStmt head links at) next ext ins len is =
    let chain = ChainVal head links at in
    let a = bind_ok (bound_val s.scope s.nodes chain) (λ made. Ok (record s { nodes = made.nodes })) s' is in
    let v = val_done s.scope f ext chain next s.nodes a.0 ins len a.1 in
    let events = done_along next (OnName head) links in
    let last : List Event = UsesValue (written_val next chain) ∷ [] in
    let quiet = quiet_along links next (OnName head) in
    let count = pipes_along links in
    let dbrps : dbrps_seen (events ++ last) ≡ [] = dbrps_append events last ∙ ap (λ l. l ++ []) (quiet_dbrps events quiet) in
    let tail : Done f (next + count) 0 last (a.0).nodes (a.0).nodes = record { after_is = refl; counted = refl; stands = (v.1, tt) } in
    subst (λ x. StmtsDone f next count (events ++ last) s x) (ok_is (record s { nodes = (a.0).nodes }) s' a.2) (record {
      scope_is = sym (scope_append s.scope events last ∙ quiet_scope s.scope events quiet);
      dbrps_are = sym (ap (λ l. s.dbrps ++ l) dbrps ∙ append-nil s.dbrps);
      in_scope = scope_more next (next + count) s.scope (omega arith) ins;
      done = done_both f next count 0 count events last s.nodes (a.0).nodes (a.0).nodes (omega arith) v.2 tail;
    })

pub pipes_in_all : List StmtTree → ℕ
pipes_in_all [] = 0
pipes_in_all (stmt ∷ script) = pipes_of stmt + pipes_in_all script

pub stmts_done : (f : Scope) (script : List StmtTree) (s s' : Progress) (next : ℕ) → Extends s'.scope f → InScope next s.scope → length s.nodes ≡ next → bound_stmts s script ≡ Ok s'
    → StmtsDone f next (pipes_in_all script) (all_done next script) s s'
unfolding pipes_in_all
stmts_done f [] s s' next ext ins len is = subst (λ x. StmtsDone f next 0 [] s x) (ok_is s s' is) (record {
  scope_is = refl;
  dbrps_are = sym (append-nil s.dbrps);
  in_scope = scope_more next (next + 0) s.scope (omega arith) ins;
  done = done_nothing f next s.nodes s.nodes refl;
})
stmts_done f (stmt ∷ script) s s' next ext ins len is =
    let a = bind_ok (bound_stmt s stmt) (λ x. bound_stmts x script) s' is in
    let mid = a.0 in
    let then = next + pipes_of stmt in
    let es = done_by next stmt in
    let fs = all_done then script in
    let one = stmt_done f s mid stmt next (λ name arg told. ext name arg (stmts_extend script mid s' a.2 name arg (stmt_extends s mid stmt a.1 name arg told))) ins len a.1 in
    let two = stmts_done f script mid s' then ext one.in_scope (length_done f next (pipes_of stmt) es s.nodes mid.nodes one.done len) a.2 in
    record {
      scope_is = two.scope_is ∙ ap (λ x. in_the_end x fs) one.scope_is ∙ sym (scope_append s.scope es fs);
      dbrps_are = two.dbrps_are ∙ ap (λ l. l ++ dbrps_seen fs) one.dbrps_are ∙ append_assoc s.dbrps (dbrps_seen es) (dbrps_seen fs) ∙ sym (ap (λ l. s.dbrps ++ l) (dbrps_append es fs));
      in_scope = scope_more (then + pipes_in_all script) (next + (pipes_of stmt + pipes_in_all script)) s'.scope (omega arith) two.in_scope;
      done = done_both f next (pipes_of stmt) (pipes_in_all script) (pipes_of stmt + pipes_in_all script) es fs s.nodes mid.nodes s'.nodes refl one.done two.done;
    }
