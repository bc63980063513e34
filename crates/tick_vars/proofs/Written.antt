-- A script without faults is bound as it is written.
use Rattle.std.proofs.Common.{◌≡◌, ℕ, List, [], ◌∷◌, length, None, Ok, refl, sym, ap, ◌∙◌, arith}
use Rattle.std.specs.Prelude.{codes}
use Rattle.kap_base.proofs.TestLaws.{bind_ok, ok_is}
use Rattle.tick_parser.specs.Trees.{StmtTree}
use Rattle.tick_vars.specs.Nodes.{NodeArg, PropTree, NodeTree, BoundTree}
use Rattle.tick_vars.specs.Names.{Scope, first_scope}
use Rattle.tick_vars.specs.Binding.{Progress, at_first, bound_of, bound_stmts, stream_node}
use Rattle.tick_vars.specs.Law.{Event, IsSettled, as_written, dbrps_seen, events_of, in_the_end, nodes_made, props_on}
use Rattle.tick_vars.proofs.Statements.{StmtsDone, pipes_in_all, stmts_done, with_name_scope}
use Rattle.tick_vars.proofs.Simulation.{InScope}
use Rattle.tick_vars.proofs.Gathering.{gathered}
use Rattle.tick_vars.proofs.Settling.{length_made, nodes_settled, props_settled}

pub first_in_scope : InScope 1 first_scope
first_in_scope = with_name_scope 1 (λ _. None) (codes "stream") (NodeArg 0 0) (λ name arg told. absurd cc) (omega arith)

-- the end of a script that was bound
record Ended (script : List StmtTree) (bound : BoundTree) : Type 0 where
  progress : Progress
  bound_is : record { dbrps = progress.dbrps; nodes = progress.nodes } ≡ bound
  done : StmtsDone progress.scope 1 (pipes_in_all script) (events_of script) at_first progress

ended : (script : List StmtTree) (bound : BoundTree) → bound_of script ≡ Ok bound → Ended script bound
ended script bound is =
    let a = bind_ok (bound_stmts at_first script) (λ s. Ok (record { dbrps = s.dbrps; nodes = s.nodes })) bound is in
    record {
      progress = a.0;
      bound_is = ok_is (record { dbrps = (a.0).dbrps; nodes = (a.0).nodes }) bound a.2;
      done = stmts_done (a.0).scope script at_first a.0 1 (λ name arg told. told) first_in_scope refl a.1;
    }

-- all nodes, where names stand for this
abbrev nodes_of : Scope → List Event → List NodeTree
nodes_of f events = record stream_node { props = props_on f 0 events } ∷ nodes_made f (λ number. props_on f number events) 1 events

ended_nodes : (script : List StmtTree) (bound : BoundTree) (e : Ended script bound) → bound.nodes ≡ nodes_of (e.progress).scope (events_of script)
ended_nodes script bound e =
    let d = e.done in
    sym (ap (λ b. b.nodes) e.bound_is) ∙ (d.done).after_is ∙ gathered (e.progress).scope (events_of script) 1 (stream_node ∷ []) refl (d.done).stands

pub written : (script : List StmtTree) (bound : BoundTree) → bound_of script ≡ Ok bound → bound ≡ as_written script
written script bound is =
    let e = ended script bound is in
    let d = e.done in
    let dbrps : bound.dbrps ≡ dbrps_seen (events_of script) = sym (ap (λ b. b.dbrps) e.bound_is) ∙ d.dbrps_are in
    let nodes : bound.nodes ≡ nodes_of (in_the_end first_scope (events_of script)) (events_of script) = ended_nodes script bound e ∙ ap (λ f. nodes_of f (events_of script)) d.scope_is in
    λ i. record { dbrps = dbrps i; nodes = nodes i }

pub settled : (script : List StmtTree) (bound : BoundTree) → bound_of script ≡ Ok bound → IsSettled bound
settled script bound is =
    let e = ended script bound is in
    let d = e.done in
    let f = (e.progress).scope in
    let events = events_of script in
    let props : ℕ → List PropTree = λ number. props_on f number events in
    let nodes = ended_nodes script bound e in
    let many = length_made f props 1 events in
    let count : length bound.nodes ≡ length (nodes_of f events) = ap length nodes in
    let all = λ (number : ℕ). props_settled f (length bound.nodes) number 1 events (omega arith) (d.done).stands in
    record {
      props = props 0;
      others = nodes_made f props 1 events;
      nodes = nodes;
      stream = all 0;
      settled = nodes_settled f props (length bound.nodes) 1 events all (d.done).stands;
    }
