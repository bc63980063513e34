use Rattle.std.proofs.Common.{ℕ, ◌+◌, [], ◌∷◌, ◌++◌, length, ap, subst, ◌∙◌}
use Rattle.effect_text.specs.declared.names.TaskNames.{TaskNames}
use Rattle.flow_core.specs.Nets.{numbers_of}
use Rattle.net_epochs.proofs.StandLaws.{net_begun}
use Rattle.net_epochs.specs.Epochs.{StandsAt}
use Rattle.std.specs.Prelude.{None}
use Rattle.task_run.specs.Courses.{begun}
use Rattle.tick_compile.specs.declared.tasks.Task.{Task}
use Rattle.engine_runs.specs.Scripts.{life_names, life_nodes}
use Rattle.engine_runs.proofs.RestedLaws.{begun_rest}
use Rattle.engine_runs.proofs.TurnLaws.{begun_numbers, numbers_under}
use Rattle.engine_runs.proofs.turning.begin_life.Goals as goal

pub returns-clause-numbers : goal.returns-clause-numbers
returns-clause-numbers g c =
    begun_numbers g.N.Node c.args.net.now.last.0 c.in-Ok.made.1 c.args.net.now.lives c.begin.new.self.lives c.in_ok-begin.ensures.begins
    ∙ ap (λ (n : ℕ). numbers_of c.args.net.now.lives ++ n ∷ []) (c.in-Ok.ensures.planned.number_is ∙ c.in-Some.ensures ∙ ap (λ (i : ℕ). i + 1) (c.len.ensures ∙ c.args.names.now.ok.0))

pub returns-clause-stands : goal.returns-clause-stands
returns-clause-stands g c = λ k courses task accepted s below.
    let p = c.in-Ok.ensures.planned in
    let life = c.args.life.now in
    let same = c.in-Some.ensures ∙ ap (λ (i : ℕ). i + 1) (c.len.ensures ∙ c.args.names.now.ok.0) in
    let number = p.number_is ∙ same in
    subst (λ ns. StandsAt g.N.Node k (courses ++ begun k ns ∷ []) c.begin.new.self)
    (p.nodes ∙ ap (λ (n : ℕ). life_nodes g.N.ScriptNode.planned n life p.task) same ∙ ap (λ (t : Task). life_nodes g.N.ScriptNode.planned (length c.args.names.now.items + 1) life t) (c.scripts_have_one_answer.ensures.task None life.script p.task task p.accepted accepted))
    (net_begun g.N.Node k c.in-Ok.made.1 courses c.args.net.now c.begin.new.self s c.in_ok-begin.ensures.begins p.begins c.in-Ok.ensures.plan (numbers_under c.in-Ok.made.1.life (length c.args.names.now.items) (numbers_of c.args.net.now.lives) number below) c.in_ok-begin.ensures.rest c.in_ok-begin.ensures.gathered c.in_ok-begin.ensures.last c.in_ok-begin.ensures.spent)

pub returns-clause-names : goal.returns-clause-names
returns-clause-names g c = λ task accepted.
    let p = c.in-Ok.ensures.planned in
    c.in_ok-push.ensures.items ∙ ap (λ (n : TaskNames). c.args.names.now.items ++ n ∷ []) (p.names_are ∙ ap (λ (t : Task). life_names c.args.life.now t) (c.scripts_have_one_answer.ensures.task None c.args.life.now.script p.task task p.accepted accepted))

pub returns-clause-rested : goal.returns-clause-rested
returns-clause-rested g c = begun_rest g.N.Node c.in-Ok.made.1 c.args.net.now c.begin.new.self c.in_ok-begin.ensures.begins c.in-Ok.ensures.planned.begins c.in_ok-begin.ensures.last
