use Rattle.std.proofs.Common.{◌<◌, ◌≤◌, length, arith}
use Rattle.flow_core.proofs.DoneLaws.{gathers_none, lives_behind, lives_here}
use Rattle.kap_base.proofs.ResultLaws.{on_ok}
use Rattle.flow_core.specs.Nets.{cell_of}
use Rattle.flow_core.proofs.LivesLaws.{enabled_behind, enabled_here, grows_behind, grows_here, if_ok, if_ok_with, kept_behind, kept_here, never_here}
use Rattle.flow_core.proofs.RunningLaws.{same_behind, same_here}
use Rattle.flow_core.proofs.lives.+step.Goals as goal

pub returns-then-cell_of-cells-clause-yes : goal.returns-then-cell_of-cells-clause-yes
returns-then-cell_of-cells-clause-yes g t c =
    let lt : cell_of c.args.next < length c.in-Some.first.now.life.cells = omega arith in
    if_ok c.step_life.result (λ made yes true'. enabled_here _ _ _ c.args.next c.in-Some.ensures.cases.0 lt (yes true')) c.step_life.ensures.yes

pub returns-then-cell_of-cells-clause-no : goal.returns-then-cell_of-cells-clause-no
returns-then-cell_of-cells-clause-no g t c =
    let lt : cell_of c.args.next < length c.in-Some.first.now.life.cells = omega arith in
    if_ok c.step_life.result (λ made never false'. never_here _ _ _ c.args.next c.in-Some.ensures.cases.0 lt (never false')) c.step_life.ensures.no

pub returns-then-cell_of-cells-clause-grows : goal.returns-then-cell_of-cells-clause-grows
returns-then-cell_of-cells-clause-grows g t c =
    if_ok c.step_life.result (λ made grows true'. grows_here _ _ _ _ c.args.next c.in-Some.ensures.cases.0 (grows true')) c.step_life.ensures.grows

pub returns-clause-yes : goal.returns-clause-yes
returns-clause-yes g t c =
    let le : c.cells-cells.result ≤ cell_of c.args.next = omega arith in
    if_ok c.step.result (λ made yes true'. enabled_behind _ _ _ c.args.next _ _ c.in-Some.ensures.cases.0 c.cells-cells.ensures.count c.step_behind.ensures le (yes true')) c.step.ensures.yes

pub returns-clause-grows : goal.returns-clause-grows
returns-clause-grows g t c =
    let le : c.cells-cells.result ≤ cell_of c.args.next = omega arith in
    if_ok c.step.result (λ made grows true'. grows_behind _ _ _ _ c.args.next _ _ c.in-Some.ensures.cases.0 c.cells-cells.ensures.count c.step_behind.ensures le (grows true')) c.step.ensures.grows

pub returns-in_default-clause-gathers : goal.returns-in_default-clause-gathers
returns-in_default-clause-gathers g t c = gathers_none _ _

pub returns-then-cell_of-cells-clause-gathers : goal.returns-then-cell_of-cells-clause-gathers
returns-then-cell_of-cells-clause-gathers g t c = on_ok c.step_life.result (lives_here c.args.lives.now c.in-Some.first.now c.step_life.new.life c.in-Some.others.now c.args.gathered.now c.step_life.new.gathered c.in-Some.ensures.cases.0) c.step_life.ensures.gathers

pub returns-clause-gathers : goal.returns-clause-gathers
returns-clause-gathers g t c = on_ok c.step.result (lives_behind c.args.lives.now c.in-Some.first.now c.in-Some.others.now c.step.new.lives c.args.gathered.now c.step.new.gathered c.in-Some.ensures.cases.0) c.step.ensures.gathers

pub returns-then-cell_of-cells-clause-still : goal.returns-then-cell_of-cells-clause-still
returns-then-cell_of-cells-clause-still g t c = if_ok_with c.step_life.result (λ made ends same none. same_here _ _ _ _ c.in-Some.ensures.cases.0 ends (same none)) c.step_life.ensures.ends c.step_life.ensures.still

pub returns-clause-still : goal.returns-clause-still
returns-clause-still g t c = if_ok c.step.result (λ made same none. same_behind _ _ _ _ c.in-Some.ensures.cases.0 (same none)) c.step.ensures.still

pub returns-then-cell_of-cells-clause-lives : goal.returns-then-cell_of-cells-clause-lives
returns-then-cell_of-cells-clause-lives g t c = on_ok c.step_life.result (kept_here g.N.Node c.args.lives.now c.in-Some.first.now c.step_life.new.life c.in-Some.others.now c.in-Some.ensures.cases.0) c.step_life.ensures.life

pub returns-clause-lives : goal.returns-clause-lives
returns-clause-lives g t c = on_ok c.step.result (kept_behind g.N.Node c.args.lives.now c.in-Some.first.now c.in-Some.others.now c.step.new.lives c.in-Some.ensures.cases.0) c.step.ensures.lives
