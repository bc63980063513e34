use Rattle.std.proofs.Common.{◌∙◌, ◌++◌, ap, length, subst, sym}
use Rattle.std.specs.Int.{w32}
use Rattle.std.specs.List.{AllByRecursion as Each}
use Rattle.state_code.specs.Spelling.{spell_number}
use Rattle.flow_cells.specs.Kept.{HasKept}
use Rattle.flow_core.specs.Nets.{IsLifeIn}
use Rattle.barrier_snapshot.specs.Barriers.{cells_in}
use Rattle.barrier_snapshot.specs.Capturing.{PutsCells}
use Rattle.barrier_snapshot.proofs.PutLaws.{kept_lives}
use Rattle.barrier_snapshot.proofs.SavedLaws.{captured_at, kept_passed}
use Rattle.barrier_snapshot.proofs.capturing.capture.Goals as goal

pub put_lives-requires-clause-kept : goal.put_lives-requires-clause-kept
put_lives-requires-clause-kept g c =
    kept_lives c.lives-lives.result.now
    (subst (λ l. Each HasKept (cells_in l)) (sym c.lives-lives.ensures.lives) (kept_passed g.N.Node c.args.upto (cells_in c.args.net.now.lives) c.requires.passed))

pub returns-clause-capture : goal.returns-clause-capture
returns-clause-capture g c =
    let node = g.N.Node in
    let cells = cells_in c.args.net.now.lives in
    let n = c.in-Some.number in
    let is = c.lives-lives.ensures.lives in
    let count = c.in-Some.ensures.count ∙ ap (λ l. length (cells_in l)) is in
    let number = c.in_ok-put_u32.ensures.ok ∙ ap (λ l. l ++ spell_number w32 n) c.new-bytes.ensures in
    let puts = subst (λ l. PutsCells node (cells_in l) c.put_u32.new.to c.put_lives.new.to) is c.in_ok-put_lives.ensures in
    captured_at node c.args.upto cells c.put_u32.new.to c.put_lives.new.to n count c.in-Some.ensures.below number puts c.requires.passed

pub returns-clause-lives : goal.returns-clause-lives
returns-clause-lives g c = subst (Each (IsLifeIn g.N.Node)) c.lives-lives.ensures.lives c.in-Some.ensures.lives
