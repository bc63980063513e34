use Rattle.line_points.proofs.PrintedLaws.{prints_again}
use Rattle.line_points.proofs.print.print_line.Goals as goal

pub returns-clause-one_line : goal.returns-clause-one_line
returns-clause-one_line c = (prints_again c.put_line.new.out c.args.point.now c.in_ok-put_line.ensures.point (rw c.new-line.ensures at c.in_ok-put_line.ensures.line)).one_line

pub returns-clause-again : goal.returns-clause-again
returns-clause-again c = (prints_again c.put_line.new.out c.args.point.now c.in_ok-put_line.ensures.point (rw c.new-line.ensures at c.in_ok-put_line.ensures.line)).again

pub returns-clause-stored_again : goal.returns-clause-stored_again
returns-clause-stored_again c = (prints_again c.put_line.new.out c.args.point.now c.in_ok-put_line.ensures.point (rw c.new-line.ensures at c.in_ok-put_line.ensures.line)).stored_again
