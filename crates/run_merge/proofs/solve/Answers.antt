-- `run_merge::solve` meets its contract: the form, then its fold into every row. Assumes nothing.
use Rattle.run_merge.proofs.Steps.{form_refused, fold_refused, fold_made}
use Rattle.run_merge.proofs.solve.Goals as goal

pub returns-in_err-solve_for : goal.returns-in_err-solve_for
returns-in_err-solve_for c = search (form_refused, c.in_err-solve_for.ensures)

pub returns-in_err-fold_rows : goal.returns-in_err-fold_rows
returns-in_err-fold_rows c = search (fold_refused, c.in_ok-solve_for.ensures, c.in_err-fold_rows.ensures)

pub returns : goal.returns
returns c = search (fold_made, c.in_ok-solve_for.ensures, c.in_ok-fold_rows.ensures)
