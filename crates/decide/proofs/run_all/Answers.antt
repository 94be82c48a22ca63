-- `decide::run_all` meets its contract. Assumes nothing.
use Rattle.std.proofs.lemmas.Result.{err_from_is_err_and}
use Rattle.decide.proofs.Running.{then_assumable, runs_on, runs_ended}
use Rattle.decide.proofs.run_all.Goals as goal

pub begin-requires : goal.begin-requires
begin-requires c = c.requires.begins

pub returns-in_err-solved : goal.returns-in_err-solved
returns-in_err-solved c =
    let p = err_from_is_err_and c.from_residual.result c.from_residual.ensures.1 in
    rw (p.1, p.2) (runs_ended c.requires c.begin.ensures c.in_err-solved.was)

pub assume_all-requires : goal.assume_all-requires
assume_all-requires c = then_assumable c.requires c.begin.ensures c.in_ok-solved.was

pub returns : goal.returns
returns c = runs_on c.requires c.begin.ensures c.in_ok-solved.was c.assume_all.ensures
