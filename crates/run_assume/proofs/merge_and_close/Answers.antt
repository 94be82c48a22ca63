-- `run_assume::merge_and_close` meets its contract. Assumes nothing.
use Rattle.std.proofs.lemmas.Result.{err_from_is_err_and}
use Rattle.run_assume.proofs.One.{merged_closable, closes_merged, merge_halts}
use Rattle.run_assume.proofs.merge_and_close.Goals as goal

pub returns-in_err-more : goal.returns-in_err-more
returns-in_err-more c =
    let p = err_from_is_err_and c.from_residual.result c.from_residual.ensures.1 in
    rw (p.1, p.2) (merge_halts c.requires c.merge.ensures _ c.in_err-more.was)

pub close-requires : goal.close-requires
close-requires c = merged_closable c.requires c.merge.ensures c.in_ok-more.was

pub returns : goal.returns
returns c = closes_merged c.requires c.merge.ensures c.in_ok-more.was c.close.ensures
