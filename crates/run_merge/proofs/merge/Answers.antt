-- `run_merge::merge` meets its contract: the difference, then what it settles. Assumes nothing.
use Rattle.run_table.specs.Sets.{columns_of}
use Rattle.run_merge.proofs.Steps.{zeros_within, merge_subtracts, merge_settles, difference_made, difference_refused}
use Rattle.run_merge.proofs.merge.Goals as goal

pub returns-in_err-difference : goal.returns-in_err-difference
returns-in_err-difference c = search (difference_refused, c.in_err-difference.ensures)

pub returns : goal.returns
returns c = search (difference_made, c.in_ok-difference.ensures)

pub difference-requires : goal.difference-requires
unfolding columns_of
difference-requires c = merge_subtracts c.requires c.union-set.result c.union-set.ensures

pub settle-requires : goal.settle-requires
settle-requires c = merge_settles c.requires c.difference.ensures zeros_within
