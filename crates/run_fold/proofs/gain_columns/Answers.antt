-- `run_fold::gain_columns` meets its contract. The loop's invariant: the columns passed have gained, the others stand as they were.
-- Assumes nothing.
use Rattle.run_table.proofs.OverSet.{taking_in_nums, taking_in_dens, taking_less}
use Rattle.run_fold.proofs.Gaining.{gaining_starts, gaining_asks, gaining_stores, gaining_passes, gaining_stops, gaining_ends}
use Rattle.run_fold.proofs.gain_columns.Goals as goal

pub loop-c-init : goal.loop-c-init
loop-c-init c = search gaining_starts

pub gained-requires : goal.gained-requires
gained-requires c = search gaining_asks

pub put-requires : goal.put-requires
put-requires c = search (taking_in_nums, taking_in_dens)

pub loop-c-preserved-then-form-ne0 : goal.loop-c-preserved-then-form-ne0
loop-c-preserved-then-form-ne0 c = search (gaining_stores, c.in_ok-f.ensures)

pub returns-in_err-f : goal.returns-in_err-f
returns-in_err-f c = search (gaining_stops, c.in_err-f.ensures)

pub shape_of-nums-in_err-f : goal.shape_of-nums-in_err-f
shape_of-nums-in_err-f c = (returns-in_err-f c).row_made.kept.nums_length

pub shape_of-dens-in_err-f : goal.shape_of-dens-in_err-f
shape_of-dens-in_err-f c = (returns-in_err-f c).row_made.kept.dens_length

pub loop-c-smaller-then-form-ne0 : goal.loop-c-smaller-then-form-ne0
loop-c-smaller-then-form-ne0 c = search taking_less

pub loop-c-smaller : goal.loop-c-smaller
loop-c-smaller c = search taking_less

pub loop-c-preserved : goal.loop-c-preserved
loop-c-preserved c = search gaining_passes

pub returns : goal.returns
returns c = search gaining_ends
