-- `run_fold::note` meets its contract. Assumes nothing.
use Rattle.run_fold.proofs.Sets.{sets_noted}
use Rattle.run_fold.proofs.note.Goals as goal

pub returns : goal.returns
returns c = sets_noted _ _ _ c.union.result c.without-columns.result c.union-pending.result c.requires c.union.ensures c.without-columns.ensures c.union-pending.ensures
