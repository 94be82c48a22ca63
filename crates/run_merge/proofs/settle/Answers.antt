-- `run_merge::settle` meets its contract: by the unknown found, and where there is none by the constant. Assumes nothing.
use Rattle.run_merge.proofs.Steps.{settle_solves, settles_nothing, settles_contradiction, settles_solved}
use Rattle.run_merge.proofs.settle.Goals as goal

pub solve-requires : goal.solve-requires
solve-requires c = search settle_solves

pub returns-in-Some : goal.returns-in-Some
returns-in-Some c = search settles_solved

pub returns-in-None : goal.returns-in-None
returns-in-None c = search settles_nothing

pub returns-in-None-2 : goal.returns-in-None-2
returns-in-None-2 c = search settles_contradiction
