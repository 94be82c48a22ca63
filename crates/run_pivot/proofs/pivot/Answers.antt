-- `run_pivot::pivot` meets its contract: the highest preferred unknown, and if there is none the highest of all. Assumes nothing.
use Rattle.run_pivot.proofs.Chosen.{chooses_preferred, chooses_other}
use Rattle.run_pivot.proofs.pivot.Goals as goal

pub returns-in-Some : goal.returns-in-Some
returns-in-Some c = search chooses_preferred

pub returns-in-None : goal.returns-in-None
returns-in-None c = search chooses_other
