-- The program that the rules lay down, beside the stand-ins.
-- Main definition: `program`. Assumes nothing.
use Rattle.rules_run.specs.Run.{highest_number}
use Rattle.rules_outcome.specs.Outcome.{outcome}
use Rattle.rules_demands.specs.Demands.{Program}
use Rattle.cases_stand_ins.specs.StandIns.{refuses_all, says_not_entailed, leaves_unfolded, writes_nothing, merges_first_only, counts_one_more, keeps_after_stop}

-- The stand-ins are open in it, so that one of them put in its place computes as it does.
unfoldable pub program : Program
unfolding refuses_all says_not_entailed leaves_unfolded writes_nothing merges_first_only counts_one_more keeps_after_stop
program bytes lent = outcome highest_number bytes lent
