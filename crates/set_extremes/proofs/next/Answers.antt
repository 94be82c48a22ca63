-- `set_extremes::next` meets its contract: what is shifted down is found from 0 on. Assumes nothing.
use Rattle.set_extremes.proofs.Onward.{none_left, found_onward}
use Rattle.set_extremes.proofs.next.Goals as goal

pub returns-then-rest-eq0 : goal.returns-then-rest-eq0
returns-then-rest-eq0 c = search none_left

pub returns : goal.returns
returns c = search found_onward
