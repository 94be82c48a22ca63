-- `list_lines::list_row_at` meets its contract: the line of a row that can be listed stands at the place. Assumes nothing.
use Rattle.std.proofs.Common.{arith}
use Rattle.std.proofs.lemmas.Grind.{common_steps}
use Rattle.rules_problem.specs.Problem.{refuse}
use Rattle.rules_listing.specs.Listing.{list_row}
use Rattle.list_lines.specs.Contract.{reached_of, listed_by}
use Rattle.list_lines.proofs.list_row_at.Goals as goal

pub returns : goal.returns
unfolding list_row listed_by reached_of refuse
returns c = grind (arith, common_steps)
