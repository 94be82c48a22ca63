-- `list_page::listing_of` meets its contract. Assumes nothing.
use Rattle.std.proofs.Common.{arith, rules}
use Rattle.std.proofs.lemmas.Grind.{common_steps}
use Rattle.rules_problem.specs.Problem.{refuse}
use Rattle.rules_listing.specs.Page.{list_page, list_rows}
use Rattle.list_lines.specs.Contract.{reached_of, listed_by, place_of}
use Rattle.list_page.proofs.Listing.{all_lines}
use Rattle.list_page.proofs.listing_of.Goals as goal

pub returns : goal.returns
unfolding list_page list_rows listed_by reached_of place_of refuse
returns c =
    let all = all_lines c.put_first-first.ensures c.put_rows.ensures in
    record { answers = grind (arith, common_steps, all.placed, all.reached); within = search rules }
