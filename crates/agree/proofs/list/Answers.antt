-- `agree::list` meets its contract: what both calls promise together. Assumes nothing.
use Rattle.std.proofs.Common.{arith}
use Rattle.list_lines.specs.Contract.{place_of}
use Rattle.agree.proofs.Printed.{calls_list, calls_print}
use Rattle.agree.proofs.list.Goals as goal

pub unwrap-requires : goal.unwrap-requires
unwrap-requires c = calls_list (record { numerators = omega arith; denominators = omega arith }) c.requires c.decide-answer.ensures c.listing_of.ensures

pub returns : goal.returns
unfolding place_of
returns c =
    rw c.unwrap.ensures
    at (calls_print (record { numerators = omega arith; denominators = omega arith }) c.requires c.decide-answer.ensures c.listing_of.ensures)
