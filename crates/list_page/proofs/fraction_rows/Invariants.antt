-- `list_page::fraction_rows` meets its contract. The loop's invariant: the rows below t have passed the test. Assumes nothing.
use mathlib.Core.Path.{◌≡◌}
use mathlib.Core.Bool.{true}
use Rattle.rules_listing.specs.Page.{fraction_rows}
use Rattle.list_page.proofs.fraction_rows.Given as goal

abbrev pub invariant-loop-t : goal.invariant-loop-t
invariant-loop-t l = fraction_rows l.nums l.dens l.t ≡ true
