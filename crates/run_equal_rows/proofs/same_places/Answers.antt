-- `run_equal_rows::same_places` meets its contract. Assumes nothing.
use Rattle.std.proofs.Common.{rules}
use Rattle.std.proofs.Common.{arith}
use Rattle.run_equal_rows.proofs.Compare.{constant_differs, comparing_starts, column_differs, comparing_on, comparing_ends}
use Rattle.run_equal_rows.proofs.same_places.Goals as goal

pub returns-then-not-same_at : goal.returns-then-not-same_at
returns-then-not-same_at c = search constant_differs

pub loop-c-init : goal.loop-c-init
loop-c-init c = search comparing_starts

pub returns-then-not-same_at-2 : goal.returns-then-not-same_at-2
returns-then-not-same_at-2 c = search column_differs

pub loop-c-smaller : goal.loop-c-smaller
loop-c-smaller c = omega (arith, c.last-c-in-loop-c.ensures.backward)

pub loop-c-preserved : goal.loop-c-preserved
loop-c-preserved c = search comparing_on

pub returns : goal.returns
returns c = search (comparing_ends, rules)
