-- The code's answer to closing, as the rule's.
-- Main definition: `closed`. Assumes nothing.
use Rattle.run_merge.specs.declared.Halt.{Halt}
use Rattle.run_merge.specs.declared.Halt.TheVariants.{Contradiction, Refused}
use Rattle.std.specs.Prelude.{ℕ, Err, Ok, Result}
use Rattle.fraction.specs.Made.{Made, made, stopped}
use Rattle.rules_run.specs.Row.{Table}
use Rattle.rules_run.specs.Merge.{State, Stop, contradiction, outside}

-- where the lists hold the table now
unfoldable pub closed : Result ℕ Halt → Table → Made Stop State
closed (Ok solved) table = made (record { table = table; solved = solved })
closed (Err Contradiction) table = stopped contradiction
closed (Err (Refused number)) table = stopped (outside number)
