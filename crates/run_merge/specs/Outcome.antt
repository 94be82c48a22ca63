-- The code's answer to a merge, as the rule's.
-- Main definition: `merged`. Assumes nothing.
use Rattle.std.specs.Prelude.{ℕ, ◌+◌, Err, Ok, Result}
use Rattle.fraction.specs.Made.{Made, made, stopped}
use Rattle.rules_run.specs.Row.{Table}
use Rattle.rules_run.specs.Merge.{State, Stop, contradiction, outside}
use Rattle.run_merge.specs.declared.Halt.{Halt}
use Rattle.run_merge.specs.declared.Halt.TheVariants.{Contradiction, Refused}

-- Where `solved` unknowns were solved before, and the lists hold the table now: a merge answers how many more are solved, or why it stops.
unfoldable pub merged : Result ℕ Halt → (solved : ℕ) → Table → Made Stop State
merged (Ok more) solved table = made (record { table = table; solved = solved + more })
merged (Err Contradiction) solved table = stopped contradiction
merged (Err (Refused number)) solved table = stopped (outside number)
