-- Step 1 of the run: the rows of the terms, built in rising order.
-- Main definition: `built`. Assumes nothing.
use Rattle.std.specs.Prelude.{cond, List, [], ◌∷◌, ◌++◌, ℕ, length, eqb}
use Rattle.fraction.specs.Exact.{ℚ, zero_ℚ, one_ℚ, worth}
use Rattle.fraction.specs.Limits.{plus, minus, times}
use Rattle.answer.specs.declared.Reason.{Reason}
use Rattle.fraction.specs.Made.{Made, made, ◌>>=◌}
use Rattle.rules_problem.specs.declared.Kind.{Kind}
use Rattle.rules_problem.specs.declared.Kind.TheVariants.{Variable, Constant, Gain, Sum, Difference, Lookup1, Lookup2, Lookup3}
use Rattle.rules_problem.specs.declared.Term.{Term}
use Rattle.rules_run.specs.Row.{Table, cell, constant, row}

-- the fraction in column c of a row that holds q in column `only`, and 0 elsewhere
unfoldable pub alone : (only : ℕ) → ℚ → (c : ℕ) → ℚ
alone only q c = cond (eqb c only) q zero_ℚ

-- 01, The run, 1: "An unknown's row is 1 at itself; a constant's is its fraction in column 64. A gain multiplies each column;
-- sums and differences work by column." "Unknowns are variables and lookups."
unfoldable pub built_column : Table → (own : ℕ) → Kind → (c : ℕ) → Made Reason ℚ
built_column table own (Variable symbol) c = made (alone own one_ℚ c)
built_column table own (Constant held) c = made (alone constant (worth held) c)
built_column table own (Gain factor input) c = times (worth factor) (cell table input c)
built_column table own (Sum left right) c = plus (cell table left c) (cell table right c)
built_column table own (Difference left right) c = minus (cell table left c) (cell table right c)
built_column table own (Lookup1 symbol input) c = made (alone own one_ℚ c)
built_column table own (Lookup2 symbol first second) c = made (alone own one_ℚ c)
built_column table own (Lookup3 symbol first second third) c = made (alone own one_ℚ c)

-- "Build rows in rising order": the rows of `terms` after those of the table, which are the terms before them
unfoldable pub built : (terms : List Term) → Table → Made Reason Table
built [] table = made table
built (term ∷ terms) table = row (built_column table (length table) term.kind) >>= λ r. built terms (table ++ (r ∷ []))
