-- Which columns of the row of a term can hold something else than 0.
-- Main definitions: `may_hold`, `Covered`, `Blank`. Assume nothing.
use Rattle.std.specs.Prelude.{◌≡◌, Bool, false, ◌||◌, List, ℕ, ◌+◌, ◌*◌, ◌<◌, eqb, get_or, ℤ, pos}
use Rattle.set_members.specs.Sets.{holds}
use Rattle.fraction.specs.Exact.{ℚ, zero_ℚ}
use Rattle.answer.specs.declared.Reason.{Reason}
use Rattle.fraction.specs.Made.{Made, made}
use Rattle.rules_problem.specs.declared.Kind.{Kind}
use Rattle.rules_problem.specs.declared.Kind.TheVariants.{Variable, Constant, Gain, Sum, Difference, Lookup1, Lookup2, Lookup3}
use Rattle.rules_run.specs.Row.{TERMS, COLUMNS}
use Rattle.run_table.specs.Sets.{columns_of}

-- Whether column c, one of a term, can hold something else than 0 in the row of term `own`: an unknown stands in its own column, and
-- what is made of earlier rows has no columns but theirs.
unfoldable pub may_hold : (sets : List ℕ) → (own : ℕ) → Kind → (c : ℕ) → Bool
may_hold sets own (Variable symbol) c = eqb c own
may_hold sets own (Constant value) c = false
may_hold sets own (Gain factor input) c = holds (columns_of sets input) c
may_hold sets own (Sum left right) c = holds (columns_of sets left) c || holds (columns_of sets right) c
may_hold sets own (Difference left right) c = holds (columns_of sets left) c || holds (columns_of sets right) c
may_hold sets own (Lookup1 symbol input) c = eqb c own
may_hold sets own (Lookup2 symbol first second) c = eqb c own
may_hold sets own (Lookup3 symbol first second third) c = eqb c own

-- The rule makes 0 of each term's column that is not in the set.
pub record Covered (columns : ℕ) (rule : ℕ → Made Reason ℚ) : Type 0 where
  pub zero : (c : ℕ) → c < TERMS → holds columns c ≡ false → rule c ≡ made zero_ℚ

-- Row t holds 0/1 in every column.
pub record Blank (t : ℕ) (nums dens : List ℤ) : Type 0 where
  pub num : (c : ℕ) → c < COLUMNS → get_or nums (COLUMNS * t + c) (pos 0) ≡ pos 0
  pub den : (c : ℕ) → c < COLUMNS → get_or dens (COLUMNS * t + c) (pos 0) ≡ pos 1
