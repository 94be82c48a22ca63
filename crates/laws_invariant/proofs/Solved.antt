-- Which unknowns are counted as solved.
-- Main results: `unsolved_not_counted`, `lower_counted`. Assume nothing.
use mathlib.Core.Path.{◌≡◌, ◌∙◌}
use mathlib.Core.Bool.{true, false}
use Prim.Native.Nat.{ℕ, ◌<◌}
use mathlib.Core.List.{List}
use native.Mathlib.Omega.{arith}
use Rattle.fraction.specs.Exact.{zero_ℚ, one_ℚ}
use Rattle.fraction.proofs.Equality.{eq_ℚ_yes, eq_ℚ_no}
use Rattle.fraction.proofs.Field.{one_not_zero}
use Rattle.laws_linear.proofs.Alone.{alone_there}
use Rattle.rules_problem.specs.declared.Term.{Term}
use Rattle.rules_problem.specs.Lookup.{kind_at}
use Rattle.rules_run.specs.Row.{TERMS, Table, cell}
use Rattle.laws_invariant.specs.Invariant.{is_unknown, Unsolved, Lower, is_solved}
use Rattle.laws_invariant.proofs.Units.{column_below}

-- An unsolved unknown stands in its own row, and is not counted.
pub unsolved_there : (terms : List Term) (table : Table) (c : ℕ) → c < TERMS → Unsolved terms table c → cell table c c ≡ one_ℚ
unsolved_there terms table c inside unsolved = unsolved.itself c (column_below (omega arith)) ∙ alone_there c one_ℚ

pub unsolved_not_counted : (terms : List Term) (table : Table) (c : ℕ) → c < TERMS → Unsolved terms table c → is_solved terms table c ≡ false
unfolding is_solved
unsolved_not_counted terms table c inside unsolved =
    grind (arith, unsolved.unknown, unsolved_there terms table c inside unsolved, one_not_zero, eq_ℚ_yes (cell table c c) zero_ℚ)

-- An unknown whose row has only columns of lower rank is counted.
pub lower_counted : (rank : ℕ → ℕ) (terms : List Term) (table : Table) (c : ℕ) → c < TERMS → is_unknown (kind_at terms c) ≡ true → Lower rank table c → is_solved terms table c ≡ true
unfolding is_solved Lower
lower_counted rank terms table c inside unknown lower = grind (arith, unknown, lower c inside, eq_ℚ_no (cell table c c) zero_ℚ)

-- What is no unknown is not counted.
pub known_not_counted : (terms : List Term) (table : Table) (c : ℕ) → is_unknown (kind_at terms c) ≡ false → is_solved terms table c ≡ false
unfolding is_solved
known_not_counted terms table c known = rw known
