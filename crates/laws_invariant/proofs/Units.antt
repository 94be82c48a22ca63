-- The rows of an unknown and of the constant 1, and the numbers of the columns.
-- Main results: `alone_value`, `constant_value`, `column_below`, `constant_apart`. Assume nothing.
use mathlib.Core.Path.{◌≡◌}
use mathlib.Core.Logic.{◌≢◌}
use Prim.Native.Nat.{ℕ, ◌≤◌, ◌<◌}
use native.Mathlib.Omega.{arith}
use Rattle.fraction.specs.Exact.{ℚ, one_ℚ}
use Rattle.laws_linear.specs.Form.{eval}
use Rattle.laws_linear.proofs.Eval.{eval_unit, eval_alone_constant}
use Rattle.rules_run.specs.Row.{TERMS, COLUMNS, constant}
use Rattle.rules_run.specs.Build.{alone}

-- The row of an unknown has the value of that unknown, the unit row the value 1.
pub alone_value : (p : ℕ) (v : ℕ → ℚ) → p < TERMS → eval TERMS (alone p one_ℚ) v ≡ v p
alone_value p v below = eval_unit TERMS p v below

pub constant_value : (v : ℕ → ℚ) → eval TERMS (alone constant one_ℚ) v ≡ one_ℚ
constant_value v = eval_alone_constant TERMS one_ℚ v

-- The columns are those of the terms and that of the constant.
pub column_below : {c : ℕ} → c ≤ TERMS → c < COLUMNS
column_below below = omega arith

pub constant_apart : {c : ℕ} → c < TERMS → c ≢ constant
constant_apart below = omega arith
