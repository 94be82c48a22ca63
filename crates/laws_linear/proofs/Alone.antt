-- A choice by the number of a column, and the form with one column.
-- Main results: `at_column`, `off_column`, `alone_there`, `alone_elsewhere`. Assume nothing.
use mathlib.Core.Path.{◌≡◌, refl, ap}
use mathlib.Core.Logic.{◌≢◌}
use mathlib.Core.Bool.{cond}
use Prim.Native.Nat.{ℕ}
use lib.Dec.{eqb}
use borrow.Author.Tests.{eq-eqb, ne_eqb}
use Rattle.fraction.specs.Exact.{ℚ, zero_ℚ}
use Rattle.rules_run.specs.Build.{alone}

-- What is chosen by the number of a column, at the column and at another.
pub at_column : (p : ℕ) (x y : ℚ) → cond (eqb p p) x y ≡ x
at_column p x y = ap (λ b. cond b x y) (eq-eqb p p refl)

pub off_column : {c p : ℕ} → c ≢ p → (x y : ℚ) → cond (eqb c p) x y ≡ y
off_column {c} {p} other x y = ap (λ b. cond b x y) (ne_eqb c p other)

-- The form with one column holds its number there, and zero in every other.
pub alone_there : (p : ℕ) (q : ℚ) → alone p q p ≡ q
unfolding alone
alone_there p q = at_column p q zero_ℚ

pub alone_elsewhere : {c p : ℕ} → c ≢ p → (q : ℚ) → alone p q c ≡ zero_ℚ
unfolding alone
alone_elsewhere other q = off_column other q zero_ℚ
