-- The tests of the run for equal rows, and rows and values place by place.
-- Main results: `same_row_equal`, `same_rows_equal`, `equal_places_values`, `values_equal_places`. Assume nothing.
use mathlib.Core.Path.{◌≡◌, refl, ap₂}
use mathlib.Core.Logic.{◌↔◌}
use mathlib.Core.Bool.{true, and-eq-true_iff, false≢true}
use mathlib.Core.List.{List, [], ◌∷◌, map, Memᴰ}
use Prim.Native.Nat.{ℕ, zero, suc, ◌<◌}
use native.Mathlib.Omega.{arith}
use Rattle.fraction.specs.Exact.{ℚ}
use Rattle.fraction.proofs.Equality.{eq_ℚ_yes, eq_ℚ_same}
use Rattle.rules_run.specs.Row.{Row, Table, COLUMNS, column, row_of, cell, same_to, same_row}
use Rattle.rules_run.specs.Close.{same_rows}
use Rattle.laws_invariant.specs.Rows.{EqualCells, EqualPlaces}

same_to_equal : (N : ℕ) (r s : Row) → (same_to N r s ≡ true) ↔ ((c : ℕ) → c < N → column r c ≡ column s c)
unfolding same_to
same_to_equal zero r s = (λ h c below. absurd (omega arith), λ h. refl)
same_to_equal (suc k) r s = (
  λ h c below. grind (arith, eq_ℚ_yes, (same_to_equal k r s).0),
  λ h. grind (arith, eq_ℚ_same (h k (omega arith)), (same_to_equal k r s).1 (λ c below. h c (omega arith))),
)

-- The test of two rows finds them equal exactly if they have the same number in each column.
pub same_row_equal : (table : Table) (t u : ℕ) → (same_row table t u ≡ true) ↔ EqualCells table t u
unfolding same_row cell
same_row_equal table t u = same_to_equal COLUMNS (row_of table t) (row_of table u)

-- The test of rows place by place finds them equal exactly if they are.
pub same_rows_equal : (table : Table) (ts us : List ℕ) → (same_rows table ts us ≡ true) ↔ EqualPlaces table ts us
unfolding same_rows EqualPlaces
same_rows_equal table [] [] = (λ h. tt, λ h. refl)
same_rows_equal table [] (u ∷ us) = (false≢true, absurd)
same_rows_equal table (t ∷ ts) [] = (false≢true, absurd)
same_rows_equal table (t ∷ ts) (u ∷ us) =
    let both = and-eq-true_iff (same_row table t u) (same_rows table ts us) in
    let first = same_row_equal table t u in
    let rest = same_rows_equal table ts us in
    (λ h. (first.0 (both.0 h).0, rest.0 (both.0 h).1), λ h. both.1 (first.1 h.0, rest.1 h.1))

-- Where equal rows have equal values, so have rows that are equal place by place.
pub equal_places_values : (table : Table) (v : ℕ → ℚ) (ts us : List ℕ) → ((t u : ℕ) → Memᴰ t ts → Memᴰ u us → EqualCells table t u → v t ≡ v u) → EqualPlaces table ts us → map v ts ≡ map v us
unfolding EqualPlaces
equal_places_values table v [] [] equal same = refl
equal_places_values table v [] (u ∷ us) equal same = absurd same
equal_places_values table v (t ∷ ts) [] equal same = absurd same
equal_places_values table v (t ∷ ts) (u ∷ us) equal same =
    ap₂ ◌∷◌ (equal t u (Memᴰ.head refl) (Memᴰ.head refl) same.0)
    (equal_places_values table v ts us (λ t u first second. equal t u (Memᴰ.tail first) (Memᴰ.tail second)) same.1)

-- Where equal values have equal rows, values that are equal place by place have rows that are.
pub values_equal_places : (table : Table) (v : ℕ → ℚ) (ts us : List ℕ) → ((t u : ℕ) → Memᴰ t ts → Memᴰ u us → v t ≡ v u → EqualCells table t u) → map v ts ≡ map v us → EqualPlaces table ts us
unfolding EqualPlaces
values_equal_places table v [] [] equal same = tt
values_equal_places table v [] (u ∷ us) equal same = cc
values_equal_places table v (t ∷ ts) [] equal same = cc
values_equal_places table v (t ∷ ts) (u ∷ us) equal same = (
  equal t u (Memᴰ.head refl) (Memᴰ.head refl) (cc),
  values_equal_places table v ts us (λ t u first second. equal t u (Memᴰ.tail first) (Memᴰ.tail second)) (cc),
)
