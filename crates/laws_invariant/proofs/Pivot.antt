-- Which unknown a merge solves: the nonzero column of highest rank.
-- Main results: `Pivot`, `pivot_some`, `pivot_none`, `pivot_highest`. Assume nothing.
use mathlib.Core.Path.{◌≡◌, refl, subst}
use mathlib.Core.Logic.{◌≢◌}
use mathlib.Core.Bool.{Bool, true, false, cond}
use mathlib.Core.Option.{Option, some, none}
use Prim.Native.Nat.{ℕ, zero, suc, ◌≤◌, ◌<◌}
use native.Mathlib.Omega.{arith}
use lib.Dec.{ltb}
use borrow.Author.Tests.{ltb-true, ltb-false}
use Rattle.fraction.specs.Exact.{zero_ℚ, eq_ℚ}
use Rattle.fraction.proofs.Equality.{eq_ℚ_yes, eq_ℚ_no}
pub use Rattle.laws_linear.proofs.Upto.{last_or_before}
use Rattle.rules_run.specs.Row.{Row, column}
use Rattle.rules_run.specs.Merge.{higher, pivot}

-- Column p of the row d is not zero, and has the highest rank of all such columns below N.
pub record Pivot (rank : ℕ → ℕ) (N : ℕ) (d : Row) (p : ℕ) : Type 0 where
  pub below : p < N
  pub nonzero : column d p ≢ zero_ℚ
  pub highest : (c : ℕ) → c < N → column d c ≢ zero_ℚ → rank c ≤ rank p

module _ (rank : ℕ → ℕ) (d : Row) where
  -- Where no column is found all are zero; what is found is the pivot.
  Found : (N : ℕ) → Option ℕ → Type 0
  Found N none = (c : ℕ) → c < N → column d c ≡ zero_ℚ
  Found N (some p) = Pivot rank N d p

  found : (N : ℕ) → Found N (pivot rank N d)
  unfolding Found pivot higher
  found zero = λ c below. absurd (omega arith)
  found (suc k) = by (eq_ℚ (column d k) zero_ℚ) refl (pivot rank k d) (found k)
    where
      passed : (o : Option ℕ) → column d k ≡ zero_ℚ → Found k o → Found (suc k) o
      passed none empty before = last_or_before k empty before
      passed (some p) empty before = record {
        below = let h = before.below in omega arith;
        nonzero = before.nonzero;
        highest = last_or_before k (λ nonzero. absurd (nonzero empty)) before.highest;
      }

      taken : (o : Option ℕ) → column d k ≢ zero_ℚ → Found k o → Found (suc k) (higher rank k o)
      taken none nonzero before = record {
        below = omega arith;
        nonzero = nonzero;
        highest = last_or_before k (λ _. omega arith) (λ c below other. absurd (other (before c below)));
      }
      taken (some p) nonzero before = choose (ltb (rank p) (rank k)) refl
        where
          choose : (b : Bool) → ltb (rank p) (rank k) ≡ b → Found (suc k) (cond b (some k) (some p))
          choose true higher-now = record {
            below = omega arith;
            nonzero = nonzero;
            highest = last_or_before k (λ _. omega arith) (λ c below other. let h = before.highest c below other in omega (arith, ltb-true (rank p) (rank k) higher-now));
          }
          choose false higher-before = record {
            below = let h = before.below in omega arith;
            nonzero = before.nonzero;
            highest = last_or_before k (λ _. ltb-false (rank p) (rank k) higher-before) before.highest;
          }

      by : (b : Bool) → eq_ℚ (column d k) zero_ℚ ≡ b → (o : Option ℕ) → Found k o → Found (suc k) (cond b o (higher rank k o))
      by true empty o before = passed o (eq_ℚ_yes _ _ empty) before
      by false full o before = taken o (eq_ℚ_no _ _ full) before

  -- The column that a merge solves is nonzero and of highest rank.
  pub pivot_some : (N p : ℕ) → pivot rank N d ≡ some p → Pivot rank N d p
  unfolding Found
  pivot_some N p h = subst (Found N) h (found N)

  -- Where a merge finds no column to solve, all are zero.
  pub pivot_none : (N : ℕ) → pivot rank N d ≡ none → (c : ℕ) → c < N → column d c ≡ zero_ℚ
  unfolding Found
  pivot_none N h = subst (Found N) h (found N)

  -- With a rank that is one-to-one, every other nonzero column ranks lower.
  pub pivot_highest : (N p : ℕ) → ((c k : ℕ) → c < N → k < N → rank c ≡ rank k → c ≡ k) → Pivot rank N d p → (c : ℕ) → c < N → c ≢ p → column d c ≢ zero_ℚ → rank c < rank p
  pivot_highest N p one-to-one found c below other nonzero =
      let at_most = found.highest c below nonzero in
      let apart : rank c ≢ rank p = λ same. other (one-to-one c p below found.below same) in
      omega arith
