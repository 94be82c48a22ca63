-- The highest column of a set that is not 0, found going down.
-- Main definition: `Seeking`, the loop's invariant. Main results: `seeking_starts`, `seeking_finds`, `seeking_goes_on`, `seeking_ends`. Assume nothing.
use Rattle.std.specs.Prelude.{None, Some}
use mathlib.Core.Path.{◌≡◌, sym, ap, ◌∙◌, subst}
use mathlib.Core.Bool.{true}
use mathlib.Core.List.{List}
use Prim.Native.Nat.{ℕ, ◌-◌, ◌≤◌, ◌<◌}
use native.Mathlib.Decide.{ℕ_discrete, dec_lt}
use native.Mathlib.Omega.{arith}
use lib.IntN.{ℤ, pos}
use mir.Syntax.{w32}
use mir.Val.{of_z}
use Rattle.set_members.specs.Sets.{holds}
use Rattle.set_extremes.specs.Extremes.{Last}
use Rattle.fraction.specs.declared.Fraction.{Fraction}
use Rattle.fraction.specs.Exact.{zero_ℚ, eq_ℚ}
use Rattle.fraction.proofs.Equality.{eq_ℚ_yes, eq_ℚ_no}
use Rattle.fraction_reduce.specs.Values.{value, Good}
use Rattle.fraction_reduce.proofs.Tests.{zero_tested, other_tested}
use Rattle.rules_run.specs.Row.{TERMS, column}
use Rattle.run_table.specs.Held.{held_at, row_at}
use Rattle.run_table.specs.Lists.{both, RowHeld}
use Rattle.run_table.proofs.Columns.{column_first}
use Rattle.run_table.proofs.Lists.{first_good}
use Rattle.run_pivot.specs.Contract.{FindsHighest}

-- In the search, going down: the columns of the set from `end` on are 0, and the last before it is in the set.
pub record Seeking (set end : ℕ) (nums dens : List ℤ) : Type 0 where
  pub most : end ≤ TERMS
  pub zeros : (c : ℕ) → end ≤ c → c < TERMS → holds set c ≡ true → column (row_at nums dens 0) c ≡ zero_ℚ
  pub inside : 0 < end → holds set (end - 1) ≡ true

-- The set has nothing between its last number below an end and that end.
skipped : {set end r : ℕ} {P : Type 0} → Last set end r → (c : ℕ) → r ≤ c → c < end → holds set c ≡ true → P
skipped last c above below inside = let both_ways : ◌≡◌ {A = ℕ} 0 1 = cc (last.none_between c above below) in absurd (omega arith)

module _ {set : ℕ} {nums dens : List ℤ} (held : RowHeld 0 (both nums dens)) where
  pub seeking_starts : {r : ℕ} → Last set TERMS r → Seeking set r nums dens
  seeking_starts last = record { most = last.backward; zeros = λ c above below inside. skipped last c above below inside; inside = last.inside }

  module _ {end : ℕ} {f : Fraction} (seeking : Seeking set end nums dens) (some_left : 0 < end) (read : f ≡ held_at nums dens (end - 1)) where
    -- To test what stands in the last column is to test the column, and it is good.
    tested : eq_ℚ (column (row_at nums dens 0) (end - 1)) zero_ℚ ≡ eq_ℚ (value f) zero_ℚ
    tested = let most = seeking.most in ap (λ q. eq_ℚ q zero_ℚ) (column_first nums dens (end - 1) (omega arith) ∙ ap value (sym read))

    good : Good f
    good = let most = seeking.most in first_good held read (omega arith)

    -- It is not 0: it is found.
    pub seeking_finds : (of_z w32 f.num ≡ of_z w32 (pos 0) → ⊥) → FindsHighest set (both nums dens) (Some (end - 1))
    seeking_finds other =
        let most = seeking.most in
        record {
          highest = λ p at.
              let same : end - 1 ≡ p = cc in
              record {
                unknown = record { term = omega arith; inside = ap (holds set) (sym same) ∙ seeking.inside some_left };
                nonzero = subst (λ k. column (row_at nums dens 0) k ≡ zero_ℚ → ⊥) same (eq_ℚ_no _ _ (tested ∙ other_tested good other));
                zero_above = λ c above below inside. seeking.zeros c (omega arith) below inside;
              };
          zeros = λ nothing. let never : ◌≡◌ {A = ℕ} 0 1 = cc in absurd (omega arith);
        }

    -- It is 0: the search goes on below.
    pub seeking_goes_on : {r : ℕ} → of_z w32 f.num ≡ of_z w32 (pos 0) → Last set (end - 1) r → Seeking set r nums dens
    seeking_goes_on {r} nought last =
        let most = seeking.most in
        let none-there : column (row_at nums dens 0) (end - 1) ≡ zero_ℚ = eq_ℚ_yes _ _ (tested ∙ zero_tested good nought) in
        record { most = omega (arith, last.backward); zeros = λ c above below inside. by c above below inside none-there (dec_lt c (end - 1)) (ℕ_discrete c (end - 1)); inside = last.inside }
      where
        by : (c : ℕ) → r ≤ c → c < TERMS → holds set c ≡ true → column (row_at nums dens 0) (end - 1) ≡ zero_ℚ → Dec (c < end - 1) → Dec (c ≡ end - 1) → column (row_at nums dens 0) c ≡ zero_ℚ
        by c above below inside none-there (yes before) there = skipped last c above before inside
        by c above below inside none-there (no behind) (yes same) = ap (column (row_at nums dens 0)) same ∙ none-there
        by c above below inside none-there (no behind) (no other) = seeking.zeros c (omega arith) below inside

  -- No column is left: all are 0.
  pub seeking_ends : {end : ℕ} → Seeking set end nums dens → end ≤ 0 → FindsHighest set (both nums dens) None
  seeking_ends seeking none_left =
      record {
        highest = λ p at. let never : ◌≡◌ {A = ℕ} 0 1 = cc in absurd (omega arith);
        zeros = λ nothing c below inside. seeking.zeros c (omega arith) below inside;
      }
