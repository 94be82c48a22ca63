-- One column of a solved form: what the rule makes of it, and the shortcuts of the product by a factor.
-- Main results: `solved_itself`, `solved_other`, `solved_nothing`, `factor_stands`, `scaled_minus`, `scaled_one`. Assume nothing.
use Rattle.std.specs.Prelude.{Ok}
use mathlib.Core.Path.{◌≡◌, ap, ◌∙◌}
use mathlib.Core.Bool.{cond}
use Prim.Native.Nat.{ℕ}
use borrow.Author.Tests.{eq-eqb, ne_eqb}
use lib.Dec.{eqb}
use lib.IntN.{pos, negsuc}
use mir.Syntax.{w32}
use mir.Val.{of_z}
use Rattle.fraction.specs.declared.Fraction.{Fraction}
use Rattle.fraction.specs.Exact.{ℚ, zero_ℚ, neg_ℚ, inverse}
use Rattle.fraction.specs.Limits.{tested, times, over}
use Rattle.fraction.specs.Made.{made, ◌>>=◌}
use Rattle.fraction.proofs.Field.{times_zero}
use Rattle.fraction_reduce.specs.Values.{value, Stands, Answers}
use Rattle.fraction_reduce.proofs.Divided.{divided_negated}
use Rattle.fraction_reduce.proofs.Operations.{good_num, good_den}
use Rattle.fraction_reduce.proofs.Shortcuts.{word_is, times_one, times_minus}
use Rattle.fraction_reduce.proofs.Tests.{zero_passes}
use Rattle.rules_run.specs.Row.{Row, column}
use Rattle.rules_run.specs.Merge.{solved_column}
use Rattle.run_solve.specs.Contract.{Scalable}

module _ (p : ℕ) (d : Row) (c : ℕ) where
  -- In the column of the unknown itself the form holds 0.
  pub solved_itself : c ≡ p → solved_column p d c ≡ made zero_ℚ
  unfolding solved_column
  solved_itself same = ap (λ t. cond t (made zero_ℚ) (over (column d c) (column d p) >>= λ q. made (neg_ℚ q))) (eq-eqb c p same)

  -- Any other column is multiplied by one factor, the same in all columns: to divide and to negate is no more.
  pub solved_other : (c ≡ p → ⊥) → solved_column p d c ≡ times (neg_ℚ (inverse (column d p))) (column d c)
  unfolding solved_column
  solved_other other =
      ap (cond (eqb c p) (made zero_ℚ)) (divided_negated (column d c) (column d p))
      ∙ ap (λ t. cond t (made zero_ℚ) (times (neg_ℚ (inverse (column d p))) (column d c))) (ne_eqb c p other)

  -- Where the difference holds 0, so does the form.
  pub solved_nothing : (c ≡ p → ⊥) → column d c ≡ zero_ℚ → solved_column p d c ≡ made zero_ℚ
  unfolding times
  solved_nothing other none =
      solved_other other ∙ ap (times (neg_ℚ (inverse (column d p)))) none ∙ ap tested (times_zero (neg_ℚ (inverse (column d p)))) ∙ zero_passes

-- What stands for the opposite of what stands for a number stands for its opposite.
pub factor_stands : {q : ℚ} {inverted factor : Fraction} → Stands inverted q → Stands factor (neg_ℚ (value inverted))
    → Stands factor (neg_ℚ q)
factor_stands divided negated = record { good = negated.good; same = negated.same ∙ ap neg_ℚ divided.same }

-- Times -1 is the opposite, and times 1 the number itself.
pub scaled_minus : {factor x f : Fraction} → Scalable factor x → of_z w32 factor.num ≡ of_z w32 (negsuc 0)
    → of_z w32 factor.den ≡ of_z w32 (pos 1) → Stands f (neg_ℚ (value x)) → Answers (Ok f) (times (value factor) (value x))
scaled_minus asked num den opposite =
    times_minus asked.factor_good asked.number_good (word_is (negsuc 0) tt (good_num asked.factor_good) num) (word_is (pos 1) tt (good_den asked.factor_good) den) opposite

pub scaled_one : {factor x : Fraction} → Scalable factor x → of_z w32 factor.num ≡ of_z w32 (pos 1)
    → of_z w32 factor.den ≡ of_z w32 (pos 1) → Answers (Ok x) (times (value factor) (value x))
scaled_one asked num den =
    times_one asked.factor_good asked.number_good (word_is (pos 1) tt (good_num asked.factor_good) num) (word_is (pos 1) tt (good_den asked.factor_good) den)
