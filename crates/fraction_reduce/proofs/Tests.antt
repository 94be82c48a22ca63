-- Good structs: they pass the test against the limits, and which of them stand for zero.
-- Main results: `good_passes`, `zero_stands`, `zero_passes`, `zero_value`, `zero_tested`, `other_tested`. Assume nothing.
use mathlib.Core.Path.{◌≡◌, refl, sym, ap, ◌∙◌}
use mathlib.Core.Bool.{Bool, true, false}
use native.Mathlib.Omega.{arith}
use lib.IntN.{pos, nat_abs}
use mir.Syntax.{w32}
use mir.Val.{of_z}
use Rattle.fraction.specs.declared.Fraction.{Fraction}
use Rattle.fraction.specs.Exact.{ℚ, whole, zero_ℚ, eq_ℚ}
use Rattle.fraction.specs.Limits.{limit, tested}
use Rattle.fraction.specs.Made.{made}
use Rattle.fraction.proofs.Bounded as bounded
use Rattle.fraction.proofs.Equality.{ℚ-discrete, eq_ℚ_same, eq_ℚ_yes}
use Rattle.fraction.proofs.Field.{size_positive}
use Rattle.fraction_reduce.specs.Values.{value, Good, Stands}
use Rattle.fraction_reduce.proofs.Linked.{stands}
use Rattle.fraction_reduce.proofs.Lowest.{value_num, value_den}
use Rattle.fraction_reduce.proofs.Operations.{good_num}
use Rattle.fraction_reduce.proofs.Shortcuts.{word_is}

-- What a good struct stands for passes the test.
pub good_passes : {f : Fraction} → Good f → tested (value f) ≡ made (value f)
good_passes {f} good =
    bounded.tested_within (value f) ((bounded.within_limits (value f)).1 (omega (arith, ap nat_abs (value_num good), good.above), omega (arith, value_den good, good.below)))

-- 0/1 is good, and stands for zero.
pub zero_stands : {f : Fraction} → f.num ≡ pos 0 → f.den ≡ pos 1 → Stands f zero_ℚ
unfolding zero_ℚ whole limit
zero_stands n d = stands zero_ℚ n d (omega arith) (omega arith)

pub zero_passes : tested zero_ℚ ≡ made zero_ℚ
zero_passes =
    let nought : Fraction = record { num = pos 0; den = pos 1 } in
    let s : Stands nought zero_ℚ = zero_stands refl refl in
    ap tested (sym s.same) ∙ good_passes s.good ∙ ap made s.same

-- A fraction whose numerator is 0 is zero.
no_size : (q : ℚ) → nat_abs q.num ≡ 0 → q ≡ zero_ℚ
no_size q none = by (ℚ-discrete q zero_ℚ)
  where
    by : Dec (q ≡ zero_ℚ) → q ≡ zero_ℚ
    by (yes same) = same
    by (no other) = absurd (omega (arith, size_positive q other))

-- A good struct whose numerator is the word 0 stands for zero, and the test of equality with zero says so; of any other it says the
-- contrary.
pub zero_value : {f : Fraction} → Good f → of_z w32 f.num ≡ of_z w32 (pos 0) → value f ≡ zero_ℚ
zero_value {f} good e = no_size (value f) (ap nat_abs (value_num good ∙ word_is (pos 0) tt (good_num good) e))

pub zero_tested : {f : Fraction} → Good f → of_z w32 f.num ≡ of_z w32 (pos 0) → eq_ℚ (value f) zero_ℚ ≡ true
zero_tested good e = eq_ℚ_same (zero_value good e)

pub other_tested : {f : Fraction} → Good f → (of_z w32 f.num ≡ of_z w32 (pos 0) → ⊥) → eq_ℚ (value f) zero_ℚ ≡ false
unfolding zero_ℚ whole
other_tested {f} good other = by (eq_ℚ (value f) zero_ℚ) refl
  where
    by : (test : Bool) → eq_ℚ (value f) zero_ℚ ≡ test → eq_ℚ (value f) zero_ℚ ≡ false
    by true same = absurd (other (ap (of_z w32) (sym (value_num good) ∙ ap (λ q. q.num) (eq_ℚ_yes (value f) zero_ℚ same))))
    by false different = different
