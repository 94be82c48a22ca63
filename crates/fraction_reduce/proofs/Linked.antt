-- The code's answer and the rule's: when a struct stands for an exact fraction, and what the test against the limits says.
-- Main results: `stands`, `answers_fits`, `answers_beyond`, `tested_fits`, `tested_wide`, `tested_deep`, `reduced_whole`, `reduced_lowest`. Assume nothing.
use Rattle.std.specs.Prelude.{Err, Ok, Result}
use mathlib.Core.Bool.{Bool, true, false}
use mathlib.Core.Path.{◌≡◌, refl, sym, ap, ap₂, ◌∙◌}
use Prim.Native.Nat.{ℕ, ◌<◌, ◌≤◌}
use native.Mathlib.Nat.{div-one}
use native.Mathlib.Omega.{arith}
use lib.IntN.{ℤ, pos, nat_abs}
use mir.Facts.{to_z-of_z}
use mir.Syntax.{w64}
use mir.Val.{SFits, to_z, of_z}
use Rattle.whole.specs.Gcd.{gcd}
use Rattle.whole.specs.Signed.{signed}
use Rattle.whole.proofs.Divisors.{gcd_one}
use Rattle.whole.proofs.Sizes.{size_signed}
use Rattle.fraction.specs.Exact.{ℚ, frac}
use Rattle.fraction.specs.Limits.{limit, within, tested}
use Rattle.fraction.specs.Made.{made, stopped}
use Rattle.answer.specs.declared.Reason.{Reason}
use Rattle.answer.specs.declared.Reason.TheVariants as reason
use Rattle.fraction.specs.declared.Fraction.{Fraction}
use Rattle.fraction.proofs.Bounded as bounded
use Rattle.fraction_reduce.specs.declared.reduce.Terms.{Terms}
use Rattle.fraction_reduce.specs.Contract.{InLowest, WithSign, Tested}
use Rattle.fraction_reduce.specs.Values.{Good, Stands, says, FitsGood, Answers}
use Rattle.fraction_reduce.proofs.Lowest.{ℚ-same, frac_num, frac_den, value_num, value_den}

-- A struct with the two numbers of an exact fraction, within the limits, stands for it.
pub stands : {f : Fraction} (q : ℚ) → f.num ≡ q.num → f.den ≡ pos q.den → nat_abs q.num ≤ limit → q.den ≤ limit → Stands f q
stands {f} q n d wide deep =
    let m : nat_abs f.num ≡ nat_abs q.num = ap nat_abs n in
    let b : nat_abs f.den ≡ q.den = ap nat_abs d in
    let good : Good f =
    record {
      upward = d ∙ ap pos (sym b);
      least = omega (arith, q.positive);
      below = omega arith;
      above = omega arith;
      lowest = ap₂ gcd m b ∙ q.lowest;
    }
    in
    record { good = good; same = ℚ-same (value_num good ∙ n) (value_den good ∙ b) }

within_limits : (q : ℚ) → nat_abs q.num ≤ limit → q.den ≤ limit → tested q ≡ made q
within_limits q wide deep = bounded.tested_within q ((bounded.within_limits q).1 (wide, deep))

beyond : (q : ℚ) → (nat_abs q.num ≤ limit → q.den ≤ limit → ⊥) → tested q ≡ stopped reason.Range
beyond q out = bounded.tested_outside q (by (within q) refl)
  where
    by : (inside : Bool) → within q ≡ inside → within q ≡ false
    by true h = let both = (bounded.within_limits q).0 h in absurd (out both.0 both.1)
    by false h = h

-- The fraction made is the answer, where both of its numbers are within the limits.
pub answers_fits : {f : Fraction} (q : ℚ) → f.num ≡ q.num → f.den ≡ pos q.den → nat_abs q.num ≤ limit → q.den ≤ limit → Answers (Ok f) (tested q)
unfolding says FitsGood
answers_fits q n d wide deep =
    let s = stands q n d wide deep in
    record { same = ap made s.same ∙ sym (within_limits q wide deep); sound = s.good }

-- The refusal is the answer, where one of them is not.
pub answers_beyond : (q : ℚ) → (nat_abs q.num ≤ limit → q.den ≤ limit → ⊥) → Answers (Err reason.Range) (tested q)
unfolding says FitsGood
answers_beyond q out = record { same = sym (beyond q out); sound = tt }

-- The same of two sizes and a sign.
pub tested_fits : {like : ℤ} {terms : Terms} {f : Fraction} → terms.top ≤ limit → terms.bottom ≤ limit → WithSign like terms.top terms.bottom f
    → Tested like terms (Ok f)
tested_fits {like} {terms} wide deep is =
    record {
      answers = λ q num den.
          answers_fits q (is.above ∙ sym num) (is.below ∙ ap pos (sym den)) (omega (arith, ap nat_abs num, size_signed like terms.top)) (omega arith);
    }

pub tested_wide : {like : ℤ} {terms : Terms} → limit < terms.top → Tested like terms (Err reason.Range)
tested_wide {like} {terms} wide = record { answers = λ q num den. answers_beyond q (λ w d. omega (arith, ap nat_abs num, size_signed like terms.top)) }

pub tested_deep : {like : ℤ} {terms : Terms} → limit < terms.bottom → Tested like terms (Err reason.Range)
tested_deep deep = record { answers = λ q num den. answers_beyond q (λ w d. omega arith) }

-- What a number over 1 is in lowest terms.
whole_lowest : (size : ℕ) → InLowest size 1 record { top = size; bottom = 1 }
whole_lowest size = let one = gcd_one size in record { above = rw one (sym (div-one size)); below = rw one refl }

-- To test two numbers in lowest terms is to test their fraction.
reduced_is : {n : ℤ} {d : ℕ} {terms : Terms} {r : Result Fraction Reason} → 0 < d → InLowest (nat_abs n) d terms → Tested n terms r
    → Answers r (tested (frac n d))
reduced_is {n} {d} positive low says =
    says.answers (frac n d) (frac_num n d positive ∙ ap (signed n) (sym low.above)) (frac_den n d positive ∙ sym low.below)

-- So it is with a number read back of a word, over 1 or over another.
module _ {n : ℤ} {d size : ℕ} {r : Result Fraction Reason} (fits : SFits w64 n) (size_is : size ≡ nat_abs (to_z w64 (of_z w64 n))) where
  pub reduced_whole : d ≡ 1 → Tested (to_z w64 (of_z w64 n)) record { top = size; bottom = 1 } r → Answers r (tested (frac n d))
  reduced_whole whole says =
      let back = to_z-of_z {w = w64} fits in
      rw whole (reduced_is (omega arith) (rw (sym (size_is ∙ ap nat_abs back)) (whole_lowest size)) (rw back at says))

  pub reduced_lowest : {terms : Terms} → 0 < d → InLowest size d terms → Tested (to_z w64 (of_z w64 n)) terms r → Answers r (tested (frac n d))
  reduced_lowest positive low says =
      let back = to_z-of_z {w = w64} fits in
      reduced_is positive (rw (size_is ∙ ap nat_abs back) at low) (rw back at says)
