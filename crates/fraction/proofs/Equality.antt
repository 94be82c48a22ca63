-- The test of equality of fractions decides their equality.
-- Main results: `eq_ℚ_yes`, `eq_ℚ_same`, `eq_ℚ_no`, `ℚ-discrete`, `ℚ-set`. Assume nothing.
use mathlib.Core.Path.{◌≡◌, refl, sym, ap, ◌∙◌, subst}
use mathlib.Core.Logic.{◌≢◌}
use mathlib.Core.HLevel.{Discrete, hedberg}
use mathlib.Core.Bool.{Bool, true, false, true≢false, false≢true, and-eq-true_iff}
use lib.IntN.{ℤ, pos, negsuc}
use borrow.Author.Tests.{eqb-true, eq-eqb}
use Rattle.fraction.specs.Exact.{ℚ, eq_ℤ, eq_ℚ}
use Rattle.fraction.proofs.Cross.{ℚ-path}

eq_ℤ_yes : (m n : ℤ) → eq_ℤ m n ≡ true → m ≡ n
unfolding eq_ℤ
eq_ℤ_yes (pos m) (pos n) h = ap pos (eqb-true m n h)
eq_ℤ_yes (pos m) (negsuc n) h = absurd (false≢true h)
eq_ℤ_yes (negsuc m) (pos n) h = absurd (false≢true h)
eq_ℤ_yes (negsuc m) (negsuc n) h = ap negsuc (eqb-true m n h)

eq_ℤ_refl : (m : ℤ) → eq_ℤ m m ≡ true
unfolding eq_ℤ
eq_ℤ_refl (pos m) = eq-eqb m m refl
eq_ℤ_refl (negsuc m) = eq-eqb m m refl

-- Fractions that the test finds equal are equal.
pub eq_ℚ_yes : (a b : ℚ) → eq_ℚ a b ≡ true → a ≡ b
unfolding eq_ℚ
eq_ℚ_yes a b h =
    let both = (and-eq-true_iff _ _).0 h in
    ℚ-path (eq_ℤ_yes a.num b.num both.0) (eqb-true a.den b.den both.1)

-- The test finds equal fractions equal.
pub eq_ℚ_same : {a b : ℚ} → a ≡ b → eq_ℚ a b ≡ true
unfolding eq_ℚ
eq_ℚ_same {a} h = subst (λ b. eq_ℚ a b ≡ true) h ((and-eq-true_iff _ _).1 (eq_ℤ_refl a.num, eq-eqb a.den a.den refl))

-- Fractions that the test does not find equal are not.
pub eq_ℚ_no : (a b : ℚ) → eq_ℚ a b ≡ false → a ≢ b
eq_ℚ_no a b h same = true≢false (sym (eq_ℚ_same same) ∙ h)

-- Equality of fractions is decided.
pub ℚ-discrete : Discrete ℚ
ℚ-discrete a b = by (eq_ℚ a b) refl
  where
    by : (test : Bool) → eq_ℚ a b ≡ test → Dec (a ≡ b)
    by true h = yes (eq_ℚ_yes a b h)
    by false h = no (eq_ℚ_no a b h)

pub ℚ-set : IsSet ℚ
ℚ-set = hedberg ℚ-discrete
