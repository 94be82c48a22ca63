-- The operations of the run make the exact result, and make it exactly if it is within the limits.
-- Main results: `tested_made`, `tested_within`, `tested_stopped`, `tested_outside`, `plus_made`, `minus_made`, `times_made`, `over_made`, `within_limits`, `frac_within`. Assume nothing.
use mathlib.Core.Path.{◌≡◌, refl}
use mathlib.Core.Logic.{◌↔◌}
use mathlib.Core.Bool.{Bool, true, false, and-eq-true_iff}
use Prim.Native.Nat.{ℕ, zero, suc, ◌/◌, ◌≤◌, ◌<◌}
use native.Mathlib.Nat.{div-le_self}
use native.Mathlib.Omega.{arith}
use lib.IntN.{ℤ, nat_abs}
use borrow.Author.Tests.{leb-true, le-leb}
use Rattle.whole.specs.Gcd.{gcd}
use Rattle.whole.proofs.Sizes.{size_signed}
use Rattle.fraction.specs.Exact.{ℚ, frac, ◌+ℚ◌, ◌-ℚ◌, ◌*ℚ◌, ◌÷ℚ◌}
use Rattle.answer.specs.Refusals.{number_of}
use Rattle.answer.specs.declared.Reason.{Reason}
use Rattle.answer.specs.declared.Reason.TheVariants as reason
use Rattle.fraction.specs.Limits.{limit, within, tested, Outside, plus, minus, times, over}
use Rattle.fraction.specs.Made.{made, stopped}

-- A number within the limits passes the test.
pub tested_within : (q : ℚ) → within q ≡ true → tested q ≡ made q
unfolding tested
tested_within q h = rw h

-- A number outside the limits is refused.
pub tested_outside : (q : ℚ) → within q ≡ false → tested q ≡ stopped reason.Range
unfolding tested
tested_outside q h = rw h

-- What passes the test is the number itself, and lies within the limits.
pub tested_made : (q c : ℚ) → tested q ≡ made c → (c ≡ q) × (within c ≡ true)
tested_made q c h = by (within q) refl
  where
    by : (b : Bool) → within q ≡ b → (c ≡ q) × (within c ≡ true)
    by true inside = let same : c ≡ q = cc (tested_within q inside) in (same, cc)
    by false outside = let refusal = tested_outside q outside in (cc, cc)

-- What is refused lies outside the limits, and its refusal says so.
pub tested_stopped : (q : ℚ) (why : Reason) → tested q ≡ stopped why → (within q ≡ false) × Outside (number_of why)
unfolding Outside
tested_stopped q why h = by (within q) refl
  where
    by : (b : Bool) → within q ≡ b → (within q ≡ false) × (number_of why ≡ number_of reason.Range)
    by true inside = let passed = tested_within q inside in (cc, cc)
    by false outside = (outside, cc (tested_outside q outside))

-- What each operation of the run makes is the exact result, within the limits.
pub plus_made : (a b c : ℚ) → plus a b ≡ made c → (c ≡ a +ℚ b) × (within c ≡ true)
unfolding plus
plus_made a b c h = tested_made (a +ℚ b) c h

pub minus_made : (a b c : ℚ) → minus a b ≡ made c → (c ≡ a -ℚ b) × (within c ≡ true)
unfolding minus
minus_made a b c h = tested_made (a -ℚ b) c h

pub times_made : (a b c : ℚ) → times a b ≡ made c → (c ≡ a *ℚ b) × (within c ≡ true)
unfolding times
times_made a b c h = tested_made (a *ℚ b) c h

pub over_made : (a b c : ℚ) → over a b ≡ made c → (c ≡ a ÷ℚ b) × (within c ≡ true)
unfolding over
over_made a b c h = tested_made (a ÷ℚ b) c h

-- A number is within the limits exactly if both its numbers are.
pub within_limits : (q : ℚ) → (within q ≡ true) ↔ ((nat_abs q.num ≤ limit) × (q.den ≤ limit))
unfolding within
within_limits q =
    let both = and-eq-true_iff _ _ in
    (λ h. (leb-true _ _ (both.0 h).0, leb-true _ _ (both.0 h).1), λ h. both.1 (le-leb _ _ h.0, le-leb _ _ h.1))

-- Two numbers within the limits make a fraction within them, since lowest terms are no greater.
pub frac_within : (n : ℤ) (d : ℕ) → 0 < d → nat_abs n ≤ limit → d ≤ limit → within (frac n d) ≡ true
unfolding frac
frac_within n zero above small narrow = absurd (omega arith)
frac_within n (suc d) above small narrow =
    let common = gcd (nat_abs n) (suc d) in
    let size = size_signed n (nat_abs n / common) in
    let top = div-le_self (nat_abs n) common in
    let bottom = div-le_self (suc d) common in
    (within_limits (frac n (suc d))).1 (omega arith, omega arith)
