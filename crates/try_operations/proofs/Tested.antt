-- What passes the test of a fraction is good.
-- Main result: `tested_good`. Assumes nothing.
use mathlib.Core.Path.{◌≡◌, refl}
use mathlib.Core.Bool.{true}
use Prim.Native.Nat.{ℕ}
use native.Mathlib.Omega.{arith}
use lib.IntN.{ℤ, pos, negsuc, nat_abs}
use lib.Signed.{le_z}
use Rattle.fraction.specs.declared.Fraction.{Fraction}
use Rattle.fraction_reduce.specs.Values.{Good}
use Rattle.rules_listing.specs.Listing.{is_fraction}
use Rattle.list_fractions.proofs.Fractions.{and_true, fraction_is}

upward_den : (den : ℤ) → le_z (pos 1) den ≡ true → den ≡ pos (nat_abs den)
upward_den (pos n) h = refl
upward_den (negsuc n) h = let no_way : ◌≡◌ {A = ℕ} 0 1 = cc in absurd (omega arith)

pub tested_good : (f : Fraction) → is_fraction f.num f.den ≡ true → Good f
unfolding is_fraction
tested_good f h =
    let shown = fraction_is f.num f.den h in
    let three = (and_true _ _ h).0 in
    let two = (and_true _ _ three).0 in
    let one = (and_true _ _ two).0 in
    record { upward = upward_den f.den one; least = shown.least; below = shown.below; above = shown.above; lowest = shown.lowest }
