-- `fraction_sum::cross` meets its contract: within the limits each product is below 2^62, so that their sum fits.
-- Assumes nothing.
use mathlib.Core.Path.{◌≡◌, ap₂, ◌∙◌}
use Rattle.std.proofs.Common.{arith}
use lib.IntN.{ℤ, ◌+ℤ◌, ◌*ℤ◌}
use mir.Facts.{to_z-of_z}
use mir.Syntax.{w32, w64}
use mir.Val.{to_z, of_z}
use lib.Signed.{mag}
use Prim.Native.Nat.{◌<◌, ◌^◌}
use Rattle.fraction.specs.declared.Fraction.{Fraction}
use Rattle.fraction_reduce.specs.Values.{Good}
use Rattle.whole_signed.specs.Contract.{Product}
use Rattle.fraction_reduce.proofs.Operations.{good_num, good_den, product_below}
use Rattle.whole.proofs.Words.{kept, size_sum}
use Rattle.fraction_sum.proofs.cross.Goals as goal

-- a product of a numerator and a denominator, as it is read back
product_is : {a b : Fraction} {r : ℤ} → Good a → Good b → mag r < 2 ^ 63 → Product (to_z w32 (of_z w32 a.num)) (to_z w32 (of_z w32 b.den)) r → to_z w64 (of_z w64 r) ≡ a.num *ℤ b.den
product_is {r = r} left right fits product =
    kept w64 r fits ∙ (rw (to_z-of_z {w = w32} (good_num left), to_z-of_z {w = w32} (good_den right)) at product.is)

pub plus-requires : goal.plus-requires
plus-requires c = let a = c.args.a in
    let b = c.args.b in
    let left = c.requires.a_good in
    let right = c.requires.b_good in
    record {
      first = rw (product_is left right c.times.type_inv c.times.ensures) (product_below a.num b.den left.above right.below);
      second = rw (product_is right left c.times-2.type_inv c.times-2.ensures) (product_below b.num a.den right.above left.below);
    }

pub returns : goal.returns
returns c = let a = c.args.a in
    let b = c.args.b in
    let left = c.requires.a_good in
    let right = c.requires.b_good in
    let is = kept w64 c.plus.result c.plus.type_inv ∙ c.plus.ensures ∙ ap₂ ◌+ℤ◌ (product_is left right c.times.type_inv c.times.ensures) (product_is right left c.times-2.type_inv c.times-2.ensures) in
    record {
      is = is;
      small = rw is (omega (
        arith,
        size_sum (a.num *ℤ b.den) (b.num *ℤ a.den),
        product_below a.num b.den left.above right.below,
        product_below b.num a.den right.above left.below,
      ));
    }
