-- `whole_signed::times` meets its contract: the size of a product is the product of the sizes.
-- Assumes nothing.
use mathlib.Core.Path.{◌≡◌, ◌∙◌, refl}
use mir.Facts.{to_z-of_z, sfits_widen}
use mir.Syntax.{w32, w64}
use mir.Val.{to_z, of_z}
use Rattle.whole.proofs.Words.{fits_product, read_back, product_within}
use Rattle.whole_signed.proofs.times.Goals as goal

-- each factor, widened and read back
first_back : (c : goal.After-wide-2) → to_z w64 (of_z w64 c.wide.result) ≡ c.args.a
first_back c = read_back {w = w64} (c.wide.ensures ∙ to_z-of_z {w = w32} c.ranges.a) (sfits_widen {w = w32} {w' = w64} tt c.ranges.a)

second_back : (c : goal.After-wide-2) → to_z w64 (of_z w64 c.wide-2.result) ≡ c.args.b
second_back c = read_back {w = w64} (c.wide-2.ensures ∙ to_z-of_z {w = w32} c.ranges.b) (sfits_widen {w = w32} {w' = w64} tt c.ranges.b)

pub returns : goal.returns
returns c =
    let a = c.ranges.a in
    let b = c.ranges.b in
    rw (first_back c, second_back c, to_z-of_z {w = w64} (fits_product a b)) (record { is = refl; small = product_within a b })
