-- The contract of `fraction_product::product` leaves one answer.
-- Main result: `product_unique`. Assumes nothing.
use mathlib.Core.Path.{◌≡◌}
use Rattle.unique.specs.Twice.{Twice}
use Rattle.fraction_reduce.proofs.Unique.{answers_determined}
use Rattle.fraction_product.proofs.product.Kinds.{ps, r}
use Rattle.fraction_product.proofs.product.Reads.{Post}

pub product_unique : Twice ps r Post λ κs a x y end end'. x ≡ y
product_unique κs a x y end end' first second = answers_determined first second
