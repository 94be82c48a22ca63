-- What a product with a whole number asks for.
-- Main definition: `WholeFactor`. Assumes nothing.
use Rattle.std.specs.Prelude.{◌≡◌, pos}
use Rattle.fraction.specs.declared.Fraction.{Fraction}
use Rattle.fraction_reduce.specs.Values.{Good}

-- Two good fractions, the first of them a whole number.
pub record WholeFactor (a b : Fraction) : Type 0 where
  pub first : Good a
  pub second : Good b
  pub whole : a.den ≡ pos 1
