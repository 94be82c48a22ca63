-- The contract of `whole_gcd::greatest` leaves one answer.
-- Main result: `greatest_unique`. Assumes nothing.
use mathlib.Core.Path.{◌≡◌, sym, ◌∙◌}
use Rattle.unique.specs.Twice.{Twice}
use Rattle.whole_gcd.proofs.greatest.Kinds.{ps, r}
use Rattle.whole_gcd.proofs.greatest.Reads.{Post}

pub greatest_unique : Twice ps r Post λ κs a x y end end'. x ≡ y
greatest_unique κs a x y end end' first second = first ∙ sym second
