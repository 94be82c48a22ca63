-- Each contract leaves one answer.
-- Main results: a law NAME_unique for each public function NAME. Assume nothing.
use mathlib.Core.Path.{◌≡◌}
use Rattle.unique.specs.Twice.{Twice}
use Rattle.fraction_reduce.proofs.Unique.{answers_determined}
use Rattle.fraction_sum.proofs.difference.Kinds as difference-kinds
use Rattle.fraction_sum.proofs.difference.Reads as difference
use Rattle.fraction_sum.proofs.sum.Kinds as sum-kinds
use Rattle.fraction_sum.proofs.sum.Reads as sum

pub sum_unique : Twice sum-kinds.ps sum-kinds.r sum.Post λ κs a x y end end'. x ≡ y
sum_unique κs a x y end end' first second = answers_determined first second

pub difference_unique : Twice difference-kinds.ps difference-kinds.r difference.Post λ κs a x y end end'. x ≡ y
difference_unique κs a x y end end' first second = answers_determined first second
