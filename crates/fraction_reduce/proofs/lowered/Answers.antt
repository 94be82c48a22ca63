-- `fraction_reduce::lowered` meets its contract: what is divided by the greatest common divisor gets no larger.
-- Assumes nothing.
use mathlib.Core.Path.{ap, ap₂, ◌∙◌}
use Prim.Native.Nat.{ℕ, ◌^◌, ◌<◌, ◌≤◌}
use native.Mathlib.Nat.{div-le_self}
use Rattle.std.proofs.Common.{arith}
use lib.IntN.{pos, nat_abs}
use lib.Pow.{pow-lt, pow_pos}
use mir.Facts.{to_z-of_z, sfits_widen}
use mir.Syntax.{w32, w64}
use mir.Val.{SFits}
use Rattle.whole.specs.Gcd.{gcd}
use Rattle.whole.specs.Signed.{signed}
use Rattle.whole.proofs.Words.{fits_size, read_back}
use Rattle.fraction.specs.Exact.{worth}
use Rattle.fraction.specs.InRecord.{InRecord}
use Rattle.fraction.specs.Limits.{limit}
use Rattle.fraction.specs.declared.Scaled.{Scaled}
use Rattle.fraction_reduce.specs.Contract.{InLowest}
use Rattle.fraction_reduce.proofs.Operations.{lowest_stands}
use Rattle.fraction_reduce.proofs.lowered.Goals as goal

power_small : (shift : ℕ) → shift < 16 → 2 ^ shift ≤ limit
unfolding limit
power_small shift h = let below : 2 ^ shift < 2 ^ 16 = pow-lt {j = 16} h in omega arith

mantissa_small : {s : Scaled} → InRecord s → nat_abs s.mantissa ≤ limit
unfolding limit
mantissa_small h = omega (arith, h.mantissa)

mantissa_fits : {s : Scaled} → InRecord s → SFits w32 s.mantissa
mantissa_fits {s} h = fits_size w32 s.mantissa (omega (arith, h.mantissa))

pub returns : goal.returns
unfolding worth
returns c =
    let s = c.args.s in
    let fits = mantissa_fits c.requires in
    let top = c.size.ensures ∙ ap nat_abs (to_z-of_z {w = w32} fits) in
    let terms : InLowest (nat_abs s.mantissa) (2 ^ s.shift) c.lowest-terms.result = rw (top, c.power.ensures) at c.lowest-terms.ensures in
    let like = read_back {w = w64} (c.from.ensures ∙ to_z-of_z {w = w32} fits) (sfits_widen {w = w32} {w' = w64} tt fits) in
    lowest_stands s.mantissa (2 ^ s.shift) (pow_pos s.shift)
    (c.made.ensures.above ∙ ap₂ signed like terms.above)
    (c.made.ensures.below ∙ ap pos terms.below)
    (mantissa_small c.requires)
    (power_small s.shift c.requires.shift)

pub lowest-terms-requires : goal.lowest-terms-requires
lowest-terms-requires c = rw c.power.ensures (pow_pos c.args.s.shift)

pub made-requires : goal.made-requires
made-requires c =
    let s = c.args.s in
    let common = gcd (nat_abs s.mantissa) (2 ^ s.shift) in
    let top = c.size.ensures ∙ ap nat_abs (to_z-of_z {w = w32} (mantissa_fits c.requires)) in
    let terms : InLowest (nat_abs s.mantissa) (2 ^ s.shift) c.lowest-terms.result = rw (top, c.power.ensures) at c.lowest-terms.ensures in
    record {
      above = omega (arith, terms.above, div-le_self (nat_abs s.mantissa) common, mantissa_small c.requires);
      below = omega (arith, terms.below, div-le_self (2 ^ s.shift) common, power_small s.shift c.requires.shift);
    }
