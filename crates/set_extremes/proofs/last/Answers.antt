-- `set_extremes::last` meets its contract: below an end, the set is cut to the numbers there. Assumes nothing.
use mathlib.Core.Path.{subst}
use Prim.Native.Nat.{◌-◌, ◌^◌, ◌<◌}
use Rattle.std.proofs.Common.{arith}
use lib.Bits.{bit_and}
use Rattle.set_members.proofs.Digits.{one_shifted}
use Rattle.set_extremes.specs.Extremes.{Last}
use Rattle.set_extremes.proofs.Downward.{last_below}
use Rattle.set_extremes.proofs.last.Goals as goal

pub returns : goal.returns
returns c = let small : c.args.end < 64 = omega arith in
    last_below c.args.set c.args.end c.top-2.result small
    (subst (λ p. Last (bit_and c.args.set (p - 1)) 64 c.top-2.result) (one_shifted c.args.end small) c.top-2.ensures)
