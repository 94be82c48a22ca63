-- `fraction_inverse::inverted` meets its contract: upside down, a fraction in lowest terms stays in lowest terms.
-- Assumes nothing.
use mathlib.Core.Path.{◌≡◌, sym, ap, ap₂, ◌∙◌}
use Rattle.std.proofs.Common.{arith}
use lib.IntN.{pos, nat_abs}
use mir.Facts.{to_z-of_z, sfits_widen}
use mir.Syntax.{w32, w64}
use mir.Val.{to_z, of_z}
use Prim.Native.Nat.{ℕ}
use Rattle.fraction.specs.declared.Fraction.{Fraction}
use Rattle.fraction_reduce.specs.Values.{Good}
use Rattle.whole.specs.Signed.{signed}
use Rattle.fraction_reduce.proofs.Operations.{good_num, good_den, inverse_is, inverse_zero}
use Rattle.whole.proofs.Words.{read_back}
use Rattle.fraction_inverse.proofs.inverted.Goals as goal

-- the two sizes
top_size : {a : Fraction} {size : ℕ} → Good a → size ≡ nat_abs (to_z w32 (of_z w32 a.num)) → size ≡ nat_abs a.num
top_size good is = is ∙ ap nat_abs (to_z-of_z {w = w32} (good_num good))

bottom_size : {a : Fraction} {size : ℕ} → Good a → size ≡ nat_abs (to_z w32 (of_z w32 a.den)) → size ≡ nat_abs a.den
bottom_size good is = is ∙ ap nat_abs (to_z-of_z {w = w32} (good_den good))

pub returns-then-bottom-eq0 : goal.returns-then-bottom-eq0
returns-then-bottom-eq0 c = inverse_zero c.requires (sym (top_size c.requires c.size-bottom.ensures) ∙ c.if-bottom-eq0.true)

pub returns : goal.returns
returns c = let num = good_num c.requires in
    let like = read_back {w = w64} (c.wide.ensures ∙ to_z-of_z {w = w32} num) (sfits_widen {w = w32} {w' = w64} tt num) in
    inverse_is c.requires (omega (arith, top_size c.requires c.size-bottom.ensures, c.if-bottom-eq0.false))
    (c.made.ensures.above ∙ ap₂ signed like (bottom_size c.requires c.size.ensures))
    (c.made.ensures.below ∙ ap pos (top_size c.requires c.size-bottom.ensures))

pub made-requires : goal.made-requires
made-requires c = let good = c.requires in
    record { above = omega (arith, bottom_size c.requires c.size.ensures, good.below); below = omega (arith, top_size c.requires c.size-bottom.ensures, good.above) }
