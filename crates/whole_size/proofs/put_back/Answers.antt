-- `whole_size::put_back` meets its contract: it has the other number's sign in either case.
-- Assumes nothing.
use mathlib.Core.Path.{sym, ap, ◌∙◌}
use lib.IntN.{pos, neg_ℤ}
use lib.Signed.{lt_z}
use mir.Facts.{to_z-of_z}
use mir.Syntax.{w32}
use Rattle.whole.proofs.Words.{below_zero, kept, signed_below, signed_upward}
use Rattle.whole_size.proofs.put_back.Goals as goal

pub returns-then-negative : goal.returns-then-negative
returns-then-negative c =
    let like = c.args.like in
    let upward = kept w32 c.narrow-upward.result c.narrow-upward.type_inv ∙ c.narrow-upward.ensures in
    let sign = sym (below_zero like) ∙ ap (λ z. lt_z z (pos 0)) (sym (to_z-of_z c.ranges.like)) ∙ sym c.is_negative-negative.ensures ∙ c.if-negative.true in
    kept w32 c.opposite.result c.opposite.type_inv ∙ c.opposite.ensures ∙ ap neg_ℤ upward ∙ sym (signed_below like c.args.size sign)

pub returns-else-negative : goal.returns-else-negative
returns-else-negative c =
    let like = c.args.like in
    let sign = sym (below_zero like) ∙ ap (λ z. lt_z z (pos 0)) (sym (to_z-of_z c.ranges.like)) ∙ sym c.is_negative-negative.ensures ∙ c.if-negative.false in
    kept w32 c.narrow-upward.result c.narrow-upward.type_inv ∙ c.narrow-upward.ensures ∙ sym (signed_upward like c.args.size sign)
