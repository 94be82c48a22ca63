-- Each contract leaves one answer.
-- Main results: `term_at_unique`, `pair_at_unique`. Assume nothing.
use mathlib.Core.Path.{◌≡◌, sym, ◌∙◌}
use Rattle.unique.specs.Twice.{Twice}
use Rattle.answer.specs.declared.Refusal.{Refusal}
use Rattle.fraction.specs.Made.{Made, made}
use Rattle.rules_problem.specs.declared.Term.{Term}
use Rattle.rules_problem.specs.Problem.{Pair}
use Rattle.record_items.specs.Held.{as_pair}
use Rattle.record_items.proofs.pair_at.Kinds as pair-at-kinds
use Rattle.record_items.proofs.pair_at.Reads as pair-at
use Rattle.record_items.proofs.term_at.Kinds as term-at-kinds
use Rattle.record_items.proofs.term_at.Reads as term-at

pub term_at_unique : Twice term-at-kinds.ps term-at-kinds.r term-at.Post λ κs a x y end end'. x ≡ y
term_at_unique κs a x y end end' first second = let same : ◌≡◌ {A = Made Refusal Term} (made x) (made y) = first ∙ sym second in cc

pub pair_at_unique : Twice pair-at-kinds.ps pair-at-kinds.r pair-at.Post λ κs a x y end end'. x ≡ y
unfolding as_pair
pair_at_unique κs a x y end end' first second =
    let both : ◌≡◌ {A = Made Refusal Pair} (made (as_pair x)) (made (as_pair y)) = first ∙ sym second in
    let same : as_pair x ≡ as_pair y = cc in
    λ i. record { left = (same i).left; right = (same i).right }
