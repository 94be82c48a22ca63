-- Each contract leaves one answer and one content of both lists.
-- Main results: `comes_back_one`, `with_rows_unique`, `cleared_unique`. Assume nothing.
use mathlib.Core.Path.{◌≡◌, sym, ap, ◌∙◌}
use Rattle.unique.specs.Twice.{Twice}
use Rattle.answer.specs.declared.Answer.{Answer}
use Rattle.rules_outcome.specs.Outcome.{Lent, Outcome}
use Rattle.run_finish.specs.Lent.{comes_back}
use Rattle.run_finish.proofs.with_rows.Kinds as rows
use Rattle.run_finish.proofs.with_rows.Reads as rows-reads
use Rattle.run_finish.proofs.cleared.Kinds as cleared
use Rattle.run_finish.proofs.cleared.Reads as cleared-reads

-- What comes back is one answer, and one content of each list.
pub comes_back_one : {o : Outcome} {r s : Answer} {left left' : Lent} → o ≡ comes_back r left → o ≡ comes_back s left' → (r ≡ s) × (left.numerators ≡ left'.numerators) × (left.denominators ≡ left'.denominators)
comes_back_one first second =
    let same = sym first ∙ second in
    (ap (λ o. o.answer) same, ap (λ o. o.left.numerators) same, ap (λ o. o.left.denominators) same)

-- The answer is fixed, and both lists are, to the last place. Said of the contracts themselves: of what the toolchain reads from them.
pub with_rows_unique : Twice rows.ps rows.r rows-reads.Post λ κs a x y end end'. (x ≡ y) × (end.0.now ≡ end'.0.now) × (end.1.0.now ≡ end'.1.0.now)
with_rows_unique κs a x y end end' first second = comes_back_one first.outcome second.outcome

pub cleared_unique : Twice cleared.ps cleared.r cleared-reads.Post λ κs a x y end end'. (x ≡ y) × (end.0.now ≡ end'.0.now) × (end.1.0.now ≡ end'.1.0.now)
cleared_unique κs a x y end end' first second = comes_back_one first.outcome second.outcome
