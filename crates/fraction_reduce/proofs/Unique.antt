-- Each contract leaves one answer.
-- Main results: `answers_determined`, `stands_determined`, and a law NAME_unique for each public function NAME. Assume nothing.
use Rattle.std.specs.Prelude.{Err, Ok, Result}
use mathlib.Core.Path.{◌≡◌, sym, ap, ◌∙◌}
use Prim.Native.Nat.{ℕ}
use native.Mathlib.Omega.{arith}
use Rattle.unique.specs.Twice.{Twice}
use Rattle.fraction.specs.Exact.{ℚ}
use Rattle.answer.specs.declared.Reason.{Reason}
use Rattle.fraction.specs.Made as rule
use Rattle.fraction.specs.Made.{made, stopped}
use Rattle.fraction.specs.declared.Fraction.{Fraction}
use Rattle.fraction_reduce.specs.Values.{Stands, says, FitsGood, Answers}
use Rattle.fraction_reduce.proofs.Lowest.{value_one_to_one}
use Rattle.fraction_reduce.proofs.bottoms.Kinds as bottoms-kinds
use Rattle.fraction_reduce.proofs.bottoms.Reads as bottoms
use Rattle.fraction_reduce.proofs.lowered.Kinds as lowered-kinds
use Rattle.fraction_reduce.proofs.lowered.Reads as lowered
use Rattle.fraction_reduce.proofs.reduce.made.Kinds as made-kinds
use Rattle.fraction_reduce.proofs.reduce.made.Reads as making
use Rattle.fraction_reduce.proofs.reduce.reduced.Kinds as reduced-kinds
use Rattle.fraction_reduce.proofs.reduce.reduced.Reads as reduced

made_one_to_one : {p q : ℚ} → ◌≡◌ {A = rule.Made Reason ℚ} (made p) (made q) → p ≡ q
made_one_to_one e = cc

refused_one_to_one : {k l : Reason} → ◌≡◌ {A = rule.Made Reason ℚ} (stopped k) (stopped l) → k ≡ l
refused_one_to_one e = cc

never_both : {q : ℚ} {k : Reason} → ◌≡◌ {A = rule.Made Reason ℚ} (made q) (stopped k) → ⊥
never_both e = let z : ◌≡◌ {A = ℕ} 0 1 = cc in omega arith

-- An answer that the rule's fixes, and a fraction that its exact value fixes.
says_one_to_one : (r s : Result Fraction Reason) → FitsGood r → FitsGood s → says r ≡ says s → r ≡ s
unfolding says FitsGood
says_one_to_one (Ok f) (Ok g) p q e = ap Ok (value_one_to_one p q (made_one_to_one e))
says_one_to_one (Ok f) (Err k) p q e = absurd (never_both e)
says_one_to_one (Err k) (Ok g) p q e = absurd (never_both (sym e))
says_one_to_one (Err k) (Err l) p q e = ap Err (refused_one_to_one e)

pub answers_determined : {r s : Result Fraction Reason} {answer : rule.Made Reason ℚ} → Answers r answer → Answers s answer → r ≡ s
answers_determined {r} {s} p q = says_one_to_one r s p.sound q.sound (p.same ∙ sym q.same)

pub stands_determined : {f g : Fraction} {q : ℚ} → Stands f q → Stands g q → f ≡ g
stands_determined p q = value_one_to_one p.good q.good (p.same ∙ sym q.same)

pub lowered_unique : Twice lowered-kinds.ps lowered-kinds.r lowered.Post λ κs a x y end end'. x ≡ y
lowered_unique κs a x y end end' first second = stands_determined first second

pub made_unique : Twice made-kinds.ps made-kinds.r making.Post λ κs a x y end end'. x ≡ y
made_unique κs a x y end end' first second = λ i. record { num = (first.above ∙ sym second.above) i; den = (first.below ∙ sym second.below) i }

pub reduced_unique : Twice reduced-kinds.ps reduced-kinds.r reduced.Post λ κs a x y end end'. x ≡ y
reduced_unique κs a x y end end' first second = answers_determined first second

pub bottoms_unique : Twice bottoms-kinds.ps bottoms-kinds.r bottoms.Post λ κs a x y end end'. x ≡ y
bottoms_unique κs a x y end end' first second = first.is ∙ sym second.is
