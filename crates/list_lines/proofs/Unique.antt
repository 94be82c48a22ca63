-- Each contract leaves one answer.
-- Main results: `listed_unique`, and a law NAME_unique for each public function NAME. Assume nothing.
use mathlib.Core.Path.{◌≡◌, sym, ap, ◌∙◌}
use mathlib.Core.List.{List}
use Prim.Native.Nat.{ℕ}
use Rattle.std.specs.Prelude.{Result, Ok, Err}
use Rattle.unique.specs.Twice.{Twice}
use Rattle.answer.specs.declared.Refusal.{Refusal}
use Rattle.list_lines.specs.Contract.{reached_of, listed_by}
use Rattle.list_lines.proofs.list_row_at.Kinds as row-kinds
use Rattle.list_lines.proofs.list_row_at.Reads as row_reads
use Rattle.list_lines.proofs.first_line_at.Kinds as first-kinds
use Rattle.list_lines.proofs.first_line_at.Reads as first_reads

-- Different answers are different in the rule's terms.
reached_one_to_one : (r s : Result ℕ Refusal) → reached_of r ≡ reached_of s → r ≡ s
unfolding reached_of
reached_one_to_one (Ok p) (Ok q) e = ap Ok (cc)
reached_one_to_one (Ok p) (Err k) e = cc
reached_one_to_one (Err k) (Ok q) e = cc
reached_one_to_one (Err k) (Err l) e = ap Err (cc)

-- What is left of a call tells its answer and the buffer.
pub listed_unique : (r s : Result ℕ Refusal) (after after' : List ℕ) → listed_by r after ≡ listed_by s after' → (r ≡ s) × (after ≡ after')
unfolding listed_by
listed_unique r s after after' same = (reached_one_to_one r s (ap (λ l. l.reached) same), ap (λ l. l.buffer) same)

pub list_row_at_unique : Twice row-kinds.ps row-kinds.r row_reads.Post λ κs a x y end end'. (x ≡ y) × (end.0.now ≡ end'.0.now)
list_row_at_unique κs a x y end end' first second = listed_unique x y _ _ (first.answers ∙ sym second.answers)

pub first_line_at_unique : Twice first-kinds.ps first-kinds.r first_reads.Post λ κs a x y end end'. (x ≡ y) × (end.0.now ≡ end'.0.now)
first_line_at_unique κs a x y end end' first second = listed_unique x y _ _ (first.answers ∙ sym second.answers)
