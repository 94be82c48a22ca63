-- The contract of `decide` leaves one answer and one content of each lent list, those that the rules lay down.
-- Main results: `decided_one`, `decide_unique`, `decide_lays_down`. Assume nothing.
use mathlib.Core.Path.{◌≡◌}
use mathlib.Core.List.{List}
use Prim.Native.Nat.{ℕ}
use borrow.Fn.Kinds.{Dens, ended_of}
use contract.Lifetimes.{Lfts}
use denote.Triple.Clauses.{AtExit}
use Rattle.unique.specs.Twice.{Twice}
use Rattle.answer.specs.declared.Answer.{Answer}
use Rattle.rules_run.specs.Run.{highest_number}
use Rattle.rules_outcome.specs.Outcome.{Lent, outcome}
use Rattle.run_finish.specs.Lent.{lent_of, comes_back}
use Rattle.run_finish.proofs.Unique.{comes_back_one}
use Rattle.decide.specs.Decided.{Decided}
use Rattle.decide.proofs.decide.Kinds.{ps, r}
use Rattle.decide.proofs.decide.Reads.{Post}

-- Two answers, with the lists that are left, that are both decided for one byte string and the same lent lists are the same.
pub decided_one : {bytes : List ℕ} {lent left left' : Lent} {x y : Answer} → Decided bytes lent (comes_back x left) → Decided bytes lent (comes_back y left') → (x ≡ y) × (left.numerators ≡ left'.numerators) × (left.denominators ≡ left'.denominators)
decided_one first second = comes_back_one first.rules second.rules

-- Said of the contract itself: of what the toolchain reads from it. The answer is fixed, refusals too, and so is every place of both lists.
pub decide_unique : Twice ps r Post λ κs a x y end end'. (x ≡ y) × (end.1.0.now ≡ end'.1.0.now) × (end.1.1.0.now ≡ end'.1.1.0.now)
decide_unique κs a x y end end' first second = decided_one first second

-- Demand 1 of the contract itself: for every byte string and all lists lent, what satisfies it is the outcome of the rules.
pub decide_lays_down : (κs : Lfts 3) (a : Dens κs ps) (x : Answer) (end : AtExit (ended_of 3 ps r) κs) → Post κs a x end → outcome highest_number a.0.now (lent_of a.1.0.now a.1.1.0.now) ≡ comes_back x (lent_of end.1.0.now end.1.1.0.now)
decide_lays_down κs a x end promised = promised.rules
