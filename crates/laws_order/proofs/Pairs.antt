-- The same pairs in another order, with repeats, or with sides exchanged, are met by the same values and readings.
-- Main results: `same_symmetric`, `same_valuations`, `same_readings`, `met_too`. Assume nothing.
use mathlib.Core.Path.{◌≡◌, sym, subst}
use mathlib.Core.Logic.{◌↔◌, ⊎_elim}
use mathlib.Core.List.{List, Memᴰ}
use Prim.Native.Nat.{ℕ}
use Rattle.fraction.specs.Exact.{ℚ}
use Rattle.rules_problem.specs.declared.Term.{Term}
use Rattle.rules_problem.specs.Problem.{Pair, Problem}
use Rattle.rules_reading.specs.Reading.{Reading, Meets, MeetsAll}
use Rattle.rules_reading.specs.Forced.{Met}
use Rattle.laws_invariant.specs.Invariant.{ValuesMeet}
use Rattle.rules_demands.specs.Order.{swapped, Covers, SameUpToOrder}

-- Numbers that are equal on both sides of each pair of a list are so for every list that it covers.
covers_equal : {A : Type 0} (number : ℕ → A) (pairs others : List Pair) → Covers others pairs → ((pair : Pair) → Memᴰ pair pairs → number pair.left ≡ number pair.right) → (pair : Pair) → Memᴰ pair others → number pair.left ≡ number pair.right
unfolding Covers swapped
covers_equal number pairs others covers meets pair member = ⊎_elim (meets pair) (λ turned. sym (meets _ turned)) (covers pair member)

-- Sameness up to order has no direction.
pub same_symmetric : {p q : Problem} → SameUpToOrder p q → SameUpToOrder q p
same_symmetric same = record { terms = sym same.terms; goal = sym same.goal; there = same.back; back = same.there }

module _ {p q : Problem} (same : SameUpToOrder p q) where
  -- The same problem up to order is met by the same values,
  pub same_valuations : (v : ℕ → ℚ) → ValuesMeet v p.pairs ↔ ValuesMeet v q.pairs
  unfolding ValuesMeet
  same_valuations v = (covers_equal v p.pairs q.pairs same.back, covers_equal v q.pairs p.pairs same.there)

  -- and by the same readings,
  pub same_readings : {terms : List Term} (reading : Reading terms) → MeetsAll reading p.pairs ↔ MeetsAll reading q.pairs
  unfolding MeetsAll Meets
  same_readings reading = (covers_equal reading.number p.pairs q.pairs same.back, covers_equal reading.number q.pairs p.pairs same.there)

  -- so that where one can be met, the other can.
  pub met_too : Met p → Met q
  met_too met =
      let (reading, meets) = subst (λ terms. (r : Reading terms) × MeetsAll r q.pairs) same.terms (met.reading, (same_readings met.reading).0 met.meets) in
      record { reading = reading; meets = meets }
