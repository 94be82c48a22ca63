-- The contract of `run_pivot::pivot` leaves one answer.
-- Main result: `pivot_unique`. Assumes nothing.
use Rattle.std.specs.Prelude.{None, Option, Some}
use mathlib.Core.Path.{◌≡◌, refl, sym, ap, ◌∙◌}
use mathlib.Core.Option.{Option as Maybe, some, none}
use Prim.Native.Nat.{ℕ}
use Rattle.unique.specs.Twice.{Twice}
use Rattle.run_pivot.specs.Contract.{pivoted}
use Rattle.run_pivot.proofs.pivot.Kinds.{ps, r}
use Rattle.run_pivot.proofs.pivot.Reads.{Post}

found_of : Maybe ℕ → Option ℕ
found_of (some c) = Some c
found_of none = None

found_back : (found : Option ℕ) → found_of (pivoted found) ≡ found
unfolding pivoted found_of
found_back (Some c) = refl
found_back None = refl

-- The rule's unknown is the answer, and no list is lent to be written.
pub pivot_unique : Twice ps r Post λ κs a x y end end'. x ≡ y
pivot_unique κs a x y end end' first second = sym (found_back x) ∙ ap found_of (sym first.chosen ∙ second.chosen) ∙ found_back y
