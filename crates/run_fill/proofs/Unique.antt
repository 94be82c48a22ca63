-- The contract of a fill leaves one list.
-- Main result: `fill_unique`. Assumes nothing.
use mathlib.Core.Path.{◌≡◌, sym, ◌∙◌}
use mathlib.Core.Logic.{inl, inr}
use mathlib.Core.List.{List}
use Prim.Native.Nat.{ℕ, ◌≤◌, ◌<◌}
use native.Mathlib.Decide.{dec_lt}
use native.Mathlib.Omega.{arith}
use lib.ListN.{get_or}
use lib.Seq.{ext_get_or}
use lib.IntN.{ℤ, pos}
use Rattle.unique.specs.Twice.{Twice}
use Rattle.run_fill.specs.Contract.{Filled}
use Rattle.run_fill.proofs.fill.Kinds.{ps, r}
use Rattle.run_fill.proofs.fill.Reads.{Post}

filled_same : {from end : ℕ} {x : ℤ} {before list list' : List ℤ} → Filled from end x before list → Filled from end x before list' → list ≡ list'
filled_same {from} {end} {list = list} {list'} first second =
    ext_get_or (pos 0) list list' (first.same_length ∙ sym second.same_length) (λ k below. by k (dec_lt k from) (dec_lt k end))
  where
    by : (k : ℕ) → Dec (k < from) → Dec (k < end) → get_or list k (pos 0) ≡ get_or list' k (pos 0)
    by k (yes low) high = first.outside k (inl low) ∙ sym (second.outside k (inl low))
    by k (no low) (yes high) =
        let from_low : from ≤ k = omega arith in
        first.inside k from_low high ∙ sym (second.inside k from_low high)
    by k (no low) (no high) =
        let beyond : end ≤ k = omega arith in
        first.outside k (inr beyond) ∙ sym (second.outside k (inr beyond))

-- What the list holds afterwards is fixed, at every place. Said of the contract itself: of what the toolchain reads from it.
pub fill_unique : Twice ps r Post λ κs a x y (list, _) (list', _). list.now ≡ list'.now
fill_unique κs a x y end end' first second = filled_same first second
