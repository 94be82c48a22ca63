-- Each contract leaves one answer.
-- Main results: a law NAME_unique for each public function NAME. Assume nothing.
use Rattle.std.specs.Prelude.{Option, Some, None}
use mathlib.Core.Path.{◌≡◌, refl, sym, ap, ◌∙◌}
use mathlib.Core.Bool.{Bool, true≢false}
use Prim.Native.Nat.{ℕ, ◌<◌, ◌≤◌}
use native.Mathlib.Decide.{dec_lt}
use native.Mathlib.Omega.{arith}
use Rattle.unique.specs.Twice.{Twice}
use Rattle.record_faults.specs.Contract.{AllSound, Lowest, First}
use Rattle.record_faults.proofs.both_below.Kinds as both-below-kinds
use Rattle.record_faults.proofs.both_below.Reads as both_below
use Rattle.record_faults.proofs.first_beyond.Kinds as first-beyond-kinds
use Rattle.record_faults.proofs.first_beyond.Reads as first_beyond
use Rattle.record_faults.proofs.first_faulty.Kinds as first-faulty-kinds
use Rattle.record_faults.proofs.first_faulty.Reads as first-faulty

-- The lowest index that is not sound is one, and where there is one, not all are sound.
module _ (from end : ℕ) (sound : ℕ → Bool) where
  not_after : {r s : ℕ} → Lowest from end sound r → Lowest from end sound s → r ≤ s
  not_after {r} {s} p q = by (dec_lt s r)
    where
      by : Dec (s < r) → r ≤ s
      by (yes before) = let passed = p.passed.each s q.least before in absurd (true≢false (sym passed ∙ q.there))
      by (no here) = omega arith

  not_all : {r : ℕ} → AllSound from end sound → Lowest from end sound r → ⊥
  not_all {r} all p = true≢false (sym (all.each r p.least p.most) ∙ p.there)

  first_determined : (r s : Option ℕ) → First from end sound r → First from end sound s → r ≡ s
  first_determined None None p q = refl
  first_determined None (Some s) p q = absurd (not_all p q)
  first_determined (Some r) None p q = absurd (not_all q p)
  first_determined (Some r) (Some s) p q = let same : r ≡ s = omega (arith, not_after p q, not_after q p) in ap Some same

pub first_faulty_unique : Twice first-faulty-kinds.ps first-faulty-kinds.r first-faulty.Post λ κs a x y end end'. x ≡ y
first_faulty_unique κs a x y end end' first second = first_determined _ _ _ x y first second

pub first_beyond_unique : Twice first-beyond-kinds.ps first-beyond-kinds.r first_beyond.Post λ κs a x y end end'. x ≡ y
first_beyond_unique κs a x y end end' first second = first_determined _ _ _ x y first second

pub both_below_unique : Twice both-below-kinds.ps both-below-kinds.r both_below.Post λ κs a x y end end'. x ≡ y
both_below_unique κs a x y end end' first second = first ∙ sym second
