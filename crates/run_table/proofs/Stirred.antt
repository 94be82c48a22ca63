-- What the sets of a run say of rows that stand, and after one step and another.
-- Main results: `within_kept`, `stirred_then`. Assume nothing.
use mathlib.Core.Path.{◌≡◌, ap, ◌∙◌}
use mathlib.Core.Logic.{◌⊎◌, inl, inr}
use mathlib.Core.Bool.{true}
use mathlib.Core.List.{List}
use Prim.Native.Nat.{ℕ, ◌+◌, ◌*◌, ◌≤◌, ◌<◌}
use native.Mathlib.Omega.{arith}
use lib.IntN.{ℤ}
use Rattle.set_members.specs.Sets.{holds}
use Rattle.run_table.specs.Held.{row_at}
use Rattle.run_table.specs.Loop.{Kept}
use Rattle.run_table.specs.Sets.{Within, users_of, pending_of, Stirred}

-- A row that keeps what it holds stays within its set.
pub within_kept : {s base low high : ℕ} {nums₀ dens₀ nums dens : List ℤ} → Kept low high nums₀ dens₀ nums dens → (base + 65 ≤ low) ⊎ (high ≤ base) → Within s base nums₀ → Within s base nums
within_kept {s} {base} {low} {high} kept away within =
    record { zero = λ c below out. ap (λ f. f.num) (kept.outside (base + c) (apart c below away)) ∙ within.zero c below out }
  where
    apart : (c : ℕ) → c < 64 → (base + 65 ≤ low) ⊎ (high ≤ base) → (base + c < low) ⊎ (high ≤ base + c)
    apart c below (inl before) = inl (omega arith)
    apart c below (inr after) = inr (omega arith)

-- One step after another.
pub stirred_then : {n : ℕ} {nums₀ dens₀ nums dens nums' dens' : List ℤ} {sets₀ sets sets' : List ℕ} → n ≤ 64 → Stirred n nums₀ dens₀ nums dens sets₀ sets → Stirred n nums dens nums' dens' sets sets' → Stirred n nums₀ dens₀ nums' dens' sets₀ sets'
unfolding users_of
stirred_then {n} {nums₀} {dens₀} {nums} {dens} {nums'} {dens'} {sets₀} {sets} {sets'} few first second =
    record {
      same_length = second.same_length ∙ first.same_length;
      links = λ k low high. second.links k low high ∙ first.links k low high;
      remembered = λ j h. second.remembered j (first.remembered j h);
      woken = λ t below. by t below (first.woken t below) (second.woken t below);
    }
  where
    by : (t : ℕ) → t < n
        → (row_at nums dens (65 * t) ≡ row_at nums₀ dens₀ (65 * t)) ⊎ ((j : ℕ) → holds (users_of sets₀ t) j ≡ true → holds (pending_of sets) j ≡ true)
        → (row_at nums' dens' (65 * t) ≡ row_at nums dens (65 * t)) ⊎ ((j : ℕ) → holds (users_of sets t) j ≡ true → holds (pending_of sets') j ≡ true)
        → (row_at nums' dens' (65 * t) ≡ row_at nums₀ dens₀ (65 * t)) ⊎ ((j : ℕ) → holds (users_of sets₀ t) j ≡ true → holds (pending_of sets') j ≡ true)
    by t below (inr woken) _ = inr (λ j h. second.remembered j (woken j h))
    by t below (inl same) (inl again) = inl (again ∙ same)
    by t below (inl same) (inr woken) = inr (λ j h. woken j (ap (λ s. holds s j) (first.links (64 + t) (omega arith) (λ e. omega arith)) ∙ h))
