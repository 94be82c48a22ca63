-- The links of the lookups, where heads, inputs or sets have changed.
-- Main results: `linked_kept`, `linked_same`. Assume nothing.
use mathlib.Core.Path.{◌≡◌, refl, sym, ap, ◌∙◌}
use mathlib.Core.Bool.{true}
use mathlib.Core.List.{List}
use Prim.Native.Nat.{ℕ, ◌+◌, ◌*◌, ◌≤◌, ◌<◌}
use native.Mathlib.Omega.{arith}
use lib.ListN.{get_or}
use Rattle.set_members.specs.Sets.{holds}
use Rattle.run_table.specs.Sets.{users_of, earlier_of, Linked}

-- What is linked stays so, where the sets of the links lose nothing.
pub linked_kept : {n : ℕ} {heads inputs sets heads' inputs' sets' : List ℕ} → n ≤ 64 → ((j k : ℕ) → j < n → k < 3 → get_or inputs (3 * j + k) 0 < 64) → ((j : ℕ) → j < n → get_or heads' j 0 ≡ get_or heads j 0) → ((k : ℕ) → k < 3 * n → get_or inputs' k 0 ≡ get_or inputs k 0) → ((k j : ℕ) → 64 ≤ k → k < 128 + n → holds (get_or sets k 0) j ≡ true → holds (get_or sets' k 0) j ≡ true) → Linked n heads inputs sets → Linked n heads' inputs' sets'
unfolding users_of earlier_of
linked_kept {n} {heads} {inputs} {sets} {heads'} {inputs'} {sets'} few small same-heads same_inputs more linked =
    record {
      users = λ j k below place lookup.
          let inside : 3 * j + k < 3 * n = omega arith in
          let input = small j k below place in
          ap (λ x. holds (get_or sets' (64 + x) 0) j) (same_inputs (3 * j + k) inside)
          ∙ more (64 + get_or inputs (3 * j + k) 0) j (omega arith) (omega arith) (linked.users j k below place (λ none. lookup (same-heads j below ∙ none)));
      earlier = λ i j before below lookup same.
          more (128 + j) i (omega arith) (omega arith) (linked.earlier i j before below (λ none. lookup (same-heads j below ∙ none)) (sym (same-heads i (omega arith)) ∙ same ∙ same-heads j below));
    }

-- So they do where only sets of columns, or the pending ones, have changed.
pub linked_same : {n : ℕ} {heads inputs sets sets' : List ℕ} → n ≤ 64 → ((j k : ℕ) → j < n → k < 3 → get_or inputs (3 * j + k) 0 < 64) → ((k : ℕ) → 64 ≤ k → k < 192 → get_or sets' k 0 ≡ get_or sets k 0) → Linked n heads inputs sets → Linked n heads inputs sets'
linked_same few small same =
    linked_kept few small (λ j below. refl) (λ k below. refl) (λ k j low high h. ap (λ s. holds s j) (same k low (omega arith)) ∙ h)
