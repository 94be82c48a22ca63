-- The contracts of the fold leave one answer; of the sets they leave one where a row is noted.
-- Main results: `fold_rows_unique`, `noted_unique`. Assume nothing.
use mathlib.Core.Path.{◌≡◌, sym, ◌∙◌}
use mathlib.Core.List.{List}
use Prim.Native.Nat.{ℕ, ◌*◌, ◌^◌, ◌<◌}
use native.Mathlib.Decide.{ℕ_discrete}
use lib.ListN.{get_or}
use lib.Seq.{ext_get_or}
use Rattle.unique.specs.Twice.{Twice}
use Rattle.set_members.proofs.Unique.{sets_equal}
use Rattle.rules_run.specs.Row.{TERMS, COLUMNS}
use Rattle.run_table.specs.Lists.{both}
use Rattle.run_table.specs.Sets.{PENDING, columns_of, pending_of}
use Rattle.run_table.proofs.SameEnd.{SameEnd, SameLinks, table_same_end, stirred_alike}
use Rattle.run_fold.specs.Contract.{Noted}
use Rattle.run_fold.proofs.fold_rows.Kinds.{ps, r}
use Rattle.run_fold.proofs.fold_rows.Reads.{Post}

-- How the fold ends is fixed, and both lists where it is done; where it is refused, so is every place but those of the n rows, which may hold
-- anything that is sound: the run ends there, and its caller clears them. (The sets are hints: any serve that have room.)
pub fold_rows_unique : Twice ps r Post λ κs (_, (_, (n, _))) x y (nums, (dens, (_, (_, (_, (_, (_, (sets, _)))))))) (nums', (dens', (_, (_, (_, (_, (_, (sets', _)))))))).
    SameEnd 0 (COLUMNS * n) x y (both nums.now dens.now) (both nums'.now dens'.now) × SameLinks sets.now sets'.now
fold_rows_unique κs (_, (_, (n, _))) x y end end' first second =
    (table_same_end n first.ends second.ends first.kept second.kept first.sound second.sound, stirred_alike first.stirred second.stirred)

-- What `note` ensures fixes the sets.
pub noted_unique : {t p set : ℕ} {sets₀ sets sets' : List ℕ} → ((k : ℕ) → get_or sets k 0 < 2 ^ 64) → ((k : ℕ) → get_or sets' k 0 < 2 ^ 64)
    → Noted t p set sets₀ sets → Noted t p set sets₀ sets' → sets ≡ sets'
unfolding columns_of pending_of
noted_unique {t} {sets = sets} {sets'} small small' first second =
    ext_get_or 0 sets sets' (first.same_length ∙ sym second.same_length) (λ k below. by k (ℕ_discrete k t) (ℕ_discrete k PENDING))
  where
    by : (k : ℕ) → Dec (k ≡ t) → Dec (k ≡ PENDING) → get_or sets k 0 ≡ get_or sets' k 0
    by k (yes same) test = rw same (sets_equal TERMS (get_or sets t 0) (get_or sets' t 0) (small t) (small' t) (λ c below. first.columns c ∙ sym (second.columns c)))
    by k (no other) (yes last) = rw last (sets_equal TERMS (get_or sets PENDING 0) (get_or sets' PENDING 0) (small PENDING) (small' PENDING) (λ j below. first.pending j ∙ sym (second.pending j)))
    by k (no other) (no rest) = first.others k other rest ∙ sym (second.others k other rest)
