-- The unknown of highest rank, where some unknowns are preferred: the highest of those, and if there is none the highest of all.
-- Main results: `preferring_one_to_one`, `preferring_none`, `chooses_preferred`, `chooses_other`. Assume nothing.
use Rattle.std.specs.Prelude.{None, Option, Some}
use mathlib.Core.Path.{◌≡◌, refl, sym, ap, ap₂, ◌∙◌, fun_ext}
use mathlib.Core.Logic.{◌≢◌}
use mathlib.Core.Bool.{Bool, true, false, ◌&&◌, cond}
use mathlib.Core.Option.{Option as Maybe, some, none}
use Prim.Native.Nat.{ℕ, ◌+◌, ◌≤◌, ◌<◌}
use native.Mathlib.Decide.{dec_lt}
use native.Mathlib.Omega.{arith}
use Rattle.set_members.specs.Sets.{holds}
use Rattle.set_members.proofs.Digits.{holds_none}
use Rattle.fraction.specs.Exact.{zero_ℚ}
use Rattle.rules_run.specs.Row.{Row, TERMS, column}
use Rattle.rules_run.specs.Merge.{pivot}
use Rattle.rules_run.specs.Run.{by_number}
use Rattle.laws_invariant.proofs.Pivot.{Pivot, pivot_some, pivot_none}
use Rattle.run_table.specs.Lists.{Lists, row_in, RowWithin}
use Rattle.run_table.proofs.Lists.{column_nothing}
use Rattle.run_pivot.specs.Contract.{preferring, pivoted, Highest, FindsHighest, Pivots}

-- How a column ranks: above all others if it is preferred, else by its number.
module _ (preferred c : ℕ) where
  ranks_above : holds preferred c ≡ true → preferring preferred c ≡ c + TERMS
  unfolding preferring
  ranks_above there = ap (λ b. cond b (c + TERMS) c) there

  ranks_as_number : holds preferred c ≡ false → preferring preferred c ≡ c
  unfolding preferring
  ranks_as_number there = ap (λ b. cond b (c + TERMS) c) there

-- No two columns of terms rank alike.
pub preferring_one_to_one : (preferred c k : ℕ) → c < TERMS → k < TERMS → preferring preferred c ≡ preferring preferred k → c ≡ k
preferring_one_to_one preferred c k c-below k-below same = by (holds preferred c) (holds preferred k) refl refl
  where
    by : (a b : Bool) → holds preferred c ≡ a → holds preferred k ≡ b → c ≡ k
    by true true p q = omega (arith, ranks_above preferred c p, ranks_above preferred k q)
    by true false p q = omega (arith, ranks_above preferred c p, ranks_as_number preferred k q)
    by false true p q = omega (arith, ranks_as_number preferred c p, ranks_above preferred k q)
    by false false p q = omega (arith, ranks_as_number preferred c p, ranks_as_number preferred k q)

-- Where none is preferred a column ranks by its number.
pub preferring_none : preferring 0 ≡ by_number
unfolding by_number
preferring_none = fun_ext (λ c. ranks_as_number 0 c (holds_none c))

module _ (preferred : ℕ) (d : Row) where
  -- The column of highest rank is the one that the rule finds; where all are 0 it finds none.
  pivot_is : {p : ℕ} → Pivot (preferring preferred) TERMS d p → pivot (preferring preferred) TERMS d ≡ some p
  pivot_is {p} top = by (pivot (preferring preferred) TERMS d) refl
    where
      by : (o : Maybe ℕ) → pivot (preferring preferred) TERMS d ≡ o → o ≡ some p
      by none h = absurd (top.nonzero (pivot_none (preferring preferred) d TERMS h p top.below))
      by (some q) h =
          let other = pivot_some (preferring preferred) d TERMS q h in
          ap some (preferring_one_to_one preferred q p other.below top.below
          (omega (arith, top.highest q other.below other.nonzero, other.highest p top.below top.nonzero)))

  pivot_of_zeros : ((c : ℕ) → c < TERMS → column d c ≡ zero_ℚ) → pivot (preferring preferred) TERMS d ≡ none
  pivot_of_zeros zeros = by (pivot (preferring preferred) TERMS d) refl
    where
      by : (o : Maybe ℕ) → pivot (preferring preferred) TERMS d ≡ o → o ≡ none
      by none h = refl
      by (some q) h = let other = pivot_some (preferring preferred) d TERMS q h in absurd (other.nonzero (zeros q other.below))

module _ (set preferred both : ℕ) {d : Lists} (row : RowWithin set 0 d) (shared : (k : ℕ) → holds both k ≡ (holds set k && holds preferred k)) where
  -- A column that is not 0 is in the set.
  in_set : (c : ℕ) → c < TERMS → column (row_in d 0) c ≢ zero_ℚ → holds set c ≡ true
  in_set c below nonzero = by (holds set c) refl
    where
      by : (b : Bool) → holds set c ≡ b → b ≡ true
      by true there = refl
      by false there = absurd (nonzero (column_nothing row c below there))

  in_both : (c : ℕ) → holds set c ≡ true → holds preferred c ≡ true → holds both c ≡ true
  in_both c s p = shared c ∙ ap₂ ◌&&◌ s p

  both_parts : (c : ℕ) → holds both c ≡ true → (holds set c ≡ true) × (holds preferred c ≡ true)
  both_parts c there = by (holds set c) (holds preferred c) refl refl (sym (shared c) ∙ there)
    where
      by : (a b : Bool) → holds set c ≡ a → holds preferred c ≡ b → (a && b) ≡ true → (a ≡ true) × (b ≡ true)
      by true true s p e = (refl, refl)
      by true false s p e = let never : ◌≡◌ {A = ℕ} 0 1 = cc in absurd (omega arith)
      by false b s p e = let never : ◌≡◌ {A = ℕ} 0 1 = cc in absurd (omega arith)

  taken_preferred : {found : Option ℕ} {p : ℕ} → FindsHighest both d found → found ≡ Some p → Pivots set preferred d (Some p)
  unfolding pivoted
  taken_preferred {p = p} finds at = record {
    chosen = pivot_is preferred (row_in d 0) (record { below = top.unknown.term; nonzero = top.nonzero; highest = ranks });
    unknown = λ q same_at. let same : p ≡ q = cc in record { term = let below = top.unknown.term in omega arith; inside = ap (holds set) (sym same) ∙ (both_parts p top.unknown.inside).0 };
  }
    where
      top : Highest both d p
      top = finds.highest p at

      ranks : (c : ℕ) → c < TERMS → column (row_in d 0) c ≢ zero_ℚ → preferring preferred c ≤ preferring preferred p
      ranks c below nonzero = by (holds preferred c) refl (dec_lt p c)
        where
          of_p : preferring preferred p ≡ p + TERMS
          of_p = ranks_above preferred p (both_parts p top.unknown.inside).1

          by : (b : Bool) → holds preferred c ≡ b → Dec (p < c) → preferring preferred c ≤ preferring preferred p
          by true there (yes above) = absurd (nonzero (top.zero_above c above below (in_both c (in_set c below nonzero) there)))
          by true there (no not-above) = omega (arith, of_p, ranks_above preferred c there)
          by false there above = omega (arith, of_p, ranks_as_number preferred c there)

  taken_other : {first found : Option ℕ} → FindsHighest both d first → first ≡ None → FindsHighest set d found → Pivots set preferred d found
  unfolding pivoted
  taken_other {first} {found} before none-preferred finds = by found finds
    where
      not_preferred : (c : ℕ) → c < TERMS → column (row_in d 0) c ≢ zero_ℚ → holds preferred c ≡ false
      not_preferred c below nonzero = of (holds preferred c) refl
        where
          of : (b : Bool) → holds preferred c ≡ b → b ≡ false
          of true there = absurd (nonzero (before.zeros none-preferred c below (in_both c (in_set c below nonzero) there)))
          of false there = refl

      by : (found : Option ℕ) → FindsHighest set d found → Pivots set preferred d found
      by (Some p) finds = record {
        chosen = pivot_is preferred (row_in d 0) (record { below = top.unknown.term; nonzero = top.nonzero; highest = λ c below nonzero. ranks c below nonzero (dec_lt p c) });
        unknown = λ q same_at. (finds.highest q same_at).unknown;
      }
        where
          top : Highest set d p
          top = finds.highest p refl

          ranks : (c : ℕ) → c < TERMS → column (row_in d 0) c ≢ zero_ℚ → Dec (p < c) → preferring preferred c ≤ preferring preferred p
          ranks c below nonzero (yes above) = absurd (nonzero (top.zero_above c above below (in_set c below nonzero)))
          ranks c below nonzero (no not-above) =
              omega (arith, ranks_as_number preferred c (not_preferred c below nonzero), ranks_as_number preferred p (not_preferred p top.unknown.term top.nonzero))
      by None finds = record {
        chosen = pivot_of_zeros preferred (row_in d 0) all;
        unknown = λ p at. let never : ◌≡◌ {A = ℕ} 0 1 = cc in absurd (omega arith);
      }
        where
          all : (c : ℕ) → c < TERMS → column (row_in d 0) c ≡ zero_ℚ
          all c below = of (holds set c) refl
            where
              of : (b : Bool) → holds set c ≡ b → column (row_in d 0) c ≡ zero_ℚ
              of true there = finds.zeros refl c below there
              of false there = column_nothing row c below there

module _ {set preferred both : ℕ} {d : Lists} {first : Option ℕ} (row : RowWithin set 0 d) (shared : (k : ℕ) → holds both k ≡ (holds set k && holds preferred k)) (before : FindsHighest both d first) where
  -- A preferred unknown is left: the highest of them is solved.
  pub chooses_preferred : {p : ℕ} → first ≡ Some p → Pivots set preferred d (Some p)
  chooses_preferred at = taken_preferred set preferred both row shared before at

  -- None is: the highest unknown of all is solved, or there is none.
  pub chooses_other : {found : Option ℕ} → first ≡ None → FindsHighest set d found → Pivots set preferred d found
  chooses_other none-preferred finds = taken_other set preferred both row shared before none-preferred finds
