-- The row of a term starts blank and is made from column to column of a set, outside of which the rule makes 0.
-- Main results: `blank_sound`, `blank_within`, `blank_leaves`, `may_hold_covers`, `sparse_more`. Assume nothing.
use mathlib.Core.Path.{◌≡◌, refl, sym, ap, ap₂, ◌∙◌}
use mathlib.Core.Logic.{inl}
use mathlib.Core.Bool.{Bool, true, false, ◌||◌, cond, true≢false}
use mathlib.Core.List.{List}
use Prim.Native.Nat.{ℕ, ◌+◌, ◌-◌, ◌*◌, ◌<◌}
use native.Mathlib.Decide.{ℕ_discrete, dec_lt}
use native.Mathlib.Omega.{arith}
use borrow.Author.Tests.{ne_eqb}
use lib.Dec.{eqb}
use lib.ListN.{get_or, set, length}
use lib.Seq.{get_or-set_same, get_or-set_other}
use lib.IntN.{ℤ}
use Rattle.set_members.specs.Sets.{holds}
use Rattle.fraction.specs.Exact.{ℚ, worth, zero_ℚ, ◌+ℚ◌, ◌-ℚ◌, ◌*ℚ◌}
use Rattle.fraction.specs.Limits.{tested, plus, minus, times}
use Rattle.answer.specs.declared.Reason.{Reason}
use Rattle.fraction.specs.Made.{Made, made}
use Rattle.fraction.proofs.Field.{plus_zero, plus_inverse, times_zero, minus_is_plus}
use Rattle.fraction_reduce.specs.Values.{Good}
use Rattle.fraction_reduce.proofs.Tests.{zero_stands, zero_passes}
use Rattle.rules_problem.specs.declared.Kind.{Kind}
use Rattle.rules_problem.specs.declared.Kind.TheVariants.{Variable, Constant, Gain, Sum, Difference, Lookup1, Lookup2, Lookup3}
use Rattle.rules_run.specs.Row.{TERMS, COLUMNS, constant, cell}
use Rattle.rules_run.specs.Build.{alone, built_column}
use Rattle.run_table.specs.Held.{held_at, table_at, SoundTo}
use Rattle.run_table.specs.Loop.{Kept}
use Rattle.run_table.specs.Sets.{Within, Sparse, columns_of}
use Rattle.run_table.proofs.OverSet.{Leaves}
use Rattle.run_table.proofs.Sparse.{zero_numerator}
use Rattle.run_build_row.specs.Buildable.{InputsEarlier}
use Rattle.run_build_row.specs.Sparse.{may_hold, Covered, Blank}
use Rattle.run_build_row.proofs.Building.{table_kept}
use Rattle.run_build_row.proofs.Columns.{cell_stands}

module _ {t : ℕ} {nums dens : List ℤ} (blank : Blank t nums dens) where
  -- A blank row behind sound ones is sound.
  pub blank_sound : SoundTo (COLUMNS * t) nums dens → SoundTo (COLUMNS * (t + 1)) nums dens
  blank_sound sound = record { good = λ k below. by k below (dec_lt k (COLUMNS * t)) }
    where
      by : (k : ℕ) → k < COLUMNS * (t + 1) → Dec (k < COLUMNS * t) → Good (held_at nums dens k)
      by k below (yes before) = sound.good k before
      by k below (no later) =
          let place : k ≡ COLUMNS * t + (k - COLUMNS * t) = omega arith in
          let inside : k - COLUMNS * t < COLUMNS = omega arith in
          rw place (zero_stands (blank.num (k - COLUMNS * t) inside) (blank.den (k - COLUMNS * t) inside)).good

  pub blank_within : (columns : ℕ) → Within columns (COLUMNS * t) nums
  blank_within columns = record { zero = λ c below out. blank.num c (omega arith) }

  -- It holds what the rule makes outside the set.
  pub blank_leaves : {columns : ℕ} {rule : ℕ → Made Reason ℚ} → Covered columns rule → Leaves rule columns (COLUMNS * t) nums dens
  blank_leaves covered =
      record { stands = λ c below out. covered.zero c below out ∙ ap made (sym (zero_stands (blank.num c (omega arith)) (blank.den c (omega arith))).same) }

both_false : (a b : Bool) → (a || b) ≡ false → (a ≡ false) × (b ≡ false)
both_false true b none = absurd (true≢false none)
both_false false b none = (refl, none)

alone_zero : (only : ℕ) (q : ℚ) (c : ℕ) → eqb c only ≡ false → ◌≡◌ {A = Made Reason ℚ} (made (alone only q c)) (made zero_ℚ)
unfolding alone
alone_zero only q c other = ap (λ b. made (cond b q zero_ℚ)) other

-- Where the sets of the rows below t are right, so is that of row t.
module _ (nums dens : List ℤ) (sets : List ℕ) (t : ℕ) (sound : SoundTo (COLUMNS * t) nums dens) (sparse : Sparse t nums sets) where
  cell_zero : (s c : ℕ) → s < t → c < TERMS → holds (columns_of sets s) c ≡ false → cell (table_at t nums dens) s c ≡ zero_ℚ
  cell_zero s c before below out =
      let stands = cell_stands nums dens t s c sound before (omega arith) refl in
      sym stands.same ∙ zero_numerator stands.good ((sparse.within s before).zero c below out)

  may_hold_zero : (kind : Kind) (c : ℕ) → InputsEarlier t kind → c < TERMS → may_hold sets t kind c ≡ false → built_column (table_at t nums dens) t kind c ≡ made zero_ℚ
  unfolding built_column may_hold InputsEarlier times plus minus
  may_hold_zero (Variable symbol) c inputs below out = alone_zero t _ c out
  may_hold_zero (Constant held) c inputs below out = alone_zero constant (worth held) c (ne_eqb c constant (λ same. omega arith))
  may_hold_zero (Gain factor input) c inputs below out =
      ap tested (ap (λ q. worth factor *ℚ q) (cell_zero input c inputs below out) ∙ times_zero (worth factor)) ∙ zero_passes
  may_hold_zero (Sum left right) c inputs below out =
      let (no-left, no-right) = both_false (holds (columns_of sets left) c) (holds (columns_of sets right) c) out in
      ap tested (ap₂ ◌+ℚ◌ (cell_zero left c inputs.0 below no-left) (cell_zero right c inputs.1 below no-right) ∙ plus_zero zero_ℚ) ∙ zero_passes
  may_hold_zero (Difference left right) c inputs below out =
      let (no-left, no-right) = both_false (holds (columns_of sets left) c) (holds (columns_of sets right) c) out in
      ap tested (ap₂ ◌-ℚ◌ (cell_zero left c inputs.0 below no-left) (cell_zero right c inputs.1 below no-right) ∙ sym (minus_is_plus zero_ℚ zero_ℚ) ∙ plus_inverse zero_ℚ) ∙ zero_passes
  may_hold_zero (Lookup1 symbol input) c inputs below out = alone_zero t _ c out
  may_hold_zero (Lookup2 symbol first second) c inputs below out = alone_zero t _ c out
  may_hold_zero (Lookup3 symbol first second third) c inputs below out = alone_zero t _ c out

  pub may_hold_covers : (kind : Kind) (columns : ℕ) {end : ℕ} {nums' dens' : List ℤ} → InputsEarlier t kind → ((c : ℕ) → holds columns c ≡ may_hold sets t kind c) → Kept (COLUMNS * t) end nums dens nums' dens' → Covered columns (built_column (table_at t nums' dens') t kind)
  may_hold_covers kind columns inputs told kept =
      record { zero = λ c below out. ap (λ table. built_column table t kind c) (table_kept t kept) ∙ may_hold_zero kind c inputs below (sym (told c) ∙ out) }

-- The set of row t is noted: the sets of one row more are right.
pub sparse_more : (t columns : ℕ) {nums₀ dens₀ nums dens : List ℤ} {sets : List ℕ} → t < length sets → Kept (COLUMNS * t) (COLUMNS * t + COLUMNS) nums₀ dens₀ nums dens → Sparse t nums₀ sets → Within columns (COLUMNS * t) nums → Sparse (t + 1) nums (set sets t columns)
unfolding columns_of
sparse_more t columns {nums₀} {nums = nums} {sets = sets} short kept sparse within = record { within = λ s below. by s below (ℕ_discrete s t) }
  where
    by : (s : ℕ) → s < t + 1 → Dec (s ≡ t) → Within (get_or (set sets t columns) s 0) (COLUMNS * s) nums
    by s below (yes same) = rw (same, get_or-set_same sets t columns 0 short) within
    by s below (no other) =
        let before : s < t = omega arith in
        rw (get_or-set_other sets t s columns 0 other)
        (record { zero = λ c small out. ap (λ f. f.num) (kept.outside (COLUMNS * s + c) (inl (omega arith))) ∙ (sparse.within s before).zero c small out })
