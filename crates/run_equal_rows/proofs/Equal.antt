-- The test of two rows, number by number.
-- Main results: `equal_numbers`, `unequal_nums`, `unequal_dens`, `same_step`, `same_skips`, `same_outside`, `row_itself`, `same_rows`, `differing_rows`. Assume nothing.
use mathlib.Core.Path.{◌≡◌, refl, sym, ap, ap₂, ◌∙◌}
use mathlib.Core.Bool.{Bool, true, false, ◌&&◌, false≢true}
use mathlib.Core.List.{List}
use Prim.Native.Nat.{ℕ, zero, suc, ◌+◌, ◌-◌, ◌*◌, ◌<◌, ◌≤◌}
use native.Mathlib.Decide.{dec_lt}
use native.Mathlib.Omega.{arith}
use lib.IntN.{ℤ, pos}
use lib.ListN.{get_or}
use mir.Syntax.{w32}
use mir.Val.{SFits, to_z, of_z}
use mir.Facts.{to_z-of_z}
use Rattle.fraction.specs.declared.Fraction.{Fraction}
use Rattle.fraction.specs.Exact.{eq_ℚ}
use Rattle.fraction_reduce.specs.Values.{value}
use Rattle.fraction.proofs.Equality.{eq_ℚ_yes, eq_ℚ_same}
use Rattle.fraction_reduce.proofs.Lowest.{value_one_to_one}
use Rattle.fraction_reduce.proofs.Operations.{good_num, good_den}
use Rattle.rules_run.specs.Row.{Row, Table, COLUMNS, column, row_of, cell, same_to, same_row}
use Rattle.laws_invariant.proofs.Rows.{same_row_equal}
use Rattle.set_members.specs.Sets.{holds}
use Rattle.run_table.specs.Held.{held_at, row_at, table_at, SoundTo}
use Rattle.run_table.specs.Sets.{Within}
use Rattle.run_table.proofs.Columns.{column_held, row_held_lem}
use Rattle.run_table.proofs.Sparse.{zero_numerator}
use Rattle.run_equal_rows.specs.Contract.{BothGood}

word_one_to_one : {x y : ℤ} → SFits w32 x → SFits w32 y → of_z w32 x ≡ of_z w32 y → x ≡ y
word_one_to_one p q e = sym (to_z-of_z p) ∙ ap (to_z w32) e ∙ to_z-of_z q

module _ {f g : Fraction} (both : BothGood f g) where
  -- Good structs with the same two words are equal fractions.
  pub equal_numbers : of_z w32 f.num ≡ of_z w32 g.num → of_z w32 f.den ≡ of_z w32 g.den → true ≡ eq_ℚ (value f) (value g)
  equal_numbers n d =
      let num = word_one_to_one (good_num both.left) (good_num both.right) n in
      let den = word_one_to_one (good_den both.left) (good_den both.right) d in
      let same : f ≡ g = λ i. record { num = num i; den = den i } in
      sym (eq_ℚ_same (ap value same))

  -- Good structs that differ in one of their words are unequal fractions.
  unequal_words : (word : Fraction → ℕ) → (word f ≡ word g → ⊥) → false ≡ eq_ℚ (value f) (value g)
  unequal_words word other = by (eq_ℚ (value f) (value g)) refl
    where
      by : (test : Bool) → eq_ℚ (value f) (value g) ≡ test → false ≡ test
      by true e = absurd (other (ap word (value_one_to_one both.left both.right (eq_ℚ_yes (value f) (value g) e))))
      by false e = refl

  pub unequal_nums : (of_z w32 f.num ≡ of_z w32 g.num → ⊥) → false ≡ eq_ℚ (value f) (value g)
  unequal_nums = unequal_words (λ x. of_z w32 x.num)

  pub unequal_dens : (of_z w32 f.den ≡ of_z w32 g.den → ⊥) → false ≡ eq_ℚ (value f) (value g)
  unequal_dens = unequal_words (λ x. of_z w32 x.den)

-- The test of the first columns begins with the last of them.
pub same_step : (c : ℕ) (r s : Row) {test : Bool} → 0 < c → test ≡ eq_ℚ (column r (c - 1)) (column s (c - 1)) → same_to c r s ≡ test && same_to (c - 1) r s
unfolding same_to
same_step zero r s some e = absurd (omega arith)
same_step (suc c) r s some e =
    let before : suc c - 1 ≡ c = omega arith in
    rw (e, before)

-- Columns in which both rows hold the same need no test.
pub same_skips : (from c : ℕ) (r s : Row) → from ≤ c → ((k : ℕ) → from ≤ k → k < c → column r k ≡ column s k) → same_to c r s ≡ same_to from r s
same_skips from zero r s below all = ap (λ k. same_to k r s) (omega arith)
same_skips from (suc c) r s below all = by (dec_lt c from) (λ inside. same_skips from c r s inside (λ k low high. all k low (omega arith)))
  where
    by : Dec (c < from) → (from ≤ c → same_to c r s ≡ same_to from r s) → same_to (suc c) r s ≡ same_to from r s
    by (yes over) rest = ap (λ k. same_to k r s) (omega arith)
    by (no inside) rest =
        let before : suc c - 1 ≡ c = omega arith in
        let same : true ≡ eq_ℚ (column r (suc c - 1)) (column s (suc c - 1)) = sym (ap (λ k. eq_ℚ (column r k) (column s k)) before ∙ eq_ℚ_same (all c (omega arith) (omega arith))) in
        same_step (suc c) r s (omega arith) same ∙ ap (λ k. same_to k r s) before ∙ rest (omega arith)

-- Outside a set that both rows are within, they hold the same.
pub same_outside : {set left right : ℕ} (nums dens : List ℤ) (c : ℕ) → c < 64 → SoundTo (left + 65) nums dens → SoundTo (right + 65) nums dens → Within set left nums → Within set right nums → holds set c ≡ false → column (row_at nums dens left) c ≡ column (row_at nums dens right) c
same_outside {set} {left} {right} nums dens c below sound-left sound-right within_left within_right out =
    column_held nums dens left c (omega arith)
    ∙ zero_numerator (sound-left.good (left + c) (omega arith)) (within_left.zero c below out)
    ∙ sym (column_held nums dens right c (omega arith) ∙ zero_numerator (sound-right.good (right + c) (omega arith)) (within_right.zero c below out))

same_self : (columns : ℕ) (r : Row) → same_to columns r r ≡ true
unfolding same_to
same_self zero r = refl
same_self (suc c) r = ap₂ ◌&&◌ (eq_ℚ_same {a = column r c} refl) (same_self c r)

-- A term has the row of itself.
pub row_itself : (table : Table) (t : ℕ) → same_row table t t ≡ true
unfolding same_row
row_itself table t = same_self COLUMNS (row_of table t)

-- Terms have equal rows exactly if the rows at 65t and 65u have the same numbers.
pub same_rows : (n : ℕ) (nums dens : List ℤ) (t u : ℕ) → t < n → u < n → same_row (table_at n nums dens) t u ≡ same_to COLUMNS (row_at nums dens (65 * t)) (row_at nums dens (65 * u))
unfolding same_row
same_rows n nums dens t u p q = ap₂ (same_to COLUMNS) (row_held_lem n nums dens t p) (row_held_lem n nums dens u q)

-- Rows that hold different numerators in a column are not equal.
pub differing_rows : (n : ℕ) (nums dens : List ℤ) (t u c : ℕ) → t < n → u < n → c < 65 → SoundTo (65 * n) nums dens → {test : Bool} → test ≡ true → (get_or nums (65 * t + c) (pos 0) ≡ get_or nums (65 * u + c) (pos 0) → test ≡ false) → same_row (table_at n nums dens) t u ≡ false
unfolding cell
differing_rows n nums dens t u c p q within sound taken equal = by (same_row (table_at n nums dens) t u) refl
  where
    held : (k : ℕ) → k < n → cell (table_at n nums dens) k c ≡ value (held_at nums dens (65 * k + c))
    held k below = ap (λ r. column r c) (row_held_lem n nums dens k below) ∙ column_held nums dens (65 * k) c within

    by : (test : Bool) → same_row (table_at n nums dens) t u ≡ test → test ≡ false
    by false e = refl
    by true e =
        let same = sym (held t p) ∙ (same_row_equal (table_at n nums dens) t u).0 e c within ∙ held u q in
        let one = value_one_to_one (sound.good (65 * t + c) (omega arith)) (sound.good (65 * u + c) (omega arith)) same in
        absurd (false≢true (sym (equal (ap (λ f. f.num) one)) ∙ taken))
