-- One column of a fold: what the rule makes of it, where the number stands as it is, and the steps that the code takes.
-- Main results: `folded_solved`, `folded_gains`, `gains_no_form`, `gains_nothing`, `gained_one`, `gained_product`, `gained_refused`. Assume nothing.
use Rattle.std.specs.Prelude.{Err, Ok, Result, IsErrAnd}
use Rattle.std.proofs.lemmas.Result.{err_from_is_err_and}
use Rattle.answer.specs.declared.Reason.{Reason}
use mathlib.Core.Path.{◌≡◌, refl, sym, ap, ◌∙◌, subst}
use mathlib.Core.Bool.{cond}
use Prim.Native.Nat.{ℕ}
use borrow.Author.Tests.{eq-eqb, ne_eqb}
use lib.IntN.{pos}
use mir.Syntax.{w32}
use mir.Val.{of_z}
use Rattle.fraction.specs.declared.Fraction.{Fraction}
use Rattle.fraction.specs.Exact.{ℚ, zero_ℚ, ◌*ℚ◌}
use Rattle.fraction.specs.Limits.{tested, plus, times}
use Rattle.fraction.specs.Made.{made, stopped, ◌>>=◌}
use Rattle.fraction.proofs.Field as field
use Rattle.fraction_reduce.specs.Values.{value, Good, Answers, says, FitsGood}
use Rattle.fraction_reduce.proofs.Answered.{fits_made, refused_stopped}
use Rattle.fraction_reduce.proofs.Operations.{good_num, good_den}
use Rattle.fraction_reduce.proofs.Shortcuts.{word_is, times_one}
use Rattle.fraction_reduce.proofs.Tests.{good_passes, zero_passes}
use Rattle.rules_run.specs.Row.{Row, column}
use Rattle.rules_run.specs.Merge.{folded_column}
use Rattle.run_fold.specs.Cell.{gained_by}
use Rattle.run_fold.specs.Contract.{Gainable}

-- In the solved column the coefficient becomes 0.
pub folded_solved : (p : ℕ) (form r : Row) (c : ℕ) → c ≡ p → folded_column p form r c ≡ made zero_ℚ
unfolding folded_column gained_by
folded_solved p form r c same = ap (λ t. cond t (made zero_ℚ) (gained_by (column r p) (column form c) (column r c))) (eq-eqb c p same)

-- Any other column gains k times the form's.
pub folded_gains : (p : ℕ) (form r : Row) (c : ℕ) → (c ≡ p → ⊥)
    → folded_column p form r c ≡ gained_by (column r p) (column form c) (column r c)
unfolding folded_column gained_by
folded_gains p form r c other = ap (λ t. cond t (made zero_ℚ) (gained_by (column r p) (column form c) (column r c))) (ne_eqb c p other)

-- The product is made, and then the sum; a product that is refused is the end.
gained_then : (k f x : ℚ) {q : ℚ} → times k f ≡ made q → gained_by k f x ≡ plus x q
unfolding gained_by ◌>>=◌
gained_then k f x h = rw h

gained_stops : (k f x : ℚ) {why : Reason} → times k f ≡ stopped why → gained_by k f x ≡ stopped why
unfolding gained_by ◌>>=◌
gained_stops k f x h = rw h

-- Where the product is zero, a number within the limits stands.
gains_zero : (k f : ℚ) {x : Fraction} → Good x → k *ℚ f ≡ zero_ℚ → gained_by k f (value x) ≡ made (value x)
unfolding times plus
gains_zero k f {x} good none =
    gained_then k f (value x) (ap tested none ∙ zero_passes) ∙ ap tested (field.plus_zero (value x)) ∙ good_passes good

-- Where the form holds 0, or the coefficient is 0, a number within the limits stands.
pub gains_no_form : (k : ℚ) {x : Fraction} → Good x → gained_by k zero_ℚ (value x) ≡ made (value x)
gains_no_form k good = gains_zero k zero_ℚ good (field.times_zero k)

pub gains_nothing : (f : ℚ) {x : Fraction} → Good x → gained_by zero_ℚ f (value x) ≡ made (value x)
gains_nothing f good = gains_zero zero_ℚ f good (field.times_comm zero_ℚ f ∙ field.times_zero f)

-- What answers for the code's steps answers for the rule: where k is 1 the sum with the form's number,
module _ {k form old : Fraction} (asked : Gainable k form old) where
  pub gained_one : {r : Result Fraction Reason} → of_z w32 k.num ≡ of_z w32 (pos 1) → of_z w32 k.den ≡ of_z w32 (pos 1)
      → Answers r (plus (value old) (value form)) → Answers r (gained_by (value k) (value form) (value old))
  gained_one {r} num den answers =
      let good = asked.coefficient_good in
      let product = times_one good asked.form_good (word_is (pos 1) tt (good_num good) num) (word_is (pos 1) tt (good_den good) den) in
      subst (Answers r) (sym (gained_then (value k) (value form) (value old) (fits_made product refl))) answers

  -- else the sum with the product that was made,
  pub gained_product : {r : Result Fraction Reason} {f : Fraction} → Answers (Ok f) (times (value k) (value form))
      → Answers r (plus (value old) (value f)) → Answers r (gained_by (value k) (value form) (value old))
  gained_product {r} multiplied answers = subst (Answers r) (sym (gained_then (value k) (value form) (value old) (fits_made multiplied refl))) answers

  -- or the refusal of the product.
  pub gained_refused : {why : Reason} {r : Result Fraction Reason} → Answers (Err why) (times (value k) (value form))
      → IsErrAnd r (λ reason. reason ≡ why) → Answers r (gained_by (value k) (value form) (value old))
  unfolding says FitsGood
  gained_refused {r = r} multiplied refused =
      let p = err_from_is_err_and r refused in
      rw (p.1, p.2) (record { same = sym (gained_stops (value k) (value form) (value old) (refused_stopped multiplied refl)); sound = tt })
