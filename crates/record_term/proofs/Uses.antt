-- What a kind uses, as the code tests it.
-- Main results: `fits_is`, `below_cut`, `fits_tested`. Assumes nothing.
use Rattle.std.specs.Prelude.{◌≡◌, Bool, true, false, ◌&&◌, ◌||◌, List, [], ◌∷◌, ◌++◌, ℕ, ◌+◌, ◌-◌, take, drop, eqb, ltb, ◌≤◌}
use Rattle.std.proofs.Common.{arith, refl, sym, ap, ◌∙◌, take_all, length-drop}
use lib.Seq.{take-add}
use mathlib.Core.Bool.{and-true}
use Rattle.rules_problem.specs.Record.{Fields, every}
use Rattle.record_term.specs.Terms.{all_zeros, below}
use Rattle.record_term.specs.Uses.{inputs_of, unused, fits}

and_assoc : (a b c : Bool) → ((a && b) && c) ≡ (a && (b && c))
and_assoc true b c = refl
and_assoc false b c = refl

zeros_both : (xs ys : List ℕ) → all_zeros (xs ++ ys) ≡ (all_zeros xs && all_zeros ys)
unfolding all_zeros every
zeros_both [] ys = refl
zeros_both (x ∷ xs) ys = ap (λ b. eqb x 0 && b) (zeros_both xs ys) ∙ sym (and_assoc (eqb x 0) (all_zeros xs) (all_zeros ys))

-- The inputs that are not used, as a slice gives them.
not_used : (inputs : ℕ) (f : Fields) → take (3 - inputs) (drop inputs (inputs_of f)) ≡ drop inputs (inputs_of f)
unfolding inputs_of
not_used inputs f = take_all (3 - inputs) (drop inputs (f.input1 ∷ f.input2 ∷ f.input3 ∷ [])) (rw length-drop (omega arith))

-- What the code tests, one after the other, is what the table asks for.
pub fits_is : (own : ℕ) (f : Fields) (symbol : Bool) (inputs : ℕ) (scaled : Bool) → (((((symbol || eqb f.symbol 0) && all_zeros (take (3 - inputs) (drop inputs (inputs_of f)))) && (scaled || (eqb f.mantissa 0 && eqb f.shift 0))) && eqb f.padding 0) && below own (take inputs (inputs_of f))) ≡ fits own f symbol inputs scaled
unfolding fits unused all_zeros every
fits_is own f true inputs true = simp (not_used, zeros_both, and_assoc, and-true)
fits_is own f true inputs false = simp (not_used, zeros_both, and_assoc, and-true)
fits_is own f false inputs true = simp (not_used, zeros_both, and_assoc, and-true)
fits_is own f false inputs false = simp (not_used, zeros_both, and_assoc, and-true)

-- The inputs that are used, tested in two parts.
below_both : (own : ℕ) (xs ys : List ℕ) → below own (xs ++ ys) ≡ (below own xs && below own ys)
unfolding below every
below_both own [] ys = refl
below_both own (x ∷ xs) ys = ap (λ b. ltb x own && b) (below_both own xs ys) ∙ sym (and_assoc (ltb x own) (below own xs) (below own ys))

pub below_cut : (own : ℕ) {m : ℕ} (inputs : ℕ) (xs : List ℕ) {a b : Bool} → m ≤ inputs → a ≡ below own (take m xs) → b ≡ below own (take (inputs - m) (drop m xs)) → (a && b) ≡ below own (take inputs xs)
below_cut own {m} inputs xs within first rest =
    let whole : m + (inputs - m) ≡ inputs = omega arith in
    let cut : take inputs xs ≡ take m xs ++ take (inputs - m) (drop m xs) = ap (λ n. take n xs) (sym whole) ∙ take-add m (inputs - m) xs in
    rw (first, rest, cut) (sym (below_both own (take m xs) (take (inputs - m) (drop m xs))))

-- What the code answers, by what its tests answer.
pub fits_tested : (own : ℕ) (f : Fields) (symbol : Bool) (inputs : ℕ) (scaled : Bool) {zero low : Bool} → zero ≡ all_zeros (take (3 - inputs) (drop inputs (inputs_of f))) → low ≡ below own (take inputs (inputs_of f)) → (((((symbol || eqb f.symbol 0) && zero) && (scaled || (eqb f.mantissa 0 && eqb f.shift 0))) && eqb f.padding 0) && low) ≡ fits own f symbol inputs scaled
fits_tested own f symbol inputs scaled zero low = rw (zero, low) (fits_is own f symbol inputs scaled)
