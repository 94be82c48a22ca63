-- The text of a piece by its parts, and how long it can be.
-- Main results: `over_one`, `over_more`, `top_fits`, `term_of_constant`, `term_of_column`, `piece_of_zero`, `piece_of_parts`, `shown_within`, `piece_length`, `pieces_length`. Assume nothing.
use mathlib.Core.Path.{◌≡◌, refl, sym, ap, ap₂, ◌∙◌}
use mathlib.Core.Bool.{Bool, true, false, ◌&&◌, cond}
use mathlib.Core.List.{List, [], ◌++◌, append-nil, append_assoc}
use Prim.Native.Nat.{ℕ, zero, suc, ◌*◌, ◌≤◌, ◌<◌}
use native.Mathlib.Omega.{arith}
use lib.Dec.{eqb, leb}
use lib.ListN.{length, length-append}
use lib.IntN.{ℤ, pos, negsuc, nat_abs}
use borrow.Author.Tests.{eq-eqb, ne_eqb, le-leb, leb-true}
use Rattle.whole.specs.Gcd.{gcd}
use Rattle.whole.proofs.Lowest.{gcd_symmetric}
use Rattle.whole.proofs.Sizes.{size_zero}
use Rattle.fraction.specs.Exact.{ℚ, frac, zero_ℚ, whole, eq_ℤ, eq_ℚ}
use Rattle.fraction.specs.Limits.{limit, within}
use Rattle.whole.proofs.Steps.{gcd_stops}
use Rattle.fraction_reduce.proofs.Lowest.{lowest_num, lowest_den}
use Rattle.rules_run.specs.Row.{Row, constant, column}
use Rattle.rules_listing.specs.Text.{ascii, decimal}
use Rattle.rules_listing.specs.Line.{sign_of, fraction_text, term_text, piece, pieces}
use Rattle.list_decimal.proofs.Decimal.{decimal_length}
use Rattle.list_pieces.specs.Contract.{over_text}
use Rattle.list_fractions.proofs.Fractions.{and_true, Shown}

-- A whole number has no denominator; any other has a slash and its denominator.
pub over_one : (top bottom : ℕ) → bottom ≡ 1 → over_text top bottom ≡ decimal top
unfolding over_text
over_one top bottom one = rw (eq-eqb bottom 1 one) (append-nil (decimal top))

pub over_more : (top bottom : ℕ) → (bottom ≡ 1 → ⊥) → over_text top bottom ≡ decimal top ++ ascii "/" ++ decimal bottom
unfolding over_text
over_more top bottom more = rw (ne_eqb bottom 1 more) (sym (append_assoc (decimal top) (ascii "/") (decimal bottom)))

pub top_fits : (top bottom : ℕ) → length (decimal top) ≤ length (over_text top bottom)
unfolding over_text
top_fits top bottom = omega (arith, length-append (decimal top) (cond (eqb bottom 1) [] (ascii "/" ++ decimal bottom)))

-- The constant has no term; any other column has its own.
pub term_of_constant : (c : ℕ) → c ≡ constant → term_text c ≡ []
unfolding term_text
term_of_constant c is = rw (eq-eqb c constant is)

pub term_of_column : (c : ℕ) → (c ≡ constant → ⊥) → term_text c ≡ ascii "*t" ++ decimal c
unfolding term_text
term_of_column c other = rw (ne_eqb c constant other)

-- a piece by the two numbers of its fraction
by_numbers : (c : ℕ) (num : ℤ) (den : ℕ) → List ℕ
by_numbers c num den = cond (eq_ℤ num (pos 0) && eqb den 1) [] (ascii " " ++ sign_of num ++ over_text (nat_abs num) den ++ term_text c)

other_than_zero : (num : ℤ) → (nat_abs num ≡ 0 → ⊥) → eq_ℤ num (pos 0) ≡ false
unfolding eq_ℤ
other_than_zero (pos n) other = ne_eqb n 0 other
other_than_zero (negsuc n) other = refl

module _ (c : ℕ) (num den : ℤ) (shown : Shown num den) where
  piece_by_numbers : piece c (frac num (nat_abs den)) ≡ by_numbers c num (nat_abs den)
  unfolding by_numbers piece fraction_text over_text eq_ℚ zero_ℚ whole
  piece_by_numbers = ap₂ (by_numbers c) (lowest_num num (nat_abs den) shown.least shown.lowest) (lowest_den num (nat_abs den) shown.least shown.lowest)

  -- A zero column has no piece.
  pub piece_of_zero : nat_abs num ≡ 0 → piece c (frac num (nat_abs den)) ≡ []
  unfolding by_numbers eq_ℤ
  piece_of_zero none =
      let one : nat_abs den ≡ 1 = sym (gcd_stops (nat_abs den)) ∙ gcd_symmetric (nat_abs den) 0 ∙ ap (λ n. gcd n (nat_abs den)) (sym none) ∙ shown.lowest in
      piece_by_numbers ∙ ap₂ (by_numbers c) (size_zero num none) one

  -- Any other has a blank, a sign, the fraction and the term.
  pub piece_of_parts : (nat_abs num ≡ 0 → ⊥) → piece c (frac num (nat_abs den)) ≡ ascii " " ++ sign_of num ++ over_text (nat_abs num) (nat_abs den) ++ term_text c
  unfolding by_numbers
  piece_of_parts other =
      piece_by_numbers ∙ ap (λ t. cond (t && eqb (nat_abs den) 1) [] (ascii " " ++ sign_of num ++ over_text (nat_abs num) (nat_abs den) ++ term_text c)) (other_than_zero num other)

-- What the test has shown lies within the limits.
pub shown_within : (num den : ℤ) → Shown num den → within (frac num (nat_abs den)) ≡ true
unfolding within
shown_within num den shown =
    ap₂ (λ n d. leb (nat_abs n) limit && leb d limit) (lowest_num num (nat_abs den) shown.least shown.lowest) (lowest_den num (nat_abs den) shown.least shown.lowest)
    ∙ ap₂ ◌&&◌ (le-leb (nat_abs num) limit shown.above) (le-leb (nat_abs den) limit shown.below)

-- Two numbers within the limits take at most 21 bytes.
over_length : (top bottom : ℕ) → top ≤ limit → bottom ≤ limit → length (over_text top bottom) ≤ 21
unfolding over_text limit ascii
over_length top bottom above below = by (eqb bottom 1)
  where
    by : (t : Bool) → length (decimal top ++ cond t [] (ascii "/" ++ decimal bottom)) ≤ 21
    by true = omega (arith, length-append (decimal top) [], decimal_length 9 top (omega arith))
    by false = omega (arith, length-append (decimal top) (ascii "/" ++ decimal bottom), decimal_length 9 top (omega arith), decimal_length 9 bottom (omega arith))

fraction_length : (q : ℚ) → nat_abs q.num ≤ limit → q.den ≤ limit → length (fraction_text q) ≤ 21
unfolding fraction_text over_text
fraction_length q above below = over_length (nat_abs q.num) q.den above below

-- A term takes at most 4.
term_length : (c : ℕ) → c < 100 → length (term_text c) ≤ 4
unfolding term_text ascii
term_length c below = by (eqb c constant)
  where
    by : (t : Bool) → length (cond t [] (ascii "*t" ++ decimal c)) ≤ 4
    by true = omega arith
    by false = omega (arith, decimal_length 1 c below)

pub sign_length : (num : ℤ) → length (sign_of num) ≡ 1
unfolding sign_of ascii
sign_length (pos n) = refl
sign_length (negsuc n) = refl

-- A piece takes at most 27: a blank, a sign, two numbers of ten digits and a slash, `*t` and two digits.
pub piece_length : (c : ℕ) (q : ℚ) → within q ≡ true → c < 100 → length (piece c q) ≤ 27
unfolding piece within ascii
piece_length c q fits below = by (eq_ℚ q zero_ℚ) (and_true (leb (nat_abs q.num) limit) (leb q.den limit) fits)
  where
    by : (t : Bool) → (leb (nat_abs q.num) limit ≡ true) × (leb q.den limit ≡ true) → length (cond t [] (ascii " " ++ sign_of q.num ++ fraction_text q ++ term_text c)) ≤ 27
    by true (above, deep) = omega arith
    by false (above, deep) =
        simp length-append
        (omega (arith, sign_length q.num, fraction_length q (leb-true _ _ above) (leb-true _ _ deep), term_length c below))

-- So the pieces of a row within the limits take at most 27 each.
pub pieces_length : (r : Row) (columns : ℕ) → columns ≤ 100 → ((c : ℕ) → c < columns → within (column r c) ≡ true) → length (pieces columns r) ≤ 27 * columns
unfolding pieces
pieces_length r zero few each = omega arith
pieces_length r (suc c) few each =
    omega (arith, length-append (pieces c r) (piece c (column r c)), piece_length c (column r c) (each c (omega arith)) (omega arith), pieces_length r c (omega arith) (λ d below. each d (omega arith)))
