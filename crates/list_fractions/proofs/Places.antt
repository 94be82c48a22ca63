-- The places of one row in the two lists.
-- Main results: `places_length`, `places_at`, `held_column`, `all_step`, `all_end`, `all_at`, `all_of_row`. Assume nothing.
use mathlib.Core.Path.{◌≡◌, refl, ap, ◌∙◌}
use mathlib.Core.Bool.{true, ◌&&◌}
use mathlib.Core.List.{List, [], ◌∷◌}
use Prim.Native.Nat.{ℕ, zero, suc, ◌+◌, ◌*◌, ◌-◌, ◌≤◌, ◌<◌}
use native.Mathlib.Omega.{arith}
use lib.ListN.{length, get_or, take, drop, length-drop, drop_of_length-le}
use lib.Seq.{length-take-le, get_or-take, get_or-drop, drop-cons}
use lib.IntN.{ℤ, pos, nat_abs}
use Rattle.std.specs.List.{list_all, zip}
use Rattle.fraction.specs.Exact.{frac}
use Rattle.rules_run.specs.Row.{TERMS, COLUMNS, column, PLACES}
use Rattle.rules_listing.specs.Listing.{is_fraction, all_fractions, places_of, held_row}
use Rattle.list_fractions.proofs.Fractions.{and_true}

-- A list of 4,160 places holds all columns of each row.
pub places_length : (t : ℕ) (list : List ℤ) → t < TERMS → PLACES ≤ length list → length (places_of t list) ≡ COLUMNS
unfolding places_of
places_length t list term long = length-take-le COLUMNS (drop (COLUMNS * t) list) (simp length-drop (omega arith))

-- Row t, column c stands at 65t + c.
pub places_at : (t c : ℕ) (list : List ℤ) → c < COLUMNS → get_or (places_of t list) c (pos 0) ≡ get_or list (COLUMNS * t + c) (pos 0)
unfolding places_of
places_at t c list below = get_or-take COLUMNS (drop (COLUMNS * t) list) c (pos 0) below ∙ get_or-drop (COLUMNS * t) list c (pos 0)

-- A column of the row is the fraction at its place.
pub held_column : (nums dens : List ℤ) (c : ℕ) → c < length nums → c < length dens → column (held_row nums dens) c ≡ frac (get_or nums c (pos 0)) (nat_abs (get_or dens c (pos 0)))
unfolding held_row column
held_column [] dens c n d = absurd (omega arith)
held_column (num ∷ nums) [] c n d = absurd (omega arith)
held_column (num ∷ nums) (den ∷ dens) zero n d = refl
held_column (num ∷ nums) (den ∷ dens) (suc c) n d = held_column nums dens c (omega arith) (omega arith)

-- The test of all places goes by the first, and then the others.
pub all_step : (nums dens : List ℤ) (c : ℕ) → c < length nums → c < length dens
    → all_fractions (drop c nums) (drop c dens) ≡ (is_fraction (get_or nums c (pos 0)) (get_or dens c (pos 0)) && all_fractions (drop (suc c) nums) (drop (suc c) dens))
unfolding all_fractions
all_step nums dens c n d = rw (drop-cons nums c (pos 0) n, drop-cons dens c (pos 0) d)

pub all_end : (nums dens : List ℤ) (c : ℕ) → length nums ≤ c → all_fractions (drop c nums) (drop c dens) ≡ true
unfolding all_fractions
all_end nums dens c end = rw (drop_of_length-le nums end)

-- What holds of all places holds of each.
pub all_at : (nums dens : List ℤ) (c : ℕ) → c < length nums → c < length dens → all_fractions nums dens ≡ true → is_fraction (get_or nums c (pos 0)) (get_or dens c (pos 0)) ≡ true
unfolding all_fractions
all_at [] dens c n d all = absurd (omega arith)
all_at (num ∷ nums) [] c n d all = absurd (omega arith)
all_at (num ∷ nums) (den ∷ dens) zero n d all = (and_true (is_fraction num den) (all_fractions nums dens) all).0
all_at (num ∷ nums) (den ∷ dens) (suc c) n d all = all_at nums dens c (omega arith) (omega arith) (and_true (is_fraction num den) (all_fractions nums dens) all).1

-- The test of all places is that of each pair of places.
pub all_of_pairs : (nums dens : List ℤ) → list_all (λ (p : ℤ × ℤ). is_fraction p.0 p.1) (zip nums dens) ≡ all_fractions nums dens
unfolding all_fractions
all_of_pairs [] dens = refl
all_of_pairs (num ∷ nums) [] = refl
all_of_pairs (num ∷ nums) (den ∷ dens) = ap (λ b. is_fraction num den && b) (all_of_pairs nums dens)

-- Row t from its first place to the one behind its last.
pub all_of_row : (t : ℕ) (nums dens : List ℤ) → list_all (λ (p : ℤ × ℤ). is_fraction p.0 p.1) (zip (take (COLUMNS * t + COLUMNS - COLUMNS * t) (drop (COLUMNS * t) nums)) (take (COLUMNS * t + COLUMNS - COLUMNS * t) (drop (COLUMNS * t) dens))) ≡ all_fractions (places_of t nums) (places_of t dens)
unfolding places_of
all_of_row t nums dens =
    let width : COLUMNS * t + COLUMNS - COLUMNS * t ≡ COLUMNS = omega arith in
    rw (width, all_of_pairs)
