-- Numbers in decimal, written digit by digit: there is room for each digit, and what is written is the number.
-- Main results: `digit_fits`, `tenth_fits`, `last_fits`, `wrote_digit`, `wrote_last`. Assume nothing.
use mathlib.Core.List.{List, [], ◌∷◌}
use Prim.Native.Nat.{ℕ, ◌+◌, ◌/◌, ◌%◌, ◌≤◌, ◌<◌}
use Rattle.rules_listing.specs.Text.{decimal}
use Rattle.list_text.specs.Wrote.{Fits, Wrote}
use Rattle.list_text.proofs.Placing.{fits_first, fits_then, wrote_both}
use Rattle.list_decimal.proofs.Decimal.{decimal_digit, decimal_step}

module _ (x : ℕ) {place : ℕ} {before : List ℕ} (fits : Fits (decimal x) place before) where
  -- A number below ten.
  pub digit_fits : x < 10 → Fits ((48 + x) ∷ []) place before
  digit_fits below = rw (decimal_digit x below) at fits

  -- Any other: its tenth, then the last digit.
  pub tenth_fits : 10 ≤ x → Fits (decimal (x / 10)) place before
  tenth_fits least = fits_first _ _ (rw (decimal_step x least) at fits)

  module _ {between : List ℕ} {middle : ℕ} (least : 10 ≤ x) (tenth : Wrote (decimal (x / 10)) place before between middle) where
    pub last_fits : Fits ((48 + x % 10) ∷ []) middle between
    last_fits = fits_then (rw (decimal_step x least) at fits) tenth

    pub wrote_last : {after : List ℕ} {next : ℕ} → Wrote ((48 + x % 10) ∷ []) middle between after next → Wrote (decimal x) place before after next
    wrote_last last = rw (decimal_step x least) (wrote_both (rw (decimal_step x least) at fits) tenth last)

pub wrote_digit : (x : ℕ) {place next : ℕ} {before after : List ℕ} → x < 10 → Wrote ((48 + x) ∷ []) place before after next → Wrote (decimal x) place before after next
wrote_digit x below wrote = rw (decimal_digit x below) wrote
