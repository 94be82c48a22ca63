-- Laws of a field of a bit-packed byte string.
-- Main results: `field_number`, `field_window`, `cut_field`. Assume nothing.
use mathlib.Core.Path.{◌≡◌, sym, ap, ap₂, ◌∙◌}
use mathlib.Core.List.{List}
use Prim.Native.Nat.{ℕ, zero, suc, ◌+◌, ◌-◌, ◌*◌, ◌/◌, ◌%◌, ◌^◌, ◌<◌, ◌≤◌}
use native.Mathlib.Omega.{arith}
use native.Mathlib.Nat.{mod-one, zero-add, add-zero, add_assoc, one-mul}
use native.Mathlib.Numerals.{one-add}
use native.Mathlib.Decide.{dec_lt}
use lib.Pow.{mod-pow-add, mod-mod-pow, shr-shr, shl_exact, field as part, high, low}
use lib.ListN.{get_or}
use Rattle.rules_problem.specs.Bits.{bit_at, field}
use Rattle.record_cursor.specs.declared.Piece.{Piece}
use Rattle.record_cursor.specs.Contract.{PieceCut}
use Rattle.record_cursor.specs.Taken.{number_at}

-- A bit of a byte is the same bit of every number that ends in the byte.
bit_of_last : (rest byte e : ℕ) → byte < 256 → e < 8 → (rest * 256 + byte) / 2 ^ e % 2 ≡ byte / 2 ^ e % 2
bit_of_last rest byte e small h =
    sym (part number 1 e) ∙ ap (λ x. x / 2 ^ e) (ends ∙ ap (λ x. x % 2 ^ (1 + e)) (low rest 8 small)) ∙ part byte 1 e
  where
    number : ℕ
    number = rest * 256 + byte

    ends : number % 2 ^ (1 + e) ≡ number % 2 ^ 8 % 2 ^ (1 + e)
    ends =
        let eight : 7 - e + (1 + e) ≡ 8 = omega arith in
        sym (rw eight at (mod-mod-pow number (7 - e) (1 + e)))

-- The bits above the last byte are those of the rest.
bits_of_rest : (rest byte e : ℕ) → byte < 256 → 8 ≤ e → (rest * 256 + byte) / 2 ^ e ≡ rest / 2 ^ (e - 8)
bits_of_rest rest byte e small h =
    let back : 8 + (e - 8) ≡ e = omega arith in
    sym (rw back at (shr-shr (rest * 256 + byte) 8 (e - 8))) ∙ ap (λ x. x / 2 ^ (e - 8)) (high rest 8 small)

module _ (bytes : List ℕ) (first : ℕ) (small : (i : ℕ) → get_or bytes i 0 < 256) where
  byte_bit : (p i e : ℕ) → p / 8 ≡ i → 7 - p % 8 ≡ e → bit_at bytes p ≡ get_or bytes i 0 / 2 ^ e % 2
  unfolding bit_at
  byte_bit p i e at_byte at-bit = rw (at_byte, at-bit)

  -- Bit j of the bytes from `first` on is the same bit of their number.
  bit_number : (count j e : ℕ) → j + e + 1 ≡ 8 * count → bit_at bytes (8 * first + j) ≡ number_at bytes first count / 2 ^ e % 2
  unfolding number_at
  bit_number zero j e h = absurd (omega arith)
  bit_number (suc count) j e h = go (dec_lt e 8) (λ l. bit_number count j (e - 8) (omega arith))
    where
      byte : ℕ
      byte = get_or bytes (first + count) 0

      go : Dec (e < 8) → (8 ≤ e → bit_at bytes (8 * first + j) ≡ number_at bytes first count / 2 ^ (e - 8) % 2) → bit_at bytes (8 * first + j) ≡ (number_at bytes first count * 256 + byte) / 2 ^ e % 2
      go (yes l) before =
          byte_bit (8 * first + j) (first + count) e (omega arith) (omega arith)
          ∙ sym (bit_of_last (number_at bytes first count) byte e (small (first + count)) l)
      go (no l) before =
          before (omega arith)
          ∙ sym (ap (λ x. x % 2) (bits_of_rest (number_at bytes first count) byte e (small (first + count)) (omega arith)))

  -- A field that ends within `count` bytes from `first` on is what a shift and a remainder leave of their number.
  pub field_number : (count width j k : ℕ) → j + width + k ≡ 8 * count → field bytes (8 * first + j) width ≡ number_at bytes first count / 2 ^ k % 2 ^ width
  unfolding field
  field_number count zero j k h = sym (mod-one (number_at bytes first count / 2 ^ k))
  field_number count (suc width) j k h =
      ap₂ (λ x y. x * 2 ^ width + y) (bit_number count j (k + width) (omega arith) ∙ ap (λ x. x % 2) (sym (shr-shr number k width)))
      (ap (λ p. field bytes p width) (add_assoc (8 * first) j 1) ∙ field_number count width (j + 1) k (omega arith))
      ∙ sym (ap (λ x. number / 2 ^ k % 2 ^ x) (sym (one-add width)) ∙ mod-pow-add (number / 2 ^ k) 1 width)
    where
      number : ℕ
      number = number_at bytes first count

-- The number of three bytes, as the code makes it.
pub three_bytes : (bytes : List ℕ) (first : ℕ) → number_at bytes first 3 ≡ (get_or bytes first 0 * 256 + get_or bytes (first + 1) 0) * 256 + get_or bytes (first + 2) 0
unfolding number_at
three_bytes bytes first = rw (zero-add, add-zero)

-- A field within three bytes, by the bit that it begins at.
pub field_window : (bytes : List ℕ) → ((i : ℕ) → get_or bytes i 0 < 256) → (p width k : ℕ) → p % 8 + width + k ≡ 24 → field bytes p width ≡ number_at bytes (p / 8) 3 / 2 ^ k % 2 ^ width
field_window bytes small p width k h =
    let whole : 8 * (p / 8) + p % 8 ≡ p = omega arith in
    rw whole at (field_number bytes (p / 8) small 3 width (p % 8) k h)

-- A field that is cut from the number of eight bytes, by the bit of the byte string that it begins at.
pub cut_field : (bytes : List ℕ) (first : ℕ) → ((i : ℕ) → get_or bytes i 0 < 256) → {bits at width : ℕ} {piece : Piece} (p : ℕ) → bits ≡ number_at bytes first 8 → PieceCut bits at width piece → 8 * first + at ≡ p → at + width ≤ 64 → piece.value ≡ field bytes p width
cut_field bytes first small {bits} {at} {width} p eight cut e within =
    cut.value ∙ ap (λ x. x / 2 ^ (64 - (at + width)) % 2 ^ width) eight
    ∙ sym (field_number bytes first small 8 width at (64 - (at + width)) (omega arith))
    ∙ ap (λ x. field bytes x width) e

-- The number of a field's values, as the code makes it by a shift within `bits` bits.
pub power_made : (bits width : ℕ) → width < bits → (1 * 2 ^ width) % 2 ^ bits ≡ 2 ^ width
power_made bits width h = shl_exact {a = 1} 1 width bits (omega arith) (omega arith) ∙ one-mul (2 ^ width)
