-- The first line written part by part: there is room for it, and what is written is the line.
-- Main results: `number_length`, `said_fits`, `wrote_said`. Assume nothing.
use mathlib.Core.List.{List, [], ◌∷◌}
use Prim.Native.Nat.{ℕ, ◌+◌, ◌≤◌, ◌<◌, ◌^◌}
use native.Mathlib.Omega.{arith}
use lib.ListN.{length, length-append}
use Rattle.rules_listing.specs.Text.{ascii, decimal}
use Rattle.list_text.specs.Wrote.{Fits, Wrote}
use Rattle.list_text.proofs.Placing.{wrote_then}
use Rattle.list_decimal.proofs.Decimal.{decimal_length}
use Rattle.list_first_line.specs.Contract.{said_text, NUMBERS, SaidFits, SaidWritten}

-- A number of 64 bits has at most twenty digits.
pub number_length : (n : ℕ) → n < 2 ^ 64 → length (decimal n) ≤ 20
number_length n small = decimal_length 19 n (omega arith)

said_length : (word : List ℕ) (first second : ℕ) → first < 2 ^ 64 → second < 2 ^ 64 → length (said_text word first second) ≤ length word + NUMBERS
unfolding ascii
said_length word first second small small' = simp length-append (omega (arith, number_length first small, number_length second small'))

-- The room that is asked for is enough for the line.
pub said_fits : {word : List ℕ} (first second : ℕ) {place : ℕ} {before : List ℕ} → SaidFits word place before → first < 2 ^ 64 → second < 2 ^ 64 → Fits (said_text word first second) place before
said_fits {word} first second ready small small' = record { room = omega (arith, ready.room, said_length word first second small small') }

-- The word, the two numbers, a blank between them and the newline are the line.
pub wrote_said : (word : List ℕ) (first second : ℕ) {place p₁ p₂ p₃ p₄ next : ℕ} {before b₁ b₂ b₃ b₄ after : List ℕ} → SaidFits word place before
    → first < 2 ^ 64
    → second < 2 ^ 64
    → Wrote word place before b₁ p₁
    → Wrote (decimal first) p₁ b₁ b₂ p₂
    → Wrote (32 ∷ []) p₂ b₂ b₃ p₃
    → Wrote (decimal second) p₃ b₃ b₄ p₄
    → Wrote (10 ∷ []) p₄ b₄ after next
    → SaidWritten word first second place before after next
unfolding ascii
wrote_said word first second {place} {before = before} ready small small' said number blank other newline =
    let within : place ≤ length before = omega (arith, ready.room) in
    record {
      wrote = wrote_then within (wrote_then within (wrote_then within (wrote_then within said number) blank) other) newline;
      short = omega (arith, number_length first small, number_length second small', said.reached, number.reached, blank.reached, other.reached, newline.reached);
    }
