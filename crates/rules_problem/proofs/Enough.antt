-- 01, The listing: "645 bytes are enough to judge any length".
-- Main result: `enough_bytes`. Assumes nothing.
use mathlib.Core.Path.{◌≡◌, refl, sym, ap, ap₂, ◌∙◌}
use mathlib.Core.Bool.{Bool, true, false, ◌&&◌, and-eq-true_iff}
use mathlib.Core.List.{List, [], ◌∷◌}
use Prim.Native.Nat.{ℕ, ◌+◌, ◌*◌, ◌≤◌, ◌<◌}
use native.Mathlib.Decide.{dec_lt}
use native.Mathlib.Omega.{arith}
use borrow.Author.Tests.{le-leb, leb-true, ne_eqb}
use lib.Dec.{leb, eqb}
use lib.ListN.{length, take}
use lib.Seq.{length-take-le, take_all}
use Rattle.answer.specs.declared.Refusal.{Refusal}
use Rattle.answer.specs.declared.Reason.TheVariants as reason
use Rattle.fraction.specs.Made.{Made}
use Rattle.rules_problem.specs.Bits.{bit_at, field}
use Rattle.rules_problem.specs.Problem.{Problem, refuse, need, decoded}

-- whether n and m lie within their limits
counts : (n m : ℕ) → Bool
counts n m = leb 1 n && leb n 64 && leb m 64

-- No problem within the limits is as long as that.
too_long : (n m size : ℕ) → 645 ≤ size → counts n m ≡ true → eqb size (4 + 8 * n + 2 * m) ≡ false
unfolding counts
too_long n m size long within =
    let (terms, pairs) = (and-eq-true_iff (leb 1 n && leb n 64) (leb m 64)).0 within in
    let (least, most) = (and-eq-true_iff (leb 1 n) (leb n 64)).0 terms in
    ne_eqb size (4 + 8 * n + 2 * m) (λ same. omega (arith, leb-true n 64 most, leb-true m 64 pairs))

-- Tests 2 to 4, where the first is passed and the last is not.
tests : (long counted whole : Bool) (next : Made Refusal Problem) → long ≡ true → (counted ≡ true → whole ≡ false) → need long reason.Short (need counted reason.Count (need whole reason.Length next)) ≡ need counted reason.Count (refuse reason.Length 0)
unfolding need
tests long true whole next passed fails = rw (passed, fails refl)
tests long false whole next passed fails = rw passed

-- A byte string of 645 bytes or more is refused with 3 or 4, as its two counts say.
long_refused : (bytes : List ℕ) → 645 ≤ length bytes → decoded bytes ≡ need (counts (field bytes 0 8) (field bytes 8 8)) reason.Count (refuse reason.Length 0)
unfolding decoded counts
long_refused bytes long =
    tests (leb 4 (length bytes)) (counts (field bytes 0 8) (field bytes 8 8)) _ _ (le-leb 4 (length bytes) (omega arith)) (too_long (field bytes 0 8) (field bytes 8 8) (length bytes) long)

-- The first 645 bytes hold both counts.
counts_kept : (bytes : List ℕ) → 645 ≤ length bytes → (field (take 645 bytes) 0 8 ≡ field bytes 0 8) × (field (take 645 bytes) 8 8 ≡ field bytes 8 8)
unfolding field bit_at
counts_kept [] long = absurd (omega arith)
counts_kept (a ∷ []) long = absurd (omega arith)
counts_kept (a ∷ b ∷ rest) long = (refl, refl)

-- So the first 645 bytes are judged as all of them are.
pub enough_bytes : (bytes : List ℕ) → decoded (take 645 bytes) ≡ decoded bytes
enough_bytes bytes = by (dec_lt (length bytes) 645)
  where
    by : Dec (length bytes < 645) → decoded (take 645 bytes) ≡ decoded bytes
    by (yes short) = ap decoded (take_all 645 bytes (omega arith))
    by (no long) =
        let all : 645 ≤ length bytes = omega arith in
        let size : 645 ≤ length (take 645 bytes) = omega (arith, length-take-le 645 bytes all) in
        let (n, m) = counts_kept bytes all in
        long_refused (take 645 bytes) size
        ∙ ap₂ (λ n m. need (counts n m) reason.Count (refuse reason.Length 0)) n m
        ∙ sym (long_refused bytes all)
