-- Which term records and pairs are sound.
-- Main definitions: `sound_term`, `sides_below`, `sound_pair`. Assume nothing.
use Rattle.std.specs.Prelude.{Bool, ◌&&◌, List, ℕ, ◌+◌, ◌-◌, ◌*◌, ltb, is_some}
use Rattle.rules_problem.specs.Bits.{field}
use Rattle.record_term.specs.Terms.{term_read}

-- whether the record of term t, counted from 0, holds a term
unfoldable pub sound_term : List ℕ → (t : ℕ) → Bool
sound_term bytes t = is_some (term_read bytes t)

-- whether the two sides from bit p on are terms
unfoldable pub sides_below : List ℕ → (n p : ℕ) → Bool
sides_below bytes n p = ltb (field bytes p 8) n && ltb (field bytes (p + 8) 8) n

-- pair k, counted from 1
unfoldable pub sound_pair : List ℕ → (n k : ℕ) → Bool
sound_pair bytes n k = sides_below bytes n (32 + 64 * n + 16 * (k - 1))
