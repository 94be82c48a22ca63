-- What reading a term record asks for.
-- Main definitions: `RecordOf`, `SoundRecord`. Assume nothing.
use Rattle.std.specs.Prelude.{List, ℕ, ◌+◌, ◌*◌, ◌<◌, ◌≤◌, length}
use Rattle.record_term.specs.Terms.{term_read, Faultless}

-- A term's number, whose record lies within the bytes.
pub record RecordOf (bytes : List ℕ) (own : ℕ) : Type 0 where
  pub below : own < 64
  pub there : 12 + 8 * own ≤ length bytes

-- And the record is not faulty.
pub record SoundRecord (bytes : List ℕ) (own : ℕ) : Type 0 where
  pub of : RecordOf bytes own
  pub faultless : Faultless (term_read bytes own)
