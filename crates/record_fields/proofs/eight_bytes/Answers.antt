-- `record_fields::eight_bytes` meets its contract: eight bytes are one number, the first the highest.
-- Assumes nothing.
use Rattle.std.specs.Prelude.{◌≡◌, List, ℕ, ◌+◌, ◌<◌, get_or, take, drop}
use Rattle.std.specs.Int.{w64, from_be_bytes}
use Rattle.std.proofs.Common.{arith, ap, ◌∙◌}
use Rattle.std.proofs.lemmas.Result.{MatchResult-at_ok}
use lib.Seq.{get_or-take, get_or-drop}
use Rattle.record_cursor.specs.Taken.{number_at}
use Rattle.record_fields.proofs.eight_bytes.Goals as goal

joined : (bytes eight : List ℕ) (first count : ℕ) → count ≡ 8 → eight ≡ take count (drop first bytes) → from_be_bytes w64 eight ≡ number_at bytes first 8
unfolding number_at
joined bytes eight first count all is = omega (arith, at 0 (omega arith), at 1 (omega arith), at 2 (omega arith), at 3 (omega arith), at 4 (omega arith), at 5 (omega arith), at 6 (omega arith), at 7 (omega arith))
  where
    at : (i : ℕ) → i < 8 → get_or eight i 0 ≡ get_or bytes (first + i) 0
    at i h = ap (λ l. get_or l i 0) is ∙ get_or-take count (drop first bytes) i 0 (omega arith) ∙ get_or-drop first bytes i 0

pub returns : goal.returns
returns c = c.from_be_bytes.ensures ∙ joined c.args.bytes.now _ c.args.first _ (omega arith) (MatchResult-at_ok _ _ _ c.unwrap-eight.ensures c.try_into.ensures.1).same
