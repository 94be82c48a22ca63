-- What reading a term record answers.
-- Main definitions: `term_read`, `Faultless`. Assumes nothing.
use Rattle.std.specs.Prelude.{◌≡◌, Bool, List, ℕ, ◌+◌, ◌*◌, eqb, ltb, None, Option, Some}
use Rattle.std.proofs.Math.Option.{Option as Maybe, some, none}
use Rattle.rules_problem.specs.declared.Kind.{Kind}
use Rattle.rules_problem.specs.declared.Term.{Term}
use Rattle.rules_problem.specs.Record.{fields_at, every, kind_of}

unfoldable pub all_zeros : List ℕ → Bool
all_zeros = every (λ x. eqb x 0)

unfoldable pub below : (own : ℕ) → List ℕ → Bool
below own = every (λ i. ltb i own)

unfoldable pub sound_if : Maybe Kind → Option Term
sound_if none = None
sound_if (some kind) = Some (record { kind = kind })

-- 01: "A record is faulty with kind 0 or 9 to 15, with a nonzero unused field or padding, or with an input not below its own
-- number"; term t's record is 64 bits after the header and t records
unfoldable pub term_read : List ℕ → (own : ℕ) → Option Term
term_read bytes own = sound_if (kind_of own (fields_at bytes (32 + 64 * own)))

-- a record that is not faulty
unfoldable pub Faultless : Option Term → Type 0
Faultless read = read ≡ None → ⊥
