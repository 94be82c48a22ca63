-- What holds while closing or the run goes on.
-- Main results: `placed_ends`, `when_going`, `open_going`. Assume nothing.
use Rattle.std.specs.Prelude.{Err, Ok, Result, IfOk, OnOk}
use Rattle.answer.specs.declared.Answer.{Answer}
use Rattle.answer.specs.declared.Answer.TheVariants.{Contradictory, Refused as Answered}
use Rattle.run_merge.specs.declared.Halt.{Halt}
use Rattle.run_merge.specs.declared.Halt.TheVariants.{Contradiction, Refused}
use mathlib.Core.Path.{◌≡◌, refl}
use mathlib.Core.List.{[]}
use Prim.Native.Nat.{ℕ, ◌≤◌}
use Rattle.fraction.specs.Made.{because}
use Rattle.fraction.proofs.Making.{stopped_not_made}
use Rattle.rules_run.specs.Run.{ends}
use Rattle.run_close.specs.Outcome.{closed}
use Rattle.run_progress.specs.Ran.{ran, Places}

-- A count goes on, and a stop ends the run with its answer.
pub placed_ends : {place most : ℕ} (closing : Result ℕ Halt) {r : Result ℕ Answer} → IfOk closing (λ count. count ≤ most) → ((count : ℕ) → closing ≡ Ok count → r ≡ Ok count)
    → (closing ≡ Err Contradiction → r ≡ Err (Contradictory place)) → ((number : ℕ) → closing ≡ Err (Refused number) → r ≡ Err (Answered number place)) → Places place closing most r
unfolding because ends closed ran
placed_ends (Ok count) few goes_on contradicts refuses = rw (goes_on count refl) (record { answers = λ table. refl; counted = few })
placed_ends (Err Contradiction) few goes_on contradicts refuses = rw (contradicts refl) (record { answers = λ table. refl; counted = tt })
placed_ends (Err (Refused number)) few goes_on contradicts refuses = rw (refuses number refl) (record { answers = λ table. refl; counted = tt })

-- What holds where the run goes on with a count holds while it goes on.
pub when_going : {holds : Type 0} (r : Result ℕ Answer) → ((count : ℕ) → r ≡ Ok count → holds) → OnOk r holds
when_going (Ok count) held = held count refl
when_going (Err answer) held = tt

-- Closing that has stopped ends the run.
pub open_going : (holds : Type 0) {place : ℕ} {closing : Result ℕ Halt} {most : ℕ} {r : Result ℕ Answer} → Places place closing most r → OnOk closing holds → OnOk r holds
unfolding because closed ran
open_going holds {place} {closing} {r = r} places = by closing r (places.answers [])
  where
    by : (closing : Result ℕ Halt) (r : Result ℕ Answer) → because (ends place) (closed closing []) ≡ ran r [] → OnOk closing holds → OnOk r holds
    by closing (Err answer) placed held = tt
    by (Ok solved) (Ok count) placed held = held
    by (Err Contradiction) (Ok count) placed held = absurd (stopped_not_made placed)
    by (Err (Refused number)) (Ok count) placed held = absurd (stopped_not_made placed)
