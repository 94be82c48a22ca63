-- What comes back: the decision of a byte string, and what the lent lists hold afterwards, for every length of each.
-- Main definitions: `Decision`, `decision`, `Lent`, `Long`, `Outcome`, `outcome`. Assumes nothing.
use Rattle.std.specs.Prelude.{Bool, ◌&&◌, cond, List, [], ◌∷◌, ℕ, zero, suc, ◌/◌, ◌%◌, ◌≤◌, length, leb, ℤ, pos}
use Rattle.answer.specs.declared.Answer.{Answer}
use Rattle.answer.specs.declared.Answer.TheVariants.{Refused}
use Rattle.answer.specs.Refusals.{number_of}
use Rattle.answer.specs.declared.Refusal.{Refusal}
use Rattle.answer.specs.declared.Reason.TheVariants as reason
use Rattle.fraction.specs.Made.{Made, made, stopped}
use Rattle.rules_problem.specs.Problem.{Problem, decoded}
use Rattle.rules_run.specs.Row.{Table, COLUMNS, PLACES, cell}
use Rattle.rules_run.specs.Merge.{State}
use Rattle.rules_run.specs.Run.{Ranking, run, judged}

-- How a decision ends: the record is refused, the run stops, or it finishes with a table.
pub data Decision : Type 0 where
  unread : Refusal → Decision
  cut_short : Answer → Decision
  finished : Answer → Table → Decision

unfoldable pub after_run : Problem → Made Answer State → Decision
after_run problem (made state) = finished (judged problem.goal state) state.table
after_run problem (stopped answer) = cut_short answer

unfoldable pub after_reading : Ranking → Made Refusal Problem → Decision
after_reading ranking (made problem) = after_run problem (run ranking problem)
after_reading ranking (stopped refusal) = unread refusal

unfoldable pub decision : Ranking → (bytes : List ℕ) → Decision
decision ranking bytes = after_reading ranking (decoded bytes)

unfoldable pub answered : Decision → Answer
answered (unread refusal) = Refused (number_of refusal.reason) refusal.place
answered (cut_short answer) = answer
answered (finished answer table) = answer

-- 01, What comes back: "The caller lends two lists of signed 32-bit numbers, numerators and denominators"
pub record Lent : Type 0 where
  pub numerators : List ℤ
  pub denominators : List ℤ

-- "4,160 places": each list has them
pub record Long (lent : Lent) : Type 0 where
  pub numerators : PLACES ≤ length lent.numerators
  pub denominators : PLACES ≤ length lent.denominators

unfoldable pub is_long : Lent → Bool
is_long lent = leb PLACES (length lent.numerators) && leb PLACES (length lent.denominators)

-- the answer, and the lists as they are left
pub record Outcome : Type 0 where
  pub answer : Answer
  pub left : Lent

-- a list whose first `count` places hold what g gives for each, and whose others stay: "Places beyond those never change."
unfoldable pub overwritten : (count : ℕ) → (g : ℕ → ℤ) → List ℤ → List ℤ
overwritten zero g list = list
overwritten (suc count) g [] = []
overwritten (suc count) g (x ∷ list) = g 0 ∷ overwritten count (λ p. g (suc p)) list

-- one number for each place, from a number for each row and column: place p is column p % 65 of row p / 65
unfoldable pub laid_out : (g : (t c : ℕ) → ℤ) → List ℤ → List ℤ
laid_out g list = overwritten PLACES (λ p. g (p / COLUMNS) (p % COLUMNS)) list

-- "numerators 0, denominators 0"
unfoldable pub zeros : Lent → Lent
zeros lent =
    record {
      numerators = laid_out (λ t c. pos 0) lent.numerators;
      denominators = laid_out (λ t c. pos 0) lent.denominators;
    }

-- "the rows; rows n to 63 all 0/1": a cell past the last row of a table is 0/1
unfoldable pub rows : Table → Lent → Lent
rows table lent =
    record {
      numerators = laid_out (λ t c. (cell table t c).num) lent.numerators;
      denominators = laid_out (λ t c. pos (cell table t c).den) lent.denominators;
    }

-- the column "lists afterwards": "unchanged" for 1 to 6, zeros for contradictory and 7, the rows for entailed and not-entailed
unfoldable pub after : Decision → Lent → Outcome
after (unread refusal) lent = record { answer = answered (unread refusal); left = lent }
after (cut_short answer) lent = record { answer = answer; left = zeros lent }
after (finished answer table) lent = record { answer = answer; left = rows table lent }

-- "Tests run in the order 1 to 7": "1 SPACE | a lent list is too short | 0 | unchanged", then the others
unfoldable pub outcome : Ranking → (bytes : List ℕ) → Lent → Outcome
outcome ranking bytes lent =
    cond (is_long lent) (after (decision ranking bytes) lent) (after (unread (record { reason = reason.Space; place = 0 })) lent)
