-- What the functions that end a run ask for, and what they ensure.
-- Main definitions: `Finishable`, `Finishes`, `Clears`. Assume nothing.
use Rattle.std.specs.Prelude.{◌≡◌, List, ℕ, ◌≤◌, ◌<◌, length, ℤ}
use Rattle.answer.specs.declared.Answer.{Answer}
use Rattle.rules_run.specs.Row.{TERMS, PLACES}
use Rattle.rules_run.specs.Run.{judged}
use Rattle.rules_outcome.specs.Outcome.{finished, cut_short, Lent, after}
use Rattle.run_table.specs.Work.{Work, table_of, Rows}
use Rattle.run_finish.specs.Lent.{lent_of, comes_back}

-- a list with room for all rows, of which n are taken
pub record Roomy (n : ℕ) (list : List ℤ) : Type 0 where
  pub few : n ≤ TERMS
  pub fits : PLACES ≤ length list

-- a finished table, and a goal between two of its terms
pub record Finishable (n left right : ℕ) (w : Work) : Type 0 where
  pub rows : Rows n w
  pub left_below : left < n
  pub right_below : right < n

-- what the rules answer to the goal from the table that stands there
abbrev pub answer_of : (n left right solved : ℕ) → Work → Answer
answer_of n left right solved w = judged (record { left = left; right = right }) (record { table = table_of n w; solved = solved })

-- What comes back is what the rules say of a run that finishes with that table.
pub record Finishes (n left right solved : ℕ) (r : Answer) (old : Work) (new : Lent) : Type 0 where
  pub outcome : after (finished (answer_of n left right solved old) (table_of n old)) (lent_of old.nums old.dens) ≡ comes_back r new

-- What comes back is what the rules say of a run that was cut short with the answer.
pub record Clears (answer r : Answer) (old new : Lent) : Type 0 where
  pub outcome : after (cut_short answer) old ≡ comes_back r new
