-- The stand-ins that document 01 names, as programs, and one more that demand 2 does not look at. Each is the rules but for its one fault.
-- Main definitions: `refuses_all`, `says_not_entailed`, `leaves_unfolded`, `writes_nothing`, `merges_first_only`, `counts_one_more`, `keeps_after_stop`. Assumes nothing.
use Rattle.std.specs.Prelude.{cond, [], ℕ, suc, take}
use Rattle.answer.specs.declared.Answer.{Answer}
use Rattle.answer.specs.declared.Answer.TheVariants.{Entailed, NotEntailed, Contradictory, Refused}
use Rattle.answer.specs.declared.Refusal.{Refusal}
use Rattle.answer.specs.declared.Reason.{Reason}
use Rattle.answer.specs.declared.Reason.TheVariants as reason
use Rattle.answer.specs.Said.{said}
use Rattle.fraction.specs.Made.{Made, made, stopped}
use Rattle.rules_problem.specs.Problem.{Problem, decoded}
use Rattle.rules_run.specs.Row.{Table}
use Rattle.rules_run.specs.Build.{built}
use Rattle.rules_run.specs.Run.{highest_number}
use Rattle.rules_outcome.specs.Outcome.{Decision, unread, cut_short, finished, after_reading, decision, answered, Lent, is_long, Outcome, after, outcome}
use Rattle.rules_demands.specs.Demands.{Program}

-- 01: "one that refuses all": with any number, at any place
unfoldable pub refuses_all : (number place : ℕ) → Program
refuses_all number place bytes lent = record { answer = Refused number place; left = lent }

-- "one that says not-entailed to all"
unfoldable pub says_not_entailed : Program
says_not_entailed bytes lent =
    let o = outcome highest_number bytes lent in
    record { answer = NotEntailed (said o.answer).count; left = o.left }

-- the rows that are built of a problem's terms
unfoldable pub rows_made : Made Reason Table → Table
rows_made (made table) = table
rows_made (stopped why) = []

unfoldable pub rows_built : Made Refusal Problem → Table
rows_built (made problem) = rows_made (built problem.terms [])
rows_built (stopped refusal) = []

-- "or leaves the unfolded rows"
unfoldable pub leaves_unfolded : Program
unfolding rows_made rows_built
leaves_unfolded bytes lent = after (finished (answered (decision highest_number bytes)) (rows_built (decoded bytes))) lent

-- "one that writes nothing"
unfoldable pub writes_nothing : Program
writes_nothing bytes lent = record { answer = answered (decision highest_number bytes); left = lent }

-- the problem with its first assumption only
unfoldable pub first_only : Made Refusal Problem → Made Refusal Problem
first_only (made problem) = made (record { terms = problem.terms; goal = problem.goal; pairs = take 1 problem.pairs })
first_only (stopped refusal) = stopped refusal

-- "one that merges the first assumption and passes over the rest"
unfoldable pub merges_first_only : Program
unfolding first_only
merges_first_only bytes lent = after (after_reading highest_number (first_only (decoded bytes))) lent

unfoldable pub one_more : Answer → Answer
one_more (Entailed solved) = Entailed (suc solved)
one_more (NotEntailed solved) = NotEntailed (suc solved)
one_more (Contradictory place) = Contradictory place
one_more (Refused number place) = Refused number place

-- "A made-up solved count"
unfoldable pub counts_one_more : Program
unfolding one_more
counts_one_more bytes lent =
    let o = outcome highest_number bytes lent in
    record { answer = one_more o.answer; left = o.left }

unfoldable pub kept_after_stop : Decision → Lent → Outcome
kept_after_stop (unread refusal) lent = after (unread refusal) lent
kept_after_stop (cut_short answer) lent = record { answer = answer; left = lent }
kept_after_stop (finished answer table) lent = after (finished answer table) lent

-- one that writes nothing after contradictory or 7: every word is right, and so is every finished table
unfoldable pub keeps_after_stop : Program
unfolding kept_after_stop
keeps_after_stop bytes lent =
    cond (is_long lent) (kept_after_stop (decision highest_number bytes) lent) (after (unread (record { reason = reason.Space; place = 0 })) lent)
