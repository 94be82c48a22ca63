-- Demand 3 of the rules: the order of the assumptions, their repeats and their sides do not matter, for any ranking of the
-- unknowns that ranks no two columns alike.
-- Main results: `rules_ignore_order`, `accepted`, `same_bytes_same_outcome`. Assume nothing.
use mathlib.Core.Path.{◌≡◌, refl, ap}
use mathlib.Core.Bool.{Bool, true, false}
use mathlib.Core.List.{List}
use Prim.Native.Nat.{ℕ}
use Rattle.answer.specs.declared.Refusal.{Refusal}
use Rattle.answer.specs.declared.Reason.TheVariants as reason
use Rattle.answer.specs.Refusals.{number_of}
use Rattle.answer.specs.Said.{said}
use Rattle.fraction.specs.Made.{Made, made, stopped}
use Rattle.rules_problem.specs.Problem.{Problem, decoded}
use Rattle.rules_run.specs.Run.{Ranking}
use Rattle.laws_invariant.specs.Invariant.{Strict}
use Rattle.rules_outcome.specs.Outcome.{Lent, Long, is_long, after_reading, decision, answered, after, outcome}
use Rattle.rules_outcome.proofs.Decided.{long_is, outcome_short, outcome_answer}
use Rattle.rules_demands.specs.Demands.{word_of, NotRefused}
use Rattle.rules_demands.specs.Order.{SameOutcome, OrderDoesNotMatter}
use Rattle.laws_truth.proofs.Truthful.{rules_tell_the_truth}
use Rattle.laws_order.specs.SameBytes.{SameBytes}
use Rattle.laws_order.proofs.Bytes.{same_bytes_same}
use Rattle.laws_order.proofs.Outcomes.{outcome_same, outcome_bounded}

-- What is known where nothing is refused: lists that are long enough, and a problem.
pub record Accepted (bytes : List ℕ) (lent : Lent) : Type 0 where
  pub long : Long lent
  pub problem : Problem
  pub read : decoded bytes ≡ made problem

pub accepted : (ranking : Ranking) (bytes : List ℕ) (lent : Lent) → NotRefused (outcome ranking bytes lent) → Accepted bytes lent
unfolding NotRefused word_of decision after_reading after answered said
accepted ranking bytes lent passed = by (is_long lent) (decoded bytes) refl refl
  where
    by : (b : Bool) (d : Made Refusal Problem) → is_long lent ≡ b → decoded bytes ≡ d → Accepted bytes lent
    by true (made problem) fits read = record { long = long_is lent fits; problem = problem; read = read }
    by true (stopped refusal) fits read =
        absurd (passed (number_of refusal.reason) (rw (outcome_answer ranking bytes lent (long_is lent fits), read)))
    by false d short read = absurd (passed (number_of reason.Space) (ap (λ o. (said o.answer).word) (outcome_short ranking bytes lent short)))

module _ (ranking : Ranking) (strict : Strict ranking) where
  -- Demand 3, for the rules; the table that is the same is the true one of demand 2.
  pub rules_ignore_order : OrderDoesNotMatter ranking (outcome ranking)
  rules_ignore_order = record {
    true_table = rules_tell_the_truth ranking strict;
    same = outcome_same ranking strict;
    bounded = outcome_bounded ranking strict;
  }

  -- The same said of byte strings: the order in which the pairs are written does not matter.
  pub same_bytes_same_outcome : (bytes bytes' : List ℕ) (lent lent' : Lent) → SameBytes bytes bytes' → NotRefused (outcome ranking bytes lent) → NotRefused (outcome ranking bytes' lent') → SameOutcome (outcome ranking bytes lent) (outcome ranking bytes' lent')
  same_bytes_same_outcome bytes bytes' lent lent' same passed passed' =
      let a = accepted ranking bytes lent passed in
      let b = accepted ranking bytes' lent' passed' in
      outcome_same ranking strict bytes bytes' lent lent' a.problem b.problem a.long b.long a.read b.read
      (same_bytes_same bytes bytes' same a.problem b.problem a.read b.read) passed passed'
