-- What comes back where the lent lists are long enough: the decision's answer, and lists as it leaves them.
-- Main results: `after_answer`, `outcome_long_enough`, `outcome_short`, `outcome_answer`, `outcome_run`. Assume nothing.
use mathlib.Core.Path.{◌≡◌, refl, sym, ap, ◌∙◌}
use mathlib.Core.Bool.{Bool, true, false, true≢false, ◌&&◌}
use mathlib.Core.List.{List}
use Prim.Native.Nat.{ℕ}
use borrow.Author.Tests.{le-leb, leb-true}
use lib.Dec.{leb}
use lib.ListN.{length}
use Rattle.answer.specs.declared.Reason.TheVariants as reason
use Rattle.fraction.specs.Made.{made}
use Rattle.rules_problem.specs.Problem.{Problem, decoded}
use Rattle.rules_run.specs.Run.{Ranking, run}
use Rattle.rules_run.specs.Row.{PLACES}
use Rattle.rules_outcome.specs.Outcome.{Decision, unread, cut_short, finished, after_run, after_reading, decision, answered, Lent, Long, is_long, after, outcome}

-- The test of the lengths finds just what is long enough.
pub is_long_lem : (lent : Lent) → Long lent → is_long lent ≡ true
unfolding is_long
is_long_lem lent long = rw (le-leb PLACES (length lent.numerators) long.numerators, le-leb PLACES (length lent.denominators) long.denominators)

pub long_is : (lent : Lent) → is_long lent ≡ true → Long lent
unfolding is_long
long_is lent = by (leb PLACES (length lent.numerators)) (leb PLACES (length lent.denominators)) refl refl
  where
    by : (a b : Bool) → leb PLACES (length lent.numerators) ≡ a → leb PLACES (length lent.denominators) ≡ b → (a && b) ≡ true → Long lent
    by true true first second passed = record { numerators = leb-true _ _ first; denominators = leb-true _ _ second }
    by true false first second passed = absurd (true≢false (sym passed))
    by false b first second passed = absurd (true≢false (sym passed))

-- The answer is the decision's.
pub after_answer : (d : Decision) (lent : Lent) → (after d lent).answer ≡ answered d
unfolding after answered
after_answer (unread refusal) lent = refl
after_answer (cut_short answer) lent = refl
after_answer (finished answer table) lent = refl

-- Lists of which one is too short stay, refused with SPACE.
pub outcome_short : (ranking : Ranking) (bytes : List ℕ) (lent : Lent) → is_long lent ≡ false → outcome ranking bytes lent ≡ after (unread (record { reason = reason.Space; place = 0 })) lent
unfolding outcome
outcome_short ranking bytes lent short = rw short

module _ (ranking : Ranking) (bytes : List ℕ) (lent : Lent) (long : Long lent) where
  -- Lists that are long enough end as the decision leaves them.
  pub outcome_long_enough : outcome ranking bytes lent ≡ after (decision ranking bytes) lent
  unfolding outcome
  outcome_long_enough = rw (is_long_lem lent long)

  pub outcome_answer : (outcome ranking bytes lent).answer ≡ answered (decision ranking bytes)
  outcome_answer = ap (λ o. o.answer) outcome_long_enough ∙ after_answer (decision ranking bytes) lent

  -- A problem that is decoded comes back as its run leaves it.
  pub outcome_run : (problem : Problem) → decoded bytes ≡ made problem → outcome ranking bytes lent ≡ after (after_run problem (run ranking problem)) lent
  unfolding decision after_reading
  outcome_run problem read = outcome_long_enough ∙ ap (λ r. after (after_reading ranking r) lent) read
