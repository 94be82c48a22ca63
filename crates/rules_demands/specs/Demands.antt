-- Demands 1 and 2 on a deciding program, as statements, for the ranking that it runs with. Proved: both of the entry point, whose
-- contract is `Decided` (crate `decide`); demand 2 of the rules, `rules_tell_the_truth` (crate `laws_truth`), for every ranking that
-- ranks no two columns alike.
-- Main definitions: `Program`, `NothingPresumed`, `EqualIsTrue`. Assumes nothing.
use Rattle.std.specs.Prelude.{◌≡◌, ◌↔◌, ◌⊎◌, List, ℕ, ◌+◌, ◌*◌, ◌<◌, length, get_or, pos}
use Rattle.answer.specs.declared.Answer.TheVariants.{Refused}
use Rattle.answer.specs.Said.{Word, entailed, not_entailed, contradictory, refused, said}
use Rattle.fraction.specs.Limits.{Outside}
use Rattle.fraction.specs.Made.{made, stopped}
use Rattle.rules_problem.specs.Problem.{Problem, decoded}
use Rattle.rules_reading.specs.Forced.{Forced, IsContradictory, IsEntailed, IsNotEntailed}
use Rattle.rules_run.specs.Row.{COLUMNS}
use Rattle.rules_run.specs.Merge.{State}
use Rattle.rules_run.specs.Run.{Ranking, run}
use Rattle.rules_outcome.specs.Outcome.{Lent, Long, Outcome, outcome}

-- What decides: from any byte string and lent lists of any length to the answer and what the lists then hold.
abbrev pub Program : Type 0
Program = (bytes : List ℕ) → Lent → Outcome

-- Demand 1. "Every byte string and every size of lent list gets an answer; bad input gets the refusal that the rules name, at
-- the first fault in their order, and every lent list ends as the rules say." No condition stands on the input.
unfoldable pub NothingPresumed : Ranking → Program → Type 0
NothingPresumed ranking program = (bytes : List ℕ) (lent : Lent) → program bytes lent ≡ outcome ranking bytes lent

unfoldable pub word_of : Outcome → Word
word_of o = (said o.answer).word

unfoldable pub NotRefused : Outcome → Type 0
NotRefused o = (number : ℕ) → word_of o ≡ refused number → ⊥

-- "the run laid down makes a number too large, at that place": it stops there with a refusal that says so
unfoldable pub OutOfRange : Ranking → Problem → (number place : ℕ) → Type 0
OutOfRange ranking problem number place = Outside number × (run ranking problem ≡ stopped (Refused number place))

unfoldable pub InRange : Ranking → Problem → Type 0
InRange ranking problem = (number place : ℕ) → OutOfRange ranking problem number place → ⊥

-- The lists hold the same fraction for terms t and u in each column; "row t, column c stands at 65t + c".
unfoldable pub EqualRows : Outcome → (t u : ℕ) → Type 0
EqualRows o t u =
    (c : ℕ) → c < COLUMNS →
    (get_or o.left.numerators (COLUMNS * t + c) (pos 0) ≡ get_or o.left.numerators (COLUMNS * u + c) (pos 0))
    × (get_or o.left.denominators (COLUMNS * t + c) (pos 0) ≡ get_or o.left.denominators (COLUMNS * u + c) (pos 0))

unfoldable pub Finished : Outcome → Type 0
Finished o = (word_of o ≡ entailed) ⊎ (word_of o ≡ not_entailed)

-- What an outcome says of a sound problem is true, and its table shows just what is forced.
pub record Truthful (ranking : Ranking) (problem : Problem) (o : Outcome) : Type 0 where
  -- "entailed exactly if the assumptions can be met and meeting them forces the goal's sides equal"
  pub entailed_exactly : InRange ranking problem → (word_of o ≡ entailed) ↔ IsEntailed problem
  -- "contradictory exactly if no reading meets them"
  pub contradictory_exactly : InRange ranking problem → (word_of o ≡ contradictory) ↔ IsContradictory problem
  -- "not-entailed otherwise"
  pub not_entailed_exactly : InRange ranking problem → (word_of o ≡ not_entailed) ↔ IsNotEntailed problem
  -- "Only exception: the range refusal, exactly when the run laid down makes a number too large, at that place."
  pub range_exactly : (number place : ℕ) → (o.answer ≡ Refused number place) ↔ OutOfRange ranking problem number place
  -- "In the finished table two terms have equal rows exactly if the assumptions force them equal."
  pub rows_exactly : Finished o → (t u : ℕ) → t < length problem.terms → u < length problem.terms
      → EqualRows o t u ↔ Forced problem (record { left = t; right = u })
  -- 01: the solved count "has to equal the run's number of solving merges"
  pub count_exactly : (state : State) → run ranking problem ≡ made state → (said o.answer).count ≡ state.solved

-- Demand 2, "for each table that passes the first six tests": long enough lists, and a sound record.
--
-- What it rules out, each by one case of document 01 (laws in crate `cases_stand_ins`):
-- * a program that refuses all, with any number at any place: case J is in range, so `range_exactly`;
-- * one that says not-entailed to all: in case I every reading gives both records of f(x) one number, so `entailed_exactly`;
-- * one that leaves the unfolded rows: in case A the assumption forces terms 2 and 3 equal, whose rows before the fold differ,
--   so `rows_exactly`;
-- * one that writes nothing: lent lists of zeros have equal rows for -1/8 t and 1/8 t of case J, which nothing forces equal;
-- * one that merges the first assumption and passes over the rest: in case C f⁵(x)=x alone does not force f(x)=x, both
--   assumptions do, so `entailed_exactly`;
-- * one with a made-up solved count: `count_exactly`.
unfoldable pub EqualIsTrue : Ranking → Program → Type 0
EqualIsTrue ranking program =
    (bytes : List ℕ) (lent : Lent) (problem : Problem) → Long lent → decoded bytes ≡ made problem →
    Truthful ranking problem (program bytes lent)
