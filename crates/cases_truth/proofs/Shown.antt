-- Demand 2 at cases of document 01: what the rules say of their bytes, computed, is true of their problems.
-- Main results: `a_forces`, `a_shows_equal_rows`, `b_is_entailed`, `c_is_entailed`, `d_is_contradictory`, `h_is_not_entailed`, `i_is_entailed`,
-- `j_is_not_entailed`. Assume nothing.
use mathlib.Core.Path.{◌≡◌, refl, sym, ap, ◌∙◌}
use mathlib.Core.Logic.{inr}
use mathlib.Core.List.Memᴰ
use Prim.Native.Nat.{ℕ, ◌<◌}
use native.Mathlib.Omega.{arith}
use lib.ListN.{get_or, replicate, length-replicate, get_or-replicate}
use lib.IntN.{pos}
use Rattle.answer.specs.Said.{Word, entailed, not_entailed, contradictory, refused, said}
use Rattle.fraction.specs.Made.{made}
use Rattle.rules_problem.specs.Problem.{Problem, decoded}
use Rattle.rules_reading.specs.Reading.{MeetsAll}
use Rattle.rules_reading.specs.Forced.{Forced, IsContradictory, IsEntailed, IsNotEntailed}
use Rattle.rules_run.specs.Row.{PLACES}
use Rattle.rules_run.specs.Run.{highest_number}
use Rattle.rules_outcome.specs.Computed.{computed_answer}
use Rattle.rules_outcome.specs.Outcome.{Lent, Long, outcome}
use Rattle.rules_outcome.proofs.Decided.{outcome_answer}
use Rattle.rules_demands.specs.Demands.{word_of, NotRefused, InRange, EqualRows, Finished, Truthful, EqualIsTrue}
use Rattle.laws_invariant.proofs.Granted.{highest_number_strict}
use Rattle.laws_truth.proofs.Truthful.{rules_tell_the_truth, said_in_range}
use Rattle.cases_starred.specs.Table.{Case, case_a, case_b, case_c, case_d, case_h, case_i, case_j2}
use Rattle.cases_truth.specs.Problems.{pair, problem_a, problem_b, problem_c, problem_d, problem_h, problem_i, problem_j2}

-- lists that are long enough, of zeros
unfoldable pub zero_lists : Lent
zero_lists = record { numerators = replicate PLACES (pos 0); denominators = replicate PLACES (pos 0) }

pub zero_lists_long : Long zero_lists
unfolding zero_lists
zero_lists_long = record { numerators = omega (arith, length-replicate PLACES (pos 0)); denominators = omega (arith, length-replicate PLACES (pos 0)) }

pub zero_there : (p : ℕ) → p < PLACES → (get_or zero_lists.numerators p (pos 0) ≡ pos 0) × (get_or zero_lists.denominators p (pos 0) ≡ pos 0)
unfolding zero_lists
zero_there p below = let zero = get_or-replicate PLACES p (pos 0) (pos 0) below in (zero, zero)

-- The case holds the problem, and the rules say the word.
pub record Stated (case : Case) (problem : Problem) (word : Word) : Type 0 where
  pub holds : decoded case.problem ≡ made problem
  pub computes : (computed_answer case.problem).word ≡ word

module _ {case : Case} {problem : Problem} {word : Word} (stated : Stated case problem word) where
  -- Demand 2 says that the rules tell the truth of it,
  pub tells : Truthful highest_number problem (outcome highest_number case.problem zero_lists)
  unfolding EqualIsTrue
  tells = rules_tell_the_truth highest_number highest_number_strict case.problem zero_lists problem zero_lists_long stated.holds

  -- and the word that comes back is the one that is computed.
  pub says : word_of (outcome highest_number case.problem zero_lists) ≡ word
  unfolding word_of computed_answer
  says = ap (λ answer. (said answer).word) (outcome_answer highest_number case.problem zero_lists zero_lists_long) ∙ stated.computes

  -- A word that is no refusal is that of a problem in range.
  pub inside : ((number : ℕ) → word ≡ refused number → ⊥) → InRange highest_number problem
  unfolding NotRefused
  inside other = said_in_range tells (λ number refuses. other number (sym says ∙ refuses))

  -- So each word means what demand 2 says.
  pub if_entailed : word ≡ entailed → InRange highest_number problem × IsEntailed problem
  if_entailed same =
      let within = inside (λ number refuses. cc) in
      (within, (tells.entailed_exactly within).0 (says ∙ same))

  pub if_contradictory : word ≡ contradictory → InRange highest_number problem × IsContradictory problem
  if_contradictory same =
      let within = inside (λ number refuses. cc) in
      (within, (tells.contradictory_exactly within).0 (says ∙ same))

  pub if_not_entailed : word ≡ not_entailed → InRange highest_number problem × IsNotEntailed problem
  if_not_entailed same =
      let within = inside (λ number refuses. cc) in
      (within, (tells.not_entailed_exactly within).0 (says ∙ same))

pub case_a_not_entailed : Stated case_a problem_a not_entailed
unfolding computed_answer case_a problem_a
case_a_not_entailed = record { holds = refl; computes = refl }

case_b_entailed : Stated case_b problem_b entailed
unfolding computed_answer case_b problem_b
case_b_entailed = record { holds = refl; computes = refl }

pub case_c_entailed : Stated case_c problem_c entailed
unfolding computed_answer case_c problem_c
case_c_entailed = record { holds = refl; computes = refl }

pub case_d_contradictory : Stated case_d problem_d contradictory
unfolding computed_answer case_d problem_d
case_d_contradictory = record { holds = refl; computes = refl }

case_h_not_entailed : Stated case_h problem_h not_entailed
unfolding computed_answer case_h problem_h
case_h_not_entailed = record { holds = refl; computes = refl }

pub case_i_entailed : Stated case_i problem_i entailed
unfolding computed_answer case_i problem_i
case_i_entailed = record { holds = refl; computes = refl }

pub case_j2_not_entailed : Stated case_j2 problem_j2 not_entailed
unfolding computed_answer case_j2 problem_j2
case_j2_not_entailed = record { holds = refl; computes = refl }

-- Case A: the assumption forces f(-1/8 x) and 3/2 equal,
pub a_forces : Forced problem_a (pair 2 3)
unfolding problem_a Forced MeetsAll
a_forces met = met.meets (pair 2 3) (Memᴰ.head refl)

-- so the lists show them with equal rows.
pub a_shows_equal_rows : EqualRows (outcome highest_number case_a.problem zero_lists) 2 3
unfolding problem_a Finished
a_shows_equal_rows =
    ((tells case_a_not_entailed).rows_exactly (inr (says case_a_not_entailed)) 2 3 (omega arith) (omega arith)).1 a_forces

-- Case B: in every reading with f³(x) = f(x), f⁵(x) is f(x).
pub b_is_entailed : IsEntailed problem_b
b_is_entailed = (if_entailed case_b_entailed refl).1

-- Case C: in every reading with f⁵(x) = x and f³(x) = x, f(x) is x.
pub c_is_entailed : IsEntailed problem_c
c_is_entailed = (if_entailed case_c_entailed refl).1

-- Case D: no reading meets the three assumptions.
pub d_is_contradictory : IsContradictory problem_d
d_is_contradictory = (if_contradictory case_d_contradictory refl).1

-- Case H: a reading meets x = y and f³(x) = f(x) and gives f⁴(y) and f(x) different numbers.
pub h_is_not_entailed : IsNotEntailed problem_h
h_is_not_entailed = (if_not_entailed case_h_not_entailed refl).1

-- Case I: every reading gives both records of f(x) one number.
pub i_is_entailed : IsEntailed problem_i
i_is_entailed = (if_entailed case_i_entailed refl).1

-- Case J, its second goal: a reading gives -1/8 t and 1/8 t different numbers.
pub j_is_not_entailed : IsNotEntailed problem_j2
j_is_not_entailed = (if_not_entailed case_j2_not_entailed refl).1
