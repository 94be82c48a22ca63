-- Each stand-in that document 01 names does not meet demand 2, nor demand 1. One that writes nothing after a stop meets demand 2, and
-- not demand 1.
-- Main results: `refuses_all_fails`, `says_not_entailed_fails`, `leaves_unfolded_fails`, `writes_nothing_fails`,
-- `merges_first_only_fails`, `counts_one_more_fails`, `keeps_after_stop_true`, `keeps_after_stop_fails`. Assume nothing.
use mathlib.Core.Path.{◌≡◌, refl, sym, ap, ◌∙◌, subst}
use mathlib.Core.Logic.{◌↔◌, inl, inr}
use Prim.Native.Nat.{ℕ, ◌+◌, ◌*◌, ◌<◌}
use native.Mathlib.Omega.{arith}
use lib.ListN.{length, get_or, get_or-replicate}
use lib.IntN.{ℤ, pos}
use Rattle.answer.specs.declared.Answer.{Answer}
use Rattle.answer.specs.declared.Answer.TheVariants.{Entailed, Refused}
use Rattle.answer.specs.Said.{Word, entailed, not_entailed, contradictory, said}
use Rattle.fraction.specs.Made.{Made, made, stopped}
use Rattle.rules_problem.specs.Problem.{Problem, decoded}
use Rattle.rules_reading.specs.Forced.{Forced, IsContradictory, IsEntailed, IsNotEntailed}
use Rattle.laws_valuation.proofs.Decoded.{decoded_sound}
use Rattle.rules_run.specs.Row.{TERMS, COLUMNS, PLACES, cell}
use Rattle.rules_run.specs.Merge.{State}
use Rattle.rules_run.specs.Run.{highest_number, run}
use Rattle.rules_outcome.specs.Computed.{computed_answer}
use Rattle.rules_outcome.specs.Outcome.{after_run, after_reading, decision, answered, Outcome, rows, after}
use Rattle.rules_outcome.proofs.Cells.{laid_out_at}
use Rattle.rules_outcome.proofs.Decided.{is_long_lem, after_answer, outcome_answer, outcome_run}
use Rattle.rules_demands.specs.Demands.{Program, NothingPresumed, word_of, InRange, OutOfRange, EqualRows, Finished, Truthful, EqualIsTrue}
use Rattle.laws_invariant.proofs.Granted.{highest_number_strict}
use Rattle.laws_truth.proofs.Answers.{stopped_unfinished}
use Rattle.laws_truth.proofs.Truthful.{outcome_truthful, finished_run, presumes_nothing_true}
use Rattle.cases_starred.specs.Table.{Case, case_a, case_c, case_d, case_i}
use Rattle.cases_truth.specs.Problems.{problem_a, problem_i, problem_j2}
use Rattle.cases_truth.proofs.Shown.{Stated, zero_lists, zero_lists_long, zero_there, says, tells, if_entailed, if_not_entailed, case_a_not_entailed, case_c_entailed, case_i_entailed, case_j2_not_entailed, a_forces}
use Rattle.cases_stand_ins.specs.StandIns.{refuses_all, says_not_entailed, rows_made, rows_built, leaves_unfolded, writes_nothing, first_only, merges_first_only, one_more, counts_one_more, kept_after_stop, keeps_after_stop}
use Rattle.cases_stand_ins.specs.Program.{program}
use Rattle.cases_stand_ins.proofs.Meets.{one_lists, one_lists_long, d_stops, d_cleared}

-- A program that meets neither demand 2 nor demand 1.
pub record Fails (program : Program) : Type 0 where
  pub truth : EqualIsTrue highest_number program → ⊥
  pub rules : NothingPresumed highest_number program → ⊥

-- What does not meet demand 2 does not meet demand 1.
fails : {program : Program} → (EqualIsTrue highest_number program → ⊥) → Fails program
fails {program} untrue = record { truth = untrue; rules = λ same. untrue (presumes_nothing_true highest_number highest_number_strict program same) }

-- What demand 2 would say of a program at a case.
at : (program : Program) → EqualIsTrue highest_number program → {case : Case} {problem : Problem} {word : Word} → Stated case problem word → Truthful highest_number problem (program case.problem zero_lists)
unfolding EqualIsTrue
at _ meets {case} {problem} stated = meets case.problem zero_lists problem zero_lists_long stated.holds

-- Case J's second goal is in range, so demand 2 asks for no refusal, whatever its number and place.
pub refuses_all_fails : (number place : ℕ) → Fails (refuses_all number place)
unfolding refuses_all InRange
refuses_all_fails number place = fails (λ meets.
    let (within, apart) = if_not_entailed case_j2_not_entailed refl in
    within number place (((at (refuses_all number place) meets case_j2_not_entailed).range_exactly number place).0 refl))

-- In case I every reading gives both records of f(x) one number, so demand 2 asks for entailed.
pub says_not_entailed_fails : Fails says_not_entailed
unfolding says_not_entailed word_of said
says_not_entailed_fails = fails (λ meets.
    let (within, forced) = if_entailed case_i_entailed refl in
    let word : not_entailed ≡ entailed = ((at says_not_entailed meets case_i_entailed).entailed_exactly within).1 forced in
    cc)

-- The rows built of case A's terms: f(-1/8 x) is 1 at itself, where 3/2 has 0.
a_unfolded : ((cell (rows_built (decoded case_a.problem)) 2 2).num ≡ pos 1) × ((cell (rows_built (decoded case_a.problem)) 3 2).num ≡ pos 0)
unfolding computed_answer case_a rows_built rows_made
a_unfolded = (refl, refl)

-- Case A's assumption forces the two equal, so demand 2 asks for equal rows.
pub leaves_unfolded_fails : Fails leaves_unfolded
unfolding leaves_unfolded word_of Finished after rows computed_answer problem_a EqualRows
leaves_unfolded_fails = fails (λ meets.
    let shows = ((at leaves_unfolded meets case_a_not_entailed).rows_exactly (inr case_a_not_entailed.computes) 2 3 (omega arith) (omega arith)).1 a_forces in
    let g : (t c : ℕ) → ℤ = λ t c. (cell (rows_built (decoded case_a.problem)) t c).num in
    let same : pos 1 ≡ pos 0 =
    sym a_unfolded.0 ∙ sym (laid_out_at g zero_lists.numerators 2 2 zero_lists_long.numerators (omega arith) (omega arith)) ∙ (shows 2 (omega arith)).0 ∙ laid_out_at g zero_lists.numerators 3 2 zero_lists_long.numerators (omega arith) (omega arith) ∙ a_unfolded.1
    in
    cc)

-- Lent lists of zeros show any two terms with equal rows,
zeros_equal : (t u : ℕ) → t < TERMS → u < TERMS → EqualRows (record { answer = Entailed 0; left = zero_lists }) t u
unfolding EqualRows
zeros_equal t u t-below u-below c below =
    let (top, bottom) = zero_there (COLUMNS * t + c) (omega arith) in
    let (top', bottom') = zero_there (COLUMNS * u + c) (omega arith) in
    (top ∙ sym top', bottom ∙ sym bottom')

-- and nothing forces -1/8 t and 1/8 t of case J equal.
pub writes_nothing_fails : Fails writes_nothing
unfolding writes_nothing word_of Finished EqualRows computed_answer problem_j2 Forced IsNotEntailed
writes_nothing_fails = fails (λ meets.
    let (within, apart) = if_not_entailed case_j2_not_entailed refl in
    let forced = ((at writes_nothing meets case_j2_not_entailed).rows_exactly (inr case_j2_not_entailed.computes) 1 2 (omega arith) (omega arith)).0 (zeros_equal 1 2 (omega arith) (omega arith)) in
    apart.1 (forced apart.0))

-- In case C f⁵(x)=x alone does not force f(x)=x,
c_first_only : (said (answered (after_reading highest_number (first_only (decoded case_c.problem))))).word ≡ not_entailed
unfolding computed_answer case_c first_only
c_first_only = refl

-- and both assumptions do, so demand 2 asks for entailed.
pub merges_first_only_fails : Fails merges_first_only
unfolding merges_first_only word_of
merges_first_only_fails = fails (λ meets.
    let (within, forced) = if_entailed case_c_entailed refl in
    let word = ((at merges_first_only meets case_c_entailed).entailed_exactly within).1 forced in
    let answers = ap (λ a. (said a).word) (after_answer (after_reading highest_number (first_only (decoded case_c.problem))) zero_lists) in
    cc c_first_only)

-- Case I solves 1,
i_solves_one : answered (decision highest_number case_i.problem) ≡ Entailed 1
unfolding computed_answer case_i
i_solves_one = refl

-- so 2 is not the run's number of solving merges.
pub counts_one_more_fails : Fails counts_one_more
unfolding counts_one_more one_more said Finished
counts_one_more_fails = fails (λ meets.
    let (state, ran) = finished_run highest_number highest_number_strict case_i.problem zero_lists problem_i zero_lists_long case_i_entailed.holds (inl (says case_i_entailed)) in
    let answers = outcome_answer highest_number case_i.problem zero_lists zero_lists_long ∙ i_solves_one in
    let right : 1 ≡ state.solved = sym (ap (λ a. (said a).count) answers) ∙ (tells case_i_entailed).count_exactly state ran in
    let wrong : 2 ≡ state.solved = sym (ap (λ a. (said (one_more a)).count) answers) ∙ (at counts_one_more meets case_i_entailed).count_exactly state ran in
    omega arith)

-- What is true depends on the answer, and on the lists where they hold a finished table.
truth_of : {problem : Problem} {o o' : Outcome} → o.answer ≡ o'.answer → (Finished o' → o ≡ o') → Truthful highest_number problem o → Truthful highest_number problem o'
unfolding word_of
truth_of {problem} answer same true-one = record {
  entailed_exactly = subst (λ a. InRange highest_number problem → ((said a).word ≡ entailed) ↔ IsEntailed problem) answer true-one.entailed_exactly;
  contradictory_exactly = subst (λ a. InRange highest_number problem → ((said a).word ≡ contradictory) ↔ IsContradictory problem) answer true-one.contradictory_exactly;
  not_entailed_exactly = subst (λ a. InRange highest_number problem → ((said a).word ≡ not_entailed) ↔ IsNotEntailed problem) answer true-one.not_entailed_exactly;
  range_exactly = subst (λ a. (number place : ℕ) → (a ≡ Refused number place) ↔ OutOfRange highest_number problem number place) answer true-one.range_exactly;
  rows_exactly = λ finishes.
      subst (λ x. (t u : ℕ) → t < length problem.terms → u < length problem.terms → EqualRows x t u ↔ Forced problem (record { left = t; right = u })) (same finishes)
      (true-one.rows_exactly (subst Finished (sym (same finishes)) finishes));
  count_exactly = subst (λ a. (state : State) → run highest_number problem ≡ made state → (said a).count ≡ state.solved) answer true-one.count_exactly;
}

-- A program that writes nothing after contradictory or 7 meets demand 2,
pub keeps_after_stop_true : EqualIsTrue highest_number keeps_after_stop
unfolding EqualIsTrue keeps_after_stop kept_after_stop decision after_reading after_run after answered Finished word_of
keeps_after_stop_true bytes lent problem long read =
    rw (is_long_lem lent long, read)
    (by (run highest_number problem) refl (subst (Truthful highest_number problem) (outcome_run highest_number bytes lent long problem read) (outcome_truthful highest_number highest_number_strict bytes lent problem long read)))
  where
    by : (step : Made Answer State) → run highest_number problem ≡ step → Truthful highest_number problem (after (after_run problem step) lent) → Truthful highest_number problem (kept_after_stop (after_run problem step) lent)
    by (made state) h true-one = true-one
    by (stopped answer) h true-one =
        truth_of refl (λ finishes. absurd (stopped_unfinished highest_number problem highest_number_strict (decoded_sound bytes problem read) answer h finishes)) true-one

-- and not demand 1: case D, lent lists of ones, has to leave zeros.
pub keeps_after_stop_fails : NothingPresumed highest_number keeps_after_stop → ⊥
unfolding NothingPresumed keeps_after_stop kept_after_stop program one_lists
keeps_after_stop_fails same =
    let kept : (keeps_after_stop case_d.problem one_lists).left ≡ one_lists = rw (is_long_lem one_lists one_lists_long, d_stops) in
    let first : get_or (keeps_after_stop case_d.problem one_lists).left.numerators 0 (pos 0) ≡ pos 1 = ap (λ left. get_or left.numerators 0 (pos 0)) kept ∙ get_or-replicate PLACES 0 (pos 1) (pos 0) (omega arith) in
    let clash : pos 1 ≡ pos 0 = sym first ∙ ap (λ o. get_or o.left.numerators 0 (pos 0)) (same case_d.problem one_lists) ∙ d_cleared in
    cc
