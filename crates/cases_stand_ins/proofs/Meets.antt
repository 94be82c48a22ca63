-- The program that the rules lay down meets demands 1 and 2, and what it shows at the cases by which the stand-ins fail.
-- Main results: `j_answer`, `i_answer`, `c_answer`, `a_row`, `d_cleared`, `program_presumes_nothing`, `program_meets`. Assume nothing.
use mathlib.Core.Path.{◌≡◌, refl, ap, ◌∙◌}
use Prim.Native.Nat.{◌+◌, ◌*◌}
use native.Mathlib.Omega.{arith}
use lib.ListN.{get_or, replicate, length-replicate}
use lib.IntN.{pos}
use Rattle.answer.specs.declared.Answer.TheVariants.{Entailed, NotEntailed, Contradictory}
use Rattle.rules_run.specs.Row.{COLUMNS, PLACES, constant, cell}
use Rattle.rules_run.specs.Run.{highest_number}
use Rattle.rules_outcome.specs.Computed.{computed_answer}
use Rattle.rules_outcome.specs.Outcome.{cut_short, decision, Lent, Long, is_long, Outcome, zeros, rows, after_run, after, outcome}
use Rattle.rules_outcome.proofs.Cells.{laid_out_at}
use Rattle.rules_outcome.proofs.Decided.{outcome_run, outcome_long_enough}
use Rattle.rules_demands.specs.Demands.{NothingPresumed, EqualIsTrue}
use Rattle.laws_invariant.proofs.Granted.{highest_number_strict}
use Rattle.laws_truth.proofs.Truthful.{rules_tell_the_truth}
use Rattle.cases_starred.specs.Table.{Case, case_a, case_c, case_d, case_i, case_j2}
use Rattle.cases_truth.specs.Problems.{problem_a}
use Rattle.cases_truth.proofs.Run.{ending, state_a, a_finished}
use Rattle.cases_truth.proofs.Shown.{zero_lists, zero_lists_long, case_a_not_entailed}
use Rattle.cases_stand_ins.specs.Program.{program}

-- what comes back of a case
shown : Case → Outcome
shown case = program case.problem zero_lists

-- Case J's second goal is not-entailed with none solved, which no program says that refuses all or makes up a count,
j_answer : (shown case_j2).answer ≡ NotEntailed 0
unfolding shown program outcome is_long after computed_answer case_j2 zero_lists
j_answer = refl

-- case I entailed, which none says that says not-entailed to all,
i_answer : (shown case_i).answer ≡ Entailed 1
unfolding shown program outcome is_long after computed_answer case_i zero_lists
i_answer = refl

-- case C entailed, which none says that passes over the second assumption.
c_answer : (shown case_c).answer ≡ Entailed 5
unfolding shown program outcome is_long after computed_answer case_c zero_lists
c_answer = refl

-- In case A's table f(-1/8 x) has the constant 3/2,
a_constant : (cell state_a.table 2 constant).num ≡ pos 3
unfolding computed_answer state_a ending problem_a
a_constant = refl

-- which none shows that writes nothing or leaves the unfolded rows.
a_row : get_or (shown case_a).left.numerators (COLUMNS * 2 + constant) (pos 0) ≡ pos 3
unfolding shown program after rows after_run
a_row =
    ap (λ o. get_or o.left.numerators (COLUMNS * 2 + constant) (pos 0))
    (outcome_run highest_number case_a.problem zero_lists zero_lists_long problem_a case_a_not_entailed.holds ∙ ap (λ r. after (after_run problem_a r) zero_lists) a_finished)
    ∙ laid_out_at (λ t c. (cell state_a.table t c).num) zero_lists.numerators 2 constant zero_lists_long.numerators (omega arith) (omega arith)
    ∙ a_constant

-- lists that are long enough, of ones
unfoldable pub one_lists : Lent
one_lists = record { numerators = replicate PLACES (pos 1); denominators = replicate PLACES (pos 1) }

pub one_lists_long : Long one_lists
unfolding one_lists
one_lists_long = record { numerators = omega (arith, length-replicate PLACES (pos 1)); denominators = omega (arith, length-replicate PLACES (pos 1)) }

pub d_stops : decision highest_number case_d.problem ≡ cut_short (Contradictory 3)
unfolding computed_answer case_d
d_stops = refl

-- Case D, lent lists of ones, leaves 0 in them, which none does that writes nothing after a stop.
pub d_cleared : get_or (program case_d.problem one_lists).left.numerators (COLUMNS * 0 + 0) (pos 0) ≡ pos 0
unfolding program after zeros
d_cleared =
    ap (λ o. get_or o.left.numerators (COLUMNS * 0 + 0) (pos 0))
    (outcome_long_enough highest_number case_d.problem one_lists one_lists_long ∙ ap (λ d. after d one_lists) d_stops)
    ∙ laid_out_at (λ t c. pos 0) one_lists.numerators 0 0 one_lists_long.numerators (omega arith) (omega arith)

-- Demands 1 and 2, of the program.
pub program_presumes_nothing : NothingPresumed highest_number program
unfolding program NothingPresumed
program_presumes_nothing bytes lent = refl

pub program_meets : EqualIsTrue highest_number program
unfolding program
program_meets = rules_tell_the_truth highest_number highest_number_strict
