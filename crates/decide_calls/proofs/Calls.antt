-- Demand 3 of two calls of `decide`, from its contract alone.
-- Main results: `calls_agree`, `exits_agree`. Assume nothing.
use mathlib.Core.Path.{◌≡◌, refl, sym, ap, ◌∙◌, subst, subst₂}
use mathlib.Core.List.{List}
use Prim.Native.Nat.{ℕ, ◌≤◌, ◌<◌}
use native.Mathlib.Omega.{arith}
use lib.ListN.{get_or, take}
use lib.Seq.{get_or-take}
use lib.IntN.{ℤ, pos}
use Rattle.answer.specs.declared.Answer.{Answer}
use Rattle.answer.specs.declared.Answer.TheVariants.{Entailed, NotEntailed, Contradictory, Refused}
use Rattle.answer.specs.Said.{contradictory, said}
use Rattle.fraction.specs.Made.{made}
use Rattle.rules_problem.specs.Problem.{Problem, decoded}
use Rattle.rules_run.specs.Row.{PLACES}
use Rattle.rules_run.specs.Merge.{State}
use Rattle.rules_run.specs.Run.{highest_number, run}
use Rattle.laws_invariant.proofs.Granted.{highest_number_strict}
use Rattle.rules_outcome.specs.Outcome.{Lent}
use Rattle.rules_demands.specs.Demands.{word_of, NotRefused, Finished, Truthful}
use Rattle.rules_demands.specs.Order.{SameUpToOrder, SameOutcome, unknowns}
use Rattle.laws_truth.proofs.Truthful.{finished_run}
use Rattle.laws_order.proofs.Bytes.{same_bytes_same}
use Rattle.laws_order.proofs.Order.{Accepted, accepted}
use Rattle.laws_order.proofs.Outcomes.{outcome_same, outcome_bounded}
use Rattle.run_finish.specs.Lent.{comes_back}
use Rattle.decide_calls.specs.Agreed.{Deciding, TrueOf, Agreed, CallsAgree, Accepts, ExitsAgree}
use Rattle.decide_calls.proofs.Answers.{answers_equal}

module _ (call : Deciding) (passed : NotRefused call.back) where
  -- A call that is not refused was lent long enough lists and a problem.
  admitted : Accepted call.bytes call.lent
  admitted = accepted highest_number call.bytes call.lent (subst NotRefused (sym call.promised.rules) passed)

  module _ (problem : Problem) (read : decoded call.bytes ≡ made problem) where
    true_back : Truthful highest_number problem call.back
    true_back = call.promised.truth problem admitted.long read

    back_merges : Finished call.back → (state : State) × (run highest_number problem ≡ made state) × ((said call.back.answer).count ≡ state.solved)
    back_merges finished =
        let (state, ran) = finished_run highest_number highest_number_strict call.bytes call.lent problem admitted.long read (subst Finished (sym call.promised.rules) finished) in
        (state, ran, true_back.count_exactly state ran)

    true_of : TrueOf problem call.back
    true_of = record {
      true_table = true_back;
      bounded = subst (λ o. (said o.answer).count ≤ unknowns problem.terms) call.promised.rules (outcome_bounded highest_number highest_number_strict call.bytes call.lent problem read);
      merges = back_merges;
    }

-- Of two calls the rules say the same, and each contract says that what comes back is what the rules lay down.
agreed : (c d : Deciding) (p q : Problem) → decoded c.bytes ≡ made p → decoded d.bytes ≡ made q → SameUpToOrder p q → NotRefused c.back → NotRefused d.back → Agreed p q c.back d.back
unfolding NotRefused word_of
agreed c d p q read read' alike passed passed' = record {
  same = same;
  answers = λ met. answers_equal c.back.answer d.back.answer same.word same.count met passed;
  one = true_of c passed p read;
  other = true_of d passed' q read';
}
  where
    same : SameOutcome c.back d.back
    same =
        subst₂ SameOutcome c.promised.rules d.promised.rules
        (outcome_same highest_number highest_number_strict c.bytes d.bytes c.lent d.lent p q (admitted c passed).long (admitted d passed').long read read' alike
        (subst NotRefused (sym c.promised.rules) passed) (subst NotRefused (sym d.promised.rules) passed'))

-- Demand 3, of calls.
pub calls_agree : CallsAgree
calls_agree = record {
  of_problems = agreed;
  of_bytes = λ c d same passed passed'.
      let a = admitted c passed in
      let b = admitted d passed' in
      (a.problem, b.problem, a.read, b.read, agreed c d a.problem b.problem a.read b.read (same_bytes_same c.bytes d.bytes same a.problem b.problem a.read b.read) passed passed');
}

-- An answer that is no refusal has no refusal's word.
accepts_passed : (r : Answer) (left : Lent) → Accepts r → NotRefused (comes_back r left)
unfolding Accepts NotRefused word_of said
accepts_passed (Refused number place) left accepts other word = accepts number place refl
accepts_passed (Entailed solved) left accepts other word = let no_way : ◌≡◌ {A = ℕ} 0 1 = cc in omega arith
accepts_passed (NotEntailed solved) left accepts other word = let no_way : ◌≡◌ {A = ℕ} 0 1 = cc in omega arith
accepts_passed (Contradictory place) left accepts other word = let no_way : ◌≡◌ {A = ℕ} 0 1 = cc in omega arith

-- An answer whose word is contradictory is so, at its place.
contradictory_named : (r : Answer) → ((place : ℕ) → r ≡ Contradictory place → ⊥) → (said r).word ≡ contradictory → ⊥
unfolding said
contradictory_named (Contradictory place) other word = other place refl
contradictory_named (Entailed solved) other word = let no_way : ◌≡◌ {A = ℕ} 0 1 = cc in omega arith
contradictory_named (NotEntailed solved) other word = let no_way : ◌≡◌ {A = ℕ} 0 1 = cc in omega arith
contradictory_named (Refused number place) other word = let no_way : ◌≡◌ {A = ℕ} 0 1 = cc in omega arith

-- Lists whose first places are the same hold the same at each of them.
taken_at : (count : ℕ) (xs ys : List ℤ) → take count xs ≡ take count ys → (p : ℕ) → p < count → get_or xs p (pos 0) ≡ get_or ys p (pos 0)
taken_at count xs ys same p below = sym (get_or-take count xs p (pos 0) below) ∙ ap (λ l. get_or l p (pos 0)) same ∙ get_or-take count ys p (pos 0) below

-- The same of the answers and of the lists at exit.
pub exits_agree : ExitsAgree
unfolding ExitsAgree word_of
exits_agree bytes bytes' lent lent' r s left left' p q promised promised' read read' alike accepts accepts' =
    let both =
    agreed
    (record { bytes = bytes; lent = lent; back = comes_back r left; promised = promised })
    (record { bytes = bytes'; lent = lent'; back = comes_back s left'; promised = promised' })
    p q read read' alike (accepts_passed r left accepts) (accepts_passed s left' accepts')
    in (
      record {
        numerators = taken_at PLACES left.numerators left'.numerators both.same.table.numerators;
        denominators = taken_at PLACES left.denominators left'.denominators both.same.table.denominators;
        answers = λ met. both.answers (contradictory_named r met);
      },
      both,
    )
