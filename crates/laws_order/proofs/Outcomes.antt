-- What comes back of the same problem up to order, for any ranking of the unknowns that ranks no two columns alike.
-- Main results: `made_not_contradictory` (C1), `outcome_same`, `outcome_bounded`. Assume nothing.
use mathlib.Core.Path.{◌≡◌, refl, sym, ap, ◌∙◌, subst, subst₂}
use mathlib.Core.Logic.{⊎_elim}
use mathlib.Core.Bool.{Bool, true, false, cond}
use mathlib.Core.List.{List}
use Prim.Native.Nat.{ℕ, ◌≤◌, ◌<◌}
use native.Mathlib.Omega.{arith}
use lib.IntN.{pos}
use Rattle.answer.specs.declared.Answer.{Answer}
use Rattle.answer.specs.declared.Answer.TheVariants.{Contradictory}
use Rattle.answer.specs.declared.Reason.TheVariants as reason
use Rattle.answer.specs.Said.{said}
use Rattle.fraction.specs.Made.{Made, made, stopped}
use Rattle.rules_problem.specs.Problem.{Problem, decoded}
use Rattle.rules_reading.specs.Forced.{IsContradictory}
use Rattle.laws_valuation.specs.Sound.{Sound}
use Rattle.laws_valuation.proofs.Decoded.{decoded_sound}
use Rattle.rules_run.specs.Row.{COLUMNS, cell}
use Rattle.rules_run.specs.Merge.{State}
use Rattle.rules_run.specs.Run.{Ranking, run, judged}
use Rattle.laws_invariant.specs.Invariant.{Strict, Completed}
use Rattle.laws_invariant.proofs.Granted.{sound_shaped, sound_sides}
use Rattle.laws_invariant.proofs.Run.{run_count}
use Rattle.rules_outcome.specs.Outcome.{Lent, Long, is_long, unread, cut_short, zeros, rows, after_run, after_reading, decision, answered, after, outcome}
use Rattle.rules_outcome.proofs.Decided.{outcome_run}
use Rattle.rules_demands.specs.Demands.{word_of, NotRefused}
use Rattle.rules_demands.specs.Order.{SameUpToOrder, SameOutcome, unknowns}
use Rattle.laws_truth.proofs.Answers.{judged_count, stopped_either}
use Rattle.laws_truth.proofs.Decided.{stopped_contradictory, finished_complete, finished_met}
use Rattle.laws_order.proofs.Count.{unknowns_counted}
use Rattle.laws_order.proofs.Lists.{laid_out_alike}
use Rattle.laws_order.proofs.Pairs.{same_symmetric, same_valuations, met_too}
use Rattle.laws_order.proofs.Rows.{same_cells, same_judged}

module _ (ranking : Ranking) (strict : Strict ranking) where
  -- C1: where one run finishes, the other does not contradict: a reading meets the assumptions of both.
  pub made_not_contradictory : {p q : Problem} {state : State} → Sound p → Sound q → SameUpToOrder p q → run ranking p ≡ made state → (place : ℕ) → run ranking q ≡ stopped (Contradictory place) → ⊥
  unfolding IsContradictory
  made_not_contradictory {p} {q} {state} sound sound' same h place h' = stopped_contradictory ranking q strict sound' place h' (met_too same (finished_met ranking p strict sound state h).0)

  -- A run that stops, and is not refused, contradicts.
  contradicts : {problem : Problem} → Sound problem → (lent : Lent) (answer : Answer) → run ranking problem ≡ stopped answer → NotRefused (after (cut_short answer) lent) → (place : ℕ) × (answer ≡ Contradictory place)
  unfolding NotRefused word_of after said
  contradicts {problem} sound lent answer h accepted =
      ⊎_elim (λ says. says) (λ range. absurd (accepted range.0 (ap (λ a. (said a).word) range.3))) (stopped_either ranking problem strict sound answer h)

  module _ {p q : Problem} (sound : Sound p) (sound' : Sound q) (same : SameUpToOrder p q) (lent lent' : Lent) (long : Long lent) (long' : Long lent') where
    -- Both runs finish: the same answer and the same table.
    both_finish : (state state' : State) → run ranking p ≡ made state → run ranking q ≡ made state' → SameOutcome (after (after_run p (made state)) lent) (after (after_run q (made state')) lent')
    unfolding after rows after_run word_of
    both_finish state state' h h' = record {
      word = ap (λ answer. (said answer).word) answers;
      count = ap (λ answer. (said answer).count) answers;
      table = record {
        numerators = laid_out_alike _ _ _ _ long.numerators long'.numerators (λ t c inside. ap (λ x. x.num) (cells t c inside));
        denominators = laid_out_alike _ _ _ _ long.denominators long'.denominators (λ t c inside. ap (λ x. pos x.den) (cells t c inside));
      };
    }
      where
        complete : Completed (ranking p.terms) p.terms p.pairs p.pairs state
        complete = finished_complete ranking p strict sound state h

        complete' : Completed (ranking p.terms) p.terms q.pairs q.pairs state'
        complete' = subst (λ terms. Completed (ranking terms) terms q.pairs q.pairs state') (sym same.terms) (finished_complete ranking q strict sound' state' h')

        cells : (t c : ℕ) → c < COLUMNS → cell state.table t c ≡ cell state'.table t c
        cells = same_cells (sound_shaped p sound) complete complete' (same_valuations same)

        answers : judged p.goal state ≡ judged q.goal state'
        answers = same_judged (sound_shaped p sound) complete complete' (same_valuations same) p.goal ∙ ap (λ goal. judged goal state') same.goal

    -- Both contradict: no count, and lists of zeros.
    both_contradict : (place place' : ℕ) → SameOutcome (after (cut_short (Contradictory place)) lent) (after (cut_short (Contradictory place')) lent')
    unfolding after zeros word_of said
    both_contradict place place' = record {
      word = refl;
      count = refl;
      table = record {
        numerators = laid_out_alike _ _ _ _ long.numerators long'.numerators (λ t c inside. refl);
        denominators = laid_out_alike _ _ _ _ long.denominators long'.denominators (λ t c inside. refl);
      };
    }

    runs_same : (answer answer' : Made Answer State) → run ranking p ≡ answer → run ranking q ≡ answer' → NotRefused (after (after_run p answer) lent) → NotRefused (after (after_run q answer') lent') → SameOutcome (after (after_run p answer) lent) (after (after_run q answer') lent')
    unfolding after_run
    runs_same (made state) (made state') h h' accepted accepted' = both_finish state state' h h'
    runs_same (made state) (stopped answer) h h' accepted accepted' =
        let (place, says) = contradicts sound' lent' answer h' accepted' in
        absurd (made_not_contradictory sound sound' same h place (h' ∙ ap stopped says))
    runs_same (stopped answer) (made state) h h' accepted accepted' =
        let (place, says) = contradicts sound lent answer h accepted in
        absurd (made_not_contradictory sound' sound (same_symmetric same) h' place (h ∙ ap stopped says))
    runs_same (stopped answer) (stopped answer') h h' accepted accepted' =
        let (place, says) = contradicts sound lent answer h accepted in
        let (place', says') = contradicts sound' lent' answer' h' accepted' in
        rw (says, says') (both_contradict place place')

  -- Demand 3: the same word, the same table, the same count.
  pub outcome_same : (bytes bytes' : List ℕ) (lent lent' : Lent) (p q : Problem) → Long lent → Long lent' → decoded bytes ≡ made p → decoded bytes' ≡ made q → SameUpToOrder p q → NotRefused (outcome ranking bytes lent) → NotRefused (outcome ranking bytes' lent') → SameOutcome (outcome ranking bytes lent) (outcome ranking bytes' lent')
  outcome_same bytes bytes' lent lent' p q long long' read read' same accepted accepted' =
      let ends = outcome_run ranking bytes lent long p read in
      let ends' = outcome_run ranking bytes' lent' long' q read' in
      subst₂ SameOutcome (sym ends) (sym ends')
      (runs_same (decoded_sound bytes p read) (decoded_sound bytes' q read') same lent lent' long long'
      (run ranking p) (run ranking q) refl refl (subst NotRefused ends accepted) (subst NotRefused ends' accepted'))

  -- The count is at most the number of variable and lookup records, whatever the lists.
  pub outcome_bounded : (bytes : List ℕ) (lent : Lent) (problem : Problem) → decoded bytes ≡ made problem → (said (outcome ranking bytes lent).answer).count ≤ unknowns problem.terms
  unfolding outcome decision after_reading after_run after answered said
  outcome_bounded bytes lent problem read = by (is_long lent)
    where
      sound : Sound problem
      sound = decoded_sound bytes problem read

      none : {count : ℕ} → count ≡ 0 → count ≤ unknowns problem.terms
      none zero = omega arith

      by_run : (answer : Made Answer State) → run ranking problem ≡ answer → (said (after (after_run problem answer) lent).answer).count ≤ unknowns problem.terms
      by_run (made state) h = rw (judged_count, ← unknowns_counted) (run_count ranking problem strict (sound_shaped problem sound) (sound_sides problem sound) state h)
      by_run (stopped answer) h = none (⊎_elim (λ says. ap (λ a. (said a).count) says.1) (λ says. ap (λ a. (said a).count) says.3) (stopped_either ranking problem strict sound answer h))

      by : (b : Bool) → (said (cond b (after (decision ranking bytes) lent) (after (unread (record { reason = reason.Space; place = 0 })) lent)).answer).count ≤ unknowns problem.terms
      by true = rw read (by_run (run ranking problem) refl)
      by false = none refl
