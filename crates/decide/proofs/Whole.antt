-- From the run in code to the outcome that the rules lay down.
-- Main results: `read_facts`, `facts_held`, `then_finishable`, `decides_rows`, `decides_cleared`, `decided`, `decided_short`, `sound_read`,
-- `decided_unread`, `decided_sound`. Assume nothing.
use Rattle.std.specs.Prelude.{Err, Ok, Result}
use Rattle.std.proofs.lemmas.Result.{IfOk-at_ok}
use mathlib.Core.Path.{◌≡◌, refl, sym, ap, ◌∙◌, subst, subst₂}
use mathlib.Core.Logic.{◌⊎◌, inl, inr}
use mathlib.Core.Bool.{false, and-false}
use mathlib.Core.List.{List}
use Prim.Native.Nat.{ℕ, ◌*◌, ◌≤◌, ◌<◌}
use native.Mathlib.Omega.{arith}
use borrow.Author.Tests.{lt-leb}
use lib.ListN.{length, get_or}
use lib.IntN.{ℤ, pos}
use Rattle.answer.specs.declared.Answer.{Answer}
use Rattle.answer.specs.Refusals.{number_of}
use Rattle.answer.specs.declared.Answer.TheVariants.{Refused}
use Rattle.answer.specs.declared.Refusal.{Refusal}
use Rattle.answer.specs.declared.Reason.TheVariants as reason
use Rattle.fraction.specs.Made.{Made, made, stopped}
use Rattle.rules_problem.specs.Bits.{field}
use Rattle.rules_problem.specs.Problem.{Problem, decoded}
use Rattle.rules_problem.proofs.Holding.{holding, terms_count, pairs_count, goal_there}
use Rattle.rules_run.specs.Row.{TERMS, COLUMNS, PLACES, cell}
use Rattle.rules_run.specs.Merge.{State}
use Rattle.rules_run.specs.Run.{highest_number, run, judged}
use Rattle.record_reader.specs.declared.Header.{Header}
use Rattle.record_reader.specs.Held.{Held}
use Rattle.record_reader.specs.Reads.{header_of, read_as, read_of}
use Rattle.record_reader.proofs.Holding.{read_held}
use Rattle.run_table.specs.Loop.{Kept}
use Rattle.run_table.specs.Work.{Work, table_of, Rows}
use Rattle.run_progress.specs.Ran.{ran}
use Rattle.rules_outcome.specs.Outcome.{Lent, Long, is_long, Outcome, unread, finished, zeros, rows, after_run, after_reading, decision, answered, overwritten, laid_out, after, outcome}
use Rattle.rules_outcome.proofs.Decided.{outcome_short, outcome_long_enough}
use Rattle.rules_outcome.proofs.Laid.{overwritten_length, overwritten_below, overwritten_beyond, overwritten_is}
use Rattle.rules_demands.specs.Demands.{Truthful}
use Rattle.laws_invariant.proofs.Granted.{highest_number_strict}
use Rattle.laws_truth.proofs.Truthful.{outcome_truthful}
use Rattle.run_finish.specs.Lent.{lent_of, comes_back}
use Rattle.run_finish.specs.Contract.{Finishable, Finishes, Clears}
use Rattle.decide.specs.Contract.{Runs, ReadSound, Decides}
use Rattle.decide.specs.Decided.{Decided}

-- What is laid out does not depend on what the places held.
laid_kept : (g : (t c : ℕ) → ℤ) (before now' : List ℤ) → length now' ≡ length before → ((p : ℕ) → PLACES ≤ p → get_or now' p (pos 0) ≡ get_or before p (pos 0)) → laid_out g before ≡ laid_out g now'
unfolding laid_out
laid_kept g before now' same beyond =
    overwritten_is PLACES _ before (overwritten PLACES _ now')
    (overwritten_length PLACES _ now' ∙ same)
    (λ p low long. overwritten_below PLACES _ now' p low (subst (λ l. p < l) (overwritten_length PLACES _ now') long))
    (λ p far. overwritten_beyond PLACES _ now' p far ∙ beyond p far)

module _ {n : ℕ} (few : n ≤ TERMS) {nums dens nums' dens' : List ℤ} (kept : Kept 0 (COLUMNS * n) nums dens nums' dens') where
  kept_nums : (p : ℕ) → PLACES ≤ p → get_or nums' p (pos 0) ≡ get_or nums p (pos 0)
  kept_nums p far = ap (λ f. f.num) (kept.outside p (inr (omega arith)))

  kept_dens : (p : ℕ) → PLACES ≤ p → get_or dens' p (pos 0) ≡ get_or dens p (pos 0)
  kept_dens p far = ap (λ f. f.den) (kept.outside p (inr (omega arith)))

  -- The outcome of a run is the same from the lists lent as from the lists that it has worked on.
  after_kept : (problem : Problem) (ended : Made Answer State) → after (after_run problem ended) (lent_of nums dens) ≡ after (after_run problem ended) (lent_of nums' dens')
  unfolding after after_run zeros rows
  after_kept problem (made state) = λ i. record {
    answer = judged problem.goal state;
    left = record {
      numerators = laid_kept (λ t c. (cell state.table t c).num) nums nums' kept.nums_length kept_nums i;
      denominators = laid_kept (λ t c. pos (cell state.table t c).den) dens dens' kept.dens_length kept_dens i;
    };
  }
  after_kept problem (stopped answer) = λ i. record {
    answer = answer;
    left = record {
      numerators = laid_kept (λ t c. pos 0) nums nums' kept.nums_length kept_nums i;
      denominators = laid_kept (λ t c. pos 0) dens dens' kept.dens_length kept_dens i;
    };
  }

-- What is known of a problem once its header was answered.
pub record Facts (bytes : List ℕ) (header : Header) : Type 0 where
  pub problem : Problem
  pub held : decoded bytes ≡ made problem
  pub terms : header.n ≡ field bytes 0 8
  pub pairs : header.m ≡ field bytes 8 8
  pub few : header.n ≤ TERMS
  pub left_below : header.left < header.n
  pub right_below : header.right < header.n
  pub goal : problem.goal ≡ record { left = header.left; right = header.right }

pub read_facts : {bytes : List ℕ} {header : Header} → read_of bytes ≡ Ok header → Facts bytes header
unfolding header_of
read_facts {bytes} {header} h =
    let (problem, held, same) = read_held bytes header h in
    let count = terms_count bytes problem held in
    let sides = goal_there bytes problem held in
    let n-same : header.n ≡ length problem.terms = ap (λ x. x.n) same in
    let m-same : header.m ≡ length problem.pairs = ap (λ x. x.m) same in
    let left-same : header.left ≡ problem.goal.left = ap (λ x. x.left) same in
    let right-same : header.right ≡ problem.goal.right = ap (λ x. x.right) same in
    let limits = holding bytes problem held in
    record {
      problem = problem;
      held = held;
      terms = n-same ∙ count;
      pairs = m-same ∙ pairs_count bytes problem held;
      few = subst (λ x. x ≤ TERMS) (sym (n-same ∙ count)) limits.few_terms;
      left_below = subst₂ (λ x y. x < y) (sym left-same) (sym (n-same ∙ count)) sides.left_below;
      right_below = subst₂ (λ x y. x < y) (sym right-same) (sym (n-same ∙ count)) sides.right_below;
      goal = sym (λ i. record { left = left-same i; right = right-same i });
    }

pub facts_held : {bytes : List ℕ} {header : Header} → Facts bytes header → Held bytes
facts_held facts = record { problem = facts.problem; same = facts.held }

module _ {bytes : List ℕ} {header : Header} {lent : Lent} {old new : Work} {r : Result ℕ Answer} (ready : ReadSound bytes header lent) (runs : Runs bytes header.n r old new) where
  facts : Facts bytes header
  facts = read_facts ready.sound

  -- A run that went through has a table to finish with.
  pub then_finishable : {solved : ℕ} → r ≡ Ok solved → Finishable header.n header.left header.right new
  then_finishable going = let known = read_facts ready.sound in record { rows = IfOk-at_ok (λ count. Rows header.n new) going runs.rows; left_below = known.left_below; right_below = known.right_below }

  -- The decision of a byte string that holds a problem is that of its run.
  decision_run : after (decision highest_number bytes) (lent_of old.nums old.dens) ≡ after (after_run facts.problem (ran r (table_of header.n new))) (lent_of new.nums new.dens)
  unfolding facts decision after_reading
  decision_run =
      let known = read_facts ready.sound in
      ap (λ d. after (after_reading highest_number d) (lent_of old.nums old.dens)) known.held
      ∙ after_kept known.few runs.kept known.problem (run highest_number known.problem)
      ∙ ap (λ x. after (after_run known.problem x) (lent_of new.nums new.dens)) (runs.answers known.problem known.held)

  -- A run that went through leaves its rows, and one that stopped zeros.
  pub decides_rows : {solved : ℕ} {answer : Answer} {left : Lent} → r ≡ Ok solved → Finishes header.n header.left header.right solved answer new left → Decides bytes answer (lent_of old.nums old.dens) left
  unfolding after_run ran
  decides_rows {solved} going finishes =
      let lists = lent_of new.nums new.dens in
      let table = table_of header.n new in
      record {
        outcome =
            decision_run
            ∙ ap (λ x. after (after_run facts.problem (ran x table)) lists) going
            ∙ ap (λ goal. after (finished (judged goal (record { table = table; solved = solved })) table) lists) facts.goal
            ∙ finishes.outcome;
      }

  pub decides_cleared : {stop answer : Answer} {left : Lent} → r ≡ Err stop → Clears stop answer (lent_of new.nums new.dens) left → Decides bytes answer (lent_of old.nums old.dens) left
  unfolding after_run ran
  decides_cleared ended clears =
      record { outcome = decision_run ∙ ap (λ x. after (after_run facts.problem (ran x (table_of header.n new))) (lent_of new.nums new.dens)) ended ∙ clears.outcome }

-- What the rules lay down is true (demand 2), so whoever leaves just that has decided.
pub decided : {bytes : List ℕ} {lent : Lent} {o : Outcome} → outcome highest_number bytes lent ≡ o → Decided bytes lent o
decided {bytes} {lent} same =
    record {
      rules = same;
      truth = λ problem long held. subst (Truthful highest_number problem) same (outcome_truthful highest_number highest_number_strict bytes lent problem long held);
    }

-- A byte string that is read as refused is left unread.
decision_refused : (bytes : List ℕ) (why : Refusal) → read_of bytes ≡ Err why → decision highest_number bytes ≡ unread why
unfolding decision after_reading read_of read_as
decision_refused bytes why = go (decoded bytes) refl
  where
    go : (d : Made Refusal Problem) → decoded bytes ≡ d → read_as d ≡ Err why → after_reading highest_number (decoded bytes) ≡ unread why
    go (made problem) e h = let z : ◌≡◌ {A = ℕ} 0 1 = cc in absurd (omega arith)
    go (stopped refusal) e h = ap (after_reading highest_number) e ∙ ap unread (same refusal h)
      where
        same : (refusal : Refusal) → read_as (stopped refusal) ≡ Err why → refusal ≡ why
        same refusal h = cc

module _ {bytes : List ℕ} {nums dens : List ℤ} where
  -- A list that is too short is refused with SPACE, and both stay as they are.
  pub decided_short : (length nums < PLACES) ⊎ (length dens < PLACES) → {answer : Answer} → answer ≡ Refused (number_of reason.Space) 0 → Decided bytes (lent_of nums dens) (comes_back answer (lent_of nums dens))
  unfolding after answered is_long
  decided_short short same = rw same (decided (outcome_short highest_number bytes (lent_of nums dens) (by short)))
    where
      by : (length nums < PLACES) ⊎ (length dens < PLACES) → is_long (lent_of nums dens) ≡ false
      by (inl few) = rw (lt-leb PLACES (length nums) few)
      by (inr few) = rw (lt-leb PLACES (length dens) few, and-false)

  -- Lists that are long enough: the problem that was read is decided,
  module _ (first : PLACES ≤ length nums) (second : PLACES ≤ length dens) {read : Result Header Refusal} (told : read ≡ read_of bytes) where
    pub sound_read : {header : Header} → read ≡ Ok header → ReadSound bytes header (lent_of nums dens)
    sound_read is = record { sound = sym told ∙ is; long = record { numerators = first; denominators = second } }

    -- or its refusal is the answer, and the lists stay.
    pub decided_unread : {why : Refusal} → read ≡ Err why → {answer : Answer} → answer ≡ Refused (number_of why.reason) why.place → Decided bytes (lent_of nums dens) (comes_back answer (lent_of nums dens))
    unfolding after answered
    decided_unread {why} is same =
        rw same
        (decided (outcome_long_enough highest_number bytes (lent_of nums dens) (record { numerators = first; denominators = second }) ∙ ap (λ d. after d (lent_of nums dens)) (decision_refused bytes why (sym told ∙ is))))

-- A problem that was read: the decision.
pub decided_sound : {bytes : List ℕ} {lent left : Lent} {r : Answer} → Long lent → Decides bytes r lent left → Decided bytes lent (comes_back r left)
decided_sound {bytes} {lent} long decides = decided (outcome_long_enough highest_number bytes lent long ∙ decides.outcome)
