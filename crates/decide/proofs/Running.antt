-- The run in code, from its beginning through all assumptions, is the run of the rules.
-- Main results: `then_assumable`, `runs_on`, `runs_ended`. Assume nothing.
use Rattle.std.specs.Prelude.{Err, Ok, Result, OnOk}
use Rattle.std.proofs.lemmas.Result.{IfOk-at_ok}
use mathlib.Core.Path.{◌≡◌, ap, ◌∙◌}
use mathlib.Core.List.{List}
use Prim.Native.Nat.{ℕ, ◌+◌, ◌*◌, ◌≤◌}
use native.Mathlib.Omega.{arith}
use Rattle.answer.specs.declared.Answer.{Answer}
use Rattle.fraction.specs.Made.{◌>>=◌}
use Rattle.rules_problem.specs.Problem.{Problem}
use Rattle.rules_run.specs.Row.{TERMS, Table, COLUMNS}
use Rattle.rules_run.specs.Run.{by_number, highest_number, begin, assume, run}
use Rattle.run_table.specs.Loop.{Kept}
use Rattle.run_table.specs.Sets.{Sparse}
use Rattle.run_table.specs.Work.{Work, Rows}
use Rattle.run_table.proofs.Columns.{kept_then}
use Rattle.run_progress.specs.Ran.{ran, Prepared}
use Rattle.run_build.specs.Store.{Store}
use Rattle.run_begin.specs.Contract.{Begins}
use Rattle.run_assume.specs.Contract.{AllAssumable, AssumesAll}
use Rattle.decide.specs.Contract.{Runnable, Runs}

-- The run of the rules goes on from its beginning with the assumptions, or ends in its beginning.
run_goes_on : (problem : Problem) (r₀ r : Result ℕ Answer) (solved : ℕ) (table table' : Table) → begin by_number problem.terms ≡ ran r₀ table → r₀ ≡ Ok solved → assume by_number problem.terms 1 problem.pairs (record { table = table; solved = solved }) ≡ ran r table' → run highest_number problem ≡ ran r table'
unfolding run highest_number ◌>>=◌ ran
run_goes_on problem r₀ r solved table table' begins going assumes =
    ap (λ x. x >>= assume by_number problem.terms 1 problem.pairs) (begins ∙ ap (λ x. ran x table) going) ∙ assumes

run_ends : (problem : Problem) (r₀ : Result ℕ Answer) (answer : Answer) (table : Table) → begin by_number problem.terms ≡ ran r₀ table → r₀ ≡ Err answer → run highest_number problem ≡ ran (Err answer) table
unfolding run highest_number ◌>>=◌ ran
run_ends problem r₀ answer table begins ended =
    ap (λ x. x >>= assume by_number problem.terms 1 problem.pairs) (begins ∙ ap (λ x. ran x table) ended)

module _ {bytes : List ℕ} {n m : ℕ} {old begun : Store} {r₀ : Result ℕ Answer} (ready : Runnable bytes n m old) (begins : Begins bytes n r₀ old begun) where
  prepared : {solved : ℕ} → r₀ ≡ Ok solved → Prepared bytes n begun.heads begun.inputs begun.work
  prepared going = IfOk-at_ok (λ count. Prepared bytes n begun.heads begun.inputs begun.work) going begins.prepared

  -- A run that goes on after its beginning can take its assumptions.
  pub then_assumable : {solved : ℕ} → r₀ ≡ Ok solved → AllAssumable bytes n m solved begun.heads begun.inputs begun.work
  then_assumable going = record { prepared = prepared going; pairs = ready.pairs; few_solved = IfOk-at_ok (λ count. count ≤ TERMS + 1) going begins.counted }

  -- It then is the run that its assumptions make of it;
  pub runs_on : {solved : ℕ} {r : Result ℕ Answer} {new : Work} → r₀ ≡ Ok solved → AssumesAll bytes n solved r begun.work new → Runs bytes n r old.work new
  runs_on {r = r} {new = new} going assumes = record {
    answers = λ problem held. run_goes_on problem _ _ _ _ _ (begins.answers problem held) going (assumes.answers problem held);
    kept = kept;
    rows = all r assumes.sparse;
  }
    where
      kept : Kept 0 (COLUMNS * n) old.work.nums old.work.dens new.nums new.dens
      kept = kept_then begins.kept assumes.stays.kept

      all : (r : Result ℕ Answer) → OnOk r (Sparse n new.nums new.sets) → OnOk r (Rows n new)
      all (Err answer) sparse = tt
      all (Ok count) sparse =
          let before : Rows n begun.work = (prepared going).resting.rows in
          record {
            few = before.few;
            nums_fit = omega (arith, ready.begins.nums_fit, kept.nums_length);
            dens_fit = omega (arith, ready.begins.dens_fit, kept.dens_length);
            sound = assumes.stays.sound;
            size = assumes.stays.size ∙ before.size;
            sparse = sparse;
          }

  -- or it has ended there.
  pub runs_ended : {answer : Answer} → r₀ ≡ Err answer → Runs bytes n (Err answer) old.work begun.work
  runs_ended ended = record { answers = λ problem held. run_ends problem _ _ _ (begins.answers problem held) ended; kept = begins.kept; rows = tt }
