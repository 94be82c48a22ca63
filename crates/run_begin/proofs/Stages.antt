-- Steps 1 and 2 of the run, by how the build ends.
-- Main results: `build_done`, `build_refused`, `begins_refused`, `begin_closable`, `begin_counted`, `begins_closed`. Assume nothing.
use Rattle.std.specs.Prelude.{Err, Ok, Result, IfOk, IsErrAnd, MatchResult, is_ok}
use Rattle.std.proofs.lemmas.Result.{IfOk-at_ok, IfOk-weaker, err_from_is_err_and}
use Rattle.run_merge.specs.declared.Halt.{Halt}
use mathlib.Core.Path.{◌≡◌, refl, sym, ap, ◌∙◌}
use mathlib.Core.Bool.{false≢true}
use mathlib.Core.List.{List, []}
use Prim.Native.Nat.{ℕ, ◌+◌, ◌≤◌}
use native.Mathlib.Omega.{arith}
use lib.IntN.{ℤ}
use Rattle.answer.specs.declared.Answer.{Answer}
use Rattle.answer.specs.declared.Answer.TheVariants.{Refused}
use Rattle.answer.specs.Refusals.{number_of}
use Rattle.answer.specs.declared.Reason.{Reason}
use Rattle.answer.specs.declared.Refusal.{Refusal}
use Rattle.fraction.specs.Made.{Made, made, stopped, ◌>>=◌, because}
use Rattle.rules_problem.specs.declared.Term.{Term}
use Rattle.rules_problem.specs.Problem.{Problem, decoded}
use Rattle.rules_run.specs.Row.{TERMS, Table}
use Rattle.rules_run.specs.Build.{built}
use Rattle.rules_run.specs.Merge.{State, refused_for}
use Rattle.rules_run.specs.Close.{close}
use Rattle.rules_run.specs.Run.{by_number, ends, begin}
use Rattle.run_table.specs.Step.{Step}
use Rattle.run_table.specs.Notes.{Lookups}
use Rattle.run_table.specs.Held.{table_at}
use Rattle.run_table.specs.Work.{Work, table_of, Resting}
use Rattle.run_table.proofs.Columns.{kept_then}
use Rattle.run_table.proofs.Turns.{stepped_done, stepped_refused}
use Rattle.run_build.specs.Contract.{Beginnable, Builds}
use Rattle.run_build.specs.Store.{Store}
use Rattle.run_build.proofs.Rows.{few_terms}
use Rattle.run_due_pair.proofs.Woken.{all_awake}
use Rattle.run_close.specs.Contract.{Closable, Closes}
use Rattle.run_progress.specs.Ran.{ran, Places}
use Rattle.run_progress.proofs.Going.{when_going, open_going}
use Rattle.run_begin.specs.Contract.{Begins}
use Rattle.run_begin.proofs.Noted.{decoded_inputs, decoded_lookups}

-- The build is done where no refusal with a place is made of it, and is refused where one is.
pub build_done : (step : Step) {built : Result (Unit {0}) Refusal} {done : Unit {0}} → is_ok built ≡ is_ok step → built ≡ Ok done → step ≡ Ok tt
build_done (Ok x) same is = refl
build_done (Err why) same is = absurd (false≢true (sym same ∙ ap is_ok is))

pub build_refused : (step : Step) {built : Result (Unit {0}) Refusal} {refusal : Refusal} → MatchResult step (λ x. built ≡ Ok x) (λ why. IsErrAnd built (λ r. r ≡ record { reason = why; place = 0 })) → built ≡ Err refusal
    → (why : Reason) × (step ≡ Err why) × (refusal ≡ record { reason = why; place = 0 })
build_refused (Ok x) done is = absurd (false≢true (sym (ap is_ok is) ∙ ap is_ok done))
build_refused (Err why) {built} {refusal} stops is =
    let (stop, was, same) = err_from_is_err_and built stops in
    let one : ◌≡◌ {A = Result (Unit {0}) Refusal} (Err stop) (Err refusal) = sym was ∙ is in
    (why, refl, cc)

module _ (rank : ℕ → ℕ) (terms : List Term) where
  -- what is left once the build has ended
  after : Made Reason Table → Made Answer State
  after rows = because (ends 0) (because refused_for rows >>= λ table. close rank terms (record { table = table; solved = 0 }))

  -- Where a row is refused, the run has ended at place 0.
  begin_refused : {why : Reason} → built terms [] ≡ stopped why → begin rank terms ≡ stopped (Refused (number_of why) 0)
  unfolding begin because ◌>>=◌ ends after
  begin_refused refused = ap after refused

  -- Where all rows are built, they are closed, with no unknown solved.
  begin_closed : {table : Table} → built terms [] ≡ made table → begin rank terms ≡ because (ends 0) (close rank terms (record { table = table; solved = 0 }))
  unfolding begin because ◌>>=◌ after
  begin_closed done = ap after done

module _ {bytes : List ℕ} {n : ℕ} {old : Store} {nums dens : List ℤ} {sets heads inputs : List ℕ} {step : Step} (asked : Beginnable bytes n old)
    (builds : Builds bytes n step old (record { work = record { nums = nums; dens = dens; sets = sets }; heads = heads; inputs = inputs })) where
  -- A row is refused.
  pub begins_refused : {why : Reason} → step ≡ Err why → Begins bytes n (Err (Refused (number_of why) 0)) old (record { work = record { nums = nums; dens = dens; sets = sets }; heads = heads; inputs = inputs })
  unfolding ran
  begins_refused is =
      record {
        answers = λ problem held. begin_refused by_number problem.terms (stepped_refused _ (builds.answers problem held) is);
        kept = builds.kept;
        notes = builds.notes;
        size = builds.size;
        prepared = tt;
        counted = tt;
      }

  -- All rows are built: the lookups are noted, pending and open.
  module _ (done : step ≡ Ok tt) where
    noted : (problem : Problem) → decoded bytes ≡ made problem → Lookups problem.terms n heads inputs
    noted problem held = decoded_lookups bytes problem held asked.terms ((builds.standing done).calls problem held)

    pub begin_closable : Closable n 0 heads inputs (record { nums = nums; dens = dens; sets = sets })
    begin_closable =
        let held = asked.held in
        let standing = builds.standing done in
        let rows = standing.rows in
        record {
          resting = record {
            rows = rows;
            notes = record {
              heads_fit = omega (arith, builds.notes.heads_length, asked.heads_size);
              inputs_fit = omega (arith, builds.notes.inputs_length, asked.inputs_size);
              below = decoded_inputs bytes held.problem held.same asked.terms (standing.calls held.problem held.same);
              terms = held.problem.terms;
              lookups = noted held.problem held.same;
            };
            linked = standing.linked;
            watched = λ terms lookups. all_awake (table_at n nums dens) lookups rows.few standing.pending standing.opened.inside;
          };
          few_solved = omega arith;
        }

    -- They are closed.
    module _ {c : Result ℕ Halt} {nums' dens' : List ℤ} {sets' : List ℕ} (closes : Closes n 0 heads inputs c (record { nums = nums; dens = dens; sets = sets }) (record { nums = nums'; dens = dens'; sets = sets' })) where
      pub begin_counted : IfOk c (λ count. count ≤ TERMS + 1)
      begin_counted = let few : n ≤ TERMS = few_terms asked in IfOk-weaker c (λ count. count ≤ 0 + n + 1) (λ count. count ≤ TERMS + 1) (λ count below. omega arith) closes.counted

      pub begins_closed : {r : Result ℕ Answer} → Places 0 c (TERMS + 1) r → Begins bytes n r old (record { work = record { nums = nums'; dens = dens'; sets = sets' }; heads = heads; inputs = inputs })
      begins_closed {r} places =
          let new : Work = record { nums = nums'; dens = dens'; sets = sets' } in
          record {
            answers = λ problem held.
                begin_closed by_number problem.terms (stepped_done (builds.answers problem held) done)
                ∙ ap (because (ends 0)) (closes.answers problem.terms (noted problem held))
                ∙ places.answers (table_of n new);
            kept = kept_then builds.kept closes.kept;
            notes = builds.notes;
            size = closes.size ∙ builds.size;
            prepared = when_going r λ count going.
                record { held = asked.held; terms = asked.terms; lookups = noted; resting = IfOk-at_ok (λ x. Resting n heads inputs new) going (open_going (Resting n heads inputs new) places closes.resting) };
            counted = places.counted;
          }
