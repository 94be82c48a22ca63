-- One assumption: its sides merged, then closed.
-- Main results: `merged_closable`, `closes_merged`, `merge_halts`, `assumes_placed`. Assume nothing.
use Rattle.std.specs.Prelude.{Err, Ok, Result}
use Rattle.std.proofs.lemmas.Result.{IfOk-at_ok, IfOk-weaker}
use Rattle.answer.specs.declared.Answer.{Answer}
use Rattle.run_merge.specs.declared.Halt.{Halt}
use Rattle.run_merge.specs.declared.Halt.TheVariants.{Contradiction, Refused}
use mathlib.Core.Path.{◌≡◌, refl, ap, ◌∙◌}
use mathlib.Core.List.{List}
use Prim.Native.Nat.{ℕ, ◌+◌, ◌≤◌}
use native.Mathlib.Omega.{arith}
use Rattle.fraction.specs.Made.{◌>>=◌, because}
use Rattle.rules_problem.specs.declared.Term.{Term}
use Rattle.rules_run.specs.Close as rule
use Rattle.rules_run.specs.Merge.{merge}
use Rattle.rules_run.specs.Run.{by_number, ends}
use Rattle.run_table.specs.Work.{Work, table_of, Resting}
use Rattle.run_table.proofs.Columns.{kept_then}
use Rattle.run_merge.specs.Outcome.{merged}
use Rattle.run_merge.proofs.Steps.{merges_by_number}
use Rattle.run_merge.specs.Contract.{Hints, state_of, Merges}
use Rattle.run_close.specs.Outcome.{closed}
use Rattle.run_close.specs.Contract.{Closable, Closes}
use Rattle.run_close.proofs.Sets.{ready_of, serves, ready_merged, merged_awake}
use Rattle.run_progress.specs.Ran.{Places}
use Rattle.run_progress.proofs.Going.{open_going}
use Rattle.run_assume.specs.Assumed.{assumed}
use Rattle.run_assume.specs.Contract.{EACH, Assumable, MergesCloses, Assumes}

module _ {n left right solved : ℕ} {heads inputs : List ℕ} {old mid : Work} {answer : Result ℕ Halt} (ready : Assumable n left right solved heads inputs old) (merges : Merges n left right 0 answer old mid) where
  after : (to : Result ℕ Halt) → answer ≡ to → (terms : List Term) → merge by_number left right (state_of n old solved) >>= rule.close by_number terms ≡ merged to solved (table_of n mid) >>= rule.close by_number terms
  after to is terms = ap (λ m. m >>= rule.close by_number terms) (merges_by_number merges solved ∙ ap (λ m. merged m solved (table_of n mid)) is)

  -- Where the merge goes on, closing can begin.
  module _ {more : ℕ} (is : answer ≡ Ok more) where
    few : more ≤ 1
    few = IfOk-at_ok (λ m. m ≤ 1) is merges.left.one

    rests : Resting n heads inputs mid
    unfolding merged
    rests =
        let resting = ready.resting in
        let hints : Hints n old mid = IfOk-at_ok (λ m. Hints n old mid) is merges.left.hints in
        serves (ready_merged (ready_of resting) merges.left hints) λ terms lookups.
        merged_awake left right solved (solved + more) lookups resting.notes.below resting.linked hints.stirred
        (merges_by_number merges solved ∙ ap (λ a. merged a solved (table_of n mid)) is) (resting.watched terms lookups)

    pub merged_closable : Closable n (solved + more) heads inputs mid
    merged_closable = record { resting = rests; few_solved = omega (arith, ready.few_solved, few) }

    pub closes_merged : {c : Result ℕ Halt} {new : Work} → Closes n (solved + more) heads inputs c mid new → MergesCloses n left right solved heads inputs c old new
    unfolding merged ◌>>=◌
    closes_merged {c} closes = record {
      answers = λ terms lookups. after (Ok more) is terms ∙ closes.answers terms lookups;
      stays = record { kept = kept_then merges.left.kept closes.kept; sound = closes.sound; size = closes.size ∙ merges.left.size };
      counted = let terms_few = ready.resting.rows.few in IfOk-weaker c (λ count. count ≤ solved + more + n + 1) (λ count. count ≤ solved + EACH) (λ count below. omega (arith, few)) closes.counted;
      resting = closes.resting;
    }

  -- Where it stops, closing does not begin.
  pub merge_halts : (halt : Halt) → answer ≡ Err halt → MergesCloses n left right solved heads inputs (Err halt) old mid
  unfolding merged ◌>>=◌ closed
  merge_halts halt is = record { answers = λ terms lookups. after (Err halt) is terms ∙ stopped_so halt terms; stays = record { kept = merges.left.kept; sound = merges.left.sound; size = merges.left.size }; counted = tt; resting = tt }
    where
      stopped_so : (halt : Halt) (terms : List Term) → merged (Err halt) solved (table_of n mid) >>= rule.close by_number terms ≡ closed (Err halt) (table_of n mid)
      stopped_so Contradiction terms = refl
      stopped_so (Refused number) terms = refl

-- A stop gets its place.
pub assumes_placed : {n left right solved place : ℕ} {heads inputs : List ℕ} {old new : Work} {c : Result ℕ Halt} {r : Result ℕ Answer} → MergesCloses n left right solved heads inputs c old new → Places place c (solved + EACH) r → Assumes n place left right solved heads inputs r old new
unfolding assumed
assumes_placed {n} {place = place} {heads = heads} {inputs = inputs} {new = new} closes places = record {
  answers = λ terms lookups. ap (because (ends place)) (closes.answers terms lookups) ∙ places.answers (table_of n new);
  stays = closes.stays;
  counted = places.counted;
  resting = open_going (Resting n heads inputs new) places closes.resting;
}
