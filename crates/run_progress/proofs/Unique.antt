-- What the rule makes fixes how far the run has come.
-- Main results: `ran_determined`, `going_determined`, `placed_unique`. Assume nothing.
use Rattle.std.specs.Prelude.{Err, Ok, Result}
use mathlib.Core.Path.{◌≡◌, refl, sym, ap, ◌∙◌}
use mathlib.Core.List.{[]}
use Prim.Native.Nat.{ℕ}
use Rattle.answer.specs.declared.Answer.{Answer}
use Rattle.unique.specs.Twice.{Twice}
use Rattle.fraction.specs.Made.{Made, made, stopped}
use Rattle.rules_run.specs.Row.{Table}
use Rattle.rules_run.specs.Merge.{State}
use Rattle.run_progress.specs.Ran.{ran}
use Rattle.run_progress.proofs.placed.Kinds.{ps, r}
use Rattle.run_progress.proofs.placed.Reads.{Post}

ran_of : Made Answer State → Result ℕ Answer
ran_of (made state) = Ok state.solved
ran_of (stopped answer) = Err answer

ran_back : (r : Result ℕ Answer) (table : Table) → ran_of (ran r table) ≡ r
unfolding ran ran_of
ran_back (Ok solved) table = refl
ran_back (Err answer) table = refl

module _ {m : Made Answer State} (r s : Result ℕ Answer) (table other : Table) (p : m ≡ ran r table) (q : m ≡ ran s other) where
  -- There is one answer,
  pub ran_determined : r ≡ s
  ran_determined = sym (ran_back r table) ∙ ap ran_of (sym p ∙ q) ∙ ran_back s other

  -- and one table of a run that goes on.
  pub going_determined : {count : ℕ} → r ≡ Ok count → table ≡ other
  unfolding ran
  going_determined {count} going =
      let first : m ≡ made (record { table = table; solved = count }) = p ∙ ap (λ x. ran x table) going in
      let second : m ≡ made (record { table = other; solved = count }) = q ∙ ap (λ x. ran x other) (sym ran_determined ∙ going) in
      let states : ◌≡◌ {A = State} (record { table = table; solved = count }) (record { table = other; solved = count }) = cc in
      ap (λ state. state.table) states

-- No second answer satisfies the contract of `placed`: said of the contract itself, as the toolchain reads it.
pub placed_unique : Twice ps r Post λ κs a x y end end'. x ≡ y
placed_unique κs a x y end end' first second = ran_determined x y [] [] (first.answers []) (second.answers [])
