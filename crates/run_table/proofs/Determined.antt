-- What the values fix: lists that hold the same values, in lowest terms and within the limits, hold the same numbers.
-- Main results: `step_determined`, `done_determined`, `row_determined`, `table_determined`, `kept_both`, `lists_determined`, `row_made_unique`. Assume nothing.
use Rattle.std.specs.Prelude.{Err, Ok}
use mathlib.Core.Path.{◌≡◌, refl, sym, ap, ◌∙◌}
use mathlib.Core.Logic.{inl, inr}
use mathlib.Core.List.{List}
use Prim.Native.Nat.{ℕ, ◌+◌, ◌-◌, ◌*◌, ◌/◌, ◌%◌, ◌≤◌, ◌<◌}
use native.Mathlib.Decide.{dec_lt}
use native.Mathlib.Omega.{arith}
use lib.Seq.{ext_get_or}
use lib.IntN.{ℤ, pos}
use Rattle.fraction.specs.Exact.{ℚ}
use Rattle.answer.specs.declared.Reason.{Reason}
use Rattle.fraction.specs.Made.{Made, made, stopped}
use Rattle.fraction_reduce.proofs.Lowest.{value_one_to_one}
use Rattle.rules_run.specs.Row.{column, row_of}
use Rattle.run_table.specs.Step.{Step}
use Rattle.run_table.specs.Held.{held_at, row_at, table_at, SoundTo, stepped}
use Rattle.run_table.specs.Loop.{Kept, RowMade}
use Rattle.run_table.proofs.Columns.{column_held, row_held_lem}
use Rattle.run_table.proofs.Turns.{stepped_done}

step_of {ℓ} : {A : Type ℓ} → Made Reason A → Step
step_of (made a) = (Ok tt)
step_of (stopped why) = Err why

step_back {ℓ} : {A : Type ℓ} (step : Step) (a : A) → step_of (stepped step a) ≡ step
unfolding stepped step_of
step_back (Ok tt) a = refl
step_back (Err why) a = refl

-- What the rule makes fixes how a step ends, and what it leaves where it is done.
pub step_determined {ℓ} : {A : Type ℓ} {m : Made Reason A} (r s : Step) (a b : A) → m ≡ stepped r a → m ≡ stepped s b → r ≡ s
step_determined r s a b p q = sym (step_back r a) ∙ ap step_of (sym p ∙ q) ∙ step_back s b

pub done_determined {ℓ} : {A : Type ℓ} {m : Made Reason A} (r s : Step) (a b : A) → m ≡ stepped r a → m ≡ stepped s b → r ≡ Ok tt → a ≡ b
done_determined r s a b p q done =
    let first : ◌≡◌ {A = Made Reason _} _ (made a) = stepped_done p done in
    let second : ◌≡◌ {A = Made Reason _} _ (made b) = stepped_done q (sym (step_determined r s a b p q) ∙ done) in
    cc

module _ {nums dens nums' dens' : List ℤ} where
  -- Sound rows with the same values hold the same.
  pub row_determined : {m : ℕ} (base : ℕ) → base + 65 ≤ m → SoundTo m nums dens → SoundTo m nums' dens' → row_at nums dens base ≡ row_at nums' dens' base → (c : ℕ) → c < 65 → held_at nums dens (base + c) ≡ held_at nums' dens' (base + c)
  row_determined base room first second same c below =
      value_one_to_one (first.good (base + c) (omega arith)) (second.good (base + c) (omega arith))
      (sym (column_held nums dens base c below) ∙ ap (λ r. column r c) same ∙ column_held nums' dens' base c below)

  -- Sound tables with the same values hold the same.
  pub table_determined : (n : ℕ) → SoundTo (65 * n) nums dens → SoundTo (65 * n) nums' dens' → table_at n nums dens ≡ table_at n nums' dens' → (k : ℕ) → k < 65 * n → held_at nums dens k ≡ held_at nums' dens' k
  table_determined n first second same k below =
      let t = k / 65 in
      let inside : t < n = omega arith in
      let place : k ≡ 65 * t + k % 65 = omega arith in
      rw place (row_determined (65 * t) (omega arith) first second
      (sym (row_held_lem n nums dens t inside) ∙ ap (λ table. row_of table t) same ∙ row_held_lem n nums' dens' t inside) (k % 65) (omega arith))

  -- Lists that differ from the same lists in the same places alone differ from each other in no other,
  pub kept_both : {base end : ℕ} {nums₀ dens₀ : List ℤ} → Kept base end nums₀ dens₀ nums dens → Kept base end nums₀ dens₀ nums' dens' → Kept base end nums dens nums' dens'
  kept_both first second =
      record {
        nums_length = second.nums_length ∙ sym first.nums_length;
        dens_length = second.dens_length ∙ sym first.dens_length;
        outside = λ k out. second.outside k out ∙ sym (first.outside k out);
      }

  -- and where they hold the same there, they are the same.
  pub lists_determined : {base end : ℕ} {nums₀ dens₀ : List ℤ} → Kept base end nums₀ dens₀ nums dens → Kept base end nums₀ dens₀ nums' dens' → ((k : ℕ) → base ≤ k → k < end → held_at nums dens k ≡ held_at nums' dens' k) → (nums ≡ nums') × (dens ≡ dens')
  lists_determined {base} {end} first second inside = (
    ext_get_or (pos 0) nums nums' (first.nums_length ∙ sym second.nums_length) (λ k below. ap (λ f. f.num) (everywhere k)),
    ext_get_or (pos 0) dens dens' (first.dens_length ∙ sym second.dens_length) (λ k below. ap (λ f. f.den) (everywhere k)),
  )
    where
      everywhere : (k : ℕ) → held_at nums dens k ≡ held_at nums' dens' k
      everywhere k = by (dec_lt k base) (dec_lt k end)
        where
          by : Dec (k < base) → Dec (k < end) → held_at nums dens k ≡ held_at nums' dens' k
          by (yes before) test = first.outside k (inl before) ∙ sym (second.outside k (inl before))
          by (no from) (yes before) = inside k (omega arith) before
          by (no from) (no after) = first.outside k (inr (omega arith)) ∙ sym (second.outside k (inr (omega arith)))

-- A row that the rule makes leaves one way for the step to end, and one content for the lists where it is done. (Where it is
-- refused, the row's own places may hold anything that is sound.)
pub row_made_unique : {g : ℕ → Made Reason ℚ} {base m : ℕ} {r s : Step} {nums₀ dens₀ nums dens nums' dens' : List ℤ} → base + 65 ≤ m → RowMade g base m r nums₀ dens₀ nums dens → RowMade g base m s nums₀ dens₀ nums' dens' → (r ≡ s) × (r ≡ Ok tt → (nums ≡ nums') × (dens ≡ dens'))
row_made_unique {base = base} {r = r} {s = s} {nums = nums} {dens = dens} {nums' = nums'} {dens' = dens'} room first second = (
  step_determined r s (row_at nums dens base) (row_at nums' dens' base) first.ends second.ends,
  λ done. lists_determined first.kept second.kept λ k above below.
      let same = done_determined r s (row_at nums dens base) (row_at nums' dens' base) first.ends second.ends done in
      let place : k ≡ base + (k - base) = omega arith in
      rw place (row_determined base room first.sound second.sound same (k - base) (omega arith)),
)
