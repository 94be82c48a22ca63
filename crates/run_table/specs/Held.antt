-- The table as the two lent lists hold it.
-- Main definitions: `held_at`, `row_at`, `table_at`, `SoundTo`, `stepped`. Assumes nothing.
use Rattle.std.specs.Prelude.{List, [], ◌∷◌, ℕ, zero, suc, ◌+◌, ◌*◌, ◌<◌, get_or, ℤ, pos, Err, Ok}
use Rattle.fraction.specs.declared.Fraction.{Fraction}
use Rattle.answer.specs.declared.Reason.{Reason}
use Rattle.fraction.specs.Made.{Made, made, stopped}
use Rattle.fraction_reduce.specs.Values.{value, Good}
use Rattle.rules_run.specs.Row.{Row, Table, COLUMNS}
use Rattle.run_table.specs.Step.{Step}

-- the fraction struct at place k of the lists
abbrev pub held_at : (nums dens : List ℤ) → (k : ℕ) → Fraction
held_at nums dens k = record { num = get_or nums k (pos 0); den = get_or dens k (pos 0) }

-- what g gives for each of `count` numbers from `from` upward
unfoldable pub listed_from {ℓ} : {A : Type ℓ} → (count from : ℕ) → (ℕ → A) → List A
listed_from zero from g = []
listed_from (suc count) from g = g from ∷ listed_from count (suc from) g

-- the row whose column 0 stands at place `base`
unfoldable pub row_at : (nums dens : List ℤ) → (base : ℕ) → Row
row_at nums dens base = listed_from COLUMNS 0 (λ c. value (held_at nums dens (base + c)))

-- the rows of the terms below n: row t, column c stands at 65t + c
unfoldable pub table_at : (n : ℕ) → (nums dens : List ℤ) → Table
table_at n nums dens = listed_from n 0 (λ t. row_at nums dens (COLUMNS * t))

-- each place below m holds a fraction in lowest terms within the limits
pub record SoundTo (m : ℕ) (nums dens : List ℤ) : Type 0 where
  pub good : (k : ℕ) → k < m → Good (held_at nums dens k)

-- what a step that writes into the lists makes: what they hold then, or the number of the refusal
unfoldable pub stepped {ℓ} : {A : Type ℓ} → Step → A → Made Reason A
stepped (Ok tt) a = made a
stepped (Err why) a = stopped why
