-- The lists that the run works on, taken together: both lent lists, and the sets; and what holds of them whenever a step is over.
-- Main definitions: `Work`, `work`, `lent`, `entered`, `with_sets`, `table_of`, `Rows`, `Serving`, `Resting`. Assume nothing.
use Rattle.std.specs.Prelude.{◌≡◌, List, [], ℕ, ◌*◌, ◌≤◌, length, ℤ}
use Rattle.std.specs.Borrow.{Bor}
use denote.Triple.Both.{Both}
use Rattle.rules_problem.specs.declared.Term.{Term}
use Rattle.rules_run.specs.Row.{TERMS, COLUMNS, PLACES, Table}
use Rattle.run_table.specs.Notes.{Lookups, Notes}
use Rattle.run_table.specs.Held.{table_at, SoundTo}
use Rattle.run_table.specs.Sets.{SETS, Sparse, Linked, Watched}

pub record Work : Type 0 where
  pub nums : List ℤ
  pub dens : List ℤ
  pub sets : List ℕ

-- Of lists that a function writes into, `work nums.old dens.old sets.old` is what they hold when it begins, and with `.new` when it is over.
abbrev pub work : (nums dens : List ℤ) (sets : List ℕ) → Work
work nums dens sets = record { nums = nums; dens = dens; sets = sets }

-- what lists hold that a function only reads, as its requires and as its ensures names them
abbrev pub lent : (nums dens : Bor (List ℤ)) → (sets : Bor (List ℕ)) → Work
lent nums dens sets = work nums.now dens.now sets.now

abbrev pub entered : (nums dens : Both (Bor (List ℤ)) (Bor (List ℤ))) → (sets : Both (Bor (List ℕ)) (Bor (List ℕ))) → Work
entered nums dens sets = lent nums.entry dens.entry sets.entry

-- the lists with other sets
abbrev pub with_sets : Work → (sets : List ℕ) → Work
with_sets w sets = record { nums = w.nums; dens = w.dens; sets = sets }

-- the table of n rows that stands there
abbrev pub table_of : (n : ℕ) → Work → Table
table_of n w = table_at n w.nums w.dens

-- Rows that a step can work on: there is room for all, the first n are sound, and each row's columns are within its set.
pub record Rows (n : ℕ) (w : Work) : Type 0 where
  pub few : n ≤ TERMS
  pub nums_fit : PLACES ≤ length w.nums
  pub dens_fit : PLACES ≤ length w.dens
  pub sound : SoundTo (COLUMNS * n) w.nums w.dens
  pub size : length w.sets ≡ SETS
  pub sparse : Sparse n w.nums w.sets

-- THE INVARIANT OF THE RUN, whose lists and sets serve n terms with these notes. Family by family, the sets hold:
-- * set t, columns: every column of a term in which row t does not hold 0 (`rows.sparse`);
-- * USERS + t: every lookup that t is an input of (`linked.users`), so that a step that changes row t knows whom to make pending;
-- * EARLIER + j: every lookup before j of its function (`linked.earlier`), those that j can be due with;
-- * PENDING: one side at least of every pair due of open lookups that does not wait (`watched.found`);
-- * OPEN: every lookup that has no twin before it (`watched.others`).
-- The last two are said of whatever terms the notes are of. What waits is closing's own: between closings it is nothing, `Resting`.
pub record Serving (n : ℕ) (heads inputs waiting : List ℕ) (w : Work) : Type 0 where
  pub rows : Rows n w
  pub notes : Notes n heads inputs
  pub linked : Linked n heads inputs w.sets
  pub watched : (terms : List Term) → Lookups terms n heads inputs → Watched waiting terms n (table_of n w) w.sets

-- Whenever a step of the run is over that goes on: no pair waits.
abbrev pub Resting : (n : ℕ) (heads inputs : List ℕ) (w : Work) → Type 0
Resting n heads inputs w = Serving n heads inputs [] w
