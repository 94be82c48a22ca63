-- What the functions of the search for the pair due ask for, and what they ensure.
-- Main definitions: `Alike`, `InputsComparable`, `PairComparable`, `TellsDue`, `OpenWaiting`, `LeftsSearchable`, `FindsLeft`;
-- `Searchable`, `FindsDue`. Assume nothing.
use Rattle.std.specs.Prelude.{◌≡◌, Bool, ◌&&◌, List, ℕ, ◌*◌, ◌<◌, ◌≤◌, length, get_or}
use Rattle.set_members.specs.Sets.{holds}
use Rattle.rules_problem.specs.declared.Kind.{Kind}
use Rattle.rules_problem.specs.declared.Term.{Term}
use Rattle.rules_problem.specs.Lookup.{alike}
use Rattle.rules_run.specs.Row.{TERMS}
use Rattle.rules_run.specs.Close.{is_due, due}
use Rattle.run_table.specs.Notes.{head_of, symbol_of, Lookups, InputsBelow, Notes}
use Rattle.run_table.specs.Sets.{RIGHTS, pending_of, open_of}
use Rattle.run_table.specs.Work.{Work, table_of, Rows, Serving}
use Rattle.run_due_pair.specs.Found.{left_among, Due, pair_of, PairBelow}

-- The heads of terms i and j tell whether they are lookups of one function, whatever kinds the heads are of.
pub record Alike (i j : ℕ) (heads : List ℕ) (r : Bool) : Type 0 where
  pub tells : (k l : Kind) → get_or heads i 0 ≡ head_of k → get_or heads j 0 ≡ head_of l → symbol_of k < 256 → symbol_of l < 256
      → r ≡ alike k l

-- two of n terms whose inputs can be compared
pub record InputsComparable (n i j : ℕ) (inputs : List ℕ) (w : Work) : Type 0 where
  pub rows : Rows n w
  pub inputs_fit : 3 * TERMS ≤ length inputs
  pub inputs_below : InputsBelow n inputs
  pub left : i < n
  pub right : j < n

-- two of n terms, of which it can be told whether they are due
pub record PairComparable (n i j : ℕ) (heads inputs : List ℕ) (w : Work) : Type 0 where
  pub rows : Rows n w
  pub notes : Notes n heads inputs
  pub order : i < j
  pub right : j < n

pub record TellsDue (n i j : ℕ) (heads inputs : List ℕ) (w : Work) (r : Bool) : Type 0 where
  pub tells : (terms : List Term) → Lookups terms n heads inputs → r ≡ is_due terms (table_of n w) i j

-- The set r holds the open lookups that are in set k of `waiting`.
pub record OpenWaiting (k : ℕ) (waiting sets : List ℕ) (r : ℕ) : Type 0 where
  pub inside : (i : ℕ) → holds r i ≡ (holds (get_or waiting k 0) i && holds (open_of sets) i)

-- one of n terms, for which a left side can be looked for
pub record LeftsSearchable (n j : ℕ) (heads inputs : List ℕ) (w : Work) : Type 0 where
  pub rows : Rows n w
  pub notes : Notes n heads inputs
  pub right : j < n

pub record FindsLeft (n lefts j : ℕ) (heads inputs : List ℕ) (w : Work) (r : Due) : Type 0 where
  pub pair : (terms : List Term) → Lookups terms n heads inputs → left_among lefts terms (table_of n w) j ≡ pair_of r
  pub below : PairBelow n r

-- The search can begin: the sets serve, and whatever was pending waits now, pair by pair.
pub record Searchable (n : ℕ) (heads inputs waiting : List ℕ) (w : Work) : Type 0 where
  pub serving : Serving n heads inputs waiting w
  pub waiting_fit : RIGHTS < length waiting
  pub asleep : pending_of w.sets ≡ 0

-- The pair found is the rule's, of whatever terms the notes are; and the sets serve with what waits afterwards.
pub record FindsDue (n : ℕ) (heads inputs waiting : List ℕ) (w : Work) (r : Due) : Type 0 where
  pub pair : (terms : List Term) → Lookups terms n heads inputs → due terms (table_of n w) ≡ pair_of r
  pub below : PairBelow n r
  pub serving : Serving n heads inputs waiting w

-- what waits afterwards
abbrev pub waiting_by : {n : ℕ} {heads inputs waiting : List ℕ} {w : Work} {r : Due} → FindsDue n heads inputs waiting w r → List ℕ
waiting_by {waiting = waiting} finds = waiting
