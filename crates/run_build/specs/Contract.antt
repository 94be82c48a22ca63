-- What the functions of the build ask for, and what they ensure: the rows of the terms, their lookups as numbers, and the links of these.
-- Main definitions: `Beginnable`, `Standing`, `Builds`, and a record for what each of the other functions asks for or ensures.
-- Assume nothing.
use Rattle.std.specs.Prelude.{◌≡◌, true, List, [], ℕ, ◌+◌, ◌*◌, ◌≤◌, ◌<◌, length, get_or, set, Ok}
use Rattle.set_members.specs.Sets.{holds}
use Rattle.fraction.specs.Made.{made}
use Rattle.rules_problem.specs.declared.Kind.{Kind}
use Rattle.rules_problem.specs.Bits.{field}
use Rattle.rules_problem.specs.Problem.{Problem, decoded}
use Rattle.record_reader.specs.Held.{Held}
use Rattle.rules_run.specs.Row.{TERMS, COLUMNS, PLACES}
use Rattle.rules_run.specs.Build.{built}
use Rattle.run_table.specs.Step.{Step}
use Rattle.run_table.specs.Notes.{head_of, input_of, LookupsNoted, NotesKept}
use Rattle.run_table.specs.Held.{stepped}
use Rattle.run_table.specs.Loop.{Kept}
use Rattle.run_table.specs.Sets.{SETS, users_of, pending_of, Linked}
use Rattle.run_table.specs.Work.{table_of, Rows}
use Rattle.run_build_row.specs.Buildable.{InputsEarlier}
use Rattle.run_build.specs.declared.call.Numbers.{Numbers}
use Rattle.run_build.specs.Links.{InputsSmall, UsedBelow, Traced, Opened, UsersGrown}
use Rattle.run_build.specs.Store.{Store}

-- The numbers are the lookup's head and inputs, 0 where there is none.
pub record Numbered (kind : Kind) (r : Numbers) : Type 0 where
  pub head : r.head ≡ head_of kind
  pub first : r.first ≡ input_of kind 0
  pub second : r.second ≡ input_of kind 1
  pub third : r.third ≡ input_of kind 2

-- There is room for the lookup of term t, and its inputs stand before it.
pub record Notable (kind : Kind) (t : ℕ) (heads inputs : List ℕ) : Type 0 where
  pub few : t < TERMS
  pub heads_size : length heads ≡ TERMS
  pub inputs_size : length inputs ≡ 3 * TERMS
  pub below : InputsEarlier t kind

-- The head of term t stands at place t, its inputs at 3t, 3t + 1 and 3t + 2; no other place has changed.
pub record CallNoted (kind : Kind) (t : ℕ) (heads₀ inputs₀ heads inputs : List ℕ) : Type 0 where
  pub heads_are : heads ≡ set heads₀ t (head_of kind)
  pub inputs_are : inputs ≡ set (set (set inputs₀ (3 * t) (input_of kind 0)) (3 * t + 1) (input_of kind 1)) (3 * t + 2) (input_of kind 2)

-- Term t can be noted as a user of a term.
pub record Usable (input t : ℕ) (sets : List ℕ) : Type 0 where
  pub few : t < TERMS
  pub small : input < TERMS
  pub size : length sets ≡ SETS

-- It is noted; sets of users have grown, and no other set has changed.
pub record UserNoted (input t : ℕ) (sets₀ sets : List ℕ) : Type 0 where
  pub grown : UsersGrown sets₀ sets
  pub used : holds (users_of sets input) t ≡ true

-- Term t can be noted as a user of what stands in its three places.
pub record AllUsable (t : ℕ) (inputs sets : List ℕ) : Type 0 where
  pub few : t < TERMS
  pub inputs_size : length inputs ≡ 3 * TERMS
  pub size : length sets ≡ SETS
  pub small : InputsSmall (t + 1) inputs

pub record UsersNoted (t : ℕ) (inputs sets₀ sets : List ℕ) : Type 0 where
  pub grown : UsersGrown sets₀ sets
  pub used : UsedBelow 3 t inputs sets

-- Term t is a lookup, and of each lookup before it those of its function before that one are noted.
pub record Traceable (t : ℕ) (heads sets : List ℕ) : Type 0 where
  pub few : t < TERMS
  pub heads_size : length heads ≡ TERMS
  pub size : length sets ≡ SETS
  pub traced : Traced t heads sets
  pub lookup : get_or heads t 0 ≡ 0 → ⊥

-- The set has all lookups before t with its head.
pub record EarlierFound (t : ℕ) (heads : List ℕ) (r : ℕ) : Type 0 where
  pub inside : (i : ℕ) → i < t → get_or heads i 0 ≡ get_or heads t 0 → holds r i ≡ true

-- The head and the inputs of term t are noted, and the lookups before it are linked and open.
pub record Linkable (t : ℕ) (heads inputs sets : List ℕ) : Type 0 where
  pub few : t < TERMS
  pub heads_size : length heads ≡ TERMS
  pub inputs_size : length inputs ≡ 3 * TERMS
  pub size : length sets ≡ SETS
  pub small : InputsSmall (t + 1) inputs
  pub linked : Linked t heads inputs sets
  pub opened : Opened t heads sets

-- So are the lookups up to term t; no set of columns has changed.
pub record LinksNoted (t : ℕ) (heads inputs sets₀ sets : List ℕ) : Type 0 where
  pub linked : Linked (t + 1) heads inputs sets
  pub opened : Opened (t + 1) heads sets
  pub size : length sets ≡ length sets₀
  pub columns : (k : ℕ) → k < TERMS → get_or sets k 0 ≡ get_or sets₀ k 0

-- What a run begins with: bytes that hold a problem of n terms, and room for its rows, its lookups and their sets.
pub record Beginnable (bytes : List ℕ) (n : ℕ) (s : Store) : Type 0 where
  pub held : Held bytes
  pub terms : n ≡ field bytes 0 8
  pub nums_fit : PLACES ≤ length s.work.nums
  pub dens_fit : PLACES ≤ length s.work.dens
  pub heads_size : length s.heads ≡ TERMS
  pub inputs_size : length s.inputs ≡ 3 * TERMS
  pub sets_size : length s.work.sets ≡ SETS

-- All rows stand: they can be worked on, the lookups are noted and linked, and each is open and one that closing has to look at.
pub record Standing (bytes : List ℕ) (n : ℕ) (s : Store) : Type 0 where
  pub rows : Rows n s.work
  pub calls : (problem : Problem) → decoded bytes ≡ made problem → LookupsNoted problem.terms n s.heads s.inputs
  pub linked : Linked n s.heads s.inputs s.work.sets
  pub pending : (j : ℕ) → j < TERMS → holds (pending_of s.work.sets) j ≡ true
  pub opened : Opened n s.heads s.work.sets

-- The rows of the terms are those that the rule builds, or the rule refuses one of them; no place behind them, or behind what is noted of
-- the terms, has changed.
pub record Builds (bytes : List ℕ) (n : ℕ) (step : Step) (old new : Store) : Type 0 where
  pub answers : (problem : Problem) → decoded bytes ≡ made problem → built problem.terms [] ≡ stepped step (table_of n new.work)
  pub kept : Kept 0 (COLUMNS * n) old.work.nums old.work.dens new.work.nums new.work.dens
  pub notes : NotesKept n old.heads old.inputs new.heads new.inputs
  pub size : length new.work.sets ≡ length old.work.sets
  pub standing : step ≡ Ok tt → Standing bytes n new
