-- What assuming asks for, and what it ensures.
-- Main definitions: `EACH`, `Assumable`, `MergesCloses`, `Assumes`, `AllAssumable`, `AssumesAll`. Assume nothing.
use Rattle.answer.specs.declared.Answer.{Answer}
use Rattle.std.specs.Prelude.{◌≡◌, List, ℕ, ◌+◌, ◌*◌, ◌<◌, ◌≤◌, length, Result, IfOk, OnOk}
use Rattle.fraction.specs.Made.{made, ◌>>=◌}
use Rattle.rules_problem.specs.declared.Term.{Term}
use Rattle.rules_problem.specs.Bits.{field}
use Rattle.rules_problem.specs.Problem.{Problem, decoded}
use Rattle.rules_run.specs.Row.{TERMS, COLUMNS}
use Rattle.rules_run.specs.Merge.{merge}
use Rattle.rules_run.specs.Close.{close}
use Rattle.rules_run.specs.Run.{by_number, assume}
use Rattle.run_table.specs.Notes.{Lookups}
use Rattle.run_table.specs.Held.{SoundTo}
use Rattle.run_table.specs.Loop.{Kept}
use Rattle.run_table.specs.Sets.{Sparse}
use Rattle.run_table.specs.Work.{Work, table_of, Resting}
use Rattle.run_merge.specs.declared.Halt.{Halt}
use Rattle.run_merge.specs.Contract.{state_of}
use Rattle.run_close.specs.Contract.{MOST}
use Rattle.run_close.specs.Outcome.{closed}
use Rattle.run_progress.specs.Ran.{ran, Prepared}
use Rattle.run_assume.specs.Assumed.{assumed}

-- One assumption solves at most one unknown in the merge of its sides, and one in each of at most 65 turns of closing.
abbrev pub EACH : ℕ
EACH = 66

-- One assumption can be taken in: the sets serve, its sides are terms, and closing takes the count, with one unknown more.
pub record Assumable (n left right solved : ℕ) (heads inputs : List ℕ) (w : Work) : Type 0 where
  pub resting : Resting n heads inputs w
  pub left_below : left < n
  pub right_below : right < n
  pub few_solved : solved < MOST

-- What stays of the lists, whatever the answer: their lengths and every place but those of the n terms, which hold what is sound.
pub record Stays (n : ℕ) (old new : Work) : Type 0 where
  pub kept : Kept 0 (COLUMNS * n) old.nums old.dens new.nums new.dens
  pub sound : SoundTo (COLUMNS * n) new.nums new.dens
  pub size : length new.sets ≡ length old.sets

-- The sides merged, then the table closed: the answer and the table are the rule's, of whatever terms the notes are; and where neither stops,
-- the sets serve again.
pub record MergesCloses (n left right solved : ℕ) (heads inputs : List ℕ) (r : Result ℕ Halt) (old new : Work) : Type 0 where
  pub answers : (terms : List Term) → Lookups terms n heads inputs
      → merge by_number left right (state_of n old solved) >>= close by_number terms ≡ closed r (table_of n new)
  pub stays : Stays n old new
  pub counted : IfOk r (λ count. count ≤ solved + EACH)
  pub resting : OnOk r (Resting n heads inputs new)

-- One assumption: that, with its place where it stops.
pub record Assumes (n place left right solved : ℕ) (heads inputs : List ℕ) (r : Result ℕ Answer) (old new : Work) : Type 0 where
  pub answers : (terms : List Term) → Lookups terms n heads inputs
      → assumed terms place left right (state_of n old solved) ≡ ran r (table_of n new)
  pub stays : Stays n old new
  pub counted : IfOk r (λ count. count ≤ solved + EACH)
  pub resting : OnOk r (Resting n heads inputs new)

-- what an assumption left
abbrev pub assumed_by : {n place left right solved : ℕ} {heads inputs : List ℕ} {r : Result ℕ Answer} {old new : Work}
    → Assumes n place left right solved heads inputs r old new → Work
assumed_by {new = new} assumes = new

-- All of them can: the byte string holds the problem, and m is its number of assumptions.
pub record AllAssumable (bytes : List ℕ) (n m solved : ℕ) (heads inputs : List ℕ) (w : Work) : Type 0 where
  pub prepared : Prepared bytes n heads inputs w
  pub pairs : m ≡ field bytes 8 8
  pub few_solved : solved ≤ TERMS + 1

-- The answer and the table are the rule's; where the run goes on, each row is within its set.
pub record AssumesAll (bytes : List ℕ) (n solved : ℕ) (r : Result ℕ Answer) (old new : Work) : Type 0 where
  pub answers : (problem : Problem) → decoded bytes ≡ made problem
      → assume by_number problem.terms 1 problem.pairs (state_of n old solved) ≡ ran r (table_of n new)
  pub stays : Stays n old new
  pub sparse : OnOk r (Sparse n new.nums new.sets)
