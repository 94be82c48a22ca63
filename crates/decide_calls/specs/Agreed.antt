-- Demand 3 of the entry point: what two calls of `decide` leave of one problem, whatever the order of its assumptions.
-- Main definitions: `Deciding`, `Agreed`, `CallsAgree`, `ExitsAgree`. Assumes nothing.
use Rattle.std.specs.Prelude.{◌≡◌, List, ℕ, ◌≤◌, ◌<◌, get_or, pos}
use Rattle.answer.specs.declared.Answer.{Answer}
use Rattle.answer.specs.declared.Answer.TheVariants.{Contradictory, Refused}
use Rattle.answer.specs.Said.{contradictory, said}
use Rattle.fraction.specs.Made.{made}
use Rattle.rules_problem.specs.Problem.{Problem, decoded}
use Rattle.rules_run.specs.Row.{PLACES}
use Rattle.rules_run.specs.Merge.{State}
use Rattle.rules_run.specs.Run.{highest_number, run}
use Rattle.rules_outcome.specs.Outcome.{Lent, Outcome}
use Rattle.rules_demands.specs.Demands.{word_of, NotRefused, Finished, Truthful}
use Rattle.rules_demands.specs.Order.{SameUpToOrder, SameOutcome, unknowns}
use Rattle.laws_order.specs.SameBytes.{SameBytes}
use Rattle.run_finish.specs.Lent.{comes_back}
use Rattle.decide.specs.Decided.{Decided}

-- A call of `decide`: the byte string and the lists as they are lent, the answer and the lists as they come back, and that the
-- contract promises this of them. Nothing else is known of the program.
pub record Deciding : Type 0 where
  pub bytes : List ℕ
  pub lent : Lent
  pub back : Outcome
  pub promised : Decided bytes lent back

-- What a call that is not refused says of its problem.
pub record TrueOf (problem : Problem) (o : Outcome) : Type 0 where
  -- 01: "Demand 3 alone would admit a constant program, so it speaks of demand 2's table."
  pub true_table : Truthful highest_number problem o
  -- "the count is at most the number of variable and lookup records"
  pub bounded : (said o.answer).count ≤ unknowns problem.terms
  -- 01: the solved count "has to equal the run's number of solving merges"
  pub merges : Finished o → (state : State) × (run highest_number problem ≡ made state) × ((said o.answer).count ≡ state.solved)

-- What two calls have in common.
pub record Agreed (p q : Problem) (o o' : Outcome) : Type 0 where
  -- "the same word, the same finished table number for number, the same count of solved unknowns"
  pub same : SameOutcome o o'
  -- So the answers are equal, but for the place of contradictory, which names an assumption by its position in the file.
  pub answers : (word_of o ≡ contradictory → ⊥) → o.answer ≡ o'.answer
  pub one : TrueOf p o
  pub other : TrueOf q o'

-- Demand 3, of calls: "Same terms, goal and set of assumed pairs, whatever order, repeats and sides: if neither is refused", they
-- agree. Said of the problems, and of the byte strings that hold them. A call that is not refused was lent long enough lists, so
-- nothing has to be asked of them.
pub record CallsAgree : Type 0 where
  pub of_problems : (c d : Deciding) (p q : Problem) → decoded c.bytes ≡ made p → decoded d.bytes ≡ made q → SameUpToOrder p q
      → NotRefused c.back → NotRefused d.back → Agreed p q c.back d.back
  pub of_bytes : (c d : Deciding) → SameBytes c.bytes d.bytes → NotRefused c.back → NotRefused d.back
      → (p : Problem) × (q : Problem) × (decoded c.bytes ≡ made p) × (decoded d.bytes ≡ made q) × Agreed p q c.back d.back

-- Two answers and the lists left with them: the same numbers at all 4,160 places, and the same answer.
pub record SameExits (r s : Answer) (left left' : Lent) : Type 0 where
  pub numerators : (p : ℕ) → p < PLACES → get_or left.numerators p (pos 0) ≡ get_or left'.numerators p (pos 0)
  pub denominators : (p : ℕ) → p < PLACES → get_or left.denominators p (pos 0) ≡ get_or left'.denominators p (pos 0)
  pub answers : ((place : ℕ) → r ≡ Contradictory place → ⊥) → r ≡ s

-- an answer that is no refusal
unfoldable pub Accepts : Answer → Type 0
Accepts r = (number place : ℕ) → r ≡ Refused number place → ⊥

-- The same in the words of the contract: of the answers r and s and of the lists at exit, for lists of any length lent.
unfoldable pub ExitsAgree : Type 0
ExitsAgree =
    (bytes bytes' : List ℕ) (lent lent' : Lent) (r s : Answer) (left left' : Lent) (p q : Problem) →
    Decided bytes lent (comes_back r left) → Decided bytes' lent' (comes_back s left') →
    decoded bytes ≡ made p → decoded bytes' ≡ made q → SameUpToOrder p q → Accepts r → Accepts s →
    SameExits r s left left' × Agreed p q (comes_back r left) (comes_back s left')
