-- The run: build, close, then each assumption in file order.
-- Main definitions: `Ranking`, `by_number`, `highest_number`, `run`, `judged`. Assumes nothing.
use Rattle.std.specs.Prelude.{cond, List, [], ◌∷◌, ℕ, suc}
use Rattle.answer.specs.declared.Answer.{Answer}
use Rattle.answer.specs.declared.Answer.TheVariants.{Entailed, NotEntailed, Contradictory, Refused}
use Rattle.fraction.specs.Made.{Made, made, ◌>>=◌, because}
use Rattle.rules_problem.specs.declared.Term.{Term}
use Rattle.rules_problem.specs.Problem.{Pair, Problem}
use Rattle.rules_run.specs.Row.{same_row}
use Rattle.rules_run.specs.Build.{built}
use Rattle.rules_run.specs.Merge.{State, Stop, contradiction, outside, refused_for, merge}
use Rattle.rules_run.specs.Close.{close}

-- Which unknown a merge solves: for the terms of a problem the rank of each column, of which the highest is solved. Only the terms
-- have a say in it. 01, Errors to shut out: "Choosing the unknown to solve by the order met, which breaks demand 3."
abbrev pub Ranking : Type 0
Ranking = (terms : List Term) → (c : ℕ) → ℕ

-- 01, Merge: "the highest-numbered term with a nonzero coefficient is solved": a column ranks by its number,
unfoldable pub by_number : (c : ℕ) → ℕ
by_number c = c

-- whatever the terms are
unfoldable pub highest_number : Ranking
highest_number terms = by_number

-- what a run that stops at an assumption answers: 01, What comes back, the places of contradictory and 7
unfoldable pub ends : (place : ℕ) → Stop → Answer
ends place contradiction = Contradictory place
ends place (outside number) = Refused number place

-- 01, The run, 3: "For each assumption in file order: merge its sides, then close."
unfoldable pub assume : (rank : ℕ → ℕ) → List Term → (place : ℕ) → List Pair → State → Made Answer State
assume rank terms place [] state = made state
assume rank terms place (pair ∷ pairs) state =
    because (ends place) (merge rank pair.left pair.right state >>= close rank terms) >>= assume rank terms (suc place) pairs

-- "1. Build rows in rising order. (..) 2. Close." A stop there has place 0.
unfoldable pub begin : (rank : ℕ → ℕ) → List Term → Made Answer State
begin rank terms =
    because (ends 0)
    (because refused_for (built terms []) >>= λ table. close rank terms (record { table = table; solved = 0 }))

unfoldable pub run : Ranking → Problem → Made Answer State
run ranking problem =
    let terms = problem.terms in
    let rank = ranking terms in
    begin rank terms >>= assume rank terms 1 problem.pairs

-- 01, What comes back: "entailed, not-entailed | goal rows equal, unequal", with the count of solved unknowns
unfoldable pub judged : Pair → State → Answer
judged goal state = cond (same_row state.table goal.left goal.right) (Entailed state.solved) (NotEntailed state.solved)
