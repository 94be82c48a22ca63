-- The words of an answer exclude each other.
-- Main results: `one_word`, `word_exactly`. Assume nothing.
use mathlib.Core.Path.{◌≡◌, subst}
use mathlib.Core.Logic.{◌↔◌}
use native.Mathlib.Omega.{arith}
use Rattle.answer.specs.Said.{Word}
use Rattle.rules_problem.specs.Problem.{Problem}
use Rattle.rules_reading.specs.Forced.{Forced, IsContradictory, IsEntailed, IsNotEntailed}
use Rattle.laws_truth.specs.Meant.{Meant}

-- At most one word is true of a problem.
pub one_word : (problem : Problem) (word other : Word) → Meant problem word → Meant problem other → word ≡ other
unfolding Meant IsEntailed IsNotEntailed IsContradictory Forced
one_word problem word other h k = grind arith

-- So a true word is said exactly if it is true.
pub word_exactly : (problem : Problem) {word : Word} → Meant problem word → (other : Word) → (word ≡ other) ↔ Meant problem other
word_exactly problem {word} holds other = (λ same. subst (Meant problem) same holds, one_word problem word other holds)
