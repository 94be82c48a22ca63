-- `run_build::links::earlier_of` meets its contract: no lookup from i on has the head of t. Assumes nothing.
use Rattle.std.proofs.Common.{◌≡◌, ℕ, ◌<◌, ◌≤◌, get_or}
use Rattle.run_build.proofs.links.earlier_of.Given as goal

abbrev pub invariant-loop-i : goal.invariant-loop-i
invariant-loop-i l = (k : ℕ) → l.i ≤ k → k < l.t → get_or l.heads k 0 ≡ get_or l.heads l.t 0 → ⊥
