-- `run_close::wake::wake` meets its contract. Assumes nothing.
use mathlib.Core.List.{List}
use Prim.Native.Nat.{ℕ, ◌-◌}
use Rattle.set_extremes.specs.Extremes.{Next}
use Rattle.set_extremes.proofs.Taken.{From}
use Rattle.run_table.specs.Sets.{open_of}
use Rattle.run_close.proofs.Waking.{Waking}
use Rattle.run_close.proofs.wake.wake.Given as goal

-- In the loop: the open right sides below j are noted, and those from j on are left.
pub record WakingOn (sets waiting₀ waiting : List ℕ) (rest j : ℕ) : Type 0 where
  pub waking : Waking sets waiting₀ j waiting
  pub from : From (open_of sets) j rest
  pub next : Next rest 0 j

abbrev pub invariant-loop-j : goal.invariant-loop-j
invariant-loop-j l = WakingOn l.sets l.initial.waiting l.waiting l.rest l.j

abbrev pub decreases-loop-j : goal.decreases-loop-j
decreases-loop-j l = l.n - l.j
