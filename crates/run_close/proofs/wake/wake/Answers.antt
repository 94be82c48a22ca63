-- `run_close::wake::wake` meets its contract. Assumes nothing.
use Rattle.std.proofs.Common.{rules}
use mathlib.Core.List.{List}
use Prim.Native.Nat.{ℕ, ◌+◌, ◌<◌}
use Rattle.std.proofs.Common.{arith}
use Rattle.set_extremes.specs.Extremes.{Next, Rest}
use Rattle.set_extremes.proofs.Taken.{From, from_starts, from_first, from_here, from_rest}
use Rattle.run_table.specs.Sets.{pending_of, open_of}
use Rattle.run_close.proofs.Waking.{grown_itself, waking_skips, waking_more, woken_ends, woken_idle}
use Rattle.run_close.proofs.wake.wake.Invariants.{WakingOn}
use Rattle.run_close.proofs.wake.wake.Goals as goal

-- the right side after this one
onward : {sets waiting₀ waiting : List ℕ} {rest j rest' j' : ℕ} → WakingOn sets waiting₀ waiting rest j → j < 64 → Rest rest rest' → Next rest' 0 j' → Next (open_of sets) (j + 1) j' × From (open_of sets) j' rest'
onward on few rests next =
    let later = from_rest (omega arith) on.from on.next rests in
    (from_first (omega arith) later next, from_here (omega arith) later next)

pub returns-then-sets-eq0 : goal.returns-then-sets-eq0
unfolding pending_of
returns-then-sets-eq0 c = woken_idle _ _ c.if-sets-eq0.true

pub loop-j-init : goal.loop-j-init
unfolding open_of
loop-j-init c = let next = c.first-j.ensures in
    record { waking = waking_skips next (record { grown = grown_itself _; adds = λ i k before low. absurd (omega arith) }); from = from_here (omega arith) (from_starts _) next; next = next }

pub wake_right-requires : goal.wake_right-requires
wake_right-requires c = let sized = c.loop-j.invariant.waking.grown.same_length in search rules

pub loop-j-smaller : goal.loop-j-smaller
loop-j-smaller c = let forward = (onward c.loop-j.invariant (search rules) c.rest-rest.ensures c.first-j-in-loop-j.ensures).0.forward in search rules

pub loop-j-preserved : goal.loop-j-preserved
loop-j-preserved c =
    let on = onward c.loop-j.invariant (search rules) c.rest-rest.ensures c.first-j-in-loop-j.ensures in
    record { waking = waking_skips on.0 (waking_more c.loop-j.j c.wake_right.ensures c.loop-j.invariant.waking); from = on.1; next = c.first-j-in-loop-j.ensures }

pub shape_of-waiting : goal.shape_of-waiting
shape_of-waiting c = c.loop-j.invariant.waking.grown.same_length

pub returns : goal.returns
returns c = let asked = c.requires in
    woken_ends _ (search rules) (omega arith) (omega arith) c.loop-j.invariant.waking
