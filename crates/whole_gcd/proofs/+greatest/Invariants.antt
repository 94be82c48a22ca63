-- `whole_gcd::greatest`: the second number falls at each call. Assumes nothing.
use Rattle.whole_gcd.proofs.+greatest.Given as goal

abbrev pub decreases-greatest : goal.decreases-greatest
decreases-greatest l = l.b
