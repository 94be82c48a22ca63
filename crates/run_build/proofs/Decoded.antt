-- A term that is decoded can be built.
-- Main results: `term_buildable`, `kind_there`. Assume nothing.
use mathlib.Core.Path.{◌≡◌, ap}
use mathlib.Core.List.{List}
use Prim.Native.Nat.{ℕ, ◌+◌, ◌*◌, ◌<◌}
use lib.ListN.{get_or}
use Rattle.fraction.specs.Made.{made}
use Rattle.fraction.specs.InRecord.{InRecord}
use Rattle.rules_problem.specs.declared.Kind.{Kind}
use Rattle.rules_problem.specs.declared.Kind.TheVariants.{Variable}
use Rattle.rules_problem.specs.declared.Term.{Term}
use Rattle.rules_problem.specs.Bits.{field}
use Rattle.rules_problem.specs.Lookup.{kind_at}
use Rattle.rules_problem.specs.Record.{Fields, scaled}
use Rattle.rules_problem.proofs.Recorded.{EachBelow, Recorded, variable, constant, gain, sum, difference, lookup1, lookup2, lookup3, term_recorded}
use Rattle.rules_problem.specs.Problem.{Problem, term_at, decoded}
use Rattle.rules_problem.proofs.Holding.{term_there}
use Rattle.rules_problem.proofs.Widths.{scaled_in_record}
use Rattle.run_build_row.specs.Buildable.{FractionOf, InputsEarlier, Buildable}

kind_buildable : {own : ℕ} {f : Fields} {kind : Kind} → InRecord (scaled f) → Recorded own f kind → Buildable own kind
unfolding EachBelow FractionOf InputsEarlier
kind_buildable recorded variable = record { inputs = tt; fraction = tt }
kind_buildable recorded constant = record { inputs = tt; fraction = recorded }
kind_buildable recorded (gain below) = record { inputs = below.0; fraction = recorded }
kind_buildable recorded (sum below) = record { inputs = (below.0, below.1.0); fraction = tt }
kind_buildable recorded (difference below) = record { inputs = (below.0, below.1.0); fraction = tt }
kind_buildable recorded (lookup1 below) = record { inputs = below.0; fraction = tt }
kind_buildable recorded (lookup2 below) = record { inputs = (below.0, below.1.0); fraction = tt }
kind_buildable recorded (lookup3 below) = record { inputs = (below.0, below.1.0, below.1.1.0); fraction = tt }

-- A term that is decoded can be built: its inputs stand below its own number, and its fraction is small.
pub term_buildable : (bytes : List ℕ) (t : ℕ) (term : Term) → term_at bytes t ≡ made term → Buildable t term.kind
term_buildable bytes t term h = kind_buildable (scaled_in_record bytes (32 + 64 * t)) (term_recorded bytes t term h)

-- What is read of a term is the term of the problem.
pub kind_there : (bytes : List ℕ) (problem : Problem) → decoded bytes ≡ made problem → (t : ℕ) {term : Term} → t < field bytes 0 8 → made term ≡ term_at bytes t → kind_at problem.terms t ≡ term.kind
unfolding kind_at
kind_there bytes problem held t {term} below read =
    let there = term_there bytes problem held t below (record { kind = Variable 0 }) in
    let same : get_or problem.terms t (record { kind = Variable 0 }) ≡ term = cc in
    ap (λ x. x.kind) same
