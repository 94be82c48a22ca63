-- Records of document 01 decoded: the fields, the signs and the refusals in their order.
-- Main results: `case_a_decoded`, `least_mantissa`, `first_fault_first`. Assume nothing.
use mathlib.Core.Path.{◌≡◌, refl}
use mathlib.Core.List.{List, [], ◌∷◌}
use Prim.Native.Nat.{ℕ, zero, suc, ◌/◌, ◌%◌, ◌^◌}
use lib.IntN.{pos, negsuc}
use Rattle.answer.specs.declared.Refusal.{Refusal}
use Rattle.answer.specs.declared.Reason.{Reason}
use Rattle.answer.specs.declared.Reason.TheVariants as reason
use Rattle.fraction.specs.Made.{Made, made, stopped, ◌>>=◌, tab}
use Rattle.rules_problem.specs.declared.Kind.TheVariants.{Variable, Constant, Gain, Lookup1}
use Rattle.rules_problem.specs.Bits.{bit_at, field, signed16}
use Rattle.rules_problem.specs.Record.{fields_at, scaled, every, unless_faulty, kind_of}
use Rattle.rules_problem.specs.Problem.{Problem, refuse, term_at, pair_at, need, decoded}

-- `count` bytes, written as one number, most significant byte first
bytes : (count number : ℕ) → List ℕ
bytes zero number = []
bytes (suc count) number = number / 256 ^ count % 256 ∷ bytes count number

-- what is decoded, with every rule open so that it computes
found : (count number : ℕ) → Made Refusal Problem
unfolding
    bytes
    bit_at
    field
    signed16
    fields_at
    scaled
    every
    unless_faulty
    kind_of
    refuse
    term_at
    pair_at
    need
    decoded
    ◌>>=◌
    tab
found count number = decoded (bytes count number)

refusal : (why : Reason) (place : ℕ) → Made Refusal Problem
refusal why place = stopped (record { reason = why; place = place })

-- Case A: a variable, -1/8 of it, a lookup of that, and the constant 3/2; the goal is 1 = 2, the assumption 2 = 3.
case_a_decoded : found 38 0x04010102_1000000000000000_300000000FFFF300_6070100000000000_2000000000003100_0203 ≡ made (record { terms = record { kind = Variable 0 } ∷ record { kind = Gain (record { mantissa = negsuc 0; shift = 3 }) 0 } ∷ record { kind = Lookup1 7 1 } ∷ record { kind = Constant (record { mantissa = pos 3; shift = 1 }) } ∷ []; goal = record { left = 1; right = 2 }; pairs = record { left = 2; right = 3 } ∷ [] })
unfolding found
case_a_decoded = refl

-- The least mantissa is -32768, as case K has it.
least_mantissa : found 12 0x01000000_2000000008000f00 ≡ made (record { terms = record { kind = Constant (record { mantissa = negsuc 32767; shift = 15 }) } ∷ []; goal = record { left = 0; right = 0 }; pairs = [] })
unfolding found
least_mantissa = refl

-- Refusals 2 to 6, each where the fault of a later test is there too: fewer than 4 bytes; 65 terms in a record too short for
-- them; a byte too many behind a faulty term; a term that is its own input before a goal that names no term; a goal that
-- names no term before such a pair; the second pair after a sound one.
first_fault_first : (found 3 0x410000 ≡ refusal reason.Short 0) × (found 4 0x41000000 ≡ refusal reason.Count 0) × (found 13 0x01000000_0000000000000000_00 ≡ refusal reason.Length 0) × (found 20 0x02000002_1000000000000000_3000100000001000 ≡ refusal reason.Term 1) × (found 14 0x01010001_1000000000000000_0001 ≡ refusal reason.Pair 0) × (found 16 0x01020000_1000000000000000_0000_0100 ≡ refusal reason.Pair 2)
unfolding found refusal
first_fault_first = (refl, refl, refl, refl, refl, refl)
