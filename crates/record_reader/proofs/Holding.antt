-- What is known where a byte string is read as sound.
-- Main result: `read_held`. Assumes nothing.
use mathlib.Core.Path.{◌≡◌, refl}
use mathlib.Core.List.{List}
use Prim.Native.Nat.{ℕ}
use native.Mathlib.Omega.{arith}
use Rattle.answer.specs.declared.Refusal.{Refusal}
use Rattle.fraction.specs.Made.{Made, made, stopped}
use Rattle.rules_problem.specs.Problem.{Problem, decoded}
use Rattle.record_reader.specs.declared.Header.{Header}
use Rattle.std.specs.Prelude.{Ok}
use Rattle.record_reader.specs.Reads.{header_of, read_as, read_of}

-- What is read as sound holds a problem, whose header was answered.
pub read_held : (bytes : List ℕ) (h : Header) → read_of bytes ≡ Ok h → (p : Problem) × (decoded bytes ≡ made p) × (h ≡ header_of p)
unfolding read_of read_as
read_held bytes h = go (decoded bytes) refl
  where
    go : (d : Made Refusal Problem) → decoded bytes ≡ d → read_as d ≡ Ok h → (p : Problem) × (decoded bytes ≡ made p) × (h ≡ header_of p)
    go (made p) e s = (p, e, cc)
    go (stopped why) e s = let z : ◌≡◌ {A = ℕ} 0 1 = cc in absurd (omega arith)
