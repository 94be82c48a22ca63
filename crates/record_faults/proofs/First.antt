-- Going on up to the first index that is not sound.
-- Main results: `passed_none`, `passed_more`, `first_found`, `first_none`. Assume nothing.
use Rattle.std.specs.Prelude.{Some, None}
use mathlib.Core.Path.{◌≡◌, ap, ◌∙◌}
use mathlib.Core.Bool.{Bool, true, false}
use Prim.Native.Nat.{ℕ, ◌+◌, ◌≤◌, ◌<◌}
use native.Mathlib.Omega.{arith}
use native.Mathlib.Decide.{dec_lt}
use Rattle.record_faults.specs.Contract.{AllSound, First}

module _ {from : ℕ} {sound : ℕ → Bool} where
  pub passed_none : AllSound from from sound
  passed_none = record { each = λ k l u. absurd (omega arith) }

  pub passed_more : {t : ℕ} → AllSound from t sound → sound t ≡ true → AllSound from (t + 1) sound
  passed_more {t} p s = record { each = λ k l u. go k l u (dec_lt k t) }
    where
      go : (k : ℕ) → from ≤ k → k < t + 1 → Dec (k < t) → sound k ≡ true
      go k l u (yes b) = p.each k l b
      go k l u (no b) =
          let here : k ≡ t = omega arith in
          ap sound here ∙ s

  -- The first that is not sound is found,
  pub first_found : {end t : ℕ} → from ≤ t → AllSound from t sound → t < end → sound t ≡ false → First from end sound (Some t)
  first_found low p high s = record { least = low; most = high; passed = p; there = s }

  -- or there is none.
  pub first_none : {end t : ℕ} → AllSound from t sound → end ≤ t → First from end sound None
  first_none p all = record { each = λ k l u. p.each k l (omega arith) }
