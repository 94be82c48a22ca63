-- Forms that differ, and points and numbers that keep them apart.
-- Main definitions: `Same`, `Differ`, `Separates`, `Keeps`. Assumes nothing.
use Rattle.std.specs.Prelude.{◌≡◌, ◌≢◌, ℕ, ◌≤◌, ◌<◌, pos}
use Rattle.fraction.specs.Exact.{ℚ, whole}
use Rattle.laws_linear.specs.Form.{Form, eval}
use Rattle.laws_linear.specs.Fixed.{fixed}

-- Two forms of N columns have the same number in each column and the same constant.
abbrev pub Same : (N : ℕ) → Form → Form → Type 0
Same N f g = (c : ℕ) → c ≤ N → f c ≡ g c

-- A column in which two forms differ; the constant's counts.
pub record Differ (N : ℕ) (f g : Form) : Type 0 where
  pub column : ℕ
  pub within : column ≤ N
  pub differs : f column ≢ g column

-- Of the first n forms, those that differ have different values at the point a.
unfoldable pub Separates : (N n : ℕ) → (r : ℕ → Form) → (a : ℕ → ℚ) → Type 0
Separates N n r a = (t u : ℕ) → t < n → u < n → Differ N (r t) (r u) → eval N (r t) a ≢ eval N (r u) a

-- Of the first n forms, those that differ still differ after column p is fixed at the whole number q.
unfoldable pub Keeps : (N n : ℕ) → (r : ℕ → Form) → (p q : ℕ) → Type 0
Keeps N n r p q = (t u : ℕ) → t < n → u < n → Differ N (r t) (r u) → Differ N (fixed N p (whole (pos q)) (r t)) (fixed N p (whole (pos q)) (r u))
