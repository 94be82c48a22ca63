-- Whether two forms differ is decided.
-- Main results: `same_or_differ`, `differ_not_same`, `differ_symmetric`, `dec_same`, `dec_differ`. Assume nothing.
use mathlib.Core.Path.{◌≡◌, sym}
use mathlib.Core.Logic.{◌⊎◌, inl, inr, ⊎_elim}
use Prim.Native.Nat.{ℕ, zero, suc}
use native.Mathlib.Omega.{arith}
use Rattle.laws_linear.proofs.Upto.{last_or_before}
use Rattle.fraction.proofs.Equality.{ℚ-discrete}
use Rattle.laws_linear.specs.Apart.{Same, Differ}
use Rattle.laws_linear.specs.Form.{Form}

-- Two forms are the same, or differ in a column.
pub same_or_differ : (N : ℕ) (f g : Form) → Same N f g ⊎ Differ N f g
same_or_differ zero f g = by (ℚ-discrete (f 0) (g 0))
  where
    by : Dec (f 0 ≡ g 0) → Same 0 f g ⊎ Differ 0 f g
    by (yes same) = inl (λ c h. let none : c ≡ 0 = omega arith in rw none same)
    by (no other) = inr (record { column = 0; within = omega arith; differs = other })
same_or_differ (suc k) f g = by (same_or_differ k f g) (ℚ-discrete (f (suc k)) (g (suc k)))
  where
    by : Same k f g ⊎ Differ k f g → Dec (f (suc k) ≡ g (suc k)) → Same (suc k) f g ⊎ Differ (suc k) f g
    by (inr d) here = inr (record { column = d.column; within = omega arith; differs = d.differs })
    by (inl below) (no other) = inr (record { column = suc k; within = omega arith; differs = other })
    by (inl below) (yes same) = inl (λ c h. last_or_before (suc k) same (λ c h. below c (omega arith)) c (omega arith))

-- Forms that differ are not the same, and differ the other way round too.
pub differ_not_same : {N : ℕ} {f g : Form} → Differ N f g → Same N f g → ⊥
differ_not_same d same = d.differs (same d.column d.within)

pub differ_symmetric : {N : ℕ} {f g : Form} → Differ N f g → Differ N g f
differ_symmetric d = record { column = d.column; within = d.within; differs = λ same. d.differs (sym same) }

-- Each of the two is decided.
pub dec_same : (N : ℕ) (f g : Form) → Dec (Same N f g)
dec_same N f g = ⊎_elim yes (λ d. no (differ_not_same d)) (same_or_differ N f g)

pub dec_differ : (N : ℕ) (f g : Form) → Dec (Differ N f g)
dec_differ N f g = ⊎_elim (λ same. no (λ d. differ_not_same d same)) yes (same_or_differ N f g)
