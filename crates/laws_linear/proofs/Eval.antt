-- The laws of evaluation of a form: what it depends on, and that it is linear in the form.
-- Main results: `eval_equal`, `eval_plus`, `eval_minus`, `eval_times`, `eval_negated`, `eval_sum`, `eval_constant`, `eval_single`, `eval_alone`, `eval_weighted`. Assume nothing.
use mathlib.Core.Path.{◌≡◌, refl, sym, ap, ap₂, ◌∙◌}
use mathlib.Core.Logic.{◌≢◌}
use mathlib.Core.List.{[], ◌∷◌}
use Prim.Native.Nat.{ℕ, ◌≤◌, ◌<◌}
use native.Mathlib.Omega.{arith}
use Rattle.whole.proofs.Commutative.{combined, zero_add, one_mul}
use Rattle.whole.proofs.Solver.{ring}
use Rattle.fraction.specs.Exact.{ℚ, zero_ℚ, one_ℚ, ◌+ℚ◌, neg_ℚ, ◌-ℚ◌, ◌*ℚ◌}
use Rattle.fraction.proofs.Equality.{ℚ-discrete}
use Rattle.fraction.proofs.Field.{ℚ-ring, readsℚ, plus_zero, times_zero, times_comm}
use Rattle.rules_run.specs.Build.{alone}
use Rattle.laws_linear.specs.Form.{Form, sum, eval}
use Rattle.laws_linear.proofs.Alone.{alone_there, alone_elsewhere}
use Rattle.laws_linear.proofs.Sum.{sum_equal, sum_plus, sum_times, sum_zeros, sum_but_one, sum_single, sum_exchange}

pub zero_times : (a : ℚ) → zero_ℚ *ℚ a ≡ zero_ℚ
zero_times a = times_comm zero_ℚ a ∙ times_zero a

-- Multiples are equal where the numbers are, or the factor is zero.
pub times_equal : (a : ℚ) {x y : ℚ} → (a ≢ zero_ℚ → x ≡ y) → a *ℚ x ≡ a *ℚ y
times_equal a same = grind (arith, ℚ-discrete a zero_ℚ, zero_times)

-- Forms with equal columns have equal values where the values of the columns are equal that have a coefficient other than zero.
pub eval_equal : (N : ℕ) {f g : Form} {v w : ℕ → ℚ} → ((c : ℕ) → c ≤ N → f c ≡ g c) → ((c : ℕ) → c < N → f c ≢ zero_ℚ → v c ≡ w c) → eval N f v ≡ eval N g w
unfolding eval
eval_equal N {f} {w = w} same values =
    ap₂ ◌+ℚ◌ (sum_equal N (λ c h. times_equal (f c) (values c h) ∙ ap (λ x. x *ℚ w c) (same c (omega arith)))) (same N (omega arith))

-- Evaluation is linear in the form: sums, multiples, differences, opposites, sums of many.
pub eval_plus : (N : ℕ) (f g : Form) (v : ℕ → ℚ) → eval N (λ c. f c +ℚ g c) v ≡ eval N f v +ℚ eval N g v
unfolding eval
eval_plus N f g v =
    let fs = sum N (λ c. f c *ℚ v c) in
    let gs = sum N (λ c. g c *ℚ v c) in
    ap (λ x. x +ℚ (f N +ℚ g N))
    (sum_equal N (λ c h. ring ℚ-ring (f c ∷ g c ∷ v c ∷ []) (search readsℚ depth 20) refl) ∙ sum_plus N (λ c. f c *ℚ v c) (λ c. g c *ℚ v c))
    ∙ ring ℚ-ring (fs ∷ gs ∷ f N ∷ g N ∷ []) (search readsℚ depth 20) refl

pub eval_times : (N : ℕ) (k : ℚ) (f : Form) (v : ℕ → ℚ) → eval N (λ c. k *ℚ f c) v ≡ k *ℚ eval N f v
unfolding eval
eval_times N k f v =
    let fs = sum N (λ c. f c *ℚ v c) in
    ap (λ x. x +ℚ k *ℚ f N)
    (sum_equal N (λ c h. ring ℚ-ring (k ∷ f c ∷ v c ∷ []) (search readsℚ depth 20) refl) ∙ sum_times N k (λ c. f c *ℚ v c))
    ∙ ring ℚ-ring (k ∷ fs ∷ f N ∷ []) (search readsℚ depth 20) refl

pub eval_negated : (N : ℕ) (f : Form) (v : ℕ → ℚ) → eval N (λ c. neg_ℚ (f c)) v ≡ neg_ℚ (eval N f v)
eval_negated N f v =
    eval_equal N (λ c h. ring ℚ-ring (f c ∷ []) (search readsℚ depth 20) refl) (λ c h some. refl)
    ∙ eval_times N (neg_ℚ one_ℚ) f v ∙ ring ℚ-ring (eval N f v ∷ []) (search readsℚ depth 20) refl

pub eval_minus : (N : ℕ) (f g : Form) (v : ℕ → ℚ) → eval N (λ c. f c -ℚ g c) v ≡ eval N f v -ℚ eval N g v
unfolding ◌-ℚ◌
eval_minus N f g v = eval_plus N f (λ c. neg_ℚ (g c)) v ∙ ap (λ x. eval N f v +ℚ x) (eval_negated N g v)

sum_scaled : (count : ℕ) (k : ℚ) (f : ℕ → ℚ) → sum count f *ℚ k ≡ sum count (λ t. f t *ℚ k)
sum_scaled count k f = times_comm (sum count f) k ∙ sym (sum_times count k f) ∙ sum_equal count (λ t h. times_comm k (f t))

pub eval_sum : (N count : ℕ) (f : ℕ → Form) (v : ℕ → ℚ) → eval N (λ c. sum count (λ t. f t c)) v ≡ sum count (λ t. eval N (f t) v)
unfolding eval
eval_sum N count f v =
    ap (λ x. x +ℚ sum count (λ t. f t N)) (sum_equal N (λ c h. sum_scaled count (v c) (λ t. f t c)) ∙ sum_exchange N count (λ c t. f t c *ℚ v c))
    ∙ sym (sum_plus count (λ t. sum N (λ c. f t c *ℚ v c)) (λ t. f t N))

-- Forms whose columns are equal but for one differ in value by what that column makes of it.
pub eval_but_one : (N p : ℕ) (f g : Form) (v : ℕ → ℚ) → p < N → ((c : ℕ) → c ≤ N → c ≢ p → f c ≡ g c) → eval N f v +ℚ g p *ℚ v p ≡ eval N g v +ℚ f p *ℚ v p
unfolding eval
eval_but_one N p f g v inside same =
    let fs = sum N (λ c. f c *ℚ v c) in
    let gs = sum N (λ c. g c *ℚ v c) in
    combined ℚ-ring one_ℚ (sum_but_one N p (λ c. f c *ℚ v c) (λ c. g c *ℚ v c) inside (λ c h other. ap (λ x. x *ℚ v c) (same c (omega arith) other)))
    (combined ℚ-ring one_ℚ (same N (omega arith) (omega arith))
    (ring ℚ-ring (fs ∷ gs ∷ f N ∷ g N ∷ f p ∷ g p ∷ v p ∷ []) (search readsℚ depth 20) refl))

-- A form with no column has the value of its constant.
pub eval_constant : (N : ℕ) (f : Form) (v : ℕ → ℚ) → ((c : ℕ) → c < N → f c ≡ zero_ℚ) → eval N f v ≡ f N
unfolding eval
eval_constant N f v none =
    ap (λ x. x +ℚ f N) (sum_equal N (λ c h. ap (λ x. x *ℚ v c) (none c h) ∙ zero_times (v c)) ∙ sum_zeros N) ∙ zero_add ℚ-ring (f N)

-- A form with one column has the value of that column times its coefficient.
pub eval_single : (N p : ℕ) (f : Form) (v : ℕ → ℚ) → p < N → ((c : ℕ) → c ≤ N → c ≢ p → f c ≡ zero_ℚ) → eval N f v ≡ f p *ℚ v p
unfolding eval
eval_single N p f v inside none =
    ap₂ ◌+ℚ◌
    (sum_single N p (λ c. f c *ℚ v c) inside (λ c h other. ap (λ x. x *ℚ v c) (none c (omega arith) other) ∙ zero_times (v c)))
    (none N (omega arith) (omega arith))
    ∙ plus_zero (f p *ℚ v p)

-- The form with q in one column alone has q times that column's value, the form with a constant alone that constant.
pub eval_alone : (N p : ℕ) (q : ℚ) (v : ℕ → ℚ) → p < N → eval N (alone p q) v ≡ q *ℚ v p
eval_alone N p q v inside = eval_single N p (alone p q) v inside (λ c h other. alone_elsewhere other q) ∙ ap (λ x. x *ℚ v p) (alone_there p q)

pub eval_unit : (N p : ℕ) (v : ℕ → ℚ) → p < N → eval N (alone p one_ℚ) v ≡ v p
eval_unit N p v inside = eval_alone N p one_ℚ v inside ∙ one_mul ℚ-ring (v p)

pub eval_alone_constant : (N : ℕ) (q : ℚ) (v : ℕ → ℚ) → eval N (alone N q) v ≡ q
eval_alone_constant N q v = eval_constant N (alone N q) v (λ c h. alone_elsewhere (omega arith) q) ∙ alone_there N q

-- A weighted sum of forms plus a constant has the weighted sum of the values, plus the constant.
pub eval_weighted : (N count : ℕ) (weight : ℕ → ℚ) (k : ℚ) (f : ℕ → Form) (v : ℕ → ℚ) → eval N (λ c. sum count (λ t. weight t *ℚ f t c) +ℚ alone N k c) v ≡ sum count (λ t. weight t *ℚ eval N (f t) v) +ℚ k
eval_weighted N count weight k f v =
    eval_plus N (λ c. sum count (λ t. weight t *ℚ f t c)) (alone N k) v
    ∙ ap₂ ◌+ℚ◌ (eval_sum N count (λ t c. weight t *ℚ f t c) v ∙ sum_equal count (λ t h. eval_times N (weight t) (f t) v)) (eval_alone_constant N k v)
