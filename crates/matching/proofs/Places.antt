-- Places in rows: base + stride * p + k is the place k of row p.
-- Assumes nothing.
use mathlib.Core.Path.{◌≡◌, sym, ap, ◌∙◌}
use Prim.Native.Nat.{ℕ, ◌+◌, ◌*◌, ◌%◌, ◌≤◌, ◌<◌}
use native.Mathlib.Nat.{mul-le-mul_left, mul-add-mod_self_left, mod-eq_of_lt}
use native.Mathlib.Omega.{arith}

-- a row ends before the next begins
pub row_within : (stride : ℕ) {p len : ℕ} → p < len → stride * p + stride ≤ stride * len
row_within stride h = omega (arith, mul-le-mul_left stride h)

place_in_row : (stride p : ℕ) {k : ℕ} → k < stride → (stride * p + k) % stride ≡ k
place_in_row stride p {k} h = mul-add-mod_self_left stride p k ∙ mod-eq_of_lt h

-- one place of all is one place of a row
pub one-column : (stride p q : ℕ) {j k : ℕ} → j < stride → k < stride → stride * q + j ≡ stride * p + k → j ≡ k
one-column stride p q h g e = sym (place_in_row stride q h) ∙ (ap (λ (n : ℕ). n % stride) e ∙ place_in_row stride p g)
