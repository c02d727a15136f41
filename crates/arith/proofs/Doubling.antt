-- A remainder by d that is doubled n times: what may be taken off before the doubling is done.
use mathlib.Core.Path.{◌≡◌, sym, ap, ◌∙◌}
use Prim.Native.Nat.{ℕ, ◌+◌, ◌-◌, ◌*◌, ◌/◌, ◌%◌, ◌^◌, ◌≤◌, ◌<◌}
use native.Mathlib.Nat.{add-mul, mul_assoc, mul_right_comm, mul-add-mod_self_right, mod-lt, div-add-mod'}
use native.Mathlib.Omega.{arith}
use lib.Pow.{pow-add, shl_exact}
use Rattle.std.proofs.lemmas.Nat.{mul-mod_first}

-- eleven doublings at once, of the n - 11 k that are left after k of these
pub eleven : (r n k d : ℕ) {x : ℕ} → k < n / 11 → r * 2 ^ (n - 11 * k) % d ≡ x → r * 2048 % d * 2 ^ (n - 11 * (k + 1)) % d ≡ x
eleven r n k d h e =
    let left = n - 11 * (k + 1) in
    mul-mod_first (r * 2048) (2 ^ left) d
    ∙ ap (λ (y : ℕ). y % d) (mul_assoc r (2 ^ 11) (2 ^ left) ∙ ap (λ (y : ℕ). r * y) (sym (pow-add 2 11 left)))
    ∙ ap (λ (y : ℕ). r * 2 ^ y % d) (omega arith)
    ∙ e

-- the ten and fewer that are left, as a shift of a 64-bit number
pub rest : (r n k d : ℕ) {x : ℕ} → r < 2 ^ 53 → n / 11 ≤ k → k ≤ n / 11 → r * 2 ^ (n - 11 * k) % d ≡ x → r * 2 ^ (n % 11) % 2 ^ 64 % d ≡ x
rest r n k d h l m e =
    let left : n % 11 ≡ n - 11 * k = omega arith in
    ap (λ (y : ℕ). y % d) (shl_exact 53 (n % 11) 64 h (omega arith)) ∙ ap (λ (y : ℕ). r * 2 ^ y % d) left ∙ e

pub ruleset doublings = (mul-mod_first, eleven, rest, mod-lt)
