-- What callers use of `sqrt`: for 1/4 ≤ x < 4 the root r is finite, not below 0, and (r - u)² ≤ x ≤ (r + u)²
-- with u = 2 ^ -53 (`root_ok`; `Root` is in the crate `exact`). From the definition, by `root-units`.
use Rattle.std.specs.Prelude.{◌≡◌, List, [], ◌∷◌, false, ℕ, suc, ◌+◌, ◌*◌, ◌^◌, ◌≤◌, ◌<◌, T, Float}
use Rattle.std.proofs.Common.{sym, subst, subst₂, le_trans, le_of_eq, lt_of_le_of_lt, lt_of_not-le, not-le_of_lt, mul-le-mul, mul-le-mul_right}
use Rattle.std.proofs.Common.{mul-lt-mul_of_pos_right, le_of_suc-le-suc, arith, pow_pos, pow_mono, lit<, lit≤}
use mathlib.Core.Quot.{sound}
use Rattle.std.proofs.Math.Dec.{nleb→lt}
use Rattle.std.specs.Float.{binary64}
use Rattle.std.specs.Float.Ieee.{fits}
use Rattle.std.specs.Float.Ieee.Scale.{finite}
use Rattle.exact.specs.Rat.{ℚ, Fr, mk, qn, whole, mul_f, leq, ◌+q◌, ◌-q◌, ◌*q◌, negq, ◌≤q◌, ◌<q◌, ≤-mk, mk-≤, *q-mk, ≤q-sub, sub-≤q, ≤q-trans}
use Rattle.exact.specs.Abs.{0≤, T_not}
use Rattle.exact.specs.RingQ.{Rx, rv, rat, ◌⊕◌, ◌⊖◌, ◌⊗◌, same_q}
use Rattle.exact.specs.Cert.{Nns, comb, den, by-nn, hyp, num, ◌⊞◌, ◌⊠◌}
use Rattle.exact.specs.Val.{val, sg, sg_f, has→val}
use Rattle.exact.specs.Sign.{sg-nn}
use Rattle.exact.specs.Hypot.{Root}
use Rattle.arith.specs.Root.{sqrt}
use Rattle.arith.specs.Answered.{NearRoot}
use Rattle.arith.specs.Laws.RootHalves.{square-lt}
use Rattle.arith.specs.Laws.RootUnits.{root-units}
use Rattle.arith.specs.Laws.RootNearest.{positive_of}

-- ---- in whole numbers: the root is B = q W of the L units of 1, x is A of them, half a last place is W / 2
module _ (n q W : ℕ) (r : NearRoot n q) where
  low-whole : (A L : ℕ) → A * L ≡ n * (W * W) → 4 * (q * W * (q * W)) + W * W ≤ 4 * (A * L) + 4 * (q * W * W)
  low-whole A L e = rw e (let z = mul-le-mul_right (W * W) r.0 in omega arith)

  high-whole : (A L : ℕ) → A * L ≡ n * (W * W) → 4 * (A * L) ≤ 4 * (q * W * (q * W)) + 4 * (q * W * W) + W * W
  high-whole A L e = rw e (let z = mul-le-mul_right (W * W) r.1 in omega arith)

  -- x ≥ 1/4 gives r ≥ 1/4
  large-whole : (A L : ℕ) → A * L ≡ n * (W * W) → 1 ≤ q → L ≤ 4 * A → L ≤ 4 * (q * W)
  large-whole A L e o h = le_of_suc-le-suc (square-lt L (suc (4 * (q * W))) (lt_of_le_of_lt below (omega arith)))
    where
      below : L * L ≤ 8 * (q * W * (q * W))
      below = let a = mul-le-mul_right L h in let b = mul-le-mul_right (W * W) r.1 in let c = mul-le-mul_right (q * (W * W)) o in omega arith

-- x < 4 gives W / 2 ≤ L / 2 ^ 53
last-place : (n k A : ℕ) → A * 2 ^ 1074 ≡ n * (2 ^ k * 2 ^ k) → 2 ^ 104 ≤ n → A < 4 * 2 ^ 1074 → k < 1023
last-place n k A e l h =
    lt_of_not-le (λ (g : 1023 ≤ k). not-le_of_lt (lt_of_le_of_lt (le_of_eq (sym e)) (mul-lt-mul_of_pos_right h (pow_pos 1074)))
    (le_trans (lit≤ tt) (mul-le-mul l (mul-le-mul (pow_mono g) (pow_mono g)))))

-- ---- in fractions
module _ (A B W L : ℕ) (P : 0 < L) (P2 : 0 < 2 * L) where
  abbrev low-diff : Fr
  low-diff = record { p = 2 * B; n = W; d = 2 * L; dp = P2 }

  abbrev high_sum : Fr
  high_sum = record { p = 2 * B + W; n = 0; d = 2 * L; dp = P2 }

  diff_is : sg false B L P -q sg false W (2 * L) P2 ≡ mk low-diff
  unfolding ◌+q◌ negq
  diff_is = sound (omega arith)

  sum_is : sg false B L P +q sg false W (2 * L) P2 ≡ mk high_sum
  unfolding ◌+q◌
  sum_is = sound (omega arith)

  low-frac : 4 * (B * B) + W * W ≤ 4 * (A * L) + 4 * (B * W)
      → (sg false B L P -q sg false W (2 * L) P2) *q (sg false B L P -q sg false W (2 * L) P2) ≤q sg false A L P
  low-frac h =
      subst (λ z. z *q z ≤q sg false A L P) (sym diff_is) (subst (λ z. z ≤q sg false A L P) (sym (*q-mk low-diff low-diff))
      (≤-mk (mul_f low-diff low-diff) (sg_f false A L P) (let z = mul-le-mul_right L h in omega arith)))

  high-frac : 4 * (A * L) ≤ 4 * (B * B) + 4 * (B * W) + W * W
      → sg false A L P ≤q (sg false B L P +q sg false W (2 * L) P2) *q (sg false B L P +q sg false W (2 * L) P2)
  high-frac h =
      subst (λ z. sg false A L P ≤q z *q z) (sym sum_is) (subst (λ z. sg false A L P ≤q z) (sym (*q-mk high_sum high_sum))
      (≤-mk (sg_f false A L P) (mul_f high_sum high_sum) (let z = mul-le-mul_right L h in omega arith)))

abbrev pub quarter : Fr
quarter = record { p = 1; n = 0; d = 4; dp = lit< tt }

abbrev u : Fr
u = record { p = 1; n = 0; d = 9007199254740992; dp = lit< tt }

quarter-in : (a L : ℕ) (P : 0 < L) → mk quarter ≤q sg false a L P → L ≤ 4 * a
quarter-in a L P h = let k = mk-≤ quarter (sg_f false a L P) h in omega arith

quarter-out : (a L : ℕ) (P : 0 < L) → L ≤ 4 * a → mk quarter ≤q sg false a L P
quarter-out a L P h = ≤-mk quarter (sg_f false a L P) (omega arith)

four-in : (a L : ℕ) (P : 0 < L) → sg false a L P <q qn 4 → a < 4 * L
unfolding leq
four-in a L P t = let h = nleb→lt (4 * L + 0 * 1) (a * 1 + 0 * L) t in omega arith

place_out : (W L : ℕ) (P : 0 < 2 * L) → W * 4503599627370496 ≤ L → sg false W (2 * L) P ≤q mk u
place_out W L P h = ≤-mk (sg_f false W (2 * L) P) u (omega arith)

-- what is at least 1/4 is above 0
pub above-quarter : (z : ℚ) → mk quarter ≤q z → qn 0 <q z
above-quarter z h = T_not (leq z (qn 0)) (λ t. omega (arith, mk-≤ quarter (whole 0 0) (≤q-trans (mk quarter) z (qn 0) h t)))

-- ---- half a last place, h, is at most u: the bounds with h give those with u
widen_low : (x r h : ℚ) → (r -q h) *q (r -q h) ≤q x → h ≤q mk u → mk quarter ≤q r → (r -q mk u) *q (r -q mk u) ≤q x
unfolding same_q den comb
widen_low x r h a b c =
    let H : List Rx = (rv 0 ⊖ (rv 1 ⊖ rv 2) ⊗ (rv 1 ⊖ rv 2)) ∷ (rat u ⊖ rv 2) ∷ (rv 1 ⊖ rat quarter) ∷ [] in
    let N : Nns (x ∷ r ∷ h ∷ []) H = (≤q-sub ((r -q h) *q (r -q h)) x a, (≤q-sub h (mk u) b, (≤q-sub (mk quarter) r c, tt))) in
    sub-≤q ((r -q mk u) *q (r -q mk u)) x (by-nn (x ∷ r ∷ h ∷ []) [] tt H N []
    (hyp 0 ⊞ hyp 1 ⊠ (num 2 0 ⊠ hyp 2 ⊞ hyp 1 ⊞ num 4503599627370494 9007199254740991)) (rv 0 ⊖ (rv 1 ⊖ rat u) ⊗ (rv 1 ⊖ rat u)) tt)

widen_high : (x r h : ℚ) → x ≤q (r +q h) *q (r +q h) → h ≤q mk u → mk quarter ≤q r → 0≤ h → x ≤q (r +q mk u) *q (r +q mk u)
unfolding same_q den comb
widen_high x r h a b c d =
    let H : List Rx = ((rv 1 ⊕ rv 2) ⊗ (rv 1 ⊕ rv 2) ⊖ rv 0) ∷ (rat u ⊖ rv 2) ∷ (rv 1 ⊖ rat quarter) ∷ rv 2 ∷ [] in
    let N : Nns (x ∷ r ∷ h ∷ []) H = (≤q-sub x ((r +q h) *q (r +q h)) a, (≤q-sub h (mk u) b, (≤q-sub (mk quarter) r c, (d, tt)))) in
    sub-≤q x ((r +q mk u) *q (r +q mk u)) (by-nn (x ∷ r ∷ h ∷ []) [] tt H N []
    (hyp 0 ⊞ hyp 1 ⊠ (num 2 0 ⊠ hyp 2 ⊞ hyp 3 ⊞ num 4503599627370497 9007199254740991)) ((rv 1 ⊕ rat u) ⊗ (rv 1 ⊕ rat u) ⊖ rv 0) tt)

pub root_ok : (x : Float) → T (fits binary64 x) → T (finite x) → mk quarter ≤q val x → val x <q qn 4 → Root x (sqrt binary64 x)
root_ok x f p a b =
    let R = root-units x f (positive_of x p (above-quarter (val x) a)) in let L = 2 ^ 1074 in
    let P = pow_pos 1074 in
    let P2 : 0 < 2 * 2 ^ 1074 = lit< tt in
    let W = 2 ^ R.k in let B = R.q * W in let v = (has→val x false R.A L P R.value).1 in
    let w = has→val (sqrt binary64 x) false B L P R.root in let r = sg false B L P in
    let h = sg false W (2 * L) P2 in
    let k : R.k < 1023 = last-place R.n R.k R.A R.square R.n-low (four-in R.A L P (subst (λ z. z <q qn 4) v b)) in
    let small : h ≤q mk u = place_out W L P2 (fine R.k k) in
    let big : mk quarter ≤q r = quarter-out B L P (large-whole R.n R.q W R.near R.A L R.square
    (le_trans (lit≤ tt) R.q-low) (quarter-in R.A L P (subst (λ z. mk quarter ≤q z) v a))) in
    record {
      is_finite = w.0;
      not_neg = subst 0≤ (sym w.1) (sg-nn B L P);
      low = subst₂ (λ r x. (r -q mk u) *q (r -q mk u) ≤q x) (sym w.1) (sym v)
          (widen_low (sg false R.A L P) r h (low-frac R.A B W L P P2 (low-whole R.n R.q W R.near R.A L R.square)) small big);
      high = subst₂ (λ r x. x ≤q (r +q mk u) *q (r +q mk u)) (sym w.1) (sym v) (widen_high (sg false R.A L P) r h
          (high-frac R.A B W L P P2 (high-whole R.n R.q W R.near R.A L R.square)) small big (sg-nn W (2 * L) P2));
    }
  where
    fine : (k : ℕ) → k < 1023 → 2 ^ k * 4503599627370496 ≤ 2 ^ 1074
    fine k h = le_trans (mul-le-mul_right 4503599627370496 (pow_mono {i = k} {j = 1022} (omega arith))) (lit≤ tt)
