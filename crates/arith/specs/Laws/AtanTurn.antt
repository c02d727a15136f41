-- The exact sums at PI/2 - v and at PI - v, where the doubles round the difference: sine and cosine change
-- places, or the cosine its sign, to within 2^-48 and 2^-43. By computed comparison.
use Rattle.std.proofs.Common.{ap₂, leb→le, pow_pos}
use Rattle.std.specs.Prelude.{[], ◌∷◌, false, ◌&&◌, ℕ, ◌+◌, ◌*◌, ◌^◌, T, leb, Float}
use Rattle.std.specs.Float.{binary64}
use Rattle.std.specs.Float.Ieee.{of_bits, round, sub, div}
use Rattle.std.specs.Float.Ieee.Scale.{finite}
use Rattle.exact.specs.Rat.{ℚ, Fr, mk, ◌+q◌, ◌-q◌}
use Rattle.exact.specs.RingQ.{Rx, rv, rat, ◌⊕◌, ◌⊖◌, ev_r, same_q, ring_q, bnd_r}
use Rattle.exact.specs.Abs.{Abs, abs-eq, abs-mono, abs-add}
use Rattle.exact.specs.Val.{val, sg_f}
use Rattle.exact.specs.Check.{Fx, fv, fc, ◌-f◌}
use Rattle.arith.specs.Real.{ratio}
use Rattle.arith.specs.Angle.{PI}
use Rattle.arith.specs.ExactSums.{sine_sum41, cosine_sum42}
use Rattle.arith.specs.Laws.AtanTests.{both, bounded, Close, closes, computed}
use Rattle.arith.specs.Laws.AtanSums.{sine_x, cosine_x, sine_x-ok, cosine_x-ok, sine_grows, cosine_grows, sine-grows, cosine-grows}

-- the double PI as a fraction, and its half
pi : Fr
pi = sg_f false 884279719003555 (2 ^ 48) (pow_pos 48)

pi/2 : Fr
pi/2 = sg_f false 884279719003555 (2 ^ 49) (pow_pos 49)

-- |v| ≤ 69/64 before the quarter turn, 85/32 after it, 93/16 after the half turn
abbrev pub v_top : ℕ
v_top = 69 * 2 ^ 250

abbrev pub w_top : ℕ
w_top = 85 * 2 ^ 251

abbrev pub u_top : ℕ
u_top = 93 * 2 ^ 252

-- ---- the exact sums at the exact differences
quarter_s : Rx
unfolding sine_x cosine_x pi/2
quarter_s = sine_x (rat pi/2 ⊖ rv 0) ⊖ cosine_x (rv 0)

quarter_c : Rx
unfolding sine_x cosine_x pi/2
quarter_c = cosine_x (rat pi/2 ⊖ rv 0) ⊖ sine_x (rv 0)

half_s : Rx
unfolding sine_x pi
half_s = sine_x (rat pi ⊖ rv 0) ⊖ sine_x (rv 0)

half_c : Rx
unfolding cosine_x pi
half_c = cosine_x (rat pi ⊖ rv 0) ⊕ cosine_x (rv 0)

quarter-tests : (v : ℚ) → T (leb (bnd_r v v_top quarter_s) (2 ^ 203) && leb (bnd_r v v_top quarter_c) (2 ^ 203))
unfolding bnd_r quarter_s quarter_c
quarter-tests v = tt

half-tests : (v : ℚ) → T (leb (bnd_r v w_top half_s) (2 ^ 207) && leb (bnd_r v w_top half_c) (2 ^ 207))
unfolding bnd_r half_s half_c
half-tests v = tt

quarter-sine : (v : ℚ) → Abs v v_top → Abs (sine_sum41 (mk pi/2 -q v) -q cosine_sum42 v) (2 ^ 203)
unfolding quarter_s
quarter-sine v h =
    abs-eq (ev_r (v ∷ []) quarter_s) (sine_sum41 (mk pi/2 -q v) -q cosine_sum42 v) (2 ^ 203)
    (ap₂ ◌-q◌ (sine_x-ok (v ∷ []) (rat pi/2 ⊖ rv 0)) (cosine_x-ok (v ∷ []) (rv 0)))
    (bounded quarter_s v_top (2 ^ 203) v (both (leb (bnd_r v v_top quarter_s) (2 ^ 203)) (leb (bnd_r v v_top quarter_c) (2 ^ 203)) (quarter-tests v)).0 h)

quarter-cosine : (v : ℚ) → Abs v v_top → Abs (cosine_sum42 (mk pi/2 -q v) -q sine_sum41 v) (2 ^ 203)
unfolding quarter_c
quarter-cosine v h =
    abs-eq (ev_r (v ∷ []) quarter_c) (cosine_sum42 (mk pi/2 -q v) -q sine_sum41 v) (2 ^ 203)
    (ap₂ ◌-q◌ (cosine_x-ok (v ∷ []) (rat pi/2 ⊖ rv 0)) (sine_x-ok (v ∷ []) (rv 0)))
    (bounded quarter_c v_top (2 ^ 203) v (both (leb (bnd_r v v_top quarter_s) (2 ^ 203)) (leb (bnd_r v v_top quarter_c) (2 ^ 203)) (quarter-tests v)).1 h)

half-sine : (v : ℚ) → Abs v w_top → Abs (sine_sum41 (mk pi -q v) -q sine_sum41 v) (2 ^ 207)
unfolding half_s
half-sine v h =
    abs-eq (ev_r (v ∷ []) half_s) (sine_sum41 (mk pi -q v) -q sine_sum41 v) (2 ^ 207)
    (ap₂ ◌-q◌ (sine_x-ok (v ∷ []) (rat pi ⊖ rv 0)) (sine_x-ok (v ∷ []) (rv 0)))
    (bounded half_s w_top (2 ^ 207) v (both (leb (bnd_r v w_top half_s) (2 ^ 207)) (leb (bnd_r v w_top half_c) (2 ^ 207)) (half-tests v)).0 h)

half-cosine : (v : ℚ) → Abs v w_top → Abs (cosine_sum42 (mk pi -q v) +q cosine_sum42 v) (2 ^ 207)
unfolding half_c
half-cosine v h =
    abs-eq (ev_r (v ∷ []) half_c) (cosine_sum42 (mk pi -q v) +q cosine_sum42 v) (2 ^ 207)
    (ap₂ ◌+q◌ (cosine_x-ok (v ∷ []) (rat pi ⊖ rv 0)) (cosine_x-ok (v ∷ []) (rv 0)))
    (bounded half_c w_top (2 ^ 207) v (both (leb (bnd_r v w_top half_s) (2 ^ 207)) (leb (bnd_r v w_top half_c) (2 ^ 207)) (half-tests v)).1 h)

-- ---- the differences in doubles
quarter_e : Fx
unfolding pi/2
quarter_e = fc (div binary64 PI (ratio 2 1)) pi/2 -f fv 0

half_e : Fx
unfolding pi
half_e = fc PI pi -f fv 0

quarter-test : T (closes quarter_e v_top w_top (2 ^ 205))
unfolding closes quarter_e div of_bits round
quarter-test = tt

half-test : T (closes half_e w_top u_top (3 * 2 ^ 204))
unfolding closes half_e of_bits
half-test = tt

quarter-float : (v : Float) → T (finite v) → Abs (val v) v_top → Close w_top (2 ^ 205) (mk pi/2 -q val v) (sub binary64 (div binary64 PI (ratio 2 1)) v)
unfolding quarter_e
quarter-float v f h = computed quarter_e v_top w_top (2 ^ 205) quarter-test v f h

half-float : (v : Float) → T (finite v) → Abs (val v) w_top → Close u_top (3 * 2 ^ 204) (mk pi -q val v) (sub binary64 PI v)
unfolding half_e
half-float v f h = computed half_e w_top u_top (3 * 2 ^ 204) half-test v f h

-- ---- together
pub record Quarter (v w : Float) : Type 0 where
  pub fine : T (finite w)
  pub size : Abs (val w) w_top
  pub sine : Abs (sine_sum41 (val w) -q cosine_sum42 (val v)) (2 ^ 208)
  pub cosine : Abs (cosine_sum42 (val w) -q sine_sum41 (val v)) (2 ^ 208)

pub record Halved (v w : Float) : Type 0 where
  pub fine : T (finite w)
  pub size : Abs (val w) u_top
  pub sine : Abs (sine_sum41 (val w) -q sine_sum41 (val v)) (2 ^ 213)
  pub cosine : Abs (cosine_sum42 (val w) +q cosine_sum42 (val v)) (2 ^ 213)

through : (a b c : ℚ) (M N K : ℕ) → T (leb (M + N) K) → Abs (a -q b) M → Abs (b -q c) N → Abs (a -q c) K
unfolding same_q
through a b c M N K t h k =
    abs-mono (a -q c) (M + N) K (leb→le (M + N) K t) (abs-eq ((a -q b) +q (b -q c)) (a -q c) (M + N)
    (ring_q (a ∷ b ∷ c ∷ []) ((rv 0 ⊖ rv 1) ⊕ (rv 1 ⊖ rv 2)) (rv 0 ⊖ rv 2) tt) (abs-add (a -q b) (b -q c) M N h k))

through-sum : (a b c : ℚ) (M N K : ℕ) → T (leb (M + N) K) → Abs (a -q b) M → Abs (b +q c) N → Abs (a +q c) K
unfolding same_q
through-sum a b c M N K t h k =
    abs-mono (a +q c) (M + N) K (leb→le (M + N) K t) (abs-eq ((a -q b) +q (b +q c)) (a +q c) (M + N)
    (ring_q (a ∷ b ∷ c ∷ []) ((rv 0 ⊖ rv 1) ⊕ (rv 1 ⊕ rv 2)) (rv 0 ⊕ rv 2) tt) (abs-add (a -q b) (b +q c) M N h k))

quarter-grows : T (sine_grows (2 ^ 205) w_top (15 * 2 ^ 204) && cosine_grows (2 ^ 205) w_top (15 * 2 ^ 204))
unfolding sine_grows cosine_grows
quarter-grows = tt

half-grows : T (sine_grows (3 * 2 ^ 204) u_top (504 * 2 ^ 204) && cosine_grows (3 * 2 ^ 204) u_top (504 * 2 ^ 204))
unfolding sine_grows cosine_grows
half-grows = tt

pub quarter-turn : (v : Float) → T (finite v) → Abs (val v) v_top → Quarter v (sub binary64 (div binary64 PI (ratio 2 1)) v)
quarter-turn v f h =
    let w = sub binary64 (div binary64 PI (ratio 2 1)) v in let d = mk pi/2 -q val v in
    let c = quarter-float v f h in let N = 15 * 2 ^ 204 in
    let g = both (sine_grows (2 ^ 205) w_top N) (cosine_grows (2 ^ 205) w_top N) quarter-grows in
    record {
      fine = c.fine;
      size = c.size;
      sine = through (sine_sum41 (val w)) (sine_sum41 d) (cosine_sum42 (val v)) N (2 ^ 203) (2 ^ 208) tt
          (sine-grows (2 ^ 205) w_top N g.0 (val w) d c.size c.exact-size c.near) (quarter-sine (val v) h);
      cosine = through (cosine_sum42 (val w)) (cosine_sum42 d) (sine_sum41 (val v)) N (2 ^ 203) (2 ^ 208) tt
          (cosine-grows (2 ^ 205) w_top N g.1 (val w) d c.size c.exact-size c.near) (quarter-cosine (val v) h);
    }

pub half-turn : (v : Float) → T (finite v) → Abs (val v) w_top → Halved v (sub binary64 PI v)
half-turn v f h =
    let w = sub binary64 PI v in let d = mk pi -q val v in let c = half-float v f h in
    let D = 3 * 2 ^ 204 in let N = 504 * 2 ^ 204 in
    let g = both (sine_grows D u_top N) (cosine_grows D u_top N) half-grows in
    record {
      fine = c.fine;
      size = c.size;
      sine = through (sine_sum41 (val w)) (sine_sum41 d) (sine_sum41 (val v)) N (2 ^ 207) (2 ^ 213) tt
          (sine-grows D u_top N g.0 (val w) d c.size c.exact-size c.near) (half-sine (val v) h);
      cosine = through-sum (cosine_sum42 (val w)) (cosine_sum42 d) (cosine_sum42 (val v)) N (2 ^ 207) (2 ^ 213) tt
          (cosine-grows D u_top N g.1 (val w) d c.size c.exact-size c.near) (half-cosine (val v) h);
    }
