-- From the octant to the whole turn: `Seen` after the quarter turn, the half turn and the change of the angle's sign.
use Rattle.std.specs.Prelude.{◌≡◌, List, [], ◌∷◌, Bool, ◌&&◌, ℕ, ◌+◌, ◌^◌, ◌≤◌, T, Float}
use Rattle.std.proofs.Common.{sym, ap, ap₂, ◌∙◌, subst}
use Rattle.std.specs.Float.{binary64}
use Rattle.std.specs.Float.Ieee.{neg, sub, div}
use Rattle.std.specs.Float.Ieee.Scale.{finite}
use Rattle.exact.specs.Rat.{ℚ, ◌+q◌, ◌-q◌, ◌*q◌, negq, +q-comm, 0≤-add, ≤q-sub, sub-≤q, ≤q-trans}
use Rattle.exact.specs.Ring.{var, ◌:+◌, ◌:-◌, ◌:*◌, ng, same, ring}
use Rattle.exact.specs.RingQ.{Rx, rv, ◌⊕◌, ◌⊖◌, ◌⊗◌}
use Rattle.exact.specs.Cert.{bounds, bound}
use Rattle.exact.specs.Abs.{iv, 0≤, Abs, abs-eq, abs-mono, abs_neg, iv-le, iv-add}
use Rattle.exact.specs.Val.{val, neg-val, neg-finite}
use Rattle.arith.specs.Real.{ratio}
use Rattle.arith.specs.Angle.{PI}
use Rattle.arith.specs.ExactSums.{sine_sum41, cosine_sum42}
use Rattle.arith.specs.Laws.AtanTests.{both}
use Rattle.arith.specs.Laws.AtanSums.{sine-minus, cosine-minus}
use Rattle.arith.specs.Laws.AtanTurn.{v_top, w_top, u_top, quarter-turn, half-turn}
use Rattle.arith.specs.Laws.AtanOctant.{Seen}

-- ---- weaker bounds
ahead-less : (z : ℚ) (G G' : ℕ) → G' ≤ G → 0≤ (z -q iv G) → 0≤ (z -q iv G')
ahead-less z G G' l h = ≤q-sub (iv G') z (≤q-trans (iv G') (iv G) z (iv-le G' G l) (sub-≤q (iv G) z h))

pub seen-less : (E G B E' G' B' : ℕ) (X Y : ℚ) (v : Float) → E ≤ E' → G' ≤ G → B ≤ B' → Seen E G B X Y v → Seen E' G' B' X Y v
seen-less E G B E' G' B' X Y v e g b s =
    let S = sine_sum41 (val v) in let C = cosine_sum42 (val v) in
    record {
      fine = s.fine;
      size = abs-mono (val v) B B' b s.size;
      off = abs-mono (Y *q C -q X *q S) E E' e s.off;
      ahead = ahead-less (X *q C +q Y *q S) G G' g s.ahead;
    }

-- ---- a turn to the angle w, whose sums are near c and s: (P, Q) lies to c and s as the point lay to the sums before the turn
turn_e : Rx
turn_e = rv 0 ⊗ rv 1 ⊖ rv 2 ⊗ rv 3 ⊕ rv 4

turnβ : ℕ → ℕ → List ℕ
turnβ D E = 2 ^ 256 ∷ D ∷ 2 ^ 256 ∷ D ∷ E ∷ []

ahead_e : Rx
ahead_e = rv 0 ⊗ rv 1 ⊕ rv 2 ⊗ rv 3

aheadβ : ℕ → List ℕ
aheadβ D = 2 ^ 256 ∷ D ∷ 2 ^ 256 ∷ D ∷ []

turn_ok : ℕ → ℕ → ℕ → ℕ → Bool
unfolding turn_e turnβ ahead_e aheadβ
turn_ok D E E' G = bounds (turnβ D E) turn_e E' && bounds (aheadβ D) ahead_e G

-- ahead by 2 G, of which at most G is lost
still-ahead : (G : ℕ) (m d : ℚ) → 0≤ (m -q iv (G + G)) → Abs d G → 0≤ (m +q d -q iv G)
unfolding same
still-ahead G m d h k =
    let e = ring (m ∷ d ∷ iv G ∷ []) (var 0 :- (var 2 :+ var 2) :+ (var 2 :+ var 1)) (var 0 :+ var 1 :- var 2) tt in
    subst 0≤ (ap (λ z. m -q z +q (iv G +q d)) (iv-add G G) ∙ e) (0≤-add (m -q iv (G + G)) (iv G +q d) h k.1)

seen_turned : (D E E' G B : ℕ) → T (turn_ok D E E' G) → (P Q c s : ℚ) (w : Float) → T (finite w) → Abs (val w) B
    → Abs P (2 ^ 256) → Abs Q (2 ^ 256) → Abs (cosine_sum42 (val w) -q c) D → Abs (sine_sum41 (val w) -q s) D
    → Abs (Q *q c -q P *q s) E → 0≤ (P *q c +q Q *q s -q iv (G + G)) → Seen E' G B P Q w
unfolding same turn_ok
seen_turned D E E' G B t P Q c s w fine size h_p h_q hc hs off ahead =
    let u = both (bounds (turnβ D E) turn_e E') (bounds (aheadβ D) ahead_e G) t in
    let C = cosine_sum42 (val w) in let S = sine_sum41 (val w) in
    let ρ = P ∷ Q ∷ c ∷ s ∷ C ∷ S ∷ [] in let dc = var 4 :- var 2 in let ds = var 5 :- var 3 in
    record {
      fine = fine;
      size = size;
      off = abs-eq _ (Q *q C -q P *q S) E'
          (ring ρ (var 1 :* dc :- var 0 :* ds :+ (var 1 :* var 2 :- var 0 :* var 3)) (var 1 :* var 4 :- var 0 :* var 5) tt)
          (bound (Q ∷ (C -q c) ∷ P ∷ (S -q s) ∷ (Q *q c -q P *q s) ∷ []) (turnβ D E) (h_q, (hc, (h_p, (hs, (off, tt))))) turn_e E' u.0);
      ahead = subst (λ z. 0≤ (z -q iv G))
          (ring ρ (var 0 :* var 2 :+ var 1 :* var 3 :+ (var 0 :* dc :+ var 1 :* ds)) (var 0 :* var 4 :+ var 1 :* var 5) tt)
          (still-ahead G (P *q c +q Q *q s) _ ahead
          (bound (P ∷ (C -q c) ∷ Q ∷ (S -q s) ∷ []) (aheadβ D) (h_p, (hc, (h_q, (hs, tt)))) ahead_e G u.1));
    }

-- X and Y change places: the new sine is near C, and the new cosine near S
quarter-test : T (turn_ok (2 ^ 208) (2 ^ 211) (2 ^ 212) (2 ^ 253))
unfolding turn_ok bounds
quarter-test = tt

pub seen-quarter : (X Y : ℚ) (v : Float) → Abs X (2 ^ 256) → Abs Y (2 ^ 256) → Seen (2 ^ 211) (2 ^ 254) v_top X Y v
    → Seen (2 ^ 212) (2 ^ 253) w_top Y X (sub binary64 (div binary64 PI (ratio 2 1)) v)
unfolding same
seen-quarter X Y v h_x h_y s =
    let q = quarter-turn v s.fine s.size in let S = sine_sum41 (val v) in
    let C = cosine_sum42 (val v) in
    let off = ring (X ∷ Y ∷ S ∷ C ∷ []) (ng (var 1 :* var 3 :- var 0 :* var 2)) (var 0 :* var 2 :- var 1 :* var 3) tt in
    seen_turned (2 ^ 208) (2 ^ 211) (2 ^ 212) (2 ^ 253) w_top quarter-test Y X S C _ q.fine q.size h_y h_x q.cosine q.sine
    (abs-eq (negq (Y *q C -q X *q S)) (X *q S -q Y *q C) (2 ^ 211) off (abs_neg (Y *q C -q X *q S) (2 ^ 211) s.off))
    (subst (λ z. 0≤ (z -q iv (2 ^ 254))) (+q-comm (X *q C) (Y *q S)) s.ahead)

-- X changes its sign: the new sine is near S, and the new cosine near -C
half-test : T (turn_ok (2 ^ 213) (2 ^ 212) (2 ^ 215) (2 ^ 252))
unfolding turn_ok bounds
half-test = tt

pub seen-half : (X Y : ℚ) (v : Float) → Abs X (2 ^ 256) → Abs Y (2 ^ 256)
    → Seen (2 ^ 212) (2 ^ 253) w_top X Y v → Seen (2 ^ 215) (2 ^ 252) u_top (negq X) Y (sub binary64 PI v)
unfolding same
seen-half X Y v h_x h_y s =
    let q = half-turn v s.fine s.size in let S = sine_sum41 (val v) in
    let C = cosine_sum42 (val v) in let C' = cosine_sum42 (val (sub binary64 PI v)) in
    let ρ = X ∷ Y ∷ S ∷ C ∷ C' ∷ [] in
    let cosine = ring ρ (var 4 :+ var 3) (var 4 :- ng (var 3)) tt in
    let off = ring ρ (ng (var 1 :* var 3 :- var 0 :* var 2)) (var 1 :* ng (var 3) :- ng (var 0) :* var 2) tt in
    let ahead = ring ρ (var 0 :* var 3 :+ var 1 :* var 2) (ng (var 0) :* ng (var 3) :+ var 1 :* var 2) tt in
    seen_turned (2 ^ 213) (2 ^ 212) (2 ^ 215) (2 ^ 252) u_top half-test (negq X) Y (negq C) S _ q.fine q.size
    (abs_neg X (2 ^ 256) h_x) h_y (abs-eq (C' +q C) (C' -q negq C) (2 ^ 213) cosine q.cosine) q.sine
    (abs-eq (negq (Y *q C -q X *q S)) _ (2 ^ 212) off (abs_neg (Y *q C -q X *q S) (2 ^ 212) s.off))
    (subst (λ z. 0≤ (z -q iv (2 ^ 253))) ahead s.ahead)

-- Y and the angle change their sign
minus-off : (X Y S C : ℚ) → negq (Y *q C -q X *q S) ≡ negq Y *q C -q X *q negq S
unfolding same
minus-off X Y S C = ring (X ∷ Y ∷ S ∷ C ∷ []) (ng (var 1 :* var 3 :- var 0 :* var 2)) (ng (var 1) :* var 3 :- var 0 :* ng (var 2)) tt

minus-sum : (X Y S C : ℚ) → X *q C +q Y *q S ≡ X *q C +q negq Y *q negq S
unfolding same
minus-sum X Y S C = ring (X ∷ Y ∷ S ∷ C ∷ []) (var 0 :* var 3 :+ var 1 :* var 2) (var 0 :* var 3 :+ ng (var 1) :* ng (var 2)) tt

pub seen-minus : (E G B : ℕ) (X Y : ℚ) (v : Float) → Seen E G B X Y v → Seen E G B X (negq Y) (neg v)
seen-minus E G B X Y v s =
    let S = sine_sum41 (val v) in let C = cosine_sum42 (val v) in let e = neg-val v in
    let e_s : sine_sum41 (val (neg v)) ≡ negq S = ap sine_sum41 e ∙ sine-minus (val v) in
    let e_c : cosine_sum42 (val (neg v)) ≡ C = ap cosine_sum42 e ∙ cosine-minus (val v) in
    record {
      fine = neg-finite v s.fine;
      size = abs-eq (negq (val v)) (val (neg v)) B (sym e) (abs_neg (val v) B s.size);
      off = abs-eq (negq (Y *q C -q X *q S)) (negq Y *q cosine_sum42 (val (neg v)) -q X *q sine_sum41 (val (neg v))) E
          (minus-off X Y S C ∙ ap₂ (λ c d. negq Y *q c -q X *q d) (sym e_c) (sym e_s)) (abs_neg (Y *q C -q X *q S) E s.off);
      ahead = subst (λ z. 0≤ (z -q iv G)) (minus-sum X Y S C ∙ ap₂ (λ c d. X *q c +q negq Y *q d) (sym e_c) (sym e_s)) s.ahead;
    }
