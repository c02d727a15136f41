-- Lengths by nested hypotenuses: the square of the result is near the sum of the squares.
use Rattle.std.specs.Prelude.{◌≡◌, refl, List, [], ◌∷◌, Bool, true, false, not, cond, ◌&&◌, ℕ, ◌+◌, ◌-◌, ◌^◌, T, leb, Float}
use Rattle.std.proofs.Common.{sym, subst, leb→le}
use Rattle.std.specs.Float.Ieee as Ieee
use Rattle.std.specs.Float.{inf, binary64}
use Rattle.std.specs.Float.Ieee.{fits}
use Rattle.std.specs.Float.Ieee.Fits.{mul-fits, round-fits, inf-fits, cond-fits, and_l, and_r}
use Rattle.std.specs.Float.Ieee.Scale.{finite}
use Rattle.exact.specs.Rat.{ℚ, mk, qn, leq, ◌+q◌, ◌-q◌, ◌*q◌, ◌≤q◌, ≤q-sub, sub-≤q, ≤q-total, cancel-nn}
use Rattle.exact.specs.Abs.{U, iv, iv_f, iv-nn, 0≤, Abs, abs-eq, abs-mono, abs-add, positive}
use Rattle.exact.specs.RingQ.{Rx, rv, rat, ◌⊕◌, ◌⊖◌, ◌⊗◌, same_q, ring_q}
use Rattle.exact.specs.Cert.{nat, comb, den, by-nn, Nns, hyp, sqr, num, ◌⊞◌, ◌⊠◌}
use Rattle.exact.specs.Val.{val}
use Rattle.exact.specs.Relative.{Near, near-mono, tiny}
use Rattle.exact.specs.Hypot.{hyp-fits}
use Rattle.arith.specs.Real.{is_finite, abs_of, max_of, ratio, ◌⊕◌ as ◌+f◌, ◌⊗◌ as ◌*f◌, ◌⊘◌ as ◌/f◌}
use Rattle.arith.specs.Root.{sqrt}
use Rattle.arith.specs.Hypot.{scaled_root, hypot_of}
use Rattle.arith.specs.Laws.HypotError.{hypot-within, hypot_err, hypot-near}
use Rattle.arith.specs.Laws.Magnitude.{abs-square, abs-abs}
use Rattle.vectors.specs.declared.vector.Vec3.{Vec3}
use Rattle.vectors.specs.Vector.{length_of}
use Rattle.vectors.specs.Laws.Tests.{max-keeps}

-- ---- h² ≤ B² gives |h| ≤ B
pub root-le : (h : ℚ) (B : ℕ) → T (leb 1 B) → 0≤ h → 0≤ (iv B *q iv B -q h *q h) → Abs h B
unfolding same_q den comb
root-le h B b p s =
    let ρ : List ℚ = h ∷ iv B ∷ [] in
    let k : 0≤ (iv B +q h -q iv B) = by-nn ρ [] tt (rv 0 ∷ []) (p, tt) [] (hyp 0) (rv 1 ⊕ rv 0 ⊖ rv 1) tt in
    let H : List Rx = (rv 1 ⊗ rv 1 ⊖ rv 0 ⊗ rv 0) ∷ [] in
    let l = cancel-nn (iv B +q h) (iv B -q h) (positive (iv B +q h) B (leb→le 1 B b) (sub-≤q (iv B) (iv B +q h) k))
    (by-nn ρ [] tt H (s, tt) [] (hyp 0) ((rv 1 ⊕ rv 0) ⊗ (rv 1 ⊖ rv 0)) tt) in
    (l, by-nn ρ [] tt (rv 0 ∷ (rv 1 ⊖ rv 0) ∷ []) (p, (l, tt)) [] (hyp 0 ⊞ hyp 0 ⊞ hyp 1) (rv 1 ⊕ rv 0) tt)

pub root-abs : (h : ℚ) (B : ℕ) → T (leb 1 B) → 0≤ (iv B *q iv B -q h *q h) → Abs h B
unfolding same_q den comb
root-abs h B b s = go (leq (qn 0) h) refl
  where
    go : (c : Bool) → leq (qn 0) h ≡ c → Abs h B
    go true e = root-le h B b (subst T (sym e) tt) s
    go false e =
        let n = ≤q-sub h (qn 0) (≤q-total (qn 0) h (subst (λ c. T (not c)) (sym e) tt)) in
        let H : List Rx = (rv 1 ⊗ rv 1 ⊖ rv 0 ⊗ rv 0) ∷ [] in
        let k = root-le (qn 0 -q h) B b n (by-nn (h ∷ iv B ∷ []) [] tt H (s, tt) [] (hyp 0) (rv 1 ⊗ rv 1 ⊖ (nat 0 ⊖ rv 0) ⊗ (nat 0 ⊖ rv 0)) tt) in
        let K : List Rx = (rv 1 ⊖ (nat 0 ⊖ rv 0)) ∷ (rv 1 ⊕ (nat 0 ⊖ rv 0)) ∷ [] in
        let κ : Nns (h ∷ iv B ∷ []) K = (k.0, (k.1, tt)) in
        (by-nn (h ∷ iv B ∷ []) [] tt K κ [] (hyp 1) (rv 1 ⊖ rv 0) tt, by-nn (h ∷ iv B ∷ []) [] tt K κ [] (hyp 0) (rv 1 ⊕ rv 0) tt)

-- ---- one more side
-- P² + Q² + N ≤ B²
unfoldable pub tops : ℕ → ℕ → ℕ → ℕ → Bool
tops P Q N B = leq (qn 0) (iv B *q iv B -q (iv P *q iv P +q iv Q *q iv Q +q iv N))

-- the numbers of one hypotenuse: of a side of at most P with one of at most Q, both at most A, the square is within N and the result at most B
unfoldable pub sides : ℕ → ℕ → ℕ → ℕ → ℕ → Bool
unfolding tops
sides P Q A N B = hyp-fits A N && (leb P A && (leb Q A && (leb 1 B && tops P Q N B)))

-- p is a double of at most P, and its square is within e of s
pub record Side (p : Float) (s : ℚ) (e P : ℕ) : Type 0 where
  pub fit : T (fits binary64 p)
  pub fine : T (finite p)
  pub top : Abs (val p) P
  pub near : Abs (val p *q val p -q s) e

pub side : (p : Float) (P : ℕ) → T (fits binary64 p) → T (finite p) → Abs (val p) P → Side p (val p *q val p) 0 P
unfolding same_q den comb
side p P f g h =
    let z : (x : ℚ) → 0≤ (iv 0 -q (x -q x)) = λ x. by-nn (x ∷ iv 0 ∷ []) [] tt (rv 1 ∷ []) (iv-nn 0, tt) [] (hyp 0) (rv 1 ⊖ (rv 0 ⊖ rv 0)) tt in
    let y : (x : ℚ) → 0≤ (iv 0 +q (x -q x)) = λ x. by-nn (x ∷ iv 0 ∷ []) [] tt (rv 1 ∷ []) (iv-nn 0, tt) [] (hyp 0) (rv 1 ⊕ (rv 0 ⊖ rv 0)) tt in
    record { fit = f; fine = g; top = h; near = (z (val p *q val p), y (val p *q val p)) }

hypot-fits : (x y : Float) → T (fits binary64 (hypot_of x y))
unfolding hypot_of scaled_root
hypot-fits x y =
    cond-fits binary64 (is_finite x && is_finite y)
    (cond (Ieee.lt (abs_of x) (abs_of y)) (scaled_root (abs_of y) (abs_of x)) (scaled_root (abs_of x) (abs_of y))) (inf false)
    (cond-fits binary64 (Ieee.lt (abs_of x) (abs_of y)) (scaled_root (abs_of y) (abs_of x)) (scaled_root (abs_of x) (abs_of y))
    (part (abs_of y) (abs_of x)) (part (abs_of x) (abs_of y))) (inf-fits binary64 false)
  where
    part : (a b : Float) → T (fits binary64 (scaled_root a b))
    part a b =
        cond-fits binary64 (Ieee.eq a (ratio 0 1)) (ratio 0 1) (a *f sqrt binary64 (ratio 1 1 +f (b /f a) *f (b /f a)))
        (round-fits binary64 false 0 1) (mul-fits binary64 a (sqrt binary64 (ratio 1 1 +f (b /f a) *f (b /f a))))

pub record Long (h : Float) (s : ℚ) (e B : ℕ) : Type 0 where
  pub not_neg : 0≤ (val h)
  pub side : Side h s e B

pub longer : (P Q A N B e : ℕ) → T (sides P Q A N B) → (p q : Float) (s : ℚ) → Side p s e P
    → T (fits binary64 q) → T (finite q) → Abs (val q) Q → Long (hypot_of p q) (s +q val q *q val q) (N + e) B
unfolding sides tops same_q den comb
longer P Q A N B e t p q s S f g k =
    let t₁ = and_r (hyp-fits A N) (leb P A && (leb Q A && (leb 1 B && tops P Q N B))) t in
    let t₂ = and_r (leb P A) (leb Q A && (leb 1 B && tops P Q N B)) t₁ in
    let t₃ = and_r (leb Q A) (leb 1 B && tops P Q N B) t₂ in
    let h = hypot_of p q in
    let H = hypot-within p q S.fit f S.fine g A N (and_l (hyp-fits A N) (leb P A && (leb Q A && (leb 1 B && tops P Q N B))) t)
    (abs-mono (val p) P A (leb→le P A (and_l (leb P A) (leb Q A && (leb 1 B && tops P Q N B)) t₁)) S.top)
    (abs-mono (val q) Q A (leb→le Q A (and_l (leb Q A) (leb 1 B && tops P Q N B) t₂)) k) in
    let ρ : List ℚ = val h ∷ val p ∷ val q ∷ iv P ∷ iv Q ∷ iv N ∷ iv B ∷ s ∷ [] in
    let K : List Rx = (rv 3 ⊖ rv 1) ∷ (rv 3 ⊕ rv 1) ∷ (rv 4 ⊖ rv 2) ∷ (rv 4 ⊕ rv 2)
    ∷ (rv 5 ⊖ (rv 0 ⊗ rv 0 ⊖ (rv 1 ⊗ rv 1 ⊕ rv 2 ⊗ rv 2))) ∷ (rv 6 ⊗ rv 6 ⊖ (rv 3 ⊗ rv 3 ⊕ rv 4 ⊗ rv 4 ⊕ rv 5)) ∷ [] in
    let n : Nns ρ K = (S.top.0, (S.top.1, (k.0, (k.1, (H.near.0, (and_r (leb 1 B) (tops P Q N B) t₃, tt)))))) in
    record {
      not_neg = H.not_neg;
      side = record {
        fit = hypot-fits p q;
        fine = H.fine;
        top = root-le (val h) B (and_l (leb 1 B) (tops P Q N B) t₃) H.not_neg
            (by-nn ρ [] tt K n [] (hyp 0 ⊠ hyp 1 ⊞ hyp 2 ⊠ hyp 3 ⊞ hyp 4 ⊞ hyp 5) (rv 6 ⊗ rv 6 ⊖ rv 0 ⊗ rv 0) tt);
        near = abs-eq ((val h *q val h -q (val p *q val p +q val q *q val q)) +q (val p *q val p -q s)) (val h *q val h -q (s +q val q *q val q)) (N + e)
            (ring_q ρ ((rv 0 ⊗ rv 0 ⊖ (rv 1 ⊗ rv 1 ⊕ rv 2 ⊗ rv 2)) ⊕ (rv 1 ⊗ rv 1 ⊖ rv 7)) (rv 0 ⊗ rv 0 ⊖ (rv 7 ⊕ rv 2 ⊗ rv 2)) tt)
            (abs-add (val h *q val h -q (val p *q val p +q val q *q val q)) (val p *q val p -q s) N e H.near S.near);
      };
    }

-- ---- the same in proportion: h² is within 2 ^ -49 of the sum of the squares, and 2 ^ -256
abbrev pub Close : ℚ → ℚ → Type 0
Close h s = Near (mk (tiny 49) *q s +q iv 1) h s

hypot-part : (s m : ℚ) → 0≤ (s -q m *q m) → Abs m (2 ^ 257) → hypot_err m ≤q mk (tiny 49) *q s +q iv 1
unfolding hypot_err same_q den comb iv U
hypot-part s m h k =
    sub-≤q (hypot_err m) (mk (tiny 49) *q s +q iv 1)
    (by-nn (s ∷ m ∷ []) [] tt ((rv 0 ⊖ rv 1 ⊗ rv 1) ∷ (rat (iv_f (2 ^ 257)) ⊖ rv 1) ∷ []) (h, (k.0, tt)) []
    (num 1 (2 ^ 49 - 1) ⊠ hyp 0 ⊞ num 1 (2 ^ 1073 - 1) ⊠ hyp 1 ⊞ num (2 ^ 816 - 1) (2 ^ 1072 - 1))
    (rat (tiny 49) ⊗ rv 0 ⊕ rat (iv_f 1) ⊖ (rat (tiny 49) ⊗ (rv 1 ⊗ rv 1) ⊕ rat (tiny 1073) ⊗ rv 1)) tt)

pub hypot-close : (x y : Float) → T (fits binary64 x) → T (fits binary64 y) → T (finite x)
    → T (finite y) → T (finite (hypot_of x y)) → Abs (val x) (2 ^ 257) → Abs (val y) (2 ^ 257)
    → Close (val (hypot_of x y) *q val (hypot_of x y)) (val x *q val x +q val y *q val y)
unfolding same_q den comb
hypot-close x y f g p q t hx hy =
    let h = hypot_of x y in
    let s = val x *q val x +q val y *q val y in
    let ρ = val x ∷ val y ∷ [] in
    let sum = rv 0 ⊗ rv 0 ⊕ rv 1 ⊗ rv 1 in
    let P : Float → Type 0 = λ a. 0≤ (s -q val a *q val a) × Abs (val a) (2 ^ 257) in
    let at : (a : Float) → 0≤ (s -q val a *q val a) → Abs (val a) (2 ^ 257) → P (abs_of a) =
    λ a u v. (subst (λ z. 0≤ (s -q z)) (sym (abs-square a)) u, abs-abs a (2 ^ 257) v) in
    let m = max-keeps P (abs_of x) (abs_of y) (at x (by-nn ρ [] tt [] tt [] (sqr (rv 1)) (sum ⊖ rv 0 ⊗ rv 0) tt) hx)
    (at y (by-nn ρ [] tt [] tt [] (sqr (rv 0)) (sum ⊖ rv 1 ⊗ rv 1) tt) hy) in
    let l = val (max_of (abs_of x) (abs_of y)) in
    near-mono (hypot_err l) (mk (tiny 49) *q s +q iv 1) (val h *q val h) s (hypot-part s l m.0 m.1) (hypot-near x y f g p q t)

-- ---- the length of a vector
pub record Fits3 (v : Vec3) : Type 0 where
  pub x_fits : T (fits binary64 v.x)
  pub y-fits : T (fits binary64 v.y)
  pub z-fits : T (fits binary64 v.z)
  pub x-fine : T (finite v.x)
  pub y-fine : T (finite v.y)
  pub z-fine : T (finite v.z)

pub vec-length : (A B C K L : ℕ) → T (sides A A A K B) → T (sides B A B L C)
    → (v : Vec3) → Fits3 v → Abs (val v.x) A → Abs (val v.y) A → Abs (val v.z) A
    → Long (length_of v) (val v.x *q val v.x +q val v.y *q val v.y +q val v.z *q val v.z) (L + (K + 0)) C
vec-length A B C K L s t v F hx hy hz =
    let a = longer A A A K B 0 s v.x v.y (val v.x *q val v.x) (side v.x A F.x_fits F.x-fine hx) F.y-fits F.y-fine hy in
    longer B A B L C (K + 0) t _ v.z _ a.side F.z-fits F.z-fine hz
