-- From a computed test to the bounds that it stands for: of a polynomial in one variable, and of a computation in doubles from one double.
use Rattle.std.specs.Prelude.{[], ◌∷◌, Bool, true, false, ◌&&◌, ℕ, ◌+◌, T, leb, Float}
use Rattle.std.proofs.Common.{le_trans, le-add_right, leb→le}
use Rattle.std.specs.Float.Ieee.Scale.{finite}
use Rattle.exact.specs.Rat.{ℚ, ◌-q◌}
use Rattle.exact.specs.RingQ.{Rx, ev_r, bnd_r, bnd_r-ok}
use Rattle.exact.specs.Abs.{Abs, abs-mono}
use Rattle.exact.specs.Val.{val}
use Rattle.exact.specs.Check.{Fx, run, exact, mag, err, ok, chk, sound, own, free, known}
use Rattle.exact.specs.Given.{given}

pub both : (a b : Bool) → T (a && b) → T a × T b
both true true t = (tt, tt)
both true false t = absurd t
both false b t = absurd t

-- the value of the polynomial e at v is at most N, for |v| ≤ X
pub bounded : (e : Rx) (X N : ℕ) (v : ℚ) → T (leb (bnd_r v X e) N) → Abs v X → Abs (ev_r (v ∷ []) e) N
bounded e X N v t h = abs-mono (ev_r (v ∷ []) e) (bnd_r v X e) N (leb→le (bnd_r v X e) N t) (bnd_r-ok v X h e)

-- the double f is finite, f and the exact x are at most W, and they differ by at most D
pub record Close (W D : ℕ) (x : ℚ) (f : Float) : Type 0 where
  pub fine : T (finite f)
  pub size : Abs (val f) W
  pub exact-size : Abs x W
  pub near : Abs (val f -q x) D

-- e at a double of at most M
unfoldable pub closes : Fx → ℕ → ℕ → ℕ → Bool
unfolding chk free
closes e M W D = let b = chk ((M, 0) ∷ []) e in (free e && ok b) && (leb (mag b + err b) W && leb (err b) D)

pub computed : (e : Fx) (M W D : ℕ) → T (closes e M W D) → (f : Float) → T (finite f) → Abs (val f) M → Close W D (exact (val f ∷ []) e) (run (f ∷ []) e)
unfolding closes
computed e M W D t f p h =
    let b = chk ((M, 0) ∷ []) e in
    let t₁ = both (free e && ok b) (leb (mag b + err b) W && leb (err b) D) t in
    let t₂ = both (free e) (ok b) t₁.0 in
    let t₃ = both (leb (mag b + err b) W) (leb (err b) D) t₁.1 in
    let l = leb→le (mag b + err b) W t₃.0 in let x = exact (val f ∷ []) e in
    let r = sound (f ∷ []) (val f ∷ []) ((M, 0) ∷ []) (given f M (p, h), tt) e (known (val f ∷ []) e t₂.0) t₂.1 in
    record {
      fine = r.0;
      size = abs-mono (val (run (f ∷ []) e)) (mag b + err b) W l (own (val (run (f ∷ []) e)) x (mag b) (err b) r.1 r.2);
      exact-size = abs-mono x (mag b) W (le_trans (le-add_right (mag b) (err b)) l) r.1;
      near = abs-mono (val (run (f ∷ []) e) -q x) (err b) D (leb→le (err b) D t₃.1) r.2;
    }
