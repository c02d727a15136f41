-- Laws of loops: a ceiling on what they count, and from an answer back to the turn that gave it.
use Prim.Native.Nat.{ℕ, zero, suc, ◌+◌, ◌*◌, ◌≤◌}
use Rattle.std.proofs.Math.Path.{◌≡◌, refl}
use Rattle.std.proofs.Common.{◌∙◌}
use Rattle.std.specs.Prelude.{Bool}
use Rattle.std.proofs.Math.Bool.{true, false}
use native.Mathlib.Omega.{arith}
use Rattle.arith.specs.Flow.{Turn, go, stop}
use Rattle.arith.specs.Run.{Run, try, tick, fail_if, leave_if, onward, ◌>>=◌, next, up_to}

-- a loop answered b: one of its turns did, and what every turn keeps held before it
module _ {A B E : Type 0} (pass : A → Run (Turn A B) E)
    (P : A → Type 0) (keeps : (a b : A) → P a → (pass a).ends ≡ go (go b) → P b) where
  pub record LeftWith (b : B) : Type 0 where
    pub before : A
    pub holds : P before
    pub is : (pass before).ends ≡ go (stop b)

  pub left : (k : ℕ) (e : E) (a : A) (b : B) → P a → (up_to k e pass a).ends ≡ go b → LeftWith b
  unfolding up_to ◌>>=◌
  left zero e a b p h = absurd (let z : ◌≡◌ {A = ℕ} 0 1 = cc in omega arith)
  left (suc k) e a b p h = by (pass a).ends refl (λ x q. left k e x b q) h
    where
      by : (t : Turn (Turn A B) E) → (pass a).ends ≡ t → ((x : A) → P x → (up_to k e pass x).ends ≡ go b → LeftWith b)
          → (onward (next (up_to k e pass)) t).ends ≡ go b → LeftWith b
      by (go (go x)) q ih g = ih x (keeps a x p q) g
      by (go (stop x)) q ih g = record { before = a; holds = p; is = q ∙ cc }
      by (stop x) q ih g = absurd (let z : ◌≡◌ {A = ℕ} 0 1 = cc in omega arith)

-- ---- how many linear passes a run counts at most, link by link
pub record AtMost {A E : Type 0} (m : ℕ) (r : Run A E) : Type 0 where
  pub most : r.linear ≤ m

module _ {A B E : Type 0} {m : ℕ} where
  -- a call that counts
  pub most-call : {a b : ℕ} (r : Run A E) (f : A → Run B E) → AtMost a r → ((x : A) → AtMost b (f x)) → a + b ≤ m → AtMost m (r >>= f)
  unfolding ◌>>=◌
  most-call {a} {b} r f h g l = record { most = by r.ends }
    where
      by : (t : Turn A E) → r.linear + (onward f t).linear ≤ m
      by (go x) = omega (arith, h.most, (g x).most)
      by (stop e) = omega (arith, h.most)

  -- a call that counts nothing
  pub most-try : (r : Turn A E) (f : A → Run B E) → ((x : A) → AtMost m (f x)) → AtMost m (try r >>= f)
  most-try r f h = most-call {a = 0} {b = m} (try r) f (record { most = omega arith }) h (omega arith)

module _ {A E : Type 0} {m : ℕ} where
  pub most-none : (r : Turn A E) → AtMost m (try r)
  most-none r = record { most = omega arith }

  pub most-tick : (f : Unit {0} → Run A E) → AtMost m (f tt) → AtMost (suc m) (tick >>= f)
  unfolding ◌>>=◌
  most-tick f h = record { most = omega (arith, h.most) }

  pub most-if : (test : Bool) (e : E) (f : Unit {0} → Run A E) → AtMost m (f tt) → AtMost m (fail_if test e >>= f)
  unfolding ◌>>=◌ fail_if
  most-if true e f h = record { most = omega arith }
  most-if false e f h = record { most = omega (arith, h.most) }

module _ {A B E : Type 0} {m : ℕ} where
  pub most-leave : (test : Bool) (b : B) (rest : Run (Turn A B) E) → AtMost m rest → AtMost m (leave_if test b rest)
  unfolding leave_if
  most-leave true b rest h = record { most = omega arith }
  most-leave false b rest h = h

  pub most-loop : (pass : A → Run (Turn A B) E) → ((a : A) → AtMost m (pass a)) → (k : ℕ) (e : E) (a : A)
      → AtMost (k * m) (up_to k e pass a)
  unfolding up_to ◌>>=◌
  most-loop pass h zero e a = record { most = omega arith }
  most-loop pass h (suc k) e a = record { most = by (pass a).ends (λ b. (most-loop pass h k e b).most) }
    where
      by : (t : Turn (Turn A B) E) → ((b : A) → (up_to k e pass b).linear ≤ k * m)
          → (pass a).linear + (onward (next (up_to k e pass)) t).linear ≤ suc k * m
      by (go (go b)) ih = omega (arith, (h a).most, ih b)
      by (go (stop b)) ih = omega (arith, (h a).most)
      by (stop f) ih = omega (arith, (h a).most)
