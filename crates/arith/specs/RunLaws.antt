-- Laws of `Run`: chains, and the one law that ties a loop of the code to `up_to`.
use Prim.Native.Nat.{ℕ, zero, suc, ◌+◌, ◌≤◌, ◌<◌}
use Rattle.std.specs.Prelude.{◌≡◌, refl, Bool, true, false}
use Rattle.std.proofs.Math.Path.{sym, ap}
use Rattle.std.proofs.Common.{◌∙◌, zero-add, add_assoc, arith}
use Rattle.arith.specs.Flow.{Turn, go, stop}
use Rattle.arith.specs.Run.{Run, ran, after, fail, try, onward, ◌>>=◌, ◌>>◌, tick, fail_if, leave, leave_if, next, up_to}

-- a pass after which the loop is over, as t says: left with b, or failed
abbrev pub over : {A B E : Type 0} → Turn B E → Turn (Turn A B) E
over (go b) = go (stop b)
over (stop e) = stop e

-- equal in its three parts
pub run_is : {A E : Type 0} {t : Turn A E} {n m l k : ℕ} → n ≡ m → l ≡ k → ran t n l ≡ ran t m k
run_is {A} {E} {t} p q = λ i. ran t (p i) (q i)

-- counts add up
pub after_none : {A E : Type 0} (r : Run A E) → after 0 0 r ≡ r
after_none r = λ i. ran r.ends (zero-add r.nonlinear i) (zero-add r.linear i)

pub after-after : {A E : Type 0} (n l m k : ℕ) (r : Run A E) → after (n + m) (l + k) r ≡ after n l (after m k r)
after-after n l m k r = λ i. ran r.ends (add_assoc n m r.nonlinear i) (add_assoc l k r.linear i)

-- ---- links of a chain: the code's answer on the left
module _ {A B E : Type 0} where
  pub then-go : {r : Run A E} {x : A} {n l : ℕ} (f : A → Run B E) → ran (go x) n l ≡ r → after n l (f x) ≡ (r >>= f)
  unfolding ◌>>=◌
  then-go f e = ap (λ (r : Run A E). r >>= f) e

  pub then-stop : {r : Run A E} {x : E} {n l : ℕ} (f : A → Run B E) → ran (stop x) n l ≡ r → ran (stop x) n l ≡ (r >>= f)
  unfolding ◌>>=◌
  then-stop f e = run_is (omega arith) (omega arith) ∙ ap (λ (r : Run A E). r >>= f) e

  -- of what counts nothing
  pub try-go : {r : Turn A E} {x : A} (f : A → Run B E) → go x ≡ r → f x ≡ (try r >>= f)
  unfolding ◌>>=◌
  try-go {r} {x} f e = sym (after_none (f x)) ∙ ap (λ (r : Turn A E). try r >>= f) e

  pub try-stop : {r : Turn A E} {x : E} (f : A → Run B E) → stop x ≡ r → fail x ≡ (try r >>= f)
  unfolding ◌>>=◌
  try-stop f e = ap (λ (r : Turn A E). try r >>= f) e

-- linear_iterations += 1, before the rest
pub ticks : {A E : Type 0} (r : Run A E) → after 0 1 r ≡ (tick >> r)
unfolding ◌>>=◌
ticks r = refl

module _ {A E : Type 0} {test : Bool} (e : E) (f : Unit {0} → Run A E) where
  pub fail-yes : test ≡ true → fail e ≡ (fail_if test e >>= f)
  unfolding ◌>>=◌ fail_if
  fail-yes h = ap (λ (b : Bool). fail_if b e >>= f) (sym h)

  pub fail-no : test ≡ false → f tt ≡ (fail_if test e >>= f)
  unfolding ◌>>=◌ fail_if
  fail-no h = sym (after_none (f tt)) ∙ ap (λ (b : Bool). fail_if b e >>= f) (sym h)

module _ {A B E : Type 0} {test : Bool} (b : B) (rest : Run (Turn A B) E) where
  pub leave-yes : test ≡ true → leave b ≡ leave_if test b rest
  unfolding leave_if
  leave-yes h = ap (λ (test : Bool). leave_if test b rest) (sym h)

  pub leave-no : test ≡ false → rest ≡ leave_if test b rest
  unfolding leave_if
  leave-no h = ap (λ (test : Bool). leave_if test b rest) (sym h)

-- ---- the loop law. Before turn k stands a, after n nonlinear and l linear passes: the loop comes to what is left of it from there
module _ {A B E : Type 0} (most : ℕ) (e : E) (pass : A → Run (Turn A B) E) (start : A) where
  pub record Reached (k : ℕ) (a : A) (n l : ℕ) : Type 0 where
    pub left : ℕ
    pub turns : k + left ≡ most
    pub rest : after n l (up_to left e pass a) ≡ up_to most e pass start

  pub reached-none : Reached 0 start 0 0
  reached-none = record { left = most; turns = zero-add most; rest = after_none (up_to most e pass start) }

  -- all turns were taken
  pub reached-spent : {k n l : ℕ} {a : A} → Reached k a n l → most ≤ k → ran (stop e) n l ≡ up_to most e pass start
  unfolding up_to
  reached-spent {k} {n} {l} {a} r h = spent r.left r.turns r.rest
    where
      spent : (left : ℕ) → k + left ≡ most → after n l (up_to left e pass a) ≡ up_to most e pass start
          → ran (stop e) n l ≡ up_to most e pass start
      spent zero q p = run_is (omega arith) (omega arith) ∙ p
      spent (suc left) q p = absurd (omega arith)

  module _ {k n l m j : ℕ} {a : A} (r : Reached k a n l) (h : k < most) where
    -- one turn, which counted m and j
    turned : {t : Turn (Turn A B) E} → ran t m j ≡ pass a
        → (left : ℕ) × (k + suc left ≡ most) × (after (n + m) (l + j) (onward (next (up_to left e pass)) t) ≡ up_to most e pass start)
    unfolding up_to ◌>>=◌
    turned {t} p = by r.left r.turns r.rest
      where
        by : (left : ℕ) → k + left ≡ most → after n l (up_to left e pass a) ≡ up_to most e pass start
            → (left : ℕ) × (k + suc left ≡ most) × (after (n + m) (l + j) (onward (next (up_to left e pass)) t) ≡ up_to most e pass start)
        by zero q w = absurd (omega arith)
        by (suc left) q w =
            let rest : Turn A B → Run B E = next (up_to left e pass) in
            (left, q, after-after n l m j (onward rest t) ∙ ap (λ (x : Run (Turn A B) E). after n l (x >>= rest)) p ∙ w)

    -- it goes on with b
    pub reached-again : {b : A} → ran (go (go b)) m j ≡ pass a → Reached (k + 1) b (n + m) (l + j)
    reached-again p = let w = turned p in record { left = w.0; turns = omega (arith, w.1); rest = w.2 }

    -- it is over: left with b, or failed
    pub reached-over : (t : Turn B E) → ran (over t) m j ≡ pass a → ran t (n + m) (l + j) ≡ up_to most e pass start
    reached-over (go b) p = let w = turned p in run_is (omega arith) (omega arith) ∙ w.2
    reached-over (stop f) p = let w = turned p in run_is (omega arith) (omega arith) ∙ w.2

-- ---- from an answer back to the links that gave it
pub ends-then : {A B E : Type 0} (r : Run A E) (f : A → Run B E) (b : B) → (r >>= f).ends ≡ go b → (a : A) × (r.ends ≡ go a) × ((f a).ends ≡ go b)
unfolding ◌>>=◌
ends-then {A} {B} {E} r f b h = by r.ends refl h
  where
    by : (t : Turn A E) → r.ends ≡ t → (onward f t).ends ≡ go b → (a : A) × (r.ends ≡ go a) × ((f a).ends ≡ go b)
    by (go a) q g = (a, q, g)
    by (stop e) q g = absurd (let z : ◌≡◌ {A = ℕ} 0 1 = cc in omega arith)

pub left-if : {A B E : Type 0} (test : Bool) (b c : B) (rest : Run (Turn A B) E) → (rest.ends ≡ go (stop c) → ⊥)
    → (leave_if test b rest).ends ≡ go (stop c) → (test ≡ true) × (b ≡ c)
unfolding leave_if
left-if true b c rest never h = (refl, cc)
left-if false b c rest never h = absurd (never h)

pub not_left : {A B E : Type 0} (a : A) (b : B) → ◌≡◌ {A = Turn (Turn A B) E} (go (go a)) (go (stop b)) → ⊥
not_left a b h = let z : ◌≡◌ {A = ℕ} 0 1 = cc in omega arith
