-- A run with its two counters. `Run A E` is a Turn that counted: `go a` or `stop e`, with the nonlinear and the linear passes so far.
-- In a `do` block of a file that imports these `◌>>=◌` and `◌>>◌`, `x ← e` is `let x = e?` and the counts add up; a failure keeps them.
use Rattle.std.specs.Prelude.{ℕ, zero, suc, ◌+◌, Bool, cond}
use Rattle.arith.specs.Flow.{Turn, go, stop}

pub record Run (A E : Type 0) : Type 0 where
  pub ends : Turn A E
  pub nonlinear : ℕ
  pub linear : ℕ

abbrev pub ran : {A E : Type 0} → Turn A E → ℕ → ℕ → Run A E  -- what ended as t, with so many passes of either kind
ran t n l = record { ends = t; nonlinear = n; linear = l }

abbrev pub after : {A E : Type 0} → ℕ → ℕ → Run A E → Run A E  -- r, after so many passes of either kind
after n l r = ran r.ends (n + r.nonlinear) (l + r.linear)

abbrev pub try : {A E : Type 0} → Turn A E → Run A E  -- e?, of what counts nothing
try r = ran r 0 0

abbrev pub ok : {A E : Type 0} → A → Run A E
ok a = try (go a)

abbrev pub fail : {A E : Type 0} → E → Run A E
fail e = try (stop e)

abbrev pub begin : {E : Type 0} → Run (Unit {0}) E  -- nonlinear_iterations += 1
begin = ran (go tt) 1 0

abbrev pub tick : {E : Type 0} → Run (Unit {0}) E  -- linear_iterations += 1
tick = ran (go tt) 0 1

abbrev pub onward : {A B E : Type 0} → (A → Run B E) → Turn A E → Run B E
onward f t = elim t [ go a ↦ f a | stop e ↦ fail e ]

infixl 10 ◌>>=◌ ◌>>◌
unfoldable pub ◌>>=◌ : {A B E : Type 0} → Run A E → (A → Run B E) → Run B E
r >>= f = after r.nonlinear r.linear (onward f r.ends)

abbrev pub ◌>>◌ : {A B E : Type 0} → Run A E → Run B E → Run B E
r >> s = r >>= λ _. s

unfoldable pub fail_if : {E : Type 0} → Bool → E → Run (Unit {0}) E  -- if test { return Err(e); }
fail_if test e = cond test (fail e) (ok tt)

abbrev pub again : {A B E : Type 0} → A → Run (Turn A B) E  -- how a pass ends: the next one starts from a
again a = ok (go a)

abbrev pub leave : {A B E : Type 0} → B → Run (Turn A B) E  -- or the loop is left with b
leave b = ok (stop b)

unfoldable pub leave_if : {A B E : Type 0} → Bool → B → Run (Turn A B) E → Run (Turn A B) E  -- if test { leave with b; } rest
leave_if test b rest = cond test (leave b) rest

abbrev pub next : {A B E : Type 0} → (A → Run B E) → Turn A B → Run B E
next f t = elim t [ go a ↦ f a | stop b ↦ ok b ]

unfoldable pub up_to : {A B E : Type 0} → ℕ → E → (A → Run (Turn A B) E) → A → Run B E  -- for _ in 0..most { pass } Err(e)
up_to zero e pass a = fail e
up_to (suc k) e pass a = pass a >>= next (up_to k e pass)
