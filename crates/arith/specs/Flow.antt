-- Loops and early returns as definitions, one set for the whole project.
-- `Turn A E` is Rust's Result under names that fit loops too: `go a` is Ok(a) and goes on with a, `stop e` is Err(e) and leaves with e (an error, or
-- an early return). In a `do` block `x ← e` is Rust's `let x = e?`.
use Rattle.std.specs.Prelude.{ℕ, zero, suc, Bool, true, cond, ◌&&◌, List, [], ◌∷◌, ◌++◌}
pub use Rattle.std.specs.Prelude.{Result as Turn, Ok as go, Err as stop}

unfoldable pub and_then : {A B E : Type 0} → Turn A E → (A → Turn B E) → Turn B E
and_then (go a) f = f a
and_then (stop e) f = stop e

infixl 10 ◌>>=◌
abbrev pub ◌>>=◌ : {A B E : Type 0} → Turn A E → (A → Turn B E) → Turn B E
r >>= f = and_then r f

abbrev pub leaving : {A E : Type 0} → Turn (Unit {0}) E → A → Turn A E  -- what f(&mut a) answers, with the a that it leaves
leaving (go _) a = go a
leaving (stop e) a = stop e

unfoldable pub turns : {A : Type 0} → (ℕ → A → A) → ℕ → A → A  -- for k in 0..n { a = f(k, a); }
turns f zero a = a
turns f (suc k) a = f k (turns f k a)

unfoldable pub loop : {A E : Type 0} → ℕ → (ℕ → A → Turn A E) → A → Turn A E  -- for k in 0..n { a = f(k, a)?; }
loop zero f a = go a
loop (suc k) f a = loop k f a >>= f k

unfoldable pub tab : {A : Type 0} → ℕ → (ℕ → A) → List A  -- the list of f(0) .. f(n - 1)
tab zero f = []
tab (suc k) f = tab k f ++ (f k ∷ [])

abbrev pub each : {A E : Type 0} → ℕ → (ℕ → Turn A E) → Turn (List A) E  -- the list of f(0)? .. f(n - 1)?
each n f = loop n (λ k xs. f k >>= λ x. go (xs ++ (x ∷ []))) []

abbrev pub return_if : {E : Type 0} → Bool → E → Turn (Unit {0}) E  -- if test { return e; }
return_if test e = cond test (stop e) (go tt)

unfoldable pub every : ℕ → (ℕ → Bool) → Bool  -- for k in 0..n { if !f(k) { return false; } } true
every zero f = true
every (suc k) f = every k f && f k
