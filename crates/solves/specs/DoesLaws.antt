-- How what functions do composes: `?` after a call, and the frames with it. From an answer's case to the definition's result, and its number.
use Rattle.std.specs.Prelude.{ℕ, ◌≡◌, refl, Bool, true, false, List, Float}
use Rattle.std.proofs.Common.{sym, ◌∙◌, ap}
use Rattle.arith.specs.Real.{is_finite}
use Rattle.arith.specs.Flow.{go, stop, leaving, ◌>>=◌, return_if}
use Rattle.arith.specs.Fault.{number, refusal_number}
use Rattle.arith.specs.Run.{ran, after}
use Rattle.arith.specs.FlowLaws.{then-go, then-stop}
use Rattle.rows.specs.Fault.{CollisionError, ArithmeticOverflow, Result}
use Rattle.rows.specs.Region.{kept_then, kept_more}
use Rattle.solves.specs.System.{Counting}
use Rattle.solves.specs.Region.{Does}
use Rattle.solves.specs.Solver.{try_number}

-- tests
pub number-yes : {v w : Float} {b : Bool} → w ≡ v → b ≡ is_finite w → b ≡ true → go w ≡ try_number v
number-yes e f h = cc

pub number-no : {v w : Float} {b : Bool} → w ≡ v → b ≡ is_finite w → b ≡ false → stop ArithmeticOverflow ≡ try_number v
number-no e f h = cc

-- links of a chain
pub goes_on : {E : Type 0} {b : Bool} (e : E) → b ≡ false → go tt ≡ return_if b e
goes_on {E} e h = ap (λ (x : Bool). return_if {E = E} x e) (sym h)

pub returns-if : {E : Type 0} {b : Bool} (e : E) → b ≡ true → stop e ≡ return_if b e
returns-if {E} e h = ap (λ (x : Bool). return_if {E = E} x e) (sym h)

-- ---- an answer, and its number
leaving-number : {A : Type 0} (r : Result (Unit {0})) (x : A) → refusal_number r ≡ refusal_number (leaving r x)
leaving-number (go _) x = refl
leaving-number (stop _) x = refl

pub does-go : {A : Type 0} {P : ℕ → Type 0} {s t : List Float} {x : A} {R : Result A} → Does P s t (go x) R → (Does P s t (go x) R) × (0 ≡ refusal_number R)
does-go d = (d, ap refusal_number d.is)

pub does-fail : {A : Type 0} {P : ℕ → Type 0} {s t : List Float} {e : CollisionError} {R : Result A} → Does P s t (stop e) R
    → (Does P s t (stop e) R) × (number e ≡ refusal_number R)
does-fail d = (d, ap refusal_number d.is)

-- the same of a call that counted on and left x
pub counted-number : {A : Type 0} {P : ℕ → Type 0} {s t : List Float} (x : A) (r : Result (Unit {0})) (n l m k : ℕ) (R : Counting A)
    → Does P s t (ran (leaving r x) n l) (after m k R)
    → (Does P s t (ran (leaving r x) n l) (after m k R)) × (refusal_number r ≡ refusal_number R.ends)
counted-number {A} x r n l m k R d = (d, leaving-number r x ∙ ap (λ (c : Counting A). refusal_number c.ends) d.is)

-- ---- calls one after the other, each under its frame
module _ {A B : Type 0} {P Q : ℕ → Type 0} {s t : List Float} {R : Result A} (f : A → Result B) (w : (i : ℕ) → Q i → P i) where
  -- it failed, and so does the block
  pub does-stop : {e : CollisionError} → Does P s t (stop e) R → Does Q s t (stop e) (R >>= f)
  does-stop d = record { kept = kept_more d.kept w; is = then-stop f d.is }

  -- it went through at t, and the rest goes on from there
  pub does-then : {T : ℕ → Type 0} {x : A} {u : List Float} {y : Result B} → ((i : ℕ) → Q i → T i)
      → Does P s t (go x) R → Does T t u y (f x) → Does Q s u y (R >>= f)
  does-then v d e = record { kept = kept_then (kept_more d.kept w) e.kept v; is = e.is ∙ then-go f d.is }

-- an answer by another name
pub does-eq : {A : Type 0} {P : ℕ → Type 0} {s t : List Float} {x y d : A} → x ≡ y → Does P s t y d → Does P s t x d
does-eq e f = record { kept = f.kept; is = e ∙ f.is }

-- under a wider frame
pub does-more : {A : Type 0} {P Q : ℕ → Type 0} {s t : List Float} {x d : A} → ((i : ℕ) → Q i → P i) → Does P s t x d → Does Q s t x d
does-more w f = record { kept = kept_more f.kept w; is = f.is }

-- a definition by another name
pub does-is : {A : Type 0} {P : ℕ → Type 0} {s t : List Float} {x d e : A} → Does P s t x d → d ≡ e → Does P s t x e
does-is f e = record { kept = f.kept; is = f.is ∙ e }
