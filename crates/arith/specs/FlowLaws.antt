-- Laws of `Flow`: chains and loops, the answer on the left and the definition on the right. A
-- proof carries `go x ≡ loop k f a` (or `x ≡ turns f k a`) as its invariant.
use Prim.Native.Nat.{ℕ, zero, suc, ◌+◌, ◌≤◌, ◌<◌}
use Rattle.std.specs.Prelude.{◌≡◌, Bool, cond, not, ◌&&◌, List, [], ◌∷◌, ◌++◌}
use Rattle.std.proofs.Math.Path.{refl, ap}
use Rattle.std.proofs.Common.{sym, ◌∙◌, add-one, arith}
use Rattle.std.proofs.Math.Bool.{true, false}
use Rattle.std.proofs.Math.Decide.{ℕ_discrete}
use Rattle.arith.specs.Flow.{Turn, go, stop, and_then, ◌>>=◌, turns, loop, each, every}

pub turns-none : {A : Type 0} (f : ℕ → A → A) (a : A) → a ≡ turns f 0 a
unfolding turns
turns-none f a = refl

-- one turn more, where the code has `k + 1`
pub turns_more : {A : Type 0} (f : ℕ → A → A) (k : ℕ) (a : A) {x : A} → x ≡ turns f k a → f k x ≡ turns f (k + 1) a
unfolding turns
turns_more f k a e = ap (f k) e ∙ rw (add-one k) refl

-- the loop is left at k, which is n
pub turns-end : {A : Type 0} (f : ℕ → A → A) {n k : ℕ} (a : A) {x : A} → k ≤ n → n ≤ k → x ≡ turns f k a → x ≡ turns f n a
turns-end f {n} {k} a h g e =
    let same : k ≡ n = omega arith in
    e ∙ ap (λ (j : ℕ). turns f j a) same

module _ {A B E : Type 0} where
  pub then-go : {r : Turn A E} {x : A} (f : A → Turn B E) → go x ≡ r → f x ≡ (r >>= f)
  unfolding and_then
  then-go f e = ap (λ (r : Turn A E). r >>= f) e

  pub then-stop : {r : Turn A E} {e : E} (f : A → Turn B E) → stop e ≡ r → stop e ≡ (r >>= f)
  unfolding and_then
  then-stop f e = ap (λ (r : Turn A E). r >>= f) e

-- e?? is one chain
pub then-then : {A B C E : Type 0} (r : Turn A E) (f : A → Turn B E) (g : B → Turn C E) → ((r >>= f) >>= g) ≡ (r >>= λ x. f x >>= g)
unfolding and_then
then-then (go a) f g = refl
then-then (stop e) f g = refl

module _ {A E : Type 0} (f : ℕ → A → Turn A E) (a : A) where
  pub loop-none : go a ≡ loop 0 f a
  unfolding loop
  loop-none = refl

  pub loop-more : {k : ℕ} {x : A} {r : Turn A E} → go x ≡ loop k f a → r ≡ f k x → r ≡ loop (k + 1) f a
  unfolding loop
  loop-more {k} e h = h ∙ then-go (f k) e ∙ rw (add-one k) refl

  loop-suc : (n : ℕ) {e : E} → stop e ≡ loop n f a → stop e ≡ loop (suc n) f a
  unfolding loop
  loop-suc n h = then-stop (f n) h

  pub loop-stop : (n : ℕ) {k : ℕ} {x : A} {e : E} → k < n → go x ≡ loop k f a → stop e ≡ f k x → stop e ≡ loop n f a
  loop-stop zero h p q = absurd (omega arith)
  loop-stop (suc n) {k} {x} {e} h p q = case (ℕ_discrete k n) (λ l. loop-stop n l p q)
    where
      case : Dec (k ≡ n) → (k < n → stop e ≡ loop n f a) → stop e ≡ loop (suc n) f a
      case (yes r) ih = loop-more p q ∙ ap (λ (m : ℕ). loop m f a) (add-one k ∙ ap suc r)
      case (no r) ih = loop-suc n (ih (omega arith))

  pub loop-end : {n k : ℕ} {x : A} → k ≤ n → n ≤ k → go x ≡ loop k f a → go x ≡ loop n f a
  loop-end {n} {k} h g e =
      let same : k ≡ n = omega arith in
      e ∙ ap (λ (m : ℕ). loop m f a) same

module _ {A E : Type 0} (f : ℕ → Turn A E) where
  pub each_none : go [] ≡ each 0 f
  each_none = loop-none _ []

  pub each_more : {k : ℕ} {xs : List A} {x : A} → go xs ≡ each k f → go x ≡ f k → go (xs ++ (x ∷ [])) ≡ each (k + 1) f
  each_more {k} {xs} e h = loop-more _ [] e (then-go (λ (y : A). go (xs ++ (y ∷ []))) h)

  pub each-stop : (n : ℕ) {k : ℕ} {xs : List A} {e : E} → k < n → go xs ≡ each k f → stop e ≡ f k → stop e ≡ each n f
  each-stop n {k} {xs} h p q = loop-stop _ [] n h p (then-stop (λ (y : A). go (xs ++ (y ∷ []))) q)

  pub each-end : {n k : ℕ} {xs : List A} → k ≤ n → n ≤ k → go xs ≡ each k f → go xs ≡ each n f
  each-end h g e = loop-end _ [] h g e

pub not_yes : (b : Bool) → not b ≡ true → b ≡ false
not_yes true h = sym h
not_yes false h = refl

pub not-no : (b : Bool) → not b ≡ false → b ≡ true
not-no true h = refl
not-no false h = sym h

-- the way that a test takes, the code's answer on the left
pub cond_yes : {A : Type 0} {b : Bool} (x y : A) → b ≡ true → x ≡ cond b x y
cond_yes x y h = ap (λ (b : Bool). cond b x y) (sym h)

pub cond_no : {A : Type 0} {b : Bool} (x y : A) → b ≡ false → y ≡ cond b x y
cond_no x y h = ap (λ (b : Bool). cond b x y) (sym h)

module _ (f : ℕ → Bool) where
  pub every-none : true ≡ every 0 f
  unfolding every
  every-none = refl

  pub every_more : {k : ℕ} → true ≡ every k f → f k ≡ true → true ≡ every (k + 1) f
  unfolding every
  every_more {k} e h = rw (add-one k) (both e h)
    where
      both : {a b : Bool} → true ≡ a → b ≡ true → true ≡ a && b
      both {a} {b} p q = ap (λ (x : Bool). x && true) p ∙ ap (λ (x : Bool). a && x) (sym q)

  pub every-fail : (n : ℕ) {k : ℕ} → k < n → f k ≡ false → false ≡ every n f
  unfolding every
  every-fail zero h q = absurd (omega arith)
  every-fail (suc n) {k} h q = case (ℕ_discrete k n) (λ l. every-fail n l q)
    where
      last : (b : Bool) → false ≡ b && false
      last true = refl
      last false = refl

      case : Dec (k ≡ n) → (k < n → false ≡ every n f) → false ≡ every n f && f n
      case (yes r) ih = last (every n f) ∙ ap (λ (x : Bool). every n f && x) (sym q ∙ ap f r)
      case (no r) ih = ap (λ (x : Bool). x && f n) (ih (omega arith))

  pub every-end : {n k : ℕ} → k ≤ n → n ≤ k → true ≡ every k f → true ≡ every n f
  every-end {n} {k} h g e =
      let same : k ≡ n = omega arith in
      e ∙ ap (λ (m : ℕ). every m f) same

  -- what holds of every one holds of each
  pub every-at : (n : ℕ) {k : ℕ} → true ≡ every n f → k < n → f k ≡ true
  unfolding every
  every-at zero e h = absurd (omega arith)
  every-at (suc n) {k} e h = case (ℕ_discrete k n) (λ l. every-at n (left (every n f) (f n) e) l)
    where
      left : (a b : Bool) → true ≡ a && b → true ≡ a
      left true b p = refl
      left false b p = p

      right : (a b : Bool) → true ≡ a && b → b ≡ true
      right true b p = sym p
      right false true p = refl
      right false false p = sym p

      case : Dec (k ≡ n) → (k < n → f k ≡ true) → f k ≡ true
      case (yes r) ih = ap f r ∙ right (every n f) (f n) e
      case (no r) ih = ih (omega arith)
