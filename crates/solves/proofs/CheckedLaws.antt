-- One test of all shares at the end of `transpose` does for the tests along the way: a sum with a part that is not finite is not finite.
use Prim.Native.Nat.{ℕ, zero, suc, ◌+◌, ◌<◌}
use mathlib.Core.Path.{◌≡◌, refl, sym, ◌∙◌, ap, subst}
use mathlib.Core.Bool.{Bool, true, false, cond, ◌&&◌}
use mathlib.Core.List.{List}
use native.Mathlib.Omega.{arith}
use native.Mathlib.Numerals.{add-one}
use native.Mathlib.Decide.{ℕ_discrete}
use lib.Dec.{T}
use lib.ListN.{length, set, replicate, length-set, length-replicate, get_or-replicate}
use lib.Seq.{get_or-set_same, get_or-set_other}
use lib.Ieee.{Float, round}
use Rattle.arith.specs.Real.{is_finite, ◌⊕◌}
use Rattle.arith.specs.Flow.{Turn, go, stop, and_then, ◌>>=◌, loop, every}
use Rattle.arith.specs.FlowLaws.{every-none, every_more, every-at}
use Rattle.arith.specs.Laws.Magnitude.{finite-same}
use Rattle.vectors.specs.declared.vector.Vec3.{Vec3}
use Rattle.vectors.specs.Vector.{add_of, scale_of, finite_of}
use Rattle.vectors.specs.Laws.UnitTest.{add-finite}
use Rattle.rows.specs.Fault.{ArithmeticOverflow, try_finite}
use Rattle.solves.specs.declared.places.Generalized.{Generalized}
use Rattle.solves.specs.Solver.{generalized_in, no_share, pushed, push_into}
use Rattle.solves.specs.View.{no_generalized}
use Rattle.solves.specs.Checked.{added, finite_share, all_finite, checked}

-- ---- chains and loops
pub loop-next : {A E : Type 0} (f : ℕ → A → Turn A E) (a : A) (k : ℕ) → (loop k f a >>= f k) ≡ loop (k + 1) f a
unfolding loop
loop-next f a k = ap (λ (m : ℕ). loop m f a) (sym (add-one k))

-- ---- tests
same_test : (a b : Bool) → (a ≡ true → b ≡ true) → (b ≡ true → a ≡ true) → a ≡ b
same_test true b f g = sym (f refl)
same_test false true f g = g refl
same_test false false f g = refl

both : {a b : Bool} → a ≡ true → b ≡ true → (a && b) ≡ true
both p q = cc

each_of : (a b : Bool) → (a && b) ≡ true → (a ≡ true) × (b ≡ true)
each_of true b e = (refl, e)
each_of false b e = (e, absurd-test e)
  where
    absurd-test : false ≡ true → b ≡ true
    absurd-test e = cc

T-is : {b : Bool} → T b → b ≡ true
T-is {b = true} t = refl
T-is {b = false} t = absurd t

every-all : (f : ℕ → Bool) (n : ℕ) → ((k : ℕ) → k < n → f k ≡ true) → true ≡ every n f
every-all f zero h = every-none f
every-all f (suc n) h =
    every_more f (every-all f n (λ k l. h k (omega arith))) (h n (omega arith)) ∙ ap (λ (m : ℕ). every m f) (add-one n)

-- one test changed, which is no weaker than it was
every-change : (f g : ℕ → Bool) (n i : ℕ) → i < n → ((k : ℕ) → (k ≡ i → ⊥) → g k ≡ f k) → (g i ≡ true → f i ≡ true)
    → every n g ≡ (every n f && g i)
every-change f g n i h same back = same_test (every n g) (every n f && g i) to from
  where
    before : every n g ≡ true → (k : ℕ) → k < n → Dec (k ≡ i) → f k ≡ true
    before e k l (yes p) = ap f p ∙ back (every-at g n (sym e) h)
    before e k l (no r) = sym (same k r) ∙ every-at g n (sym e) l

    after : every n f ≡ true → g i ≡ true → (k : ℕ) → k < n → Dec (k ≡ i) → g k ≡ true
    after e q k l (yes p) = ap g p ∙ q
    after e q k l (no r) = same k r ∙ every-at f n (sym e) l

    to : every n g ≡ true → (every n f && g i) ≡ true
    to e = both (sym (every-all f n (λ k l. before e k l (ℕ_discrete k i)))) (every-at g n (sym e) h)

    from : (every n f && g i) ≡ true → every n g ≡ true
    from e =
        let t = each_of (every n f) (g i) e in
        sym (every-all g n (λ k l. after t.0 t.1 k l (ℕ_discrete k i)))

-- ---- a finite sum has a finite first part
part-finite : (x y : Float) → is_finite (x ⊕ y) ≡ true → is_finite x ≡ true
part-finite x y e = finite-same x ∙ T-is (add-finite x y (subst T (sym e ∙ finite-same (x ⊕ y)) tt)).0

vec-part : (v w : Vec3) → finite_of (add_of v w) ≡ true → finite_of v ≡ true
vec-part v w e =
    let a = each_of (is_finite (v.x ⊕ w.x) && is_finite (v.y ⊕ w.y)) (is_finite (v.z ⊕ w.z)) e in
    let b = each_of (is_finite (v.x ⊕ w.x)) (is_finite (v.y ⊕ w.y)) a.0 in
    both (both (part-finite v.x w.x b.0) (part-finite v.y w.y b.1)) (part-finite v.z w.z a.1)

share_part : (g : Generalized) (linear angular : Vec3) (value : Float) → finite_share (added g linear angular value) ≡ true → finite_share g ≡ true
share_part g linear angular value e =
    let n = added g linear angular value in
    let t = each_of (finite_of n.linear) (finite_of n.angular) e in
    both (vec-part g.linear (scale_of linear value) t.0) (vec-part g.angular (scale_of angular value) t.1)

-- ---- a share pushed without a test
module _ (out : List Generalized) (i : ℕ) (linear angular : Vec3) (value : Float) (h : i < length out) where
  abbrev new : Generalized
  new = added (generalized_in out i) linear angular value

  abbrev test : List Generalized → ℕ → Bool
  test l k = finite_share (generalized_in l k)

  there : generalized_in (set out i new) i ≡ new
  there = get_or-set_same out i new no_generalized h

  all-is : all_finite (set out i new) ≡ (all_finite out && finite_share new)
  all-is =
      ap (λ (n : ℕ). every n (test (set out i new))) (length-set out i new)
      ∙ every-change (test out) (test (set out i new)) (length out) i h (λ k r. ap finite_share (get_or-set_other out i k new no_generalized r))
      (λ e. share_part (generalized_in out i) linear angular value (sym (ap finite_share there) ∙ e))
      ∙ ap (λ (g : Generalized). all_finite out && finite_share g) there

  tested : (p q : Bool)
      → cond (p && q) (go (set out i new)) (stop ArithmeticOverflow)
      ≡ (cond p (go new.linear) (stop ArithmeticOverflow)
      >>= (λ l. cond q (go new.angular) (stop ArithmeticOverflow) >>= λ a. go (record { linear = l; angular = a }))
      >>= λ g. go (set out i g))
  unfolding and_then
  tested true true = refl
  tested true false = refl
  tested false q = refl

  push-out : cond (finite_share new) (go (set out i new)) (stop ArithmeticOverflow) ≡ push_into i linear angular value out
  unfolding push_into pushed try_finite
  push-out = tested (finite_of new.linear) (finite_of new.angular)

  pub push-is : checked (set out i new) ≡ (checked out >>= push_into i linear angular value)
  push-is = ap (λ (b : Bool). cond b (go (set out i new)) (stop ArithmeticOverflow)) all-is ∙ by (all_finite out)
    where
      by : (b : Bool) → cond (b && finite_share new) (go (set out i new)) (stop ArithmeticOverflow)
          ≡ (cond b (go out) (stop ArithmeticOverflow) >>= push_into i linear angular value)
      by true = unfold and_then in push-out
      by false = unfold and_then in refl

-- ---- where the rows begin: zeros are finite
zero-share : finite_share no_share ≡ true
unfolding is_finite round
zero-share = refl

pub zeros-checked : (n : ℕ) → checked (replicate n no_share) ≡ go (replicate n no_share)
zeros-checked n =
    let out = replicate n no_share in
    ap (λ (b : Bool). cond b (go out) (stop ArithmeticOverflow)) (sym (every-all (λ k. finite_share (generalized_in out k)) (length out)
    (λ k l. ap finite_share (get_or-replicate n k no_share no_generalized (subst (λ (m : ℕ). k < m) (length-replicate n no_share) l)) ∙ zero-share)))
