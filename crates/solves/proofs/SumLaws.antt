-- A chain's `fold` over two vectors, as the definitions write it.
use Rattle.std.specs.Prelude.{ℕ, ◌+◌, ◌-◌, ◌≤◌, ◌≡◌, Option, List, length, take, drop, Float}
use Rattle.std.specs.Float.{nan}
use Rattle.std.specs.List.{zip, slice_range}
use Rattle.std.specs.Iterator.{FoldsItems}
use Rattle.std.specs.Fn.{Called}
use denote.Param.Members.{Mut}
use Rattle.std.proofs.Common.{ap, ◌∙◌, arith}
use Rattle.std.proofs.lemmas.List.{get_or-take, get_or-drop, length-take-le, length-drop}
use Rattle.std.proofs.lemmas.Slice.Zip.{length-zip, get_or-zip}
use Rattle.std.proofs.lemmas.Iterator.{YieldsList}
use Rattle.std.proofs.lemmas.Iterator.Consumers.{fold_from_yields_List}
use Rattle.arith.specs.Flow.{turns}
use Rattle.arith.specs.ChainLaws.{fold-turns}
use Rattle.rows.specs.View.{at}
use Rattle.rows.specs.Region.{is-tab, tab-length}
use Rattle.solves.specs.Region.{vec_at}

-- what a chain's `fold` answers over two vectors of the scratch, where each call gives the turn of its items
module _ {S A C F : Type 0} {steps : S → Option A → S → Type 0} {g : Mut F (C × (A × Unit {0})) C} {s : S} {f : F} {init r : C} where
  pub fold-vectors : {v : A → Float × Float} (h : C → Float → Float → C) (l : List Float) (a b n : ℕ) → FoldsItems steps g s f init r
      → YieldsList steps v s (zip (vec_at l a n) (vec_at l b n))
      → ((c : C) (x : A) (y : C) (q : F) → Called g f (c, (x, tt)) y q → (q ≡ f) × (y ≡ h c (v x).0 (v x).1))
      → r ≡ turns (λ k c. h c (at (vec_at l a n) k) (at (vec_at l b n) k)) n init
  fold-vectors h l a b n ran yields calls =
      let xs : List Float = vec_at l a n in
      let ys : List Float = vec_at l b n in
      let lx : length xs ≡ n = tab-length n (λ k. at l (a + k)) in
      let ly : length ys ≡ n = tab-length n (λ k. at l (b + k)) in
      fold_from_yields_List g (λ c p. h c p.0 p.1) init r ran yields calls
      ∙ fold-turns (λ c (p : Float × Float). h c p.0 p.1) (λ k c. h c (at xs k) (at ys k)) init (nan, nan) (zip xs ys) (length-zip xs ys ∙ omega arith)
      (λ k c m. ap (λ (p : Float × Float). h c p.0 p.1) (get_or-zip xs ys k (nan, nan) (omega arith) (omega arith)))

-- a part of the scratch, lent, is its vector
pub slice_vec : (s : List Float) (place n : ℕ) → place + n ≤ length s → slice_range s place (place + n) ≡ vec_at s place n
slice_vec s place n h =
    let long : place + n - place ≡ n = omega arith in
    let rest : n ≤ length (drop place s) = omega (arith, length-drop place s) in
    ap (λ (m : ℕ). take m (drop place s)) long
    ∙ is-tab n (λ k. at s (place + k)) nan (take n (drop place s)) (length-take-le n (drop place s) rest)
    (λ k l. get_or-take n (drop place s) k nan l ∙ get_or-drop place s k nan)
