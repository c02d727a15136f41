-- A chain's `fold` and `all`, as the definitions write them: `turns` and `every` below a number. The library's laws of chains give the fold over the
-- list of the items, and the test at each item (`list_all`).
use Rattle.std.specs.Prelude.{ℕ, zero, suc, ◌+◌, ◌≤◌, ◌<◌, ◌≡◌, refl, Bool, true, false, ◌&&◌, Option, List, [], ◌∷◌, length, get_or, take}
use Rattle.std.specs.List.{fold, list_all, range_with_len}
use Rattle.std.specs.Iterator.{FoldsItems, ChecksAll}
use Rattle.std.specs.Fn.{Called}
use denote.Param.Members.{Mut}
use Rattle.std.proofs.Common.{sym, ap, ◌∙◌, subst, arith, zero-add}
use Rattle.std.proofs.lemmas.List.{take_all}
use Rattle.std.proofs.lemmas.List.Sums.{fold_more}
use Rattle.std.proofs.lemmas.List.Folds.{list_all_at}
use Rattle.std.proofs.lemmas.List.FromFn.{length-range_with_len, get_or-range_with_len}
use Rattle.std.proofs.lemmas.Iterator.{YieldsList}
use Rattle.std.proofs.lemmas.Iterator.Consumers.{fold_from_yields_List}
use Rattle.std.proofs.lemmas.Iterator.Search.{all_from_yields_List}
use Rattle.arith.specs.Flow.{turns, every}
use Rattle.arith.specs.FlowLaws.{every-none, every_more, every-at}

-- ---- fold
-- over a list, each of whose n items takes a turn
module _ {A C : Type 0} (h : C → A → C) (turn : ℕ → C → C) (init : C) (d : A) (xs : List A) {n : ℕ} (long : length xs ≡ n)
    (same : (k : ℕ) (c : C) → k < n → h c (get_or xs k d) ≡ turn k c) where
  first : (k : ℕ) → k ≤ n → fold h init (take k xs) ≡ turns turn k init
  unfolding turns
  first zero l = refl
  first (suc k) l =
      let on : suc k ≡ k + 1 = omega arith in
      ap (λ (m : ℕ). fold h init (take m xs)) on ∙ fold_more h init xs k d (omega arith) ∙ same k (fold h init (take k xs)) (omega arith)
      ∙ ap (turn k) (first k (omega arith))

  pub fold-turns : fold h init xs ≡ turns turn n init
  fold-turns = ap (fold h init) (sym (take_all n xs (omega arith))) ∙ first n (omega arith)

-- what a chain's `fold` answers, where each call gives the turn of its item
module _ {S A C F : Type 0} {steps : S → Option A → S → Type 0} {g : Mut F (C × (A × Unit {0})) C} {s : S} {f : F} {init r : C} where
  -- over the numbers below n
  pub fold-counted : {v : A → ℕ} (turn : ℕ → C → C) (n : ℕ) → FoldsItems steps g s f init r → YieldsList steps v s (range_with_len 0 n)
      → ((c : C) (x : A) (b : C) (q : F) → Called g f (c, (x, tt)) b q → (q ≡ f) × (b ≡ turn (v x) c)) → r ≡ turns turn n init
  fold-counted turn n ran yields calls =
      fold_from_yields_List g (λ c k. turn k c) init r ran yields calls
      ∙ fold-turns (λ c k. turn k c) turn init 0 (range_with_len 0 n) (length-range_with_len 0 n)
      (λ k c l. ap (λ (i : ℕ). turn i c) (get_or-range_with_len 0 n k 0 l ∙ zero-add k))

-- ---- all
module _ (f : ℕ → Bool) where
  each-so : (n : ℕ) → ((k : ℕ) → k < n → f k ≡ true) → true ≡ every n f
  each-so zero h = every-none f
  each-so (suc n) h =
      let more : true ≡ every (n + 1) f = every_more f (each-so n (λ k l. h k (omega arith))) (h n (omega arith)) in
      subst (λ (m : ℕ). true ≡ every m f) (let e : n + 1 ≡ suc n = omega arith in e) more

  by-cases : (n : ℕ) (r e : Bool) → every n f ≡ e → (r ≡ true → (k : ℕ) → k < n → f k ≡ true) → (((k : ℕ) → k < n → f k ≡ true) → r ≡ true) → r ≡ e
  by-cases n true true q go back = refl
  by-cases n true false q go back = each-so n (go refl) ∙ q
  by-cases n false true q go back = back (λ k l. every-at f n (sym q) l)
  by-cases n false false q go back = refl

  -- what is true exactly where f is true below n
  every-is : (n : ℕ) (r : Bool) → (r ≡ true → (k : ℕ) → k < n → f k ≡ true) → (((k : ℕ) → k < n → f k ≡ true) → r ≡ true) → r ≡ every n f
  every-is n r go back = by-cases n r (every n f) refl go back

pub every-ext : (f g : ℕ → Bool) (n : ℕ) → ((k : ℕ) → k < n → f k ≡ g k) → every n f ≡ every n g
every-ext f g n same =
    every-is g n (every n f) (λ t k l. sym (same k l) ∙ every-at f n (sym t) l) (λ h. sym (each-so f n (λ k l. same k l ∙ h k l)))

module _ {A : Type 0} (p : A → Bool) (d : A) where
  all_at : (xs : List A) → list_all p xs ≡ true → (k : ℕ) → k < length xs → p (get_or xs k d) ≡ true
  all_at xs t k l = case (p (get_or xs k d)) refl
    where
      case : (b : Bool) → p (get_or xs k d) ≡ b → b ≡ true
      case true e = refl
      case false e = sym (list_all_at p xs k d l e) ∙ t

  all-so : (xs : List A) → ((k : ℕ) → k < length xs → p (get_or xs k d) ≡ true) → list_all p xs ≡ true
  all-so [] h = refl
  all-so (x ∷ xs) h = both (h 0 (omega arith)) (all-so xs (λ k l. h (suc k) (omega arith)))
    where
      both : {a b : Bool} → a ≡ true → b ≡ true → (a && b) ≡ true
      both {a} {b} e g = ap (λ (c : Bool). c && b) e ∙ g

  -- of the items of a slice
  listed : (xs : List A) → list_all p xs ≡ every (length xs) (λ k. p (get_or xs k d))
  listed xs = every-is (λ k. p (get_or xs k d)) (length xs) (list_all p xs) (all_at xs) (all-so xs)

-- of the numbers below n
counted : (p : ℕ → Bool) (n : ℕ) → list_all p (range_with_len 0 n) ≡ every n p
counted p n = every-is p n (list_all p (range_with_len 0 n)) go back
  where
    item : (k : ℕ) → k < n → get_or (range_with_len 0 n) k 0 ≡ k
    item k l = get_or-range_with_len 0 n k 0 l ∙ zero-add k

    go : list_all p (range_with_len 0 n) ≡ true → (k : ℕ) → k < n → p k ≡ true
    go t k l =
        subst (λ (i : ℕ). p i ≡ true) (item k l)
        (all_at p 0 (range_with_len 0 n) t k (subst (λ (m : ℕ). k < m) (sym (length-range_with_len 0 n)) l))

    back : ((k : ℕ) → k < n → p k ≡ true) → list_all p (range_with_len 0 n) ≡ true
    back h = all-so p 0 (range_with_len 0 n) (λ k l.
        let m : k < n = subst (λ (m : ℕ). k < m) (length-range_with_len 0 n) l in
        subst (λ (i : ℕ). p i ≡ true) (sym (item k m)) (h k m))

-- what a chain's `all` answers, where each call gives the test of its item
module _ {S A F : Type 0} {steps : S → Option A → S → Type 0} {g : Mut F (A × Unit {0}) Bool} {s : S} {f : F} {r : Bool} (u : S) where
  pub every-counted : {v : A → ℕ} (test : ℕ → Bool) (n : ℕ) → ChecksAll steps g s f r u → YieldsList steps v s (range_with_len 0 n)
      → ((x : A) (b : Bool) (q : F) → Called g f (x, tt) b q → (q ≡ f) × (b ≡ test (v x))) → r ≡ every n test
  every-counted test n ran yields calls = all_from_yields_List test u f r ran yields calls ∙ counted test n

  pub every-listed : {B : Type 0} {v : A → B} (test : B → Bool) (d : B) (xs : List B) → ChecksAll steps g s f r u → YieldsList steps v s xs
      → ((x : A) (b : Bool) (q : F) → Called g f (x, tt) b q → (q ≡ f) × (b ≡ test (v x))) → r ≡ every (length xs) (λ k. test (get_or xs k d))
  every-listed test d xs ran yields calls = all_from_yields_List test u f r ran yields calls ∙ listed test d xs
