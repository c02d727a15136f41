-- From an answer back to what gave it, for lists and for passes: by the cases of a turn.
use Rattle.std.specs.Prelude.{ℕ, zero, suc, ◌+◌, ◌<◌, ◌≡◌, refl, Bool, true, false, List, [], ◌∷◌, ◌++◌, length, get_or}
use Rattle.std.proofs.Common.{sym, ap, ◌∙◌, subst, add-one, arith, length-append}
use Rattle.std.proofs.Math.Decide.{ℕ_discrete}
use Rattle.std.proofs.Math.ListN.{get_or-append}
use Rattle.std.proofs.lemmas.List.{get_or_at}
use Rattle.arith.specs.Flow.{Turn, go, loop, ◌>>=◌, each}
use Rattle.arith.specs.Run.{Run, try, again, leave_if, ◌>>=◌ as ◌>>=ʳ◌}
use Rattle.rows.specs.Laws.Results.{step, go_same}

-- ---- a list was answered: it has every f(k)
pub record Listed {A E : Type 0} (n : ℕ) (f : ℕ → Turn A E) (xs : List A) : Type 0 where
  pub size : length xs ≡ n
  pub at : (none : A) (k : ℕ) → k < n → f k ≡ go (get_or xs k none)

pub each_at : {A E : Type 0} (n : ℕ) (f : ℕ → Turn A E) (xs : List A) → each n f ≡ go xs → Listed n f xs
unfolding loop
each_at zero f xs h = subst (Listed zero f) (go_same [] xs h) (record { size = refl; at = λ none k l. absurd (omega arith) })
each_at {A} {E} (suc n) f xs h =
    let r₁ = step (each n f) (λ ys. f n >>= λ x. go (ys ++ (x ∷ []))) xs h in
    let r₂ = step (f n) (λ (x : A). go (r₁.0 ++ (x ∷ []))) xs r₁.2 in
    subst (Listed (suc n) f) (go_same (r₁.0 ++ (r₂.0 ∷ [])) xs r₂.2) (more r₁.0 r₂.0 (each_at n f r₁.0 r₁.1) r₂.1)
  where
    more : (ys : List A) (x : A) → Listed n f ys → f n ≡ go x → Listed (suc n) f (ys ++ (x ∷ []))
    more ys x E e = record {
      size = length-append ys (x ∷ []) ∙ ap (λ (m : ℕ). m + 1) E.size ∙ add-one n;
      at = λ none k l. pick none k l (ℕ_discrete k n);
    }
      where
        pick : (none : A) (k : ℕ) → k < suc n → Dec (k ≡ n) → f k ≡ go (get_or (ys ++ (x ∷ [])) k none)
        pick none k l (yes q) = ap f q ∙ e ∙ ap go (sym (rw q (get_or_at ys x [] none n E.size)))
        pick none k l (no q) =
            let m : k < n = omega arith in
            E.at none k m ∙ ap go (sym (get_or-append ys (x ∷ []) none k (rw E.size m)))

-- ---- the second half of a pass: a solve, and what is made of its solution
abbrev pub correction : {A B S E : Type 0} → Run S E → (S → Turn A E) → Run (Turn A B) E
correction solve make = solve >>=ʳ λ solution. try (make solution) >>=ʳ again

-- ---- a pass that goes on
pub went_on : {A B E : Type 0} (test : Bool) (b : B) (a : A) (rest : Run (Turn A B) E) → (leave_if test b rest).ends ≡ go (go a) → rest.ends ≡ go (go a)
unfolding leave_if
went_on true b a rest h = absurd (let z : ◌≡◌ {A = ℕ} 0 1 = cc in omega arith)
went_on false b a rest h = h

pub goes_with : {A B E : Type 0} (a b : A) → ◌≡◌ {A = Turn (Turn A B) E} (go (go a)) (go (go b)) → a ≡ b
goes_with a b h = cc
