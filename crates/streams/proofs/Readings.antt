-- One more read of a reading, over plain values: `at` bytes have come into `now`, which began as `first`, and a read makes what
-- stands from `at` on `part`, of which `n` bytes came.
use Rattle.std.proofs.Common.{ℕ, ◌+◌, ◌-◌, ◌≤◌, ◌≡◌, ◌∙◌, List, ◌++◌, length, take, drop, arith, sym, ap, subst, append-nil, length-take-le, length-drop, rules}
use Rattle.std.proofs.Math.Seq.{take-add}
use Rattle.std.proofs.lemmas.Slice.{overwrites}
use Rattle.std.proofs.lemmas.List.{drop_at, drop_all, drop-drop, take_all}
use Rattle.std.specs.Prelude.{Option, None, Some}
use Rattle.std.specs.Io.KnownBytes.{Consumes, Keeps}
use Rattle.std.proofs.KnownBytes.{Consumes-trans}
use borrow.Rule.Slice.PartMut.{put_mid}

-- known bytes that stay are consumed as before
Consumes-keeps : (known mid left : Option (List ℕ)) (bs : List ℕ) → Consumes known mid bs → Keeps mid left → Consumes known left bs
Consumes-keeps None mid left bs before e = tt
Consumes-keeps (Some xs) None left bs before e = elim before [ ]
Consumes-keeps (Some xs) (Some ys) None bs before e = elim e [ ]
Consumes-keeps (Some xs) (Some ys) (Some zs) bs before e = before ∙ ap (λ (l : List ℕ). bs ++ l) (sym e)

module _ (first now part : List ℕ) (at : ℕ) (within : at ≤ length now) where
  abbrev room : ℕ
  room = length now - at

  abbrev after : List ℕ
  after = put_mid at room now part

  fits : length (drop at now) ≤ room
  fits = omega (arith, length-drop at now)

  whole : after ≡ take at now ++ part
  whole = ap (λ (l : List ℕ). take at now ++ (part ++ l)) (drop_all room (drop at now) fits) ∙ ap (λ (l : List ℕ). take at now ++ l) (append-nil part)

  front : take at after ≡ take at now
  front = search (rules, overwrites)

  behind : drop at after ≡ part
  behind = ap (drop at) whole ∙ drop_at (take at now) part at (length-take-le at now within)

  -- the bytes behind those that came are still those of `first`
  pub rest-more : (n : ℕ) → drop at now ≡ drop at first → drop n part ≡ drop n (take room (drop at now)) → drop (at + n) after ≡ drop (at + n) first
  rest-more n before e =
      sym (drop-drop n at after) ∙ ap (drop n) behind ∙ e ∙ ap (drop n) (take_all room (drop at now) fits ∙ before) ∙ drop-drop n at first

  -- those that came are the reader's, in their order
  pub bytes-more : (n : ℕ) (known mid left : Option (List ℕ)) → Consumes known mid (take at now) → Consumes mid left (take n part)
      → Consumes known left (take (at + n) after)
  bytes-more n known mid left before e =
      let came : take (at + n) after ≡ take at now ++ take n part = take-add at n after ∙ simp (front, behind) in
      subst (Consumes known left) (sym came) (Consumes-trans known mid left _ _ before e)

  -- after a read that failed, what was there stays
  pub rest-fails : drop at now ≡ drop at first → part ≡ take room (drop at now) → drop at after ≡ drop at first
  rest-fails before e = behind ∙ e ∙ take_all room (drop at now) fits ∙ before

  -- and no byte of the reader is gone
  pub bytes-fails : (known mid left : Option (List ℕ)) → Consumes known mid (take at now) → Keeps mid left → Consumes known left (take at after)
  bytes-fails known mid left before e = subst (Consumes known left) (sym front) (Consumes-keeps known mid left (take at now) before e)
