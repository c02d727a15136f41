-- All values of the rows in a slice are finite: of each where it stands, as `values_finite` tests them, and in the list of the rows.
use Rattle.std.specs.Prelude.{◌≡◌, refl, ℕ, ◌+◌, ◌*◌, Bool, ◌&&◌, List, [], ◌∷◌, Float}
use Rattle.std.specs.List.{list_all, range_with_len}
use Rattle.std.proofs.Common.{ap, sym, ◌∙◌}
use Rattle.std.proofs.lemmas.List.Folds.{list_all-map}
use Rattle.std.proofs.lemmas.List.FromFn.{fill_by_all}
use Rattle.arith.specs.Real.{is_finite}
use Rattle.rows.specs.declared.geometry.EqualityRow.{EqualityRow}
use Rattle.rows.specs.Geometry.{finite_values}
use Rattle.rows.specs.Region.{tab-length, tab-at}
use Rattle.rows.specs.View.{at, row_at, rows_at}

values-all : (rows : List EqualityRow) → list_all (λ (row : EqualityRow). is_finite row.value) rows ≡ finite_values rows
unfolding finite_values
values-all [] = refl
values-all (row ∷ rows) = ap (λ (b : Bool). is_finite row.value && b) (values-all rows)

module _ (s : List Float) (i : ℕ) where
  abbrev pub finite_at : ℕ → Bool
  finite_at k = is_finite (at s (i + 14 * k + 12))

  pub finite-is : (n a b : ℕ) → list_all finite_at (range_with_len 0 n) ≡ finite_values (rows_at s i a b n)
  finite-is n a b =
      let row : ℕ → EqualityRow = λ k. row_at s (i + 14 * k) a b in
      let test : EqualityRow → Bool = λ row. is_finite row.value in
      sym (list_all-map test row (range_with_len 0 n))
      ∙ ap (list_all test) (sym (fill_by_all row (rows_at s i a b n) n (row 0) (tab-length n row) (tab-at n row (row 0))))
      ∙ values-all (rows_at s i a b n)
