-- Rows appended one behind the other: what stands in the slice then is the definitions' list.
use Prim.Native.Nat.{ℕ, ◌+◌, ◌*◌, ◌≤◌, ◌<◌}
use mathlib.Core.Path.{◌≡◌, refl, sym, ◌∙◌, ap, subst}
use mathlib.Core.Bool.{Bool, true, false}
use mathlib.Core.List.{List, [], ◌∷◌, ◌++◌, append-nil}
use native.Mathlib.Omega.{arith}
use lib.Ieee.{Float}
use Rattle.std.specs.Prelude.{Option, Some, None, Ok, Err, IsErrAnd, option_to_list}
use Rattle.arith.specs.Flow.{Turn, go, stop, and_then, ◌>>=◌, tab}
use Rattle.rows.specs.declared.geometry.Joint.{Joint}
use Rattle.rows.specs.declared.geometry.EqualityRow.{EqualityRow}
use Rattle.rows.specs.Fault.{CollisionError, Result}
use Rattle.rows.specs.Geometry.{row_if}
use Rattle.rows.specs.View.{row_at, rows_at, Out, Kept}
use Rattle.rows.specs.Append.{listed, count_in, Appends, Adds}
use Rattle.rows.specs.Region.{kept_refl, kept_then, kept_more, kept_row, tab-ext, tab-more}

-- the error that a `?` hands on
pub error-is : {A E : Type 0} {r : Turn A E} {e : E} → IsErrAnd r (λ y. y ≡ e) → r ≡ Err e
error-is {r = Ok x} h = absurd h
error-is {r = Err y} h = ap Err h

-- ---- at most one row
pub grown : {i n r : ℕ} {s t : List Float} {o : Option EqualityRow} → Appends i n o s t r → r ≤ n + 1
grown {n = n} {r} {o = o} p = let most = count-most o in omega (arith, p.is)
  where
    count-most : (o : Option EqualityRow) → count_in o ≤ 1
    count-most (Some row) = omega arith
    count-most None = omega arith

-- ---- the bodies of a row
-- a row that d gives is between a and b
pub record Mine (a b : ℕ) (d : Result EqualityRow) : Type 0 where
  pub between : (row : EqualityRow) → go row ≡ d → (row.a ≡ a) × (row.b ≡ b)

abbrev given : EqualityRow → Result EqualityRow
given row = go row

a-is : (x row : EqualityRow) → given x ≡ given row → x.a ≡ row.a
a-is x row e = cc

b-is : (x row : EqualityRow) → given x ≡ given row → x.b ≡ row.b
b-is x row e = cc

pub mine-go : {a b : ℕ} {row : EqualityRow} → row.a ≡ a → row.b ≡ b → Mine a b (go row)
mine-go {row} ea eb = record { between = λ x e. (a-is x row e ∙ ea, b-is x row e ∙ eb) }

pub mine-stop : {a b : ℕ} (f : CollisionError) → Mine a b (stop f)
mine-stop f = record { between = λ x e. let z : ◌≡◌ {A = ℕ} 0 1 = cc in absurd (omega arith) }

pub mine-then : {A : Type 0} {a b : ℕ} (m : Result A) {f : A → Result EqualityRow} → ((x : A) → Mine a b (f x)) → Mine a b (m >>= f)
unfolding and_then
mine-then (go x) {f} h = h x
mine-then (stop e) {f} h = mine-stop e

-- so is the row that an answer has, where it has one
pub record Ours (a b : ℕ) (o : Option EqualityRow) : Type 0 where
  pub between : (row : EqualityRow) → o ≡ Some row → (row.a ≡ a) × (row.b ≡ b)

row-if-between : {a b : ℕ} (locked : Bool) (D : Result EqualityRow) → Mine a b D → (row : EqualityRow) → go (row ∷ []) ≡ row_if locked D
    → (row.a ≡ a) × (row.b ≡ b)
unfolding and_then
row-if-between true (go x) m row e = m.between row (cc)
row-if-between true (stop f) m row e = let z : ◌≡◌ {A = ℕ} 0 1 = cc in absurd (omega arith)
row-if-between false D m row e = let z : ◌≡◌ {A = ℕ} 0 1 = cc in absurd (omega arith)

pub ours : {a b : ℕ} {o : Option EqualityRow} (locked : Bool) (D : Result EqualityRow) → Mine a b D → listed (Ok o) ≡ row_if locked D → Ours a b o
ours locked D m e = record { between = λ row h. row-if-between locked D m row (ap (λ (o : Option EqualityRow). listed (Ok o)) (sym h) ∙ e) }

pub ours-some : {a b : ℕ} {row : EqualityRow} {D : Result EqualityRow} → Mine a b D → go row ≡ D → Ours a b (Some row)
ours-some {row = row} {D} m e = record { between = λ x h. let same : x ≡ row = cc in m.between x (ap go same ∙ e) }

-- ---- n rows that were written since s was
pub record Begun (joint : Joint) (i n : ℕ) (s t : List Float) (rows : List EqualityRow) : Type 0 where
  pub kept : Kept (λ k. Out i (14 * n) k) s t
  pub is : rows_at t i joint.body_a joint.body_b n ≡ rows

pub begun : (joint : Joint) (i : ℕ) (s : List Float) → Begun joint i 0 s s []
unfolding tab
begun joint i s = record { kept = kept_refl _ s; is = refl }

row-there : (t : List Float) (p a b : ℕ) {row : EqualityRow} → row_at t p row.a row.b ≡ row → (row.a ≡ a) × (row.b ≡ b) → row_at t p a b ≡ row
row-there t p a b {row} e m = ap (λ (x : ℕ). row_at t p x b) (sym m.0) ∙ ap (λ (y : ℕ). row_at t p row.a y) (sym m.1) ∙ e

-- and one row more
pub onward : {joint : Joint} {i n r : ℕ} {s t u : List Float} {rows : List EqualityRow} {o : Option EqualityRow}
    → Begun joint i n s t rows → Appends i n o t u r → Ours joint.body_a joint.body_b o → Begun joint i r s u (rows ++ option_to_list o)
onward {joint} {i} {n} {r} {s} {t} {u} {rows} {o} p q m =
    subst (λ (r : ℕ). Begun joint i r s u (rows ++ option_to_list o)) (sym q.is) (case o q.kept q.there m)
  where
    same_rows : (k : ℕ) → Kept (λ j. Out (i + 14 * n) k j) t u → (j : ℕ) → j < n
        → row_at u (i + 14 * j) joint.body_a joint.body_b ≡ row_at t (i + 14 * j) joint.body_a joint.body_b
    same_rows k h j l = kept_row h (i + 14 * j) joint.body_a joint.body_b (λ x y z. omega arith)

    case : (o : Option EqualityRow) → Kept (λ k. Out (i + 14 * n) (14 * count_in o) k) t u
        → ((x : EqualityRow) → o ≡ Some x → row_at u (i + 14 * n) x.a x.b ≡ x) → Ours joint.body_a joint.body_b o
        → Begun joint i (n + count_in o) s u (rows ++ option_to_list o)
    case (Some row) k h m = record {
      kept = kept_then (kept_more p.kept (λ j x. omega arith)) k (λ j x. omega arith);
      is = tab-more n (same_rows 14 k) (row-there u (i + 14 * n) joint.body_a joint.body_b (h row refl) (m.between row refl))
          ∙ ap (λ (xs : List EqualityRow). xs ++ (row ∷ [])) p.is;
    }
    case None k h m =
        let same : n + 0 ≡ n = omega arith in
        subst (λ (r : ℕ). Begun joint i r s u (rows ++ [])) (sym same) (record {
          kept = kept_then p.kept k (λ j x. omega arith);
          is = tab-ext n (same_rows 0 k) ∙ p.is ∙ sym (append-nil rows);
        })

-- ---- the end of a write: its rows, or a failure after some of them
module _ {joint : Joint} {i n most : ℕ} {s t : List Float} {rows : List EqualityRow} {d : Result (List EqualityRow)}
    (p : Begun joint i n s t rows) (h : n ≤ most) where
  pub written : go rows ≡ d → Adds joint i most s t (Ok n) d
  written e = record {
    kept = p.kept;
    within = λ m q. let same : n ≡ m = cc in omega arith;
    is = ap go p.is ∙ e;
  }

  pub broken_off : {r : Result ℕ} {f : CollisionError} → r ≡ Err f → stop f ≡ d → Adds joint i most s t r d
  broken_off {r} {f} l e = subst (λ (r : Result ℕ). Adds joint i most s t r d) (sym l) (record {
    kept = kept_more p.kept (λ k x. omega arith);
    within = λ m q. let z : ◌≡◌ {A = ℕ} 0 1 = cc in absurd (omega arith);
    is = e;
  })

pub lost_at_once : {joint : Joint} {i most : ℕ} {s : List Float} {d : Result (List EqualityRow)} {r : Result ℕ} {f : CollisionError}
    → r ≡ Err f → stop f ≡ d → Adds joint i most s s r d
lost_at_once {joint} {i} {s = s} l e = broken_off (begun joint i s) (omega arith) l e
