-- An exact rotation keeps lengths: its three axes are orthonormal, so the square of a vector is the sum of the squares of its parts along them.
use Rattle.std.specs.Prelude.{◌≡◌, [], ◌∷◌}
use Rattle.exact.specs.Rat.{qn, ◌+q◌, ◌*q◌, inv}
use Rattle.exact.specs.RingQ.{Rx, rv, ◌⊕◌, ◌⊖◌, ◌⊗◌, same_q}
use Rattle.exact.specs.Cert.{nat, comb, by-eqs}
use Rattle.vectors.specs.Laws.Fractions.{norm_r}
use Rattle.vectors.specs.Laws.Turn.{twist_r}
use Rattle.rows.specs.ExactGeometry.{Vector, Quaternion, ◌·◌, N, turned, X, Y, Z}

-- the first component of (a, b, c) turned, i = 1 / N; the others by turning the names round
abbrev pub turn_r : Rx → Rx → Rx → Rx → Rx → Rx → Rx → Rx → Rx
turn_r i x y z w a b c = a ⊕ twist_r x y z w a b c ⊗ i

-- (p, q, r) · the turned (a, b, c)
abbrev pub along_r : Rx → Rx → Rx → Rx → Rx → Rx → Rx → Rx → Rx → Rx → Rx → Rx
along_r i x y z w p q r a b c = p ⊗ turn_r i x y z w a b c ⊕ q ⊗ turn_r i y z x w b c a ⊕ r ⊗ turn_r i z x y w c a b

-- d² = (d · X)² + (d · Y)² + (d · Z)²; the factor of N i - 1 is 4 i |u × d|²
pub parts-square : (q : Quaternion) (d : Vector) → N q *q inv (N q) ≡ qn 1 → d · X q *q (d · X q) +q d · Y q *q (d · Y q) +q d · Z q *q (d · Z q) ≡ d · d
unfolding same_q comb
parts-square q d e =
    let I = rv 0 in let x = rv 1 in let y = rv 2 in let z = rv 3 in let w = rv 4 in let a = rv 5 in let b = rv 6 in let c = rv 7 in
    let along : Rx → Rx → Rx → Rx = along_r I x y z w a b c in
    let sq : Rx → Rx = λ s. s ⊗ s in
    let one = nat 1 in let o = nat 0 in
    by-eqs (inv (N q) ∷ q.x ∷ q.y ∷ q.z ∷ q.w ∷ d.x ∷ d.y ∷ d.z ∷ []) ((norm_r x y z w ⊗ I, nat 1) ∷ []) (e, tt)
    (nat 4 ⊗ I ⊗ (sq (y ⊗ c ⊖ z ⊗ b) ⊕ sq (z ⊗ a ⊖ x ⊗ c) ⊕ sq (x ⊗ b ⊖ y ⊗ a)) ∷ [])
    (sq (along one o o) ⊕ sq (along o one o) ⊕ sq (along o o one)) (a ⊗ a ⊕ b ⊗ b ⊕ c ⊗ c) tt

-- a turned vector is as long as before; the factor is 4 i |u × v|²
pub turned-square : (q : Quaternion) (v : Vector) → N q *q inv (N q) ≡ qn 1 → turned q v · turned q v ≡ v · v
unfolding same_q comb
turned-square q v e =
    let I = rv 0 in let x = rv 1 in let y = rv 2 in let z = rv 3 in let w = rv 4 in let a = rv 5 in let b = rv 6 in let c = rv 7 in
    let sq : Rx → Rx = λ s. s ⊗ s in
    by-eqs (inv (N q) ∷ q.x ∷ q.y ∷ q.z ∷ q.w ∷ v.x ∷ v.y ∷ v.z ∷ []) ((norm_r x y z w ⊗ I, nat 1) ∷ []) (e, tt)
    (nat 4 ⊗ I ⊗ (sq (y ⊗ c ⊖ z ⊗ b) ⊕ sq (z ⊗ a ⊖ x ⊗ c) ⊕ sq (x ⊗ b ⊖ y ⊗ a)) ∷ [])
    (sq (turn_r I x y z w a b c) ⊕ sq (turn_r I y z x w b c a) ⊕ sq (turn_r I z x y w c a b)) (a ⊗ a ⊕ b ⊗ b ⊕ c ⊗ c) tt
