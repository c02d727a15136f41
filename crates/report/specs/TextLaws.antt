-- Laws of the report's text: how long each piece is, and that the room for a report is enough.
use Prim.Native.Nat.{ℕ, zero, suc, ◌+◌, ◌*◌, ◌/◌, ◌%◌, ◌≤◌}
use Rattle.std.specs.Prelude.{◌≡◌, Bool, true, false, cond, List, [], ◌∷◌, ◌++◌, ltb, length, get_or, Float, Ok, Err}
use Rattle.std.proofs.Math.Path.{refl}
use Rattle.std.proofs.Common.{◌∙◌, ap, add-one}
use native.Mathlib.Omega.{arith}
use Rattle.std.proofs.Math.ListN.{length-append}
use Rattle.std.specs.Float.{nan, binary64}
use Rattle.std.specs.Float.Ieee.{to_bits}
use Rattle.io.specs.Digits.{last_digits, hex_digit_ascii}
use Rattle.arith.specs.Flow.{turns}
use Rattle.report.specs.Text.{places, decimal_of, hex_of, field_of, counts_of, fields_of, body_line, body_lines, ok_line, no_line, head_line, report_of}
use Rattle.report.specs.Text.{Answer, room_of, HEAD_LINE, BODY_LINE}

-- ---- digits
pub digits-length : (b k n : ℕ) → length (last_digits b k n) ≡ k
digits-length b zero n = refl
digits-length b (suc k) n = length-append (last_digits b k (n / b)) (hex_digit_ascii (n % b) ∷ []) ∙ ap (λ (x : ℕ). x + 1) (digits-length b k (n / b))
    ∙ add-one k

pub places-most : (k n : ℕ) → places k n ≤ suc k
unfolding places
places-most zero n = omega arith
places-most (suc k) n = by (ltb n 10) (places-most k (n / 10))
  where
    by : (c : Bool) → places k (n / 10) ≤ suc k → cond c 1 (places k (n / 10) + 1) ≤ suc (suc k)
    by true h = omega arith
    by false h = omega arith

-- ---- how long each piece is
pub decimal-length : (n : ℕ) → length (decimal_of n) ≤ 20
unfolding decimal_of
decimal-length n = rw (digits-length 10 (places 19 n) n) (places-most 19 n)

pub hex-length : (x : Float) → length (hex_of x) ≡ 16
unfolding hex_of
hex-length x = digits-length 16 16 (to_bits binary64 x)

pub field-length : (x : Float) → length (field_of x) ≡ 17
unfolding field_of
field-length x = ap suc (hex-length x)

pub counts-length : (n m : ℕ) → length (counts_of n m) ≤ 42
unfolding counts_of
counts-length n m = simp length-append (omega (arith, decimal-length n, decimal-length m))

module _ (bodies : List Float) where
  pub fields-more : (i k : ℕ) → fields_of bodies i k ++ field_of (get_or bodies (i + k) nan) ≡ fields_of bodies i (k + 1)
  unfolding fields_of turns
  fields-more i k = rw (add-one k) refl

  pub fields-length : (i k : ℕ) → length (fields_of bodies i k) ≡ 17 * k
  unfolding fields_of turns
  fields-length i zero = refl
  fields-length i (suc k) =
      length-append (fields_of bodies i k) (field_of (get_or bodies (i + k) nan)) ∙ omega (arith, fields-length i k, field-length (get_or bodies (i + k) nan))

  pub line-length : (i : ℕ) → length (body_line bodies i) ≤ BODY_LINE
  unfolding body_line
  line-length i = simp length-append (omega (arith, decimal-length i, fields-length (26 * i) 13))

  pub lines_more : (n : ℕ) → body_lines bodies n ++ body_line bodies n ≡ body_lines bodies (n + 1)
  unfolding body_lines turns
  lines_more n = rw (add-one n) refl

  pub lines-length : (n : ℕ) → length (body_lines bodies n) ≤ BODY_LINE * n
  unfolding body_lines turns
  lines-length zero = omega arith
  lines-length (suc n) = simp length-append (omega (arith, lines-length n, line-length n))

-- ---- the room for a report is enough
pub ok-length : (n m : ℕ) → length (ok_line n m) ≤ HEAD_LINE
unfolding ok_line
ok-length n m = simp length-append (omega (arith, counts-length n m))

no_length : (number n m : ℕ) → length (no_line number n m) ≤ HEAD_LINE
unfolding no_line
no_length number n m = simp length-append (omega (arith, decimal-length number, counts-length n m))

pub head-length : (answer : Answer) (n m : ℕ) → length (head_line answer n m) ≤ HEAD_LINE
unfolding head_line
head-length (Ok bodies) n m = ok-length n m
head-length (Err number) n m = no_length number n m

pub report-fits : (answer : Answer) (n m : ℕ) → length (report_of answer n m) ≤ room_of answer
unfolding report_of
report-fits (Ok bodies) n m = simp length-append (omega (arith, head-length (Ok bodies) n m, lines-length bodies (length bodies / 26)))
report-fits (Err number) n m = omega (arith, head-length (Err number) n m)
