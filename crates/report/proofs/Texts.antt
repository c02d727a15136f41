-- Text put into a slice piece by piece.
use Prim.Native.Nat.{ℕ, zero, suc, ◌+◌, ◌-◌, ◌*◌, ◌/◌, ◌^◌, ◌≤◌, ◌<◌}
use mathlib.Core.Path.{◌≡◌, sym, ◌∙◌, ap, subst}
use mathlib.Core.List.{List, [], ◌∷◌, ◌++◌, append_assoc}
use native.Mathlib.Nat.{add_assoc, add-zero, zero-add, le_trans, pow-suc, pow-le-pow_right, div-lt_iff_lt-mul, le-div_iff_mul-le}
use native.Mathlib.Decide.{dec_lt}
use mathlib.Core.Logic.{◌⊎◌, inl, inr}
use native.Mathlib.Omega.{arith}
use lib.ListN.{length, get_or, take, drop, length-append, length-drop}
use lib.Seq.{paste-zero, take_at, drop_at, drop-drop, length-take-le}
use lib.Ieee.{Float, nan, binary64, to_bits}
use borrow.Author.Tests.{lt-ltb, le-ltb, le-leb}
use Rattle.std.specs.Prelude.{Ok, Err}
use Rattle.std.proofs.Common.{get_or-take}
use Rattle.std.proofs.lemmas.List.{get_or-drop}
use Rattle.io.specs.Digits.{last_digits, IsDigitCount}
use Rattle.report.specs.Text.{written, Puts, places, decimal_of, hex_of, field_of, counts_of, fields_of, body_line, body_lines, ok_line}
use Rattle.report.specs.Text.{Answer, no_line, head_line, HEAD_LINE, BODY_LINE, report_of, room_of, report_length, report_out}
use Rattle.arith.specs.Flow.{turns}
use Rattle.report.specs.TextLaws.{decimal-length, fields-more, fields-length, lines_more, lines-length, ok-length, report-fits}

-- ---- one text after another
module _ (out : List ℕ) (at : ℕ) (s : List ℕ) (h : at + length s ≤ length out) where
  front_length : length (take at out ++ s) ≡ at + length s
  front_length = length-append (take at out) s ∙ ap (λ (k : ℕ). k + length s) (length-take-le at out (omega arith))

  written-length : length (written out at s) ≡ length out
  written-length = length-append (take at out ++ s) (drop (at + length s) out) ∙ ap (λ (k : ℕ). k + length (drop (at + length s) out)) front_length
      ∙ omega (arith, length-drop (at + length s) out)

  written-more : (t : List ℕ) → written (written out at s) (at + length s) t ≡ written out at (s ++ t)
  written-more t =
      ap (λ (l : List ℕ). l ++ t ++ drop (at + length s + length t) (written out at s))
      (take_at (take at out ++ s) (drop (at + length s) out) (at + length s) front_length)
      ∙ ap (λ (l : List ℕ). take at out ++ s ++ t ++ l)
      (sym (drop-drop (length t) (at + length s) (written out at s))
      ∙ ap (drop (length t)) (drop_at (take at out ++ s) (drop (at + length s) out) (at + length s) front_length)
      ∙ drop-drop (length t) (at + length s) out)
      ∙ ap (λ (l : List ℕ). l ++ drop (at + length s + length t) out) (append_assoc (take at out) s t)
      ∙ ap (λ (k : ℕ). take at out ++ (s ++ t) ++ drop k out) (add_assoc at (length s) (length t) ∙ ap (λ (k : ℕ). at + k) (sym (length-append s t)))

-- nothing
pub puts_none : (out : List ℕ) (at : ℕ) → at ≤ length out → Puts out at [] out at
puts_none out at h = record { ends = sym (add-zero at); within = h; holds = paste-zero out at [] }

-- where the text is known by another name
pub puts-as : {out : List ℕ} {at : ℕ} {s t : List ℕ} {after : List ℕ} {r : ℕ} → s ≡ t → Puts out at s after r → Puts out at t after r
puts-as {out} {at} {s} {t} {after} {r} e p = subst (λ (l : List ℕ). Puts out at l after r) e p

module _ {out : List ℕ} {at : ℕ} {s now : List ℕ} {a : ℕ} (p : Puts out at s now a) where
  fits : at + length s ≤ length out
  fits = omega (arith, p.ends, p.within)

  pub same_length : length now ≡ length out
  same_length = ap length p.holds ∙ written-length out at s fits

  pub puts_then : {t after : List ℕ} {r : ℕ} → Puts now a t after r → Puts out at (s ++ t) after r
  puts_then {t} {after} {r} q =
      record {
        ends = omega (arith, p.ends, q.ends, length-append s t);
        within = omega (arith, q.within, same_length);
        holds =
            q.holds ∙ ap (λ (k : ℕ). written now k t) p.ends ∙ ap (λ (l : List ℕ). written l (at + length s) t) p.holds
            ∙ written-more out at s fits t;
      }

-- what is left after a text of at most m, where there were m + k
left : {out : List ℕ} {at : ℕ} {s now : List ℕ} {a : ℕ} → Puts out at s now a → (m k : ℕ) → length s ≤ m → at + (m + k) ≤ length out → a + k ≤ length now
left p m k h g = omega (arith, p.ends, same_length p)

-- ---- digits
-- more than k + 1 digits make a number no smaller than b ^ k
module _ (b least n k : ℕ) (pos : 1 ≤ b) (h : IsDigitCount b least n k) where
  large : (m : ℕ) → m < k → least < k → b ^ m ≤ n
  large m g l = le_trans (pow-le-pow_right pos (omega arith)) (h.2 l)

split : (a b : ℕ) → (a < b) ⊎ (b ≤ a)
split a b = by (dec_lt a b)
  where
    by : Dec (a < b) → (a < b) ⊎ (b ≤ a)
    by (yes h) = inl h
    by (no h) = inr (omega arith)

one_place : (n k : ℕ) → IsDigitCount 10 1 n k → n < 10 → k ≡ 1
one_place n k g l = by (split 1 k)
  where
    by : (1 < k) ⊎ (k ≤ 1) → k ≡ 1
    by (inl m) = absurd (let q : 10 ^ 1 ≤ n = large 10 1 n k (omega arith) g 1 m m in omega arith)
    by (inr m) = omega (arith, g.0)

-- without the last digit there is one place fewer
fewer : (n j : ℕ) → IsDigitCount 10 1 n (suc (suc j)) → IsDigitCount 10 1 (n / 10) (suc j)
fewer n j g = (
  omega arith,
  (div-lt_iff_lt-mul {k = 10} {x = n} {y = 10 ^ suc j} (omega arith)).1 (rw pow-suc at g.1),
  λ l. (le-div_iff_mul-le {k = 10} {x = 10 ^ (suc j - 1)} {y = n} (omega arith)).1
      (let e : suc j - 1 ≡ j = omega arith in
      rw e (rw (← pow-suc 10 j) (large 10 1 n (suc (suc j)) (omega arith) g (suc j) (omega arith) (omega arith)))),
)

places_is : (f n k : ℕ) → k ≤ suc f → IsDigitCount 10 1 n k → k ≡ places f n
unfolding places
places_is zero n k h g = omega (arith, g.0)
places_is (suc f) n k h g = by k h g (split n 10) (places_is f (n / 10))
  where
    by : (k : ℕ) → k ≤ suc (suc f) → IsDigitCount 10 1 n k → (n < 10) ⊎ (10 ≤ n) → ((j : ℕ) → j ≤ suc f → IsDigitCount 10 1 (n / 10) j → j ≡ places f (n / 10))
        → k ≡ places (suc f) n
    by k h g (inl l) ih = simp (lt-ltb _ _ l) (one_place n k g l)
    by zero h g (inr l) ih = absurd (omega (arith, g.0))
    by (suc zero) h g (inr l) ih = absurd (let q : n < 10 ^ 1 = g.1 in omega arith)
    by (suc (suc j)) h g (inr l) ih = simp (le-ltb _ _ l) (omega (arith, ih (suc j) (omega arith) (fewer n j g)))

pub decimal-is : (n k : ℕ) → n < 2 ^ 64 → IsDigitCount 10 1 n k → last_digits 10 k n ≡ decimal_of n
unfolding decimal_of
decimal-is n k h g = ap (λ (j : ℕ). last_digits 10 j n) (places_is 19 n k (most (split 20 k)) g)
  where
    most : (20 < k) ⊎ (k ≤ 20) → k ≤ 20
    most (inl m) = absurd (let q : 10 ^ 20 ≤ n = large 10 1 n k (omega arith) g 20 m (omega arith) in omega arith)
    most (inr m) = m

pub hex-is : (x : Float) (n k : ℕ) → n < 2 ^ 64 → n ≡ to_bits binary64 x → IsDigitCount 16 16 n k → last_digits 16 k n ≡ hex_of x
unfolding hex_of
hex-is x n k h e g = ap (λ (j : ℕ). last_digits 16 j n) (all (split 16 k)) ∙ ap (last_digits 16 16) e
  where
    all : (16 < k) ⊎ (k ≤ 16) → k ≡ 16
    all (inl m) = absurd (let q : 16 ^ 16 ≤ n = large 16 16 n k (omega arith) g 16 m m in omega arith)
    all (inr m) = omega (arith, g.0)

-- ---- the digits that the kit's functions put into an array
module _ (n : ℕ) {k : ℕ} {t : List ℕ} (h : n < 2 ^ 64) (g : IsDigitCount 10 1 n k) (e : t ≡ last_digits 10 k n) where
  pub decimal-text : t ≡ decimal_of n
  decimal-text = e ∙ decimal-is n k h g

module _ (x : Float) {n k : ℕ} {t : List ℕ} (h : n < 2 ^ 64) (i : n ≡ to_bits binary64 x) (g : IsDigitCount 16 16 n k) (e : t ≡ last_digits 16 k n) where
  pub hex-text : t ≡ hex_of x
  hex-text = e ∙ hex-is x n k h i g

  module _ {out : List ℕ} {at : ℕ} {one : List ℕ} {a : ℕ} (p : Puts out at (32 ∷ []) one a) where
    pub hex-puts : {two : List ℕ} {r : ℕ} → Puts one a t two r → Puts out at (field_of x) two r
    unfolding field_of
    hex-puts q = puts_then p (puts-as hex-text q)

-- ---- the pieces in their order, with the room that each leaves

module _ (n : ℕ) {out : List ℕ} {at : ℕ} (room : at + 42 ≤ length out) {one : List ℕ} {a : ℕ} (p : Puts out at (decimal_of n) one a) where
  pub counts-after-first : a + 1 ≤ length one
  counts-after-first = left p 20 1 (decimal-length n) (omega arith)

  module _ {two : List ℕ} {b : ℕ} (q : Puts one a (32 ∷ []) two b) where
    pub counts-after-space : b + 20 ≤ length two
    counts-after-space = left (puts_then p q) 21 20 (simp length-append (omega (arith, decimal-length n))) (omega arith)

    module _ (m : ℕ) {three : List ℕ} {d : ℕ} (r : Puts two b (decimal_of m) three d) where
      pub counts-after-second : d + 1 ≤ length three
      counts-after-second = left (puts_then (puts_then p q) r) 41 1 (simp length-append (omega (arith, decimal-length n, decimal-length m))) (omega arith)

      pub counts-puts : {four : List ℕ} {e : ℕ} → Puts three d (10 ∷ []) four e → Puts out at (counts_of n m) four e
      unfolding counts_of
      counts-puts l = puts_then (puts_then (puts_then p q) r) l

module _ {out : List ℕ} {at : ℕ} (room : at + HEAD_LINE ≤ length out) {one : List ℕ} {a : ℕ} (p : Puts out at (78 ∷ 79 ∷ 32 ∷ []) one a) where
  module _ (number : ℕ) {two : List ℕ} {b : ℕ} (q : Puts one a (decimal_of number) two b) where
    pub no-after-number : b + 1 ≤ length two
    no-after-number = left (puts_then p q) 23 1 (simp length-append (omega (arith, decimal-length number))) (omega arith)

    module _ {three : List ℕ} {d : ℕ} (r : Puts two b (32 ∷ []) three d) where
      pub no-after-space : d + 42 ≤ length three
      no-after-space = left (puts_then (puts_then p q) r) 24 42 (simp length-append (omega (arith, decimal-length number))) (omega arith)

      pub no-puts : (n m : ℕ) {four : List ℕ} {e : ℕ} → Puts three d (counts_of n m) four e → Puts out at (no_line number n m) four e
      unfolding no_line
      no-puts n m l = puts_then (puts_then (puts_then p q) r) l

pub ok-puts : (n m : ℕ) {out one two : List ℕ} {at a b : ℕ} → Puts out at (79 ∷ 75 ∷ 32 ∷ []) one a → Puts one a (counts_of n m) two b
    → Puts out at (ok_line n m) two b
unfolding ok_line
ok-puts n m p q = puts_then p q

module _ (bodies : List Float) where
  module _ (i : ℕ) {out : List ℕ} {at : ℕ} (room : at + BODY_LINE ≤ length out) {one : List ℕ} {a : ℕ} (p : Puts out at (decimal_of i) one a) where
    pub line-after-index : a + 221 ≤ length one
    line-after-index = left p 20 221 (decimal-length i) (omega arith)

    module _ {two : List ℕ} {b : ℕ} (q : Puts one a (fields_of bodies (26 * i) 13) two b) where
      pub line-after-state : b + 1 ≤ length two
      line-after-state = left (puts_then p q) 241 1 (simp length-append (omega (arith, decimal-length i, fields-length bodies (26 * i) 13))) (omega arith)

      pub line-puts : {three : List ℕ} {d : ℕ} → Puts two b (10 ∷ []) three d → Puts out at (body_line bodies i) three d
      unfolding body_line
      line-puts l = puts_then (puts_then p q) l

  -- double k of those from a place on
  pub from-at : (from n k : ℕ) → from + n ≤ length bodies → k < length (take n (drop from bodies))
      → get_or (take n (drop from bodies)) k nan ≡ get_or bodies (from + k) nan
  from-at from n k h g =
      let within : n ≤ length (drop from bodies) = omega (arith, length-drop from bodies) in
      get_or-take n (drop from bodies) k nan (omega (arith, length-take-le n (drop from bodies) within)) ∙ get_or-drop from bodies k nan

  -- the two loops
  module _ (from : ℕ) {out : List ℕ} {at : ℕ} (room : at + 221 ≤ length out) where
    pub numbers-none : Puts out at (fields_of bodies from 0) out at
    unfolding fields_of turns
    numbers-none = puts_none out at (omega arith)

    module _ (k : ℕ) {now : List ℕ} {next : ℕ} (p : Puts out at (fields_of bodies from k) now next) where
      pub numbers-room : k < 13 → next + 17 ≤ length now
      numbers-room h = left p (17 * k) 17 (omega (arith, fields-length bodies from k)) (omega arith)

      pub fields-puts : {after : List ℕ} {r : ℕ} → Puts now next (field_of (get_or bodies (from + k) nan)) after r
          → Puts out at (fields_of bodies from (k + 1)) after r
      fields-puts q = puts-as (fields-more bodies from k) (puts_then p q)

  module _ (body-count : ℕ) {out : List ℕ} {at : ℕ} (room : at + BODY_LINE * body-count ≤ length out) where
    pub lines_none : Puts out at (body_lines bodies 0) out at
    unfolding body_lines turns
    lines_none = puts_none out at (omega arith)

    module _ (i : ℕ) {now : List ℕ} {next : ℕ} (p : Puts out at (body_lines bodies i) now next) where
      pub lines-room : i < body-count → next + BODY_LINE ≤ length now
      lines-room h = left p (BODY_LINE * i) BODY_LINE (lines-length bodies i) (omega arith)

      pub lines-puts : {after : List ℕ} {r : ℕ} → Puts now next (body_line bodies i) after r → Puts out at (body_lines bodies (i + 1)) after r
      lines-puts q = puts-as (lines_more bodies i) (puts_then p q)

-- ---- the whole report
module _ (answer : Answer) (n m : ℕ) (out : List ℕ) where
  module _ (room : room_of answer ≤ length out) {after : List ℕ} {r : ℕ} where
    -- where there is room for it, the report is put whole
    pub report-puts : r ≡ report_length answer n m out → after ≡ report_out answer n m out → Puts out 0 (report_of answer n m) after r
    report-puts e h =
        let text : List ℕ = report_of answer n m in
        let whole : r ≡ length text = e ∙ simp (le-leb (room_of answer) (length out) room) in
        record {
          ends = whole ∙ sym (zero-add (length text));
          within = omega (arith, report-fits answer n m);
          holds = h ∙ simp (le-leb (room_of answer) (length out) room) (ap (λ (k : ℕ). text ++ drop k out) (sym (zero-add (length text))));
        }

-- an accepted step: the first line, then the bodies
module _ (bodies : List Float) (n m : ℕ) {out : List ℕ} {at : ℕ} (room : at + room_of (Ok bodies) ≤ length out) {one : List ℕ} {a : ℕ}
    (p : Puts out at (ok_line n m) one a) where
  pub bodies-room : a + BODY_LINE * (length bodies / 26) ≤ length one
  bodies-room = left p HEAD_LINE (BODY_LINE * (length bodies / 26)) (ok-length n m) (omega arith)

  pub accepted-puts : {after : List ℕ} {r : ℕ} → Puts one a (body_lines bodies (length bodies / 26)) after r → Puts out at (report_of (Ok bodies) n m) after r
  unfolding report_of head_line
  accepted-puts q = puts_then p q

-- a refusal: one line
pub refused-puts : (number n m : ℕ) {out after : List ℕ} {at r : ℕ} → Puts out at (no_line number n m) after r
    → Puts out at (report_of (Err number) n m) after r
unfolding report_of head_line
refused-puts number n m p = p
