-- The text that answers a plan, as ASCII codes: one line of the outcome and the counts, then a line for each body.
use Rattle.std.specs.Prelude.{ℕ, zero, suc, ◌+◌, ◌*◌, ◌/◌, ◌≤◌, List, [], ◌∷◌, ◌++◌, cond, ◌≡◌, ltb, leb, length, get_or, take, drop, Float, Result, Ok, Err}
use Rattle.std.specs.Borrow.{Bor}
use Rattle.std.specs.Float.{nan, binary64}
use Rattle.std.specs.Float.Ieee.{to_bits}
use Rattle.io.specs.Digits.{last_digits}
use Rattle.arith.specs.Flow.{turns}
use Rattle.step.specs.Records.{RECORD, MOVING}
use Rattle.report.specs.declared.text.Page.{Page}

-- how many digits n has in base ten, where at most k + 1
unfoldable pub places : ℕ → ℕ → ℕ
places zero n = 1
places (suc k) n = cond (ltb n 10) 1 (places k (n / 10) + 1)

-- base ten, with no zeros in front: a count has at most 20 digits
unfoldable pub decimal_of : ℕ → List ℕ
decimal_of n = last_digits 10 (places 19 n) n

-- the bits in hexadecimal, all sixteen digits, lowercase
unfoldable pub hex_of : Float → List ℕ
hex_of x = last_digits 16 16 (to_bits binary64 x)

-- "3 5\n"
unfoldable pub counts_of : ℕ → ℕ → List ℕ
counts_of nonlinear linear = decimal_of nonlinear ++ (32 ∷ []) ++ decimal_of linear ++ (10 ∷ [])

-- a space and a double's bits
unfoldable pub field_of : Float → List ℕ
field_of x = (32 ∷ []) ++ hex_of x

-- the n doubles from i on
unfoldable pub fields_of : List Float → ℕ → ℕ → List ℕ
fields_of bodies i n = turns (λ k text. text ++ field_of (get_or bodies (i + k) nan)) n []

-- a body's number, the thirteen doubles of its state, and the line's end
unfoldable pub body_line : List Float → ℕ → List ℕ
body_line bodies i = decimal_of i ++ fields_of bodies (RECORD * i) MOVING ++ (10 ∷ [])

unfoldable pub body_lines : List Float → ℕ → List ℕ
body_lines bodies n = turns (λ i text. text ++ body_line bodies i) n []

-- "OK 3 5\n"
unfoldable pub ok_line : ℕ → ℕ → List ℕ
ok_line nonlinear linear = (79 ∷ 75 ∷ 32 ∷ []) ++ counts_of nonlinear linear

-- "NO 10 3 5\n"
unfoldable pub no_line : ℕ → ℕ → ℕ → List ℕ
no_line number nonlinear linear = (78 ∷ 79 ∷ 32 ∷ []) ++ decimal_of number ++ (32 ∷ []) ++ counts_of nonlinear linear

-- ---- the report
-- the bodies of an accepted step, or the number of a refusal
abbrev pub Answer : Type 0
Answer = Result (List Float) ℕ

-- the same, where the bodies are a slice
abbrev pub told : Result (Bor (List Float)) ℕ → Answer
told (Ok bodies) = Ok bodies.now
told (Err number) = Err number

-- the first line
unfoldable pub head_line : Answer → ℕ → ℕ → List ℕ
head_line (Ok bodies) nonlinear linear = ok_line nonlinear linear
head_line (Err number) nonlinear linear = no_line number nonlinear linear

-- how many bodies there are lines for
abbrev pub count_in : Answer → ℕ
count_in (Ok bodies) = length bodies / RECORD
count_in (Err number) = 0

-- the first line, and the lines of the bodies of an accepted step
unfoldable pub report_of : Answer → ℕ → ℕ → List ℕ
report_of (Ok bodies) nonlinear linear = head_line (Ok bodies) nonlinear linear ++ body_lines bodies (length bodies / RECORD)
report_of (Err number) nonlinear linear = head_line (Err number) nonlinear linear

-- ---- where it goes
-- the longest first line, and the longest line of a body
abbrev pub HEAD_LINE : ℕ
HEAD_LINE = 66

abbrev pub BODY_LINE : ℕ
BODY_LINE = 242

-- the space that any report of this answer fits
abbrev pub room_of : Answer → ℕ
room_of answer = HEAD_LINE + BODY_LINE * count_in answer

-- out with the text at a place in it
abbrev pub written : List ℕ → ℕ → List ℕ → List ℕ
written out at text = take at out ++ text ++ drop (at + length text) out

-- the text has been put into out at a place, and ends at r
pub record Puts (out : List ℕ) (at : ℕ) (text after : List ℕ) (r : ℕ) : Type 0 where
  pub ends : r ≡ at + length text
  pub within : r ≤ length out
  pub holds : after ≡ written out at text

-- the text has been put on a page, which is of the same slice
pub record Writes (old : Page) (text : List ℕ) (new : Page) : Type 0 where
  pub same : new.out.ghost_name ≡ old.out.ghost_name
  pub puts : Puts old.out.now old.at text new.out.now new.at

-- a report in a slice with room for it; in any other nothing is written, and the length is 0
abbrev pub length_in : List ℕ → ℕ → List ℕ → ℕ
length_in out room text = cond (leb room (length out)) (length text) 0

abbrev pub text_in : List ℕ → ℕ → List ℕ → List ℕ
text_in out room text = cond (leb room (length out)) (text ++ drop (length text) out) out

abbrev pub report_length : Answer → ℕ → ℕ → List ℕ → ℕ
report_length answer nonlinear linear out = length_in out (room_of answer) (report_of answer nonlinear linear)

abbrev pub report_out : Answer → ℕ → ℕ → List ℕ → List ℕ
report_out answer nonlinear linear out = text_in out (room_of answer) (report_of answer nonlinear linear)
