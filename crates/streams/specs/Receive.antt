-- What a reading of an input answers. Which bytes come is said of a reader whose bytes are known: `known` before the reading and
-- `left` after it. Those of standard input are not.
use Rattle.std.specs.Prelude.{ℕ, Result, Ok, Err, Option, MatchResult, ◌≤◌, ◌<◌, ◌≡◌, List, length, take, drop}
use Rattle.std.specs.Io.KnownBytes.{Consumes, IsAtEnd}
use Rattle.std.specs.declared.io.Error.{Error}
use Rattle.streams.specs.declared.Unread.{Unread}

-- how many bytes came, before a failed read too
abbrev pub came : Result ℕ Unread → ℕ
came (Ok count) = count
came (Err unread) = unread.count

-- a reading into a buffer that held `before` and holds `after`: the bytes that came stand at its head in the reader's order, those
-- behind them are as they were, and it stops before the buffer is full only where a read failed or the input ended
pub record Receives (before after : List ℕ) (known left : Option (List ℕ)) (r : Result ℕ Unread) : Type 0 where
  pub size : length after ≡ length before
  pub bytes : Consumes known left (take (came r) after)
  pub rest : drop (came r) after ≡ drop (came r) before
  pub early : MatchResult r (λ count. (count ≤ length before) × (count < length before → IsAtEnd left)) (λ unread. unread.count < length before)

-- what the read answered that ended a reading early: 0 is the end of the input, and an error a failure
abbrev pub ending : Result ℕ Unread → Result ℕ Error
ending (Ok count) = Ok 0
ending (Err unread) = Err unread.error

-- a reading that stops before its `room` is full answers what its last read answered, which left the source as it is `now`;
-- `gives before r now` says that a read of the source may answer r and change it so
abbrev pub Told : {S : Type 0} → (S → Result ℕ Error → S → Type 0) → ℕ → S → Result ℕ Unread → Type 0
Told gives room now r = came r < room → (before : _) × gives before (ending r) now
