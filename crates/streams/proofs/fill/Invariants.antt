-- `fill`: after each turn `count` bytes have come and stand at the front, and those behind them are those of the first buffer.
use Rattle.std.proofs.Common.{length, take, drop, ◌-◌, ◌≤◌, ◌≡◌}
use Rattle.std.specs.Io.KnownBytes.{Consumes}
use Rattle.streams.proofs.fill.Given as goal

abbrev pub invariant-loop-count : goal.invariant-loop-count
invariant-loop-count g l =
    record {
      size : length l.buffer ≡ length l.initial.buffer;
      within : l.count ≤ length l.buffer;
      rest : drop l.count l.buffer ≡ drop l.count l.initial.buffer;
      bytes : Consumes (g.S.Source.remaining l.initial.from) (g.S.Source.remaining l.from) (take l.count l.buffer);
      none : length l.initial.buffer ≡ 0 → l.from ≡ l.initial.from;
    }

abbrev pub decreases-loop-count : goal.decreases-loop-count
decreases-loop-count g l = length l.initial.buffer - l.count
