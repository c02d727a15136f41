-- r with the doublings that are left has the remainder asked for.
use Rattle.std.proofs.Common.{◌≡◌, ◌-◌, ◌*◌, ◌%◌, ◌^◌, ◌<◌}
use Rattle.arith.proofs.remainder.doubled.Given as goal

abbrev pub invariant-loop : goal.invariant-loop
invariant-loop l = (l.r < 7074237752028440) × (l.r * 2 ^ (l.n - 11 * l.counter) % 7074237752028440 ≡ l.fn.m * 2 ^ l.fn.n % 7074237752028440)
