-- The counted records at the head of a table, lent and back again.
use Prim.Native.Nat.{ℕ, ◌*◌, ◌≤◌}
use mathlib.Core.Path.{◌≡◌, sym, ◌∙◌, ap}
use mathlib.Core.List.{List, ◌++◌}
use native.Mathlib.Omega.{arith}
use lib.ListN.{length, take, drop}
use lib.Seq.{length-take-le, take_at}
use lib.Ieee.{Float}
use Rattle.plan.specs.File.{TABLE}

module _ (table : List Float) (n : ℕ) (long : length table ≡ TABLE) (few : n ≤ 16) where
  pub part-within : 26 * n ≤ length table
  part-within = omega arith

  pub part_length : 26 * n ≡ length (take (26 * n) table)
  part_length = sym (length-take-le (26 * n) table part-within)

  module _ (part : List Float) (kept : length part ≡ length (take (26 * n) table)) where
    pub back : length part ≡ 26 * n
    back = kept ∙ sym part_length

    pub back-part : take (26 * n) (part ++ drop (26 * n) table) ≡ part
    back-part = take_at part (drop (26 * n) table) (26 * n) back

    pub back-length : 26 * n ≡ length (take (26 * n) (part ++ drop (26 * n) table))
    back-length = sym back ∙ ap length (sym back-part)
