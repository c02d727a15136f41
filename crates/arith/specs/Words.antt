-- The names that the definitions use of the toolchain and of the code's types, passed on: nothing is defined here.
pub use Prim.Native.Nat.{compare}
pub use Rattle.std.specs.Float.{nan, inf, fin, binary64}
pub use Rattle.std.specs.Float.Ieee.{of_bits, round, neg, eq, lt, le, rem}
pub use Rattle.arith.specs.declared.angle.SineCosine.{SineCosine}
