-- What the exported functions answer, where a refused argument gives 0.
use Rattle.std.specs.Prelude.{Float, Result, Ok, Err}
use Rattle.std.specs.Float.{binary64}
use Rattle.std.specs.Float.Ieee.{of_bits}
use Rattle.arith.specs.declared.angle.SineCosine.{SineCosine}
use Rattle.arith.specs.declared.fault.CollisionError.{CollisionError}

abbrev pub sine_in : Result SineCosine CollisionError → Float
sine_in (Ok t) = t.s
sine_in (Err e) = of_bits binary64 0

abbrev pub cosine_in : Result SineCosine CollisionError → Float
cosine_in (Ok t) = t.c
cosine_in (Err e) = of_bits binary64 0

abbrev pub angle_in : Result Float CollisionError → Float
angle_in (Ok v) = v
angle_in (Err e) = of_bits binary64 0
