-- Each frame is that of its own body.
use Rattle.std.proofs.Common.{rules, ◌≡◌}
use Rattle.arith.specs.Flow.{and_then}
use Rattle.vectors.specs.Quaternion.{product_of}
use Rattle.rows.specs.Geometry.{ends_of}
use Rattle.rows.proofs.geometry.ends_of.Goals as goal

pub returns : goal.returns
unfolding ends_of and_then
returns c =
    let frame_a : c.product.result ≡ product_of c.args.a.rotation c.args.joint.frame_a.local_rotation = c.product.ensures in
    let frame_b : c.product-2.result ≡ product_of c.args.b.rotation c.args.joint.frame_b.local_rotation = c.product-2.ensures in
    search rules
