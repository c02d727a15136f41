-- Only what is not finite is refused.
use Rattle.std.proofs.Common.{◌≡◌, false, sym, refl}
use Rattle.rows.specs.Words.{finite_of}
use Rattle.rows.specs.Fault.{try_finite}
use Rattle.rows.proofs.body.finite.Goals as goal

pub returns : goal.returns
unfolding try_finite
returns c =
    let not_finite : finite_of c.args.value ≡ false = search (sym c.is_finite.ensures) in
    rw not_finite refl
