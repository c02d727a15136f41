-- Only a finite number is handed on.
use Rattle.std.proofs.Common.{◌≡◌, true, sym, refl}
use Rattle.solves.specs.Words.{is_finite}
use Rattle.solves.proofs.operator.finite_number.Goals as goal

pub returns : goal.returns
returns c =
    let finite : is_finite c.args.value ≡ true = search (sym c.is_finite.ensures) in
    rw finite refl
