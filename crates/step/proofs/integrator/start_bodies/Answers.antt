-- A body more, a body that is not made, and the last.
use lib.Ieee.{of_bits, round}
use Rattle.std.specs.Prelude.{Result}
use Rattle.std.specs.Result.{result_unwrap_or}
use Rattle.std.proofs.Common.{refl, ap, ◌∙◌, arith}
use Rattle.vectors.specs.declared.matrix.Mat3.{Mat3}
use Rattle.vectors.specs.declared.matrix.CholeskyError.{CholeskyError}
use Rattle.vectors.specs.Matrix.{zero_mat}
use Rattle.std.proofs.lemmas.Result.{err_from_is_err_and}
use Rattle.step.proofs.TableLaws.{begin-none, begin-again, begin-stops, begin-ends}
use Rattle.step.proofs.integrator.start_bodies.Goals as goal

pub loop-k-init : goal.loop-k-init
loop-k-init c = begin-none _ _ _

pub returns-in_err-body : goal.returns-in_err-body
unfolding of_bits round
returns-in_err-body c =
    let inverse = c.unwrap_or-inverse.ensures ∙ ap (λ (r : Result Mat3 CholeskyError). result_unwrap_or r zero_mat) c.inverse_spd.ensures in
    let error = err_from_is_err_and c.from_residual.result c.from_residual.ensures.1 in
    rw (error.1, error.2)
    (begin-stops _ _ _ c.loop-k.invariant c.loop-k-test.true c.requires.1
    c.load_record-record.ensures inverse refl c.in_err-body.ensures)

pub loop-k-preserved : goal.loop-k-preserved
unfolding of_bits round
loop-k-preserved c =
    let inverse = c.unwrap_or-inverse.ensures ∙ ap (λ (r : Result Mat3 CholeskyError). result_unwrap_or r zero_mat) c.inverse_spd.ensures in
    begin-again _ _ _ c.loop-k.invariant c.loop-k-test.true c.requires.1
    c.load_record-record.ensures inverse refl c.in_ok-body.ensures c.store_start.ensures

pub returns : goal.returns
returns c = begin-ends _ _ _ _ _ c.loop-k.invariant (omega arith) c.loop-k-test.false c.requires.1
