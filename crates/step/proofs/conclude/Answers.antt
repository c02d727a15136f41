use Rattle.std.proofs.Common.{◌∙◌}
use Rattle.std.proofs.lemmas.Result.{err_from_is_err_and}
use Rattle.step.proofs.FinishLaws.{conclude-fails, conclude-accepts, conclude-grounds}
use Rattle.step.proofs.conclude.Goals as goal

pub returns-in_err-ran : goal.returns-in_err-ran
returns-in_err-ran c =
    let error = err_from_is_err_and c.from_residual.result c.from_residual.ensures.1 in
    conclude-fails _ _ _ c.in_err-ran.was (error.1 ∙ error.2)

pub returns-then-in_ground : goal.returns-then-in_ground
returns-then-in_ground c = λ nonlinear linear scratch.
    conclude-accepts _ _ _ c.in_ground.ensures c.in_ok-ran.was nonlinear linear scratch c.if-in_ground.true
    c.requires.1 c.requires.0 c.write_states.ensures

pub returns : goal.returns
returns c = λ nonlinear linear scratch.
    conclude-grounds _ _ _ c.in_ground.ensures c.in_ok-ran.was nonlinear linear scratch c.if-in_ground.false
