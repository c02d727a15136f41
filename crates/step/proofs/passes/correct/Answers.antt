-- The solve and what is made of its solution, one after the other (PassLaws).
use Rattle.std.proofs.Common.{refl}
use Rattle.std.proofs.lemmas.Result.{err_from_is_err_and}
use Rattle.rows.specs.Region.{kept_refl}
use Rattle.solves.specs.DoesLaws.{does-is}
use Rattle.step.proofs.PassLaws.{solved, run-fails, run-then, fails, goes-then, goes-here, goes-more, solve-inside, same-make}
use Rattle.step.proofs.passes.correct.Goals as goal

pub returns-in_err-solve : goal.returns-in_err-solve
returns-in_err-solve g c =
    let error = err_from_is_err_and c.from_residual.result c.from_residual.ensures.1 in
    rw (error.1, error.2) (run-fails _ (goes-more (solve-inside _) (solved c.in_err-solve.ensures.0)), refl)

pub returns-in_err-apply : goal.returns-in_err-apply
returns-in_err-apply g c =
    let solution = c.in_ok-solve.ensures.0 in
    let error = err_from_is_err_and c.from_residual-in_err-apply.result c.from_residual-in_err-apply.ensures.1 in
    rw (error.1, error.2)
    (run-then _ (goes-more (solve-inside _) (solved solution)) (fails _ (does-is c.in_err-apply.ensures (same-make _ _ solution.kept _))), refl)

pub returns : goal.returns
returns g c =
    let solution = c.in_ok-solve.ensures.0 in (
      run-then _ (goes-more (solve-inside _) (solved solution))
          (goes-then _ (does-is c.in_ok-apply.ensures (same-make _ _ solution.kept _)) (goes-here (kept_refl _ _))),
      refl,
    )
