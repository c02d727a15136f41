-- So many passes were counted, and whatever a pass is, the next goes on from s.
use Rattle.std.proofs.Common.{◌≡◌, ◌+◌, ℕ, List}
use lib.Ieee.{Float}
use Rattle.arith.specs.Flow.{Turn}
use Rattle.rows.specs.View.{Kept}
use Rattle.solves.specs.System.{Counting}
use Rattle.solves.specs.Solver.{Search}
use Rattle.solves.specs.Region.{Does}
use Rattle.solves.specs.Answer.{search_as}
use Rattle.solves.specs.View.{search_at, Passing}
use Rattle.solves.proofs.SearchLaws.{Searched}
use Rattle.solves.proofs.search.search.Given as goal

abbrev pub invariant-loop : goal.invariant-loop
invariant-loop g l = record {
  counted : l.linear ≡ l.fn.linear + l.counter;
  searched : (n : ℕ) (defined : Search → Counting (Turn Search (List Float)))
      → ((t : _) (rho : Float) (r : _) (u : _) → Kept Passing l.fn.s t.now → goal.F-post g l.fn.pass t rho r u
      → Does Passing t.now u.now (search_as r u.now n) (defined (search_at t.now n rho)))
      → Searched n l.most defined l.fn.s l.fn.start l.counter l.s l.rho;
}
