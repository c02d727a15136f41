-- So many refinements were counted, and the next goes on from s.
use Rattle.std.proofs.Common.{◌≡◌, ◌+◌}
use Rattle.solves.specs.Search.{refinement}
use Rattle.solves.specs.View.{count_of, system_at, rhs_at, order_in, factor_at, refined_at, Refining}
use Rattle.solves.proofs.SearchLaws.{Came}
use Rattle.solves.proofs.path.refinements.Given as goal

abbrev pub invariant-loop : goal.invariant-loop
invariant-loop l =
    let rows = l.path.rows in
    let n = count_of rows in
    record {
      counted : l.linear ≡ l.fn.linear + l.counter;
      came : Came Refining 4 (refinement (system_at l.fn.s rows) (rhs_at l.fn.s rows) (order_in l.path) (factor_at l.fn.s n) l.tolerance) l.fn.s
          (refined_at l.fn.s n) l.counter l.s (refined_at l.s n);
    }
