-- The sum begins with a's half.
use Rattle.std.proofs.Common.{◌≡◌, rules}
use Rattle.solves.specs.Words.{dot_of}
use Rattle.solves.specs.Solver.{diagonal_of}
use Rattle.solves.proofs.gradients.diagonal_entry.Goals as goal

pub returns : goal.returns
unfolding diagonal_of
returns c =
    let first : c.length_squared.result ≡ dot_of c.args.row.linear_a c.args.row.linear_a = c.length_squared.ensures in
    search rules
