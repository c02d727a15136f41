-- A refusal hands back the tables that came.
use Rattle.plan.proofs.reader.read.Goals as goal

pub returns-in-Err : goal.returns-in-Err
returns-in-Err c = c.in-Err.ensures c.args.tables
