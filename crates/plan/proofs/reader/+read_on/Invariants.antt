-- `read_on`: what is left of the file grows shorter with each call.
use Rattle.std.proofs.Common.{length}
use Rattle.plan.proofs.reader.+read_on.Given as goal

abbrev pub decreases-read_on : goal.decreases-read_on
decreases-read_on l = length l.file.now
