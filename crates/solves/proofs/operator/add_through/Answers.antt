-- The share of one body, where both rows touch it.
use Rattle.solves.proofs.OperatorLaws.{same_body}
use Rattle.solves.proofs.operator.add_through.Goals as goal

pub returns-then-ai-bi : goal.returns-then-ai-bi
returns-then-ai-bi c n there = search same_body
