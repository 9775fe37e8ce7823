use Rattle.table.proofs.Nearness.{code-law}
use Rattle.table.proofs.code_law.Goals as goal

pub returns : goal.returns
returns c = code-law
