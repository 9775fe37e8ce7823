use Rattle.table.proofs.Distincts.{distinct-law}
use Rattle.table.proofs.distinct_law.Goals as goal

pub returns : goal.returns
returns c = distinct-law
