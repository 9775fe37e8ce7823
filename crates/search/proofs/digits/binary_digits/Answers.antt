use Rattle.search.proofs.Widths.{has_digits}
use Rattle.search.proofs.digits.binary_digits.Goals as goal

pub returns-clause-law : goal.returns-clause-law
returns-clause-law c = rw c.digit_count.ensures (has_digits c.args.n)
