use Rattle.std.proofs.Common.{refl}
use Rattle.grid.proofs.Steps.{adjacent}
use Rattle.grid.proofs.grid.Grid.new.Goals as goal

pub returns : goal.returns
returns c = (c.if-not-sides_fit.ensures, refl, adjacent c.args.width c.args.height)
