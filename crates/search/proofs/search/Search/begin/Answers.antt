use Rattle.std.proofs.Common.{sym, refl}
use Rattle.search.proofs.Along.{play_none}
use Rattle.search.proofs.search.Search.begin.Goals as goal

pub returns : goal.returns
returns g c = record {
  accepted = c.requires;
  cost_is = refl;
  blocks_are = refl;
  ceiling_is = refl;
  view_is = refl;
  ran = sym (play_none (g.C.Cost.price c.args.cost) c.args.blocks c.args.ceiling);
}
