use Rattle.std.proofs.lemmas.List.{get_or-set_other}
use Rattle.std.proofs.Common.{get_or}
use lib.Bits.{bit_or}
use Rattle.levels.proofs.Appends.{or_word}
use Rattle.levels.proofs.streams.or_word.Goals as goal

pub returns : goal.returns
returns c = record {
  bits = λ d. or_word c.args.ws.now c.args.i c.args.v d c.requires;
  words = λ j n. get_or-set_other c.args.ws.now c.args.i j (bit_or (get_or c.args.ws.now c.args.i 0) c.args.v) 0 n;
}
