use Rattle.std.proofs.Common.{refl, arith}
use Rattle.levels.proofs.Digits.{digits_hold, digits_least}
use Rattle.levels.proofs.sizes.digit_count.Goals as goal

pub returns : goal.returns
returns c =
    let d = digits_hold c.args.greatest (omega arith) in
    record {
      value = refl;
      hold = d.0;
      least = λ h l. digits_least c.args.greatest h (omega arith) l;
      few = d.1;
    }
