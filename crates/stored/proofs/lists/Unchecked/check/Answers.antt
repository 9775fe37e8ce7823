use Rattle.std.proofs.Common.{refl}
use Rattle.stored.proofs.lists.Unchecked.check.Goals as goal

pub invariant_of-result : goal.invariant_of-result
invariant_of-result c =
    let sound = c.in-None.ensures.passed.0 refl in
    record { sized = sound.0.0; framed = sound.0.1; climbing = sound.0.2; ordered = sound.1 }
