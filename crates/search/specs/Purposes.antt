-- What a trial is made for.
use Rattle.std.specs.Prelude.{Bool, true, false}
use Rattle.search.specs.declared.purpose.Purpose.{Purpose}
use Rattle.search.specs.declared.purpose.Purpose.TheVariants.{Advance, Try}

-- it counts as a trial of an advance, else as one of a try
abbrev pub advances : Purpose → Bool
advances Advance = true
advances Try = false
