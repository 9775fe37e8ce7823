-- Tests that tell whether a fact holds.
use Rattle.std.proofs.Common.{Bool, true, false, MatchBool}

-- a test for one fact is a test for another that holds just where it does
pub when_same : {P Q : Type 0} (r : Bool) → (P → Q) → (Q → P) → MatchBool r P (P → ⊥) → MatchBool r Q (Q → ⊥)
when_same true f g h = f h
when_same false f g h = λ q. h (g q)
