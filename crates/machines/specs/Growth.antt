-- Machines of unequal speed keep the law of costs.
use Rattle.std.specs.Prelude.{◌≡◌, ℕ, ◌*◌, ◌+◌, ◌≤◌, min, List, length, sum, slice_index}
use Rattle.std.proofs.Common.{ap, ⊎_elim, mul-le-mul_left, arith}
use Rattle.std.specs.List.{between}
use Rattle.std.proofs.lemmas.List.Edits.{between_none}
use Rattle.cost.specs.Price.{Lawful, Inside, greatest_figure}
use Rattle.pattern.proofs.Spans.{sum_between_grows}
use Rattle.machines.specs.Times.{machine_price}

module _ (weights starts slowness : List ℕ) (few : length weights ≤ 1000000) where
  -- rows inside other rows weigh no more
  weighs : (a b a' b' : ℕ) → a ≤ b → Inside a b a' b' → sum (between a b weights) ≤ sum (between a' b' weights)
  weighs a b a' b' h inside =
      ⊎_elim
      (λ e. let none : sum (between a b weights) ≡ 0 = rw e (ap sum (between_none weights b)) in omega arith)
      (λ i. sum_between_grows weights a b a' b' i.0 h i.1)
      inside

  -- and take no more time
  time : (start slow n m : ℕ) → n ≤ m → min (start + slow * n) greatest_figure ≤ min (start + slow * m) greatest_figure
  time start slow n m h = let t : slow * n ≤ slow * m = mul-le-mul_left slow h in omega arith

  pub machines_lawful : Lawful (machine_price weights starts slowness)
  machines_lawful = record {
    few = few;
    small = λ k a b block. omega arith;
    grows = λ k a b a' b' block block' inside. time (slice_index starts k) (slice_index slowness k) _ _ (weighs a b a' b' block.1 inside);
  }
