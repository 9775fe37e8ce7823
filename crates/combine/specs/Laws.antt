-- Figures of a cost so many times: how large they are, and that they keep the law. The law of the other combinations
-- needs no lemma.
use Rattle.std.specs.Prelude.{ℕ, ◌*◌, ◌^◌, ◌<◌, ◌≤◌, min}
use Rattle.std.proofs.Common.{mul-le-mul, mul-le-mul_left, arith}
use Rattle.cost.specs.Price.{Price, Lawful, asked, greatest_figure}
use Rattle.combine.specs.Combined.{Factor, times_price}

-- every question is answered with a figure within the limit
pub asked_small : (p : Price) → Lawful p → (k a b : ℕ) → k < 2 ^ 32 → asked p k a b ≤ greatest_figure
asked_small p law k a b h = law.small k (min a (min b p.rows)) (min b p.rows) (h, omega arith, omega arith)

-- a factor and a figure within their limits have a product within the product of the limits
pub product_small : (factor figure : ℕ) → Factor factor → figure ≤ greatest_figure → factor * figure ≤ 1000000 * 2 ^ 60
product_small factor figure h k = mul-le-mul h k

-- a cost so many times keeps the law, whatever the factor
pub times_lawful : (factor : ℕ) (p : Price) → Lawful p → Lawful (times_price factor p)
times_lawful factor p law = record {
  few = law.few;
  small = λ k a b block. omega arith;
  grows = λ k a b a' b' block block' inside.
      omega (arith, mul-le-mul_left factor (law.grows k a b a' b' block block' inside));
}
