-- Sums over the places below a bound.
use Rattle.std.proofs.Common.{◌≡◌, ℕ, zero, suc, ◌+◌, ◌-◌, ◌<◌, ◌≤◌, refl, ap, ap₂, add-one, arith}
use Rattle.gather.specs.Bits.{sum_to}

pub sum_more : (f : ℕ → ℕ) (p : ℕ) → sum_to f (p + 1) ≡ sum_to f p + f p
unfolding sum_to
sum_more f p = ap (λ x. sum_to f x) (add-one p)

pub sum_none : (f : ℕ → ℕ) → sum_to f 0 ≡ 0
unfolding sum_to
sum_none f = refl

sum_grow : (f : ℕ → ℕ) (p d : ℕ) → sum_to f p ≤ sum_to f (p + d)
sum_grow f p zero = let e : p + 0 ≡ p = omega arith in omega (arith, ap (λ x. sum_to f x) e)
sum_grow f p (suc d) =
    let e : p + suc d ≡ (p + d) + 1 = omega arith in
    omega (arith, sum_grow f p d, sum_more f (p + d), ap (λ x. sum_to f x) e)

pub sum_le : (f : ℕ → ℕ) (p q : ℕ) → p ≤ q → sum_to f p ≤ sum_to f q
sum_le f p q h = let e : p + (q - p) ≡ q = omega arith in omega (arith, sum_grow f p (q - p), ap (λ x. sum_to f x) e)

pub sum_cong : (f g : ℕ → ℕ) (k : ℕ) → ((j : ℕ) → j < k → f j ≡ g j) → sum_to f k ≡ sum_to g k
unfolding sum_to
sum_cong f g zero h = refl
sum_cong f g (suc k) h = ap₂ (λ x y. x + y) (sum_cong f g k (λ j l. h j (omega arith))) (h k (omega arith))

-- of bits, at most one for each place
module _ (f : ℕ → ℕ) (two : (j : ℕ) → f j < 2) where
  pub sum_few : (p d : ℕ) → sum_to f (p + d) ≤ sum_to f p + d
  sum_few p zero = let e : p + 0 ≡ p = omega arith in omega (arith, ap (λ x. sum_to f x) e)
  sum_few p (suc d) =
      let e : p + suc d ≡ (p + d) + 1 = omega arith in
      omega (arith, sum_few p d, sum_more f (p + d), two (p + d), ap (λ x. sum_to f x) e)

  pub sum_bound : (p : ℕ) → sum_to f p ≤ p
  sum_bound p = let e : 0 + p ≡ p = omega arith in omega (arith, sum_few 0 p, sum_none f, ap (λ x. sum_to f x) e)
