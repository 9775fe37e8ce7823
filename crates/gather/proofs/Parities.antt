-- Parities of the bits below each place.
use Rattle.std.proofs.Common.{◌≡◌, ℕ, ◌+◌, ◌-◌, ◌%◌, ◌<◌, ◌≤◌, sym, ap, ◌∙◌, ap₂, ⊎_elim, arith}
use Rattle.std.proofs.lemmas.Bool.{cases_lt}
use Rattle.gather.specs.Bits.{bit_of, sum_to}
use Rattle.gather.proofs.Bitwise.{bit_lt}
use Rattle.gather.proofs.Sums.{sum_more, sum_none, sum_le}

-- the parity of the k bits up to place p, of f
abbrev pub Window : (ℕ → ℕ) → ℕ → ℕ → Type 0
Window f k y = (p : ℕ) → p < 64 → bit_of y p ≡ (sum_to f (p + 1) - sum_to f (p + 1 - k)) % 2

pub window_one : (x : ℕ) → Window (bit_of x) 1 x
window_one x p h =
    let e : p + 1 - 1 ≡ p = omega arith in
    omega (arith, ap (λ k. sum_to (bit_of x) k) e, sum_more (bit_of x) p, bit_lt x p)

pub window_two : (f : ℕ → ℕ) (k y z : ℕ) → Window f k y → ((p : ℕ) → p < k → bit_of z p ≡ bit_of y p)
    → ((p : ℕ) → k ≤ p → p < 64 → bit_of z p ≡ (bit_of y p + bit_of y (p - k)) % 2) → Window f (k + k) z
window_two f k y z w low high p h =
    ⊎_elim
    (λ (l : p < k).
    let a : p + 1 - k ≡ 0 = omega arith in
    let b : p + 1 - (k + k) ≡ 0 = omega arith in
    low p l ∙ w p h ∙ ap (λ x. (sum_to f (p + 1) - sum_to f x) % 2) (a ∙ sym b))
    (λ (l : k ≤ p).
    let a : p - k + 1 ≡ p + 1 - k = omega arith in
    let b : p - k + 1 - k ≡ p + 1 - (k + k) = omega arith in
    let c : bit_of y (p - k) ≡ (sum_to f (p + 1 - k) - sum_to f (p + 1 - (k + k))) % 2 =
    w (p - k) (omega arith) ∙ ap₂ (λ u v. (sum_to f u - sum_to f v) % 2) a b in
    let d = w p h in
    let e = high p l h in
    let s = sum_le f (p + 1 - (k + k)) (p + 1 - k) (omega arith) in
    let t = sum_le f (p + 1 - k) (p + 1) (omega arith) in
    omega (arith, c, d, e, s, t))
    (cases_lt p k)

pub window_all : (f : ℕ → ℕ) (y p : ℕ) → Window f 64 y → p < 64 → bit_of y p ≡ sum_to f (p + 1) % 2
window_all f y p w h =
    let a : p + 1 - 64 ≡ 0 = omega arith in
    let b = ap (λ x. sum_to f x) a ∙ sum_none f in
    let c = w p h in
    omega (arith, b, c)
