-- Binary digits and powers.
use Rattle.std.proofs.Common.{◌≡◌, ℕ, zero, suc, ◌+◌, ◌-◌, ◌*◌, ◌/◌, ◌^◌, ◌<◌, ◌≤◌, eqb, refl, ap, ◌∙◌, ⊎_elim, arith, pow_mono}
use native.Mathlib.Nat.{pow-succ'}
use Rattle.std.proofs.lemmas.Bool.{eqb-true, cond_both, cases_lt}
use Rattle.search.specs.Digits.{HasDigits, digits_in, digits}

pub below_digits_in : (f n : ℕ) → n < 2 ^ f → n < 2 ^ digits_in f n
unfolding digits_in
below_digits_in zero n h = h
below_digits_in (suc f) n h =
    cond_both (eqb n 0) 0 (digits_in f (n / 2) + 1) (λ d. n < 2 ^ d)
    (λ e. let z : n ≡ 0 = eqb-true n 0 e in omega arith)
    (λ _.
    let half : n / 2 < 2 ^ f = omega (arith, pow-succ' 2 f) in
    let rest : n / 2 < 2 ^ digits_in f (n / 2) = below_digits_in f (n / 2) half in
    let more : 2 ^ (digits_in f (n / 2) + 1) ≡ 2 * 2 ^ digits_in f (n / 2) = ap (λ d. 2 ^ d) (omega arith) ∙ pow-succ' 2 (digits_in f (n / 2)) in
    omega arith)

pub below_digits : (n : ℕ) → n < 2 ^ 64 → n < 2 ^ digits n
unfolding digits
below_digits n h = below_digits_in 64 n h

pub digits_in_le : (f n : ℕ) → digits_in f n ≤ f
unfolding digits_in
digits_in_le zero n = omega arith
digits_in_le (suc f) n =
    cond_both (eqb n 0) 0 (digits_in f (n / 2) + 1) (λ d. d ≤ suc f) (λ _. omega arith) (λ _. omega (arith, digits_in_le f (n / 2)))

pub digits_le : (n : ℕ) → digits n ≤ 64
unfolding digits
digits_le n = digits_in_le 64 n

-- a number below 2 ^ d that is not 0 leaves d at least 1
pub some_digit : (x d : ℕ) → 0 < x → x < 2 ^ d → 0 < d
some_digit x zero p h = omega arith
some_digit x (suc d) p h = omega arith

pub pow_more : (d : ℕ) → 0 < d → 2 ^ d ≡ 2 * 2 ^ (d - 1)
pow_more zero h = elim h [ ]
pow_more (suc d) h = pow-succ' 2 d ∙ ap (λ e. 2 * 2 ^ e) (omega arith)

none_digits_in : (f : ℕ) → digits_in f 0 ≡ 0
unfolding digits_in
none_digits_in zero = refl
none_digits_in (suc f) = refl

-- no fewer digits would do
pub digits_in_low : (f n : ℕ) → 0 < n → n < 2 ^ f → 2 ^ digits_in f n ≤ 2 * n
unfolding digits_in
digits_in_low zero n h w = omega arith
digits_in_low (suc f) n h w =
    cond_both (eqb n 0) 0 (digits_in f (n / 2) + 1) (λ d. 2 ^ d ≤ 2 * n)
    (λ e. let z : n ≡ 0 = eqb-true n 0 e in omega arith)
    (λ _.
    let more : 2 ^ (digits_in f (n / 2) + 1) ≡ 2 * 2 ^ digits_in f (n / 2) = ap (λ d. 2 ^ d) (omega arith) ∙ pow-succ' 2 (digits_in f (n / 2)) in
    ⊎_elim
    (λ (l : n / 2 < 1).
    let z : n / 2 ≡ 0 = omega arith in
    let e : 2 ^ digits_in f (n / 2) ≡ 1 = ap (λ d. 2 ^ d) (ap (digits_in f) z ∙ none_digits_in f) in
    omega arith)
    (λ l. omega (arith, digits_in_low f (n / 2) (omega arith) (omega (arith, pow-succ' 2 f))))
    (cases_lt (n / 2) 1))

pub has_digits : (n : ℕ) → HasDigits n (digits n)
unfolding digits
has_digits n h w =
    let low : 2 ^ digits_in 64 n ≤ 2 * n = digits_in_low 64 n h w in
    let high : n < 2 ^ digits_in 64 n = below_digits_in 64 n w in
    let some : 0 < digits_in 64 n = some_digit n (digits_in 64 n) h high in
    let more : 2 ^ digits_in 64 n ≡ 2 * 2 ^ (digits_in 64 n - 1) = pow_more (digits_in 64 n) some in
    (omega arith, high)

pub no_digits : digits 0 ≡ 0
unfolding digits
no_digits = none_digits_in 64

-- no fewer digits would do
pub digits_least : (n d : ℕ) → 0 < n → n < 2 ^ 64 → n < 2 ^ d → digits n ≤ d
unfolding digits
digits_least n d h w l =
    ⊎_elim
    (λ (z : d < digits_in 64 n). absurd (
    let z' : d + 1 ≤ digits_in 64 n = omega arith in
    let up : 2 ^ (d + 1) ≤ 2 ^ digits_in 64 n = pow_mono z' in
    let more : 2 ^ (d + 1) ≡ 2 * 2 ^ d = ap (λ e. 2 ^ e) (omega arith) ∙ pow-succ' 2 d in
    omega (arith, digits_in_low 64 n h w)))
    (λ z. z)
    (cases_lt d (digits_in 64 n))

-- a row number has at most 20 digits
pub digits_rows : (n : ℕ) → n ≤ 1000000 → digits (n + 1) ≤ 20
digits_rows n h = let l : n + 1 < 2 ^ 20 = omega arith in digits_least (n + 1) 20 (omega arith) (omega arith) l

-- one digit more than those before the highest
pub digits_above : (n k : ℕ) → 0 < n → n < 2 ^ 64 → 2 ^ k ≤ n → n < 2 * 2 ^ k → k + 1 ≡ digits n
digits_above n k h w low high =
    let more : 2 ^ (k + 1) ≡ 2 * 2 ^ k = ap (λ e. 2 ^ e) (omega arith) ∙ pow-succ' 2 k in
    let most : digits n ≤ k + 1 = digits_least n (k + 1) h w (omega arith) in
    ⊎_elim
    (λ (l : k < digits n). omega arith)
    (λ (l : digits n ≤ k).
    let up : 2 ^ digits n ≤ 2 ^ k = pow_mono l in
    absurd (omega (arith, below_digits n w)))
    (cases_lt k (digits n))
