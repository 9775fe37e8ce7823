-- Binary digits.
use Rattle.std.proofs.Common.{◌≡◌, ℕ, suc, ◌+◌, ◌-◌, ◌*◌, ◌^◌, ◌<◌, ◌≤◌, subst, ⊎_elim, pow-suc, arith, pow_mono}
use lib.Count.{count_leading_zeros, leading_length}
use Rattle.std.proofs.lemmas.Bool.{cases_lt}
use Rattle.levels.specs.Numbers.{digits}

-- a number of m digits is not below a smaller power
hold_least : (a m h : ℕ) → 2 ^ m ≤ 2 * a + 1 → a < 2 ^ h → m ≤ h
hold_least a m h l s =
    ⊎_elim
    (λ (g : h < m).
    let up : 2 ^ suc h ≤ 2 ^ m = pow_mono g in
    let e = pow-suc 2 h in
    omega arith)
    (λ (g : m ≤ h). g)
    (cases_lt h m)

-- the digits of a number hold it
pub digits_hold : (m : ℕ) → m < 2 ^ 32 → (m < 2 ^ digits m) × (digits m ≤ 32)
digits_hold m h =
    let t = leading_length 32 m h in
    let e : t.0 ≡ 32 - count_leading_zeros 32 m = omega (arith, t.1) in
    (subst (λ n. m < 2 ^ n) e t.2, omega arith)

-- and no fewer do
pub digits_least : (m h : ℕ) → m < 2 ^ 32 → m < 2 ^ h → digits m ≤ h
digits_least m h l s =
    let t = leading_length 32 m l in
    let e : t.0 ≡ 32 - count_leading_zeros 32 m = omega (arith, t.1) in
    subst (λ n. n ≤ h) e (hold_least m t.0 h t.3 s)
