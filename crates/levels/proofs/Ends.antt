-- Where levels end.
use Rattle.std.proofs.Common.{◌≡◌, ℕ, zero, suc, ◌+◌, ◌-◌, ◌*◌, ◌<◌, ◌≤◌, ◌^◌, sym, refl, ap, ◌∙◌, add-one, mul-le-mul, arith}
use Rattle.levels.specs.Spans.{ends}

pub ends_more : (b t at : ℕ) → 0 < t → ends b t at ≡ ends b (t - 1) (at + (2 * b + 2))
unfolding ends
ends_more b zero at h = absurd (none h)
  where
    none : 0 < 0 → ⊥
    none l = omega arith
ends_more b (suc t) at h = let e : suc t - 1 ≡ t = omega arith in plain b t at ∙ ap (λ x. ends b x (at + (2 * b + 2))) (sym e)
  where
    plain : (b t at : ℕ) → ends b (suc t) at ≡ ends b t (at + (2 * b + 2))
    plain b t at = refl

pub ends_le : (b t at : ℕ) → at ≤ ends b t at
unfolding ends
ends_le b zero at = omega arith
ends_le b (suc t) at = omega (arith, ends_le b t (at + (2 * b + 2)))

pub room_for : (b t at : ℕ) → 0 < t → at + (2 * b + 2) ≤ ends b t at
room_for b t at h = omega (arith, ends_more b t at h, ends_le b (t - 1) (at + (2 * b + 2)))

pub ends_none : (b at : ℕ) → ends b 0 at ≡ at
unfolding ends
ends_none b at = refl

pub ends_is : (b t at : ℕ) → ends b t at ≡ at + t * (2 * b + 2)
unfolding ends
ends_is b zero at = omega (arith, native.Mathlib.Nat.zero-mul (2 * b + 2))
ends_is b (suc t) at = ends_is b t (at + (2 * b + 2)) ∙ omega (arith, native.Mathlib.Nat.suc-mul t (2 * b + 2))

-- one level more
pub ends_next : (b k at : ℕ) → ends b (k + 1) at ≡ ends b k at + (2 * b + 2)
unfolding ends
ends_next b k at = ap (λ x. ends b x at) (add-one k) ∙ plain k at
  where
    plain : (k at : ℕ) → ends b (suc k) at ≡ ends b k at + (2 * b + 2)
    plain zero at = refl
    plain (suc k) at = plain k (at + (2 * b + 2))

-- a level ends before all end
pub room_within : (b k t at : ℕ) → k < t → ends b k at + (2 * b + 2) ≤ ends b t at
room_within b k t at h = let e : k + 1 + (t - (k + 1)) ≡ t = omega arith in omega (arith, ends_next b k at, ends_up (k + 1) (t - (k + 1)), ap (λ x. ends b x at) e)
  where
    ends_up : (k d : ℕ) → ends b k at ≤ ends b (k + d) at
    ends_up k zero = let e : k + 0 ≡ k = omega arith in omega (arith, ap (λ x. ends b x at) e)
    ends_up k (suc d) = let e : k + suc d ≡ (k + d) + 1 = omega arith in omega (arith, ends_up k d, ends_next b (k + d) at, ap (λ x. ends b x at) e)

-- levels that begin early, and are neither wide nor many, end early
pub ends_near : (b t at : ℕ) → at < 2 ^ 32 → b < 2 ^ 27 → t ≤ 32 → ends b t at < 2 ^ 40
ends_near b t at h w m =
    let v : 2 * b + 2 ≤ 2 ^ 28 = omega arith in
    let l : t * (2 * b + 2) ≤ 32 * 2 ^ 28 = mul-le-mul m v in
    omega (arith, ends_is b t at)

-- the levels below the first end where all do
pub ends_below : (b t at b' t' at' : ℕ) → 0 < t → b' ≡ b → t' ≡ t - 1 → at' ≡ at + (2 * b + 2) → ends b' t' at' ≡ ends b t at
ends_below b t at b' t' at' p i j k = rw (i, j, k) (sym (ends_more b t at p))
