-- Bits of what the operators on words make.
use Rattle.std.proofs.Common.{◌≡◌, ℕ, zero, suc, ◌+◌, ◌-◌, ◌*◌, ◌/◌, ◌%◌, ◌^◌, ◌<◌, ◌≤◌, max, ◌⊎◌, sym, refl, ap, ◌∙◌, subst, ap₂, inl, inr, ⊎_elim, mul_assoc, add-mul, one-mul, mul_left_comm, arith}
use native.Mathlib.Nat.{div-eq_of_lt, zero-div}
use lib.Bits.{bit_and, bit_or, bit_xor}
use Rattle.std.proofs.lemmas.Nat.{and_mask, or_shr, or_mod, and_shr, and_mod, xor_shr, xor_mod, pow_pos, pow-add, shl-shr, shr-shr, mod-pow-add, mod_below, shr_high, shr_split, div_below, div-mul-add}
use Rattle.gather.specs.Bits.{bit_of}

pub bit_lt : (w s : ℕ) → bit_of w s < 2
unfolding bit_of
bit_lt w s = mod_below (w / 2 ^ s) 2 (omega arith)

-- a bit is one of two
pub two : (x : ℕ) → x < 2 → (x ≡ 0) ⊎ (x ≡ 1)
two zero h = inl refl
two (suc zero) h = inr refl
two (suc (suc x)) h = absurd (no h)
  where
    no : suc (suc x) < 2 → ⊥
    no l = omega arith

pub bit_two : (w s : ℕ) → (bit_of w s ≡ 0) ⊎ (bit_of w s ≡ 1)
bit_two w s = two (bit_of w s) (bit_lt w s)

pub bit-or : (a b s : ℕ) → bit_of (bit_or a b) s ≡ bit_or (bit_of a s) (bit_of b s)
unfolding bit_of
bit-or a b s = ap (λ x. x % 2) (or_shr a b s) ∙ or_mod (a / 2 ^ s) (b / 2 ^ s) 1

pub bit-and : (a b s : ℕ) → bit_of (bit_and a b) s ≡ bit_and (bit_of a s) (bit_of b s)
unfolding bit_of
bit-and a b s = ap (λ x. x % 2) (and_shr a b s) ∙ and_mod (a / 2 ^ s) (b / 2 ^ s) 1

pub bit-xor : (a b s : ℕ) → bit_of (bit_xor a b) s ≡ bit_xor (bit_of a s) (bit_of b s)
unfolding bit_of
bit-xor a b s = ap (λ x. x % 2) (xor_shr a b s) ∙ xor_mod (a / 2 ^ s) (b / 2 ^ s) 1

-- the operators on two bits
pub and_bits : (x y : ℕ) → x < 2 → y < 2 → bit_and x y ≡ x * y
and_bits x y a b =
    ⊎_elim (λ (p : x ≡ 0). ⊎_elim (λ (q : y ≡ 0). rw (p, q) refl) (λ (q : y ≡ 1). rw (p, q) refl) (two y b))
    (λ (p : x ≡ 1). ⊎_elim (λ (q : y ≡ 0). rw (p, q) refl) (λ (q : y ≡ 1). rw (p, q) refl) (two y b)) (two x a)

pub or_bits : (x y : ℕ) → x < 2 → y < 2 → bit_or x y ≡ max x y
or_bits x y a b =
    ⊎_elim (λ (p : x ≡ 0). ⊎_elim (λ (q : y ≡ 0). rw (p, q) refl) (λ (q : y ≡ 1). rw (p, q) refl) (two y b))
    (λ (p : x ≡ 1). ⊎_elim (λ (q : y ≡ 0). rw (p, q) refl) (λ (q : y ≡ 1). rw (p, q) refl) (two y b)) (two x a)

pub xor_bits : (x y : ℕ) → x < 2 → y < 2 → bit_xor x y ≡ (x + y) % 2
xor_bits x y a b =
    ⊎_elim (λ (p : x ≡ 0). ⊎_elim (λ (q : y ≡ 0). rw (p, q) refl) (λ (q : y ≡ 1). rw (p, q) refl) (two y b))
    (λ (p : x ≡ 1). ⊎_elim (λ (q : y ≡ 0). rw (p, q) refl) (λ (q : y ≡ 1). rw (p, q) refl) (two y b)) (two x a)

pub bit_shr : (a k j : ℕ) → bit_of (a / 2 ^ k) j ≡ bit_of a (j + k)
unfolding bit_of
bit_shr a k j = ap (λ x. x % 2) (shr-shr a k j ∙ ap (λ x. a / 2 ^ x) (let e : k + j ≡ j + k = omega arith in e))

-- a bit read by the operators
pub bit_is : (w s : ℕ) → bit_and (w / 2 ^ s) 1 ≡ bit_of w s
unfolding bit_of
bit_is w s = and_mask (w / 2 ^ s) 1

-- 0 has no bit
pub bit_none : (s : ℕ) → bit_of 0 s ≡ 0
unfolding bit_of
bit_none s = ap (λ x. x % 2) (zero-div (2 ^ s))

-- the bits below 64 are those of the rest by 2 ^ 64
pub bit_mod : (x p : ℕ) → p < 64 → bit_of (x % 2 ^ 64) p ≡ bit_of x p
unfolding bit_of
bit_mod x p h =
    let q : 64 ≡ ((64 - p - 1) + 1) + p = omega arith in
    let a : x % 2 ^ 64 ≡ (x / 2 ^ p % 2 ^ ((64 - p - 1) + 1)) * 2 ^ p + x % 2 ^ p = ap (λ k. x % 2 ^ k) q ∙ mod-pow-add x ((64 - p - 1) + 1) p in
    let b : x % 2 ^ 64 / 2 ^ p ≡ x / 2 ^ p % 2 ^ ((64 - p - 1) + 1) =
    ap (λ y. y / 2 ^ p) a ∙ shr_high (x / 2 ^ p % 2 ^ ((64 - p - 1) + 1)) p (x % 2 ^ p) (mod_below x (2 ^ p) (pow_pos p)) in
    let d : x / 2 ^ p % 2 ^ ((64 - p - 1) + 1) ≡ (x / 2 ^ p / 2 ^ 1 % 2 ^ (64 - p - 1)) * 2 ^ 1 + x / 2 ^ p % 2 ^ 1 = mod-pow-add (x / 2 ^ p) (64 - p - 1) 1 in
    omega (arith, b, d)

pub bit_shl_high : (a k p : ℕ) → k ≤ p → bit_of (a * 2 ^ k) p ≡ bit_of a (p - k)
unfolding bit_of
bit_shl_high a k p h =
    let e : p ≡ k + (p - k) = omega arith in
    let f : a * 2 ^ k / 2 ^ p ≡ a / 2 ^ (p - k) =
    ap (λ x. a * 2 ^ k / 2 ^ x) e ∙ sym (shr-shr (a * 2 ^ k) k (p - k)) ∙ ap (λ x. x / 2 ^ (p - k)) (shl-shr a k) in
    ap (λ x. x % 2) f

pub bit_shl_low : (a k p : ℕ) → p < k → bit_of (a * 2 ^ k) p ≡ 0
unfolding bit_of
bit_shl_low a k p h =
    let e : k ≡ (1 + (k - p - 1)) + p = omega arith in
    let f : 2 ^ k ≡ 2 ^ (1 + (k - p - 1)) * 2 ^ p = ap (λ x. 2 ^ x) e ∙ pow-add 2 (1 + (k - p - 1)) p in
    let g : 2 ^ (1 + (k - p - 1)) ≡ 2 ^ 1 * 2 ^ (k - p - 1) = pow-add 2 1 (k - p - 1) in
    let i : a * 2 ^ k ≡ (2 * (a * 2 ^ (k - p - 1))) * 2 ^ p =
    ap (λ x. a * x) (f ∙ ap (λ x. x * 2 ^ p) g) ∙ swaps a (2 ^ (k - p - 1)) (2 ^ p) in
    let j : a * 2 ^ k / 2 ^ p ≡ 2 * (a * 2 ^ (k - p - 1)) = ap (λ x. x / 2 ^ p) i ∙ shl-shr (2 * (a * 2 ^ (k - p - 1))) p in
    omega (arith, j)
  where
    swaps : (a x y : ℕ) → a * (2 ^ 1 * x * y) ≡ 2 * (a * x) * y
    swaps a x y =
        ap (λ z. a * z) (mul_assoc 2 x y) ∙ mul_left_comm a 2 (x * y) ∙ ap (λ z. 2 * z) (sym (mul_assoc a x y)) ∙ sym (mul_assoc 2 (a * x) y)

-- a word shifted up
pub shl_high : (a k p : ℕ) → k ≤ p → p < 64 → bit_of (a * 2 ^ k % 2 ^ 64) p ≡ bit_of a (p - k)
shl_high a k p h l = bit_mod (a * 2 ^ k) p l ∙ bit_shl_high a k p h

pub shl_low : (a k p : ℕ) → p < k → p < 64 → bit_of (a * 2 ^ k % 2 ^ 64) p ≡ 0
shl_low a k p h l = bit_mod (a * 2 ^ k) p l ∙ bit_shl_low a k p h

pub fold_low : (x k p : ℕ) → p < k → p < 64 → bit_of (bit_xor x (x * 2 ^ k % 2 ^ 64)) p ≡ bit_of x p
fold_low x k p h l =
    bit-xor x (x * 2 ^ k % 2 ^ 64) p ∙ ap (λ y. bit_xor (bit_of x p) y) (shl_low x k p h l)
    ∙ xor_bits (bit_of x p) 0 (bit_lt x p) (omega arith) ∙ omega (arith, bit_lt x p)

pub fold_high : (x k p : ℕ) → k ≤ p → p < 64 → bit_of (bit_xor x (x * 2 ^ k % 2 ^ 64)) p ≡ (bit_of x p + bit_of x (p - k)) % 2
fold_high x k p h l =
    bit-xor x (x * 2 ^ k % 2 ^ 64) p ∙ ap (λ y. bit_xor (bit_of x p) y) (shl_high x k p h l)
    ∙ xor_bits (bit_of x p) (bit_of x (p - k)) (bit_lt x p) (bit_lt x (p - k))

-- a bit less what it shares with another
less_bits : (y m : ℕ) → y < 2 → m < 2 → (y + y * m) % 2 ≡ y * (1 - m)
less_bits y m a b =
    ⊎_elim (λ (p : y ≡ 0). ⊎_elim (λ (q : m ≡ 0). rw (p, q) refl) (λ (q : m ≡ 1). rw (p, q) refl) (two m b))
    (λ (p : y ≡ 1). ⊎_elim (λ (q : m ≡ 0). rw (p, q) refl) (λ (q : m ≡ 1). rw (p, q) refl) (two m b)) (two y a)

prod_lt : (x y : ℕ) → x < 2 → y < 2 → x * y < 2
prod_lt x y a b =
    ⊎_elim (λ (p : x ≡ 0). rw p (omega arith)) (λ (p : x ≡ 1). rw p (omega arith)) (two x a)

pub step_bit : (y m k j : ℕ) → bit_of (bit_or (bit_xor y (bit_and y m)) (bit_and y m / 2 ^ k)) j
    ≡ max (bit_of y j * (1 - bit_of m j)) (bit_of y (j + k) * bit_of m (j + k))
step_bit y m k j =
    let a : bit_of (bit_xor y (bit_and y m)) j ≡ bit_of y j * (1 - bit_of m j) =
    bit-xor y (bit_and y m) j ∙ ap (λ x. bit_xor (bit_of y j) x) (bit-and y m j ∙ and_bits (bit_of y j) (bit_of m j) (bit_lt y j) (bit_lt m j))
    ∙ xor_bits (bit_of y j) (bit_of y j * bit_of m j) (bit_lt y j) (prod_lt (bit_of y j) (bit_of m j) (bit_lt y j) (bit_lt m j))
    ∙ less_bits (bit_of y j) (bit_of m j) (bit_lt y j) (bit_lt m j) in
    let b : bit_of (bit_and y m / 2 ^ k) j ≡ bit_of y (j + k) * bit_of m (j + k) =
    bit_shr (bit_and y m) k j ∙ bit-and y m (j + k) ∙ and_bits (bit_of y (j + k)) (bit_of m (j + k)) (bit_lt y (j + k)) (bit_lt m (j + k)) in
    bit-or (bit_xor y (bit_and y m)) (bit_and y m / 2 ^ k) j
    ∙ or_bits (bit_of (bit_xor y (bit_and y m)) j) (bit_of (bit_and y m / 2 ^ k) j) (bit_lt (bit_xor y (bit_and y m)) j) (bit_lt (bit_and y m / 2 ^ k) j)
    ∙ ap₂ (λ x z. max x z) a b

-- the bits that are not set
pub bit_not : (s p : ℕ) → s < 2 ^ 64 → p < 64 → bit_of (18446744073709551615 - s) p ≡ 1 - bit_of s p
unfolding bit_of
bit_not s p l h =
    let q : 64 ≡ (1 + (64 - p - 1)) + p = omega arith in
    let a : 2 ^ 64 ≡ 2 ^ (1 + (64 - p - 1)) * 2 ^ p = ap (λ k. 2 ^ k) q ∙ pow-add 2 (1 + (64 - p - 1)) p in
    let b : 2 ^ (1 + (64 - p - 1)) ≡ 2 * 2 ^ (64 - p - 1) = pow-add 2 1 (64 - p - 1) in
    let e : s / 2 ^ p * 2 ^ p + s % 2 ^ p ≡ s = shr_split s p in
    let f : s % 2 ^ p < 2 ^ p = mod_below s (2 ^ p) (pow_pos p) in
    let g : s / 2 ^ p < 2 ^ (1 + (64 - p - 1)) = div_below s (2 ^ p) (2 ^ (1 + (64 - p - 1))) (pow_pos p) (subst (λ x. s < x) a l) in
    parts (2 ^ (1 + (64 - p - 1)) - 1 - s / 2 ^ p) (s / 2 ^ p) (2 ^ p) (s % 2 ^ p) (2 ^ (64 - p - 1)) e f (pow_pos p) (omega (arith, b, g)) (omega (arith, b, g, a)) a
  where
    parts : (k d Q r E : ℕ) → d * Q + r ≡ s → r < Q → 0 < Q → k + 1 + d ≡ 2 * E → k + 1 + d ≡ 2 ^ (1 + (64 - p - 1)) → 2 ^ 64 ≡ 2 ^ (1 + (64 - p - 1)) * Q
        → (18446744073709551615 - s) / Q % 2 ≡ 1 - d % 2
    parts k d Q r E e f z i j a =
        let m : 2 ^ 64 ≡ k * Q + Q + d * Q =
        a ∙ ap (λ x. x * Q) (sym j) ∙ add-mul (k + 1) d Q ∙ ap (λ x. x + d * Q) (add-mul k 1 Q ∙ ap (λ x. k * Q + x) (one-mul Q)) in
        let n : 18446744073709551615 - s ≡ k * Q + (Q - 1 - r) = omega arith in
        let o : (18446744073709551615 - s) / Q ≡ k = ap (λ x. x / Q) n ∙ div-mul-add k Q (Q - 1 - r) (omega arith) in
        omega (arith, o)

pub lacks_bit : (x m j : ℕ) → bit_of (bit_xor x (bit_and x m)) j ≡ bit_of x j * (1 - bit_of m j)
lacks_bit y m j =
    bit-xor y (bit_and y m) j ∙ ap (λ x. bit_xor (bit_of y j) x) (bit-and y m j ∙ and_bits (bit_of y j) (bit_of m j) (bit_lt y j) (bit_lt m j))
    ∙ xor_bits (bit_of y j) (bit_of y j * bit_of m j) (bit_lt y j) (prod_lt (bit_of y j) (bit_of m j) (bit_lt y j) (bit_lt m j))
    ∙ less_bits (bit_of y j) (bit_of m j) (bit_lt y j) (bit_lt m j)

pub shared_bit : (x m j : ℕ) → bit_of (bit_and x m) j ≡ bit_of x j * bit_of m j
shared_bit x m j = bit-and x m j ∙ and_bits (bit_of x j) (bit_of m j) (bit_lt x j) (bit_lt m j)

-- a word has no bit from 64 on
pub bit_high : (s j : ℕ) → s < 2 ^ 64 → 64 ≤ j → bit_of s j ≡ 0
unfolding bit_of
bit_high s j l h =
    let e : j ≡ 64 + (j - 64) = omega arith in
    let z : s / 2 ^ 64 ≡ 0 = div-eq_of_lt l in
    ap (λ x. x % 2) (ap (λ x. s / 2 ^ x) e ∙ sym (shr-shr s 64 (j - 64)) ∙ ap (λ x. x / 2 ^ (j - 64)) z ∙ div-eq_of_lt (pow_pos (j - 64)))
