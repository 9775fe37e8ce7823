-- Zero bits at the end of a plane.
use Rattle.std.proofs.Common.{◌≡◌, ℕ, suc, ◌+◌, ◌-◌, ◌*◌, ◌/◌, ◌%◌, ◌^◌, ◌<◌, ◌≤◌, List, get_or, sym, ap, ◌∙◌, ⊎_elim, lt_of_le_of_lt, pow-suc, div-add-mod', div-le_self, arith}
use native.Mathlib.Nat.{zero-div}
use lib.Count.{leading_top}
use Rattle.std.proofs.lemmas.Nat.{div_below, mod_below, pow_pos, shr-shr}
use Rattle.std.proofs.lemmas.Bool.{cases_eq, cases_lt}
use Rattle.gather.specs.Bits.{bit_of}
use Rattle.gather.proofs.Bitwise.{bit_high, bit_shr}
use Rattle.levels.specs.Planes.{bits_from}
use Rattle.levels.proofs.Frames.{bits_from_word}

-- a word shifted to nothing has no bits from there on
high_zero : (w s j : ℕ) → w / 2 ^ s ≡ 0 → s ≤ j → bit_of w j ≡ 0
unfolding bit_of
high_zero w s j e l =
    let q : j ≡ s + (j - s) = omega arith in
    ap (λ x. w / 2 ^ x % 2) q ∙ ap (λ x. x % 2) (sym (shr-shr w s (j - s)) ∙ ap (λ x. x / 2 ^ (j - s)) e ∙ zero-div (2 ^ (j - s)))

-- a number that is not 0 has a highest bit
top_one : (v j : ℕ) → 2 ^ j ≤ v → v < 2 ^ suc j → bit_of v j ≡ 1
unfolding bit_of
top_one v j l h =
    let e : 2 ^ suc j ≡ 2 ^ j * 2 = pow-suc 2 j in
    let below : v / 2 ^ j < 2 = div_below v (2 ^ j) 2 (pow_pos j) (omega arith) in
    let some : 1 ≤ v / 2 ^ j = div_least v (2 ^ j) (pow_pos j) l in
    omega arith
  where
    div_least : (v q : ℕ) → 0 < q → q ≤ v → 1 ≤ v / q
    div_least v q p m =
        ⊎_elim (λ (z : v / q < 1). let s : v / q * q + v % q ≡ v = div-add-mod' v q in let r = mod_below v q p in let y : v / q ≡ 0 = omega arith in let o : v / q * q ≡ 0 * q = ap (λ x. x * q) y in omega arith)
        (λ (z : 1 ≤ v / q). z)
        (cases_lt (v / q) 1)

-- a word without bits from there on is shifted to nothing
zero_high : (w s : ℕ) → w < 2 ^ 64 → ((j : ℕ) → s ≤ j → j < 64 → bit_of w j ≡ 0) → w / 2 ^ s ≡ 0
zero_high w s small f =
    ⊎_elim (λ (z : w / 2 ^ s ≡ 0). z)
    (λ (n : w / 2 ^ s ≡ 0 → ⊥).
    let v = w / 2 ^ s in
    let lt : v < 2 ^ 64 = lt_of_le_of_lt (div-le_self w (2 ^ s)) small in
    let t = leading_top 64 v (pos v n) lt in
    let one : bit_of w (t.0 + s) ≡ 1 = sym (bit_shr w s t.0) ∙ top_one v t.0 t.2 t.3 in
    ⊎_elim
    (λ (m : t.0 + s < 64). absurd (clash (bit_of w (t.0 + s)) (f (t.0 + s) (omega arith) m) one))
    (λ (m : 64 ≤ t.0 + s). absurd (clash (bit_of w (t.0 + s)) (bit_high w (t.0 + s) small m) one))
    (cases_lt (t.0 + s) 64))
    (cases_eq (w / 2 ^ s) 0)
  where
    pos : (x : ℕ) → (x ≡ 0 → ⊥) → 0 < x
    pos x n = omega arith

    clash : (x : ℕ) → x ≡ 0 → x ≡ 1 → ⊥
    clash x p q = omega arith

module _ (ws : List ℕ) (a b n : ℕ) (fit : n ≤ 64 * b) (near : 64 * b < n + 64) (some : n % 64 ≡ 0 → ⊥) where
  last_word : (k : ℕ) → n ≤ k → k < 64 * b → bits_from ws a k ≡ bit_of (get_or ws (a + n / 64) 0) (k % 64)
  last_word k l h = let q : a + k / 64 ≡ a + n / 64 = omega arith in bits_from_word ws a k ∙ ap (λ x. bit_of (get_or ws x 0) (k % 64)) q

  pub tail_zero : get_or ws (a + n / 64) 0 / 2 ^ (n % 64) ≡ 0 → (k : ℕ) → n ≤ k → k < 64 * b → bits_from ws a k ≡ 0
  tail_zero e k l h = last_word k l h ∙ high_zero (get_or ws (a + n / 64) 0) (n % 64) (k % 64) e (omega arith)

  pub zero_tail : get_or ws (a + n / 64) 0 < 2 ^ 64 → ((k : ℕ) → n ≤ k → k < 64 * b → bits_from ws a k ≡ 0) → get_or ws (a + n / 64) 0 / 2 ^ (n % 64) ≡ 0
  zero_tail small f =
      zero_high (get_or ws (a + n / 64) 0) (n % 64) small
      (λ j l h.
      let q : (64 * (n / 64) + j) % 64 ≡ j = omega arith in
      ap (λ x. bit_of (get_or ws (a + n / 64) 0) x) (sym q) ∙ sym (last_word (64 * (n / 64) + j) (omega arith) (omega arith)) ∙ f (64 * (n / 64) + j) (omega arith) (omega arith))
