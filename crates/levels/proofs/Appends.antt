-- Bits that are added to words.
use Rattle.std.proofs.Common.{◌≡◌, ℕ, ◌+◌, ◌-◌, ◌*◌, ◌/◌, ◌%◌, ◌^◌, ◌<◌, ◌≤◌, max, eqb, leb, List, length, get_or, set, sym, ap, ◌∙◌, ap₂, ⊎_elim, arith}
use native.Mathlib.Nat.{max-zero}
use lib.Bits.{bit_or}
use Rattle.std.proofs.lemmas.List.{get_or-set_same, get_or-set_other}
use Rattle.std.proofs.lemmas.Bool.{cases_eq, cases_lt, eq-eqb, ne_eqb, le-leb, lt-leb, cond-true, cond-false}
use Rattle.gather.specs.Bits.{bit_of}
use Rattle.gather.proofs.Bitwise.{bit_lt, bit-or, or_bits, bit_high, bit_shr, shl_low, shl_high}
use Rattle.levels.specs.Planes.{bit_at}
use Rattle.levels.specs.Streams.{from, within}

pub within_yes : (i v d : ℕ) → d / 64 ≡ i → within i v d ≡ bit_of v (d % 64)
within_yes i v d e = cond-true {A = ℕ} (eqb (d / 64) i) (bit_of v (d % 64)) 0 (eq-eqb (d / 64) i e)

pub within_no : (i v d : ℕ) → (d / 64 ≡ i → ⊥) → within i v d ≡ 0
within_no i v d n = cond-false {A = ℕ} (eqb (d / 64) i) (bit_of v (d % 64)) 0 (ne_eqb (d / 64) i n)

pub from_yes : (k v d : ℕ) → k ≤ d → from k v d ≡ bit_of v (d - k)
from_yes k v d h = cond-true {A = ℕ} (leb k d) (bit_of v (d - k)) 0 (le-leb k d h)

pub from_no : (k v d : ℕ) → d < k → from k v d ≡ 0
from_no k v d h = cond-false {A = ℕ} (leb k d) (bit_of v (d - k)) 0 (lt-leb k d h)

pub or_word : (ws : List ℕ) (i v d : ℕ) → i < length ws → bit_at (set ws i (bit_or (get_or ws i 0) v)) d ≡ max (bit_at ws d) (within i v d)
unfolding bit_at
or_word ws i v d h =
    ⊎_elim
    (λ (e : d / 64 ≡ i).
    let l : d / 64 < length ws = omega arith in
    ap (λ x. bit_of (get_or (set ws x (bit_or (get_or ws x 0) v)) (d / 64) 0) (d % 64)) (sym e)
    ∙ ap (λ x. bit_of x (d % 64)) (get_or-set_same ws (d / 64) (bit_or (get_or ws (d / 64) 0) v) 0 l)
    ∙ bit-or (get_or ws (d / 64) 0) v (d % 64)
    ∙ or_bits (bit_of (get_or ws (d / 64) 0) (d % 64)) (bit_of v (d % 64)) (bit_lt (get_or ws (d / 64) 0) (d % 64)) (bit_lt v (d % 64))
    ∙ ap (λ x. max (bit_of (get_or ws (d / 64) 0) (d % 64)) x) (sym (within_yes i v d e)))
    (λ (n : d / 64 ≡ i → ⊥).
    ap (λ x. bit_of x (d % 64)) (get_or-set_other ws i (d / 64) (bit_or (get_or ws i 0) v) 0 n)
    ∙ sym (max-zero (bit_of (get_or ws (d / 64) 0) (d % 64)))
    ∙ ap (λ x. max (bit_of (get_or ws (d / 64) 0) (d % 64)) x) (sym (within_no i v d n)))
    (cases_eq (d / 64) i)

two_zeros : (e a b c : ℕ) → b ≡ 0 → a ≡ c → max (max e a) b ≡ max e c
two_zeros e a b c p q = ap₂ (λ x y. max (max e y) x) p q ∙ max-zero (max e c)

zero_two : (e a b c : ℕ) → a ≡ 0 → b ≡ c → max (max e a) b ≡ max e c
zero_two e a b c p q = ap₂ (λ x y. max (max e x) y) p q ∙ ap (λ x. max x c) (max-zero e)

-- a word that is added from position k on goes to two words
pub two_words : (k v d e : ℕ) → v < 2 ^ 64
    → max (max e (within (k / 64) (v * 2 ^ (k % 64) % 2 ^ 64) d)) (within (k / 64 + 1) (v / 2 ^ 1 / 2 ^ (63 - k % 64)) d) ≡ max e (from k v d)
two_words k v d e fits =
    ⊎_elim
    (λ (a : d / 64 ≡ k / 64).
    ⊎_elim
    (λ (l : d % 64 < k % 64).
    two_zeros e _ _ (from k v d) (within_no (k / 64 + 1) _ d (λ q. omega arith))
    (within_yes (k / 64) _ d a ∙ shl_low v (k % 64) (d % 64) l (omega arith) ∙ sym (from_no k v d (omega arith))))
    (λ (l : k % 64 ≤ d % 64).
    let s : d % 64 - k % 64 ≡ d - k = omega arith in
    two_zeros e _ _ (from k v d) (within_no (k / 64 + 1) _ d (λ q. omega arith))
    (within_yes (k / 64) _ d a ∙ shl_high v (k % 64) (d % 64) l (omega arith) ∙ ap (λ x. bit_of v x) s ∙ sym (from_yes k v d (omega arith))))
    (cases_lt (d % 64) (k % 64)))
    (λ (n : d / 64 ≡ k / 64 → ⊥).
    ⊎_elim
    (λ (a : d / 64 ≡ k / 64 + 1).
    let s : d % 64 + (63 - k % 64) + 1 ≡ d - k = omega arith in
    zero_two e _ _ (from k v d) (within_no (k / 64) _ d n)
    (within_yes (k / 64 + 1) _ d a ∙ bit_shr (v / 2 ^ 1) (63 - k % 64) (d % 64) ∙ bit_shr v 1 (d % 64 + (63 - k % 64)) ∙ ap (λ x. bit_of v x) s ∙ sym (from_yes k v d (omega arith))))
    (λ (m : d / 64 ≡ k / 64 + 1 → ⊥).
    zero_two e _ _ (from k v d) (within_no (k / 64) _ d n)
    (within_no (k / 64 + 1) _ d m
    ∙ ⊎_elim (λ (l : d < k). sym (from_no k v d l)) (λ (l : k ≤ d). sym (from_yes k v d l ∙ bit_high v (d - k) fits (omega arith))) (cases_lt d k)))
    (cases_eq (d / 64) (k / 64 + 1)))
    (cases_eq (d / 64) (k / 64))

-- the same where only the first of the two words is in reach
pub one_word : (k v d e end : ℕ) → v < 2 ^ 64 → end ≤ k / 64 + 1 → d < 64 * end
    → max e (within (k / 64) (v * 2 ^ (k % 64) % 2 ^ 64) d) ≡ max e (from k v d)
one_word k v d e end fits l h =
    sym (max-zero (max e (within (k / 64) (v * 2 ^ (k % 64) % 2 ^ 64) d)))
    ∙ ap (λ x. max (max e (within (k / 64) (v * 2 ^ (k % 64) % 2 ^ 64) d)) x) (sym (within_no (k / 64 + 1) (v / 2 ^ 1 / 2 ^ (63 - k % 64)) d (λ q. omega arith)))
    ∙ two_words k v d e fits
