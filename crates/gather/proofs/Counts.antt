-- The number of set bits of a word.
use Rattle.std.proofs.Common.{◌≡◌, ℕ, zero, suc, ◌+◌, ◌*◌, ◌/◌, ◌%◌, ◌^◌, ◌<◌, sym, refl, ap, ◌∙◌, ap₂, mod-eq_of_lt, arith}
use lib.Count.{ones, ones_cat}
use Rattle.std.proofs.lemmas.Nat.{mod-pow-add, mod_below, pow_pos}
use Rattle.gather.specs.Bits.{bit_of, sum_to}

ones_bit : (x : ℕ) → x < 2 → ones x ≡ x
unfolding ones
ones_bit zero h = refl
ones_bit (suc zero) h = refl
ones_bit (suc (suc x)) h = absurd (no_two h)
  where
    no_two : suc (suc x) < 2 → ⊥
    no_two l = omega arith

pub ones_low : (w j : ℕ) → ones (w % 2 ^ j) ≡ sum_to (bit_of w) j
unfolding sum_to bit_of ones
ones_low w zero = let e : w % 1 ≡ 0 = omega arith in ap ones e
ones_low w (suc j) =
    let ih = ones_low w j in
    let e : w % 2 ^ (1 + j) ≡ (w / 2 ^ j % 2) * 2 ^ j + w % 2 ^ j = mod-pow-add w 1 j in
    let s : suc j ≡ 1 + j = omega arith in
    ap (λ x. ones (w % 2 ^ x)) s ∙ ap ones e ∙ ones_cat j (w / 2 ^ j % 2) (w % 2 ^ j) (mod_below w (2 ^ j) (pow_pos j))
    ∙ ap₂ (λ x y. x + y) (ones_bit (w / 2 ^ j % 2) (mod_below (w / 2 ^ j) 2 (omega arith))) ih
    ∙ omega arith

pub ones_word : (w : ℕ) → w < 2 ^ 64 → ones w ≡ sum_to (bit_of w) 64
ones_word w l = ap ones (sym (mod-eq_of_lt l)) ∙ ones_low w 64
