-- Bits that are parted word by word.
use Rattle.std.proofs.Common.{◌≡◌, ℕ, zero, suc, ◌+◌, ◌-◌, ◌<◌, ◌≤◌, max, sym, ap, ◌∙◌, ap₂, ⊎_elim, arith}
use native.Mathlib.Nat.{max-zero, zero-max}
use Rattle.std.proofs.lemmas.Bool.{cases_lt}
use Rattle.gather.specs.Bits.{bit_of, sum_to}
use Rattle.gather.specs.Gathered.{Gathered}
use Rattle.gather.proofs.Bitwise.{bit_lt, bit_two}
use Rattle.gather.proofs.Sums.{sum_more, sum_none, sum_le, sum_few, sum_bound}
use Rattle.levels.specs.Streams.{from}
use Rattle.levels.proofs.Appends.{from_yes, from_no}

-- the first k positions are parted: those with a zero in `sel` from position 0 on, the others from z on, and nothing else
pub record Placed (sel : ℕ → ℕ) (top n z k : ℕ) (plane room : ℕ → ℕ) : Type 0 where
  pub zeros : (q : ℕ) → q < k → q < n → sel q ≡ 0 → room (q - sum_to sel q) ≡ plane q
  pub ones : (q : ℕ) → q < k → q < n → sel q ≡ 1 → room (z + sum_to sel q) ≡ plane q
  pub gap : (d : ℕ) → k - sum_to sel k ≤ d → d < z → room d ≡ 0
  pub rest : (d : ℕ) → z + sum_to sel k ≤ d → d < top → room d ≡ 0
  pub past : (d : ℕ) → n ≤ d → d < top → room d ≡ 0

module _ (f : ℕ → ℕ) (two : (j : ℕ) → f j < 2) where
  pub unset_le : (a b : ℕ) → a ≤ b → a - sum_to f a ≤ b - sum_to f b
  unset_le a b h = let e : a + (b - a) ≡ b = omega arith in omega (arith, sum_few f two a (b - a), ap (λ x. sum_to f x) e, sum_bound f two a, sum_bound f two b)

  -- a position with a zero, or with a one, comes before all that stand after it
  pub zero_before : (q b : ℕ) → q < b → f q ≡ 0 → q - sum_to f q < b - sum_to f b
  zero_before q b h e = omega (arith, unset_le (q + 1) b (omega arith), sum_more f q, e, sum_bound f two q)

  pub one_before : (q b : ℕ) → q < b → f q ≡ 1 → sum_to f q < sum_to f b
  one_before q b h e = omega (arith, sum_le f (q + 1) b (omega arith), sum_more f q, e)

pub sum_word : (sel : ℕ → ℕ) (k s : ℕ) → ((p : ℕ) → p < 64 → sel (k + p) ≡ bit_of s p) → (p : ℕ) → p ≤ 64 → sum_to sel (k + p) ≡ sum_to sel k + sum_to (bit_of s) p
sum_word sel k s sel_is zero l = let e : k + 0 ≡ k = omega arith in omega (arith, ap (λ y. sum_to sel y) e, sum_none (bit_of s))
sum_word sel k s sel_is (suc p) l =
    let e : k + suc p ≡ (k + p) + 1 = omega arith in
    let f : suc p ≡ p + 1 = omega arith in
    omega (arith, sum_word sel k s sel_is p (omega arith), ap (λ y. sum_to sel y) e, ap (λ y. sum_to (bit_of s) y) f, sum_more sel (k + p), sum_more (bit_of s) p, sel_is p (omega arith))

only_first : (a b c v : ℕ) → a ≡ v → b ≡ 0 → c ≡ 0 → max (max a b) c ≡ v
only_first a b c v p q r = ap₂ (λ x y. max (max a x) y) q r ∙ max-zero (max a 0) ∙ max-zero a ∙ p

only_second : (a b c v : ℕ) → a ≡ 0 → b ≡ v → c ≡ 0 → max (max a b) c ≡ v
only_second a b c v p q r = ap₂ (λ x y. max (max x b) y) p r ∙ max-zero (max 0 b) ∙ zero-max b ∙ q

only_third : (a b c v : ℕ) → a ≡ 0 → b ≡ 0 → c ≡ v → max (max a b) c ≡ v
only_third a b c v p q r = ap₂ (λ x y. max (max x y) c) p q ∙ zero-max c ∙ r

module _ (sel plane room after : ℕ → ℕ) (top n z k s t x zb ob : ℕ) (two : (j : ℕ) → sel j < 2)
    (sel_is : (p : ℕ) → p < 64 → sel (k + p) ≡ bit_of s p) (not_is : (p : ℕ) → p < 64 → bit_of t p ≡ 1 - bit_of s p)
    (x_is : (p : ℕ) → p < 64 → plane (k + p) ≡ bit_of x p) (tail : (q : ℕ) → n ≤ q → q < top → plane q ≡ 0)
    (room-left : k + 64 ≤ top) (fit : n ≤ top) (ze : z ≡ n - sum_to sel n) (zg : Gathered t x zb) (og : Gathered s x ob)
    (is : (d : ℕ) → d < top → after d ≡ max (max (room d) (from (k - sum_to sel k) zb d)) (from (z + sum_to sel k) ob d))
    (h : Placed sel top n z k plane room) where
  sel_sum : (p : ℕ) → p ≤ 64 → sum_to sel (k + p) ≡ sum_to sel k + sum_to (bit_of s) p
  sel_sum p l = sum_word sel k s sel_is p l

  not_sum : (p : ℕ) → p ≤ 64 → sum_to (bit_of t) p + sum_to (bit_of s) p ≡ p
  not_sum zero l = omega (arith, sum_none (bit_of t), sum_none (bit_of s))
  not_sum (suc p) l =
      let f : suc p ≡ p + 1 = omega arith in
      omega (arith, not_sum p (omega arith), ap (λ y. sum_to (bit_of s) y) f, ap (λ y. sum_to (bit_of t) y) f, sum_more (bit_of t) p, sum_more (bit_of s) p, not_is p (omega arith), bit_lt s p)

  one_of : (r w : ℕ) → (p : ℕ) → p < 64 → bit_of w r ≡ 1 → bit_of w r ≡ bit_of x p → k + p < n
  one_of r w p l o e =
      ⊎_elim (λ (a : k + p < n). a) (λ (a : n ≤ k + p). absurd (omega (arith, tail (k + p) a (omega arith), x_is p l, o, e))) (cases_lt (k + p) n)

  no_zero : (d : ℕ) → ((q : ℕ) → q < k + 64 → q < n → sel q ≡ 0 → q - sum_to sel q ≡ d → ⊥) → from (k - sum_to sel k) zb d ≡ 0
  no_zero d never =
      ⊎_elim (λ (a : d < k - sum_to sel k). from_no (k - sum_to sel k) zb d a)
      (λ (a : k - sum_to sel k ≤ d).
      from_yes (k - sum_to sel k) zb d a
      ∙ ⊎_elim (λ (b : bit_of zb (d - (k - sum_to sel k)) ≡ 0). b)
      (λ (b : bit_of zb (d - (k - sum_to sel k)) ≡ 1).
      let w = zg.rest (d - (k - sum_to sel k)) b in
      let p = w.0 in
      let l = w.1.0 in
      let r = w.1.2 in
      let v : bit_of zb (d - (k - sum_to sel k)) ≡ bit_of x p = ap (λ y. bit_of zb y) (sym r) ∙ zg.kept p l w.1.1 in
      let m = one_of (d - (k - sum_to sel k)) zb p l b v in
      let e : sel (k + p) ≡ 0 = omega (arith, sel_is p l, not_is p l, w.1.1, bit_lt s p) in
      absurd (never (k + p) (omega arith) m e (omega (arith, sel_sum p (omega arith), not_sum p (omega arith), r, sum_bound sel two k, a))))
      (bit_two zb (d - (k - sum_to sel k))))
      (cases_lt d (k - sum_to sel k))

  no_one : (d : ℕ) → ((q : ℕ) → q < k + 64 → q < n → sel q ≡ 1 → z + sum_to sel q ≡ d → ⊥) → from (z + sum_to sel k) ob d ≡ 0
  no_one d never =
      ⊎_elim (λ (a : d < z + sum_to sel k). from_no (z + sum_to sel k) ob d a)
      (λ (a : z + sum_to sel k ≤ d).
      from_yes (z + sum_to sel k) ob d a
      ∙ ⊎_elim (λ (b : bit_of ob (d - (z + sum_to sel k)) ≡ 0). b)
      (λ (b : bit_of ob (d - (z + sum_to sel k)) ≡ 1).
      let w = og.rest (d - (z + sum_to sel k)) b in
      let p = w.0 in
      let l = w.1.0 in
      let r = w.1.2 in
      let v : bit_of ob (d - (z + sum_to sel k)) ≡ bit_of x p = ap (λ y. bit_of ob y) (sym r) ∙ og.kept p l w.1.1 in
      let m = one_of (d - (z + sum_to sel k)) ob p l b v in
      let e : sel (k + p) ≡ 1 = sel_is p l ∙ w.1.1 in
      absurd (never (k + p) (omega arith) m e (omega (arith, sel_sum p (omega arith), r, a))))
      (bit_two ob (d - (z + sum_to sel k))))
      (cases_lt d (z + sum_to sel k))

  -- what stands at z and after is no zero's
  past_zeros : (d : ℕ) → z ≤ d → from (k - sum_to sel k) zb d ≡ 0
  past_zeros d a = no_zero d (λ q u v e w. omega (arith, zero_before sel two q n v e, ze, w, a))

  before_ones : (d : ℕ) → d < z → from (z + sum_to sel k) ob d ≡ 0
  before_ones d a = from_no (z + sum_to sel k) ob d (omega arith)

  total : z + sum_to sel n ≡ n
  total = omega (arith, ze, sum_bound sel two n)

  turn_zeros : (q : ℕ) → q < k + 64 → q < n → sel q ≡ 0 → after (q - sum_to sel q) ≡ plane q
  turn_zeros q l ln e =
      let zb4 : q - sum_to sel q < z = omega (arith, zero_before sel two q n ln e, ze) in
      let d : q - sum_to sel q < top = omega (arith, total) in
      is (q - sum_to sel q) d
      ∙ ⊎_elim
      (λ (a : q < k).
      only_first (room (q - sum_to sel q)) (from (k - sum_to sel k) zb (q - sum_to sel q)) (from (z + sum_to sel k) ob (q - sum_to sel q)) (plane q) (h.zeros q a ln e)
      (from_no (k - sum_to sel k) zb (q - sum_to sel q) (zero_before sel two q k a e)) (before_ones (q - sum_to sel q) zb4))
      (λ (a : k ≤ q).
      let p : k + (q - k) ≡ q = omega arith in
      let lp : q - k < 64 = omega arith in
      let u : sel q ≡ bit_of s (q - k) = ap sel (sym p) ∙ sel_is (q - k) lp in
      let o : bit_of t (q - k) ≡ 1 = omega (arith, not_is (q - k) lp, u, e) in
      let ss = sel_sum (q - k) (omega arith) in
      let ap1 = ap (λ y. sum_to sel y) p in
      let low = unset_le sel two k q a in
      let r : q - sum_to sel q - (k - sum_to sel k) ≡ sum_to (bit_of t) (q - k) = omega (arith, ss, ap1, not_sum (q - k) (omega arith), sum_bound sel two k) in
      only_second (room (q - sum_to sel q)) (from (k - sum_to sel k) zb (q - sum_to sel q)) (from (z + sum_to sel k) ob (q - sum_to sel q)) (plane q)
      (h.gap (q - sum_to sel q) low zb4)
      (from_yes (k - sum_to sel k) zb (q - sum_to sel q) low ∙ ap (λ y. bit_of zb y) r ∙ zg.kept (q - k) lp o ∙ sym (x_is (q - k) lp) ∙ ap plane p)
      (before_ones (q - sum_to sel q) zb4))
      (cases_lt q k)

  turn_ones : (q : ℕ) → q < k + 64 → q < n → sel q ≡ 1 → after (z + sum_to sel q) ≡ plane q
  turn_ones q l ln e =
      let d : z + sum_to sel q < top = omega (arith, one_before sel two q n ln e, total) in
      is (z + sum_to sel q) d
      ∙ ⊎_elim
      (λ (a : q < k).
      only_first (room (z + sum_to sel q)) (from (k - sum_to sel k) zb (z + sum_to sel q)) (from (z + sum_to sel k) ob (z + sum_to sel q)) (plane q) (h.ones q a ln e)
      (past_zeros (z + sum_to sel q) (omega arith)) (from_no (z + sum_to sel k) ob (z + sum_to sel q) (omega (arith, one_before sel two q k a e))))
      (λ (a : k ≤ q).
      let p : k + (q - k) ≡ q = omega arith in
      let lp : q - k < 64 = omega arith in
      let u : bit_of s (q - k) ≡ 1 = sym (ap sel (sym p) ∙ sel_is (q - k) lp) ∙ e in
      let ss = sel_sum (q - k) (omega arith) in
      let ap1 = ap (λ y. sum_to sel y) p in
      let low : z + sum_to sel k ≤ z + sum_to sel q = omega (arith, sum_le sel k q a) in
      let r : z + sum_to sel q - (z + sum_to sel k) ≡ sum_to (bit_of s) (q - k) = omega (arith, ss, ap1) in
      only_third (room (z + sum_to sel q)) (from (k - sum_to sel k) zb (z + sum_to sel q)) (from (z + sum_to sel k) ob (z + sum_to sel q)) (plane q)
      (h.rest (z + sum_to sel q) low d) (past_zeros (z + sum_to sel q) (omega arith))
      (from_yes (z + sum_to sel k) ob (z + sum_to sel q) low ∙ ap (λ y. bit_of ob y) r ∙ og.kept (q - k) lp u ∙ sym (x_is (q - k) lp) ∙ ap plane p))
      (cases_lt q k)

  pub turn : Placed sel top n z (k + 64) plane after
  turn = record {
    zeros = turn_zeros;
    ones = turn_ones;
    gap = λ d a b.
        is d (omega (arith, total))
        ∙ only_first (room d) (from (k - sum_to sel k) zb d) (from (z + sum_to sel k) ob d) 0 (h.gap d (omega (arith, unset_le sel two k (k + 64) (omega arith))) b)
        (no_zero d (λ q u v e w. omega (arith, zero_before sel two q (k + 64) u e, w, a))) (before_ones d b);
    rest = λ d a b.
        is d b
        ∙ only_first (room d) (from (k - sum_to sel k) zb d) (from (z + sum_to sel k) ob d) 0 (h.rest d (omega (arith, sum_le sel k (k + 64) (omega arith))) b)
        (past_zeros d (omega arith)) (no_one d (λ q u v e w. omega (arith, one_before sel two q (k + 64) u e, w, a)));
    past = λ d a b.
        is d b
        ∙ only_first (room d) (from (k - sum_to sel k) zb d) (from (z + sum_to sel k) ob d) 0 (h.past d a b)
        (past_zeros d (omega (arith, total))) (no_one d (λ q u v e w. omega (arith, one_before sel two q n v e, total, w, a)));
  }

pub start : (sel plane room : ℕ → ℕ) (top n z : ℕ) → z ≤ top → ((d : ℕ) → d < top → room d ≡ 0) → Placed sel top n z 0 plane room
start sel plane room top n z le f = record {
  zeros = λ q l m e. absurd (omega arith);
  ones = λ q l m e. absurd (omega arith);
  gap = λ d a b. f d (omega arith);
  rest = λ d a b. f d b;
  past = λ d a b. f d b;
}
