-- Bits that move down.
use Rattle.std.proofs.Common.{◌≡◌, ℕ, zero, suc, ◌+◌, ◌-◌, ◌*◌, ◌/◌, ◌%◌, ◌^◌, ◌<◌, ◌≤◌, max, ◌⊎◌, sym, ap, ◌∙◌, subst, ap₂, inl, inr, ⊎_elim, mod-eq_of_lt, one-mul, mul-zero, zero-mul, mul-one, arith, pow_mono}
use native.Mathlib.Nat.{max-zero, zero-max, mod-le, mod-add-mod, mod-one}
use Rattle.std.proofs.lemmas.Nat.{mod-pow-add, pow_pos, shr-shr}
use Rattle.std.proofs.lemmas.Bool.{cases_lt, cases_order}
use Rattle.gather.specs.Bits.{bit_of, sum_to}
use Rattle.gather.specs.Gathered.{gap, spot, Steers, Gathered, Moved, Digit, Along, Stepped}
use Rattle.gather.proofs.Bitwise.{bit_lt, bit_two, bit_high, two}
use Rattle.gather.proofs.Sums.{sum_more, sum_none, sum_le, sum_few, sum_bound}

digit_more : (a i : ℕ) → a % 2 ^ (i + 1) ≡ bit_of a i * 2 ^ i + a % 2 ^ i
unfolding bit_of
digit_more a i = let e : i + 1 ≡ 1 + i = omega arith in ap (λ x. a % 2 ^ x) e ∙ mod-pow-add a 1 i

module _ (s i p : ℕ) where
  pub spot_zero : bit_of (gap s p) i ≡ 0 → spot s (i + 1) p ≡ spot s i p
  spot_zero e = ap (λ x. p - x) (digit_more (gap s p) i ∙ ap (λ x. x * 2 ^ i + gap s p % 2 ^ i) e ∙ ap (λ x. x + gap s p % 2 ^ i) (zero-mul (2 ^ i)) ∙ omega arith)

  pub spot_one : bit_of (gap s p) i ≡ 1 → spot s (i + 1) p + 2 ^ i ≡ spot s i p
  spot_one e =
      let d : gap s p % 2 ^ (i + 1) ≡ 1 * 2 ^ i + gap s p % 2 ^ i = digit_more (gap s p) i ∙ ap (λ x. x * 2 ^ i + gap s p % 2 ^ i) e in
      let l = mod-le (gap s p) (2 ^ (i + 1)) in
      omega (arith, d, l)

mod_slow : (a e m : ℕ) → (a + e) % m ≤ a % m + e
mod_slow a e m = omega (arith, mod-add-mod a m e, mod-le (a % m + e) m)

-- set bits keep their order
pub strict : (s i p q : ℕ) → p < q → bit_of s p ≡ 1 → spot s i p < spot s i q
strict s i p q l e =
    let a = sum_more (bit_of s) p in
    let b = sum_le (bit_of s) (p + 1) q (omega arith) in
    let d : p + (q - p) ≡ q = omega arith in
    let f = ap (λ x. sum_to (bit_of s) x) d in
    let g = sum_few (bit_of s) (bit_lt s) p (q - p) in
    let h = sum_bound (bit_of s) (bit_lt s) p in
    let k = sum_bound (bit_of s) (bit_lt s) q in
    let m : gap s q ≡ gap s p + (gap s q - gap s p) = omega arith in
    let n : gap s q - gap s p + 1 ≤ q - p = omega arith in
    let o = mod_slow (gap s p) (gap s q - gap s p) (2 ^ i) in
    let r : gap s q % 2 ^ i ≡ (gap s p + (gap s q - gap s p)) % 2 ^ i = ap (λ x. x % 2 ^ i) m in
    let t = mod-le (gap s p) (2 ^ i) in
    omega (arith, n, o, r, t, h)

pub one_spot : (s i p q : ℕ) → bit_of s p ≡ 1 → bit_of s q ≡ 1 → spot s i p ≡ spot s i q → p ≡ q
one_spot s i p q a b e =
    elim (cases_order p q) [
      | inl h ↦ h
      | inr (inl l) ↦ absurd (omega (arith, strict s i p q l a))
      | inr (inr l) ↦ absurd (omega (arith, strict s i q p l b))
    ]

stays : (y m w : ℕ) → m ≡ 0 → w ≡ 0 → max (y * (1 - m)) w ≡ y
stays y m w a b = ap₂ (λ x z. max (y * (1 - x)) z) a b ∙ max-zero (y * 1) ∙ mul-one y

goes : (v y m : ℕ) → v ≡ 0 → m ≡ 1 → max v (y * m) ≡ y
goes v y m a b = ap₂ (λ x z. max x (y * z)) a b ∙ zero-max (y * 1) ∙ mul-one y

left1 : (u v : ℕ) → u * v ≡ 1 → u < 2 → u ≡ 1
left1 u v e l =
    ⊎_elim (λ (a : u ≡ 0). absurd (let z : u * v ≡ 0 = ap (λ t. t * v) a ∙ zero-mul v in omega (arith, z, e))) (λ (a : u ≡ 1). a) (two u l)

right1 : (u v : ℕ) → u * v ≡ 1 → u < 2 → v ≡ 1
right1 u v e l = let a = left1 u v e l in sym (one-mul v) ∙ ap (λ t. t * v) (sym a) ∙ e

product_two : (u v : ℕ) → (u ≡ 0) ⊎ (u ≡ 1) → (v ≡ 0) ⊎ (v ≡ 1) → (u * v ≡ 0) ⊎ (u * v ≡ 1)
product_two u v a b =
    ⊎_elim (λ (p : u ≡ 0). inl (ap (λ t. t * v) p ∙ zero-mul v))
    (λ (p : u ≡ 1). ⊎_elim (λ (q : v ≡ 0). inl (ap (λ t. u * t) q ∙ mul-zero u)) (λ (q : v ≡ 1). inr (ap₂ (λ t w. t * w) p q)) b) a

module _ (s i x y m z : ℕ) (st : Steers s i m) (mv : Moved s i x y)
    (is : (j : ℕ) → bit_of z j ≡ max (bit_of y j * (1 - bit_of m j)) (bit_of y (j + 2 ^ i) * bit_of m (j + 2 ^ i))) where
  module _ (p : ℕ) (h : p < 64) (e : bit_of s p ≡ 1) where
    -- nothing comes to a bit that stays
    none_comes : bit_of (gap s p) i ≡ 0 → bit_of y (spot s i p + 2 ^ i) * bit_of m (spot s i p + 2 ^ i) ≡ 0
    none_comes g =
        ⊎_elim (λ (a : bit_of y (spot s i p + 2 ^ i) ≡ 0). ap (λ t. t * bit_of m (spot s i p + 2 ^ i)) a ∙ zero-mul (bit_of m (spot s i p + 2 ^ i)))
        (λ (a : bit_of y (spot s i p + 2 ^ i) ≡ 1).
        let w = mv.rest (spot s i p + 2 ^ i) a in
        let q = w.0 in
        let k = w.1.2 in
        let n : bit_of m (spot s i p + 2 ^ i) ≡ bit_of (gap s q) i = ap (λ t. bit_of m t) (sym k) ∙ st q w.1.0 w.1.1 in
        ⊎_elim (λ (b : bit_of (gap s q) i ≡ 0). ap (λ t. bit_of y (spot s i p + 2 ^ i) * t) (n ∙ b) ∙ mul-zero (bit_of y (spot s i p + 2 ^ i)))
        (λ (b : bit_of (gap s q) i ≡ 1).
        let u = spot_one s i q b in
        let v = spot_zero s i p g in
        let t : spot s (i + 1) q ≡ spot s (i + 1) p = omega (arith, u, v, k) in
        let o : q ≡ p = one_spot s (i + 1) q p w.1.1 e t in
        let r : spot s i q ≡ spot s i p = ap (λ t. spot s i t) o in
        let pos = pow_pos i in
        absurd (omega (arith, r, k, pos)))
        (bit_two (gap s q) i))
        (bit_two y (spot s i p + 2 ^ i))

    -- nothing stays where a bit comes to
    none_stays : bit_of (gap s p) i ≡ 1 → bit_of y (spot s (i + 1) p) * (1 - bit_of m (spot s (i + 1) p)) ≡ 0
    none_stays g =
        ⊎_elim (λ (a : bit_of y (spot s (i + 1) p) ≡ 0). ap (λ t. t * (1 - bit_of m (spot s (i + 1) p))) a ∙ zero-mul (1 - bit_of m (spot s (i + 1) p)))
        (λ (a : bit_of y (spot s (i + 1) p) ≡ 1).
        let w = mv.rest (spot s (i + 1) p) a in
        let q = w.0 in
        let k = w.1.2 in
        let n : bit_of m (spot s (i + 1) p) ≡ bit_of (gap s q) i = ap (λ t. bit_of m t) (sym k) ∙ st q w.1.0 w.1.1 in
        ⊎_elim
        (λ (b : bit_of (gap s q) i ≡ 0).
        let t : spot s (i + 1) q ≡ spot s (i + 1) p = spot_zero s i q b ∙ k in
        let o : q ≡ p = one_spot s (i + 1) q p w.1.1 e t in
        let r : bit_of (gap s q) i ≡ bit_of (gap s p) i = ap (λ t. bit_of (gap s t) i) o in
        absurd (omega (arith, r, b, g)))
        (λ (b : bit_of (gap s q) i ≡ 1). ap (λ t. bit_of y (spot s (i + 1) p) * (1 - t)) (n ∙ b) ∙ mul-zero (bit_of y (spot s (i + 1) p)))
        (bit_two (gap s q) i))
        (bit_two y (spot s (i + 1) p))

    kept_on : bit_of z (spot s (i + 1) p) ≡ bit_of x p
    kept_on =
        ⊎_elim
        (λ (g : bit_of (gap s p) i ≡ 0).
        ap (λ t. bit_of z t) (spot_zero s i p g) ∙ is (spot s i p)
        ∙ stays (bit_of y (spot s i p)) (bit_of m (spot s i p)) (bit_of y (spot s i p + 2 ^ i) * bit_of m (spot s i p + 2 ^ i)) (st p h e ∙ g) (none_comes g)
        ∙ mv.kept p h e)
        (λ (g : bit_of (gap s p) i ≡ 1).
        is (spot s (i + 1) p)
        ∙ ap (λ t. max (bit_of y (spot s (i + 1) p) * (1 - bit_of m (spot s (i + 1) p))) (bit_of y t * bit_of m t)) (spot_one s i p g)
        ∙ goes (bit_of y (spot s (i + 1) p) * (1 - bit_of m (spot s (i + 1) p))) (bit_of y (spot s i p)) (bit_of m (spot s i p)) (none_stays g) (st p h e ∙ g)
        ∙ mv.kept p h e)
        (bit_two (gap s p) i)

  Came : ℕ → Type 0
  Came j = (p : ℕ) × ((p < 64) × (bit_of s p ≡ 1) × (spot s (i + 1) p ≡ j))

  came_down : (j : ℕ) → bit_of y (j + 2 ^ i) ≡ 1 → bit_of m (j + 2 ^ i) ≡ 1 → Came j
  unfolding Came
  came_down j a b =
      let w = mv.rest (j + 2 ^ i) a in
      let g : bit_of (gap s w.0) i ≡ 1 = sym (st w.0 w.1.0 w.1.1) ∙ ap (λ t. bit_of m t) w.1.2 ∙ b in
      let u = spot_one s i w.0 g in
      let k = w.1.2 in
      (w.0, (w.1.0, w.1.1, omega (arith, u, k)))

  came_same : (j : ℕ) → bit_of y j ≡ 1 → bit_of m j ≡ 0 → Came j
  unfolding Came
  came_same j a b =
      let w = mv.rest j a in
      let g : bit_of (gap s w.0) i ≡ 0 = sym (st w.0 w.1.0 w.1.1) ∙ ap (λ t. bit_of m t) w.1.2 ∙ b in
      (w.0, (w.1.0, w.1.1, spot_zero s i w.0 g ∙ w.1.2))

  came : (j : ℕ) → bit_of z j ≡ 1 → Came j
  came j o =
      ⊎_elim
      (λ (a : bit_of y (j + 2 ^ i) * bit_of m (j + 2 ^ i) ≡ 0).
      let d : bit_of y j * (1 - bit_of m j) ≡ 1 = sym (max-zero (bit_of y j * (1 - bit_of m j))) ∙ ap (λ t. max (bit_of y j * (1 - bit_of m j)) t) (sym a) ∙ sym (is j) ∙ o in
      came_same j (left1 (bit_of y j) (1 - bit_of m j) d (bit_lt y j)) (let f = right1 (bit_of y j) (1 - bit_of m j) d (bit_lt y j) in omega (arith, f)))
      (λ (a : bit_of y (j + 2 ^ i) * bit_of m (j + 2 ^ i) ≡ 1).
      came_down j (left1 (bit_of y (j + 2 ^ i)) (bit_of m (j + 2 ^ i)) a (bit_lt y (j + 2 ^ i))) (right1 (bit_of y (j + 2 ^ i)) (bit_of m (j + 2 ^ i)) a (bit_lt y (j + 2 ^ i))))
      (product_two (bit_of y (j + 2 ^ i)) (bit_of m (j + 2 ^ i)) (bit_two y (j + 2 ^ i)) (bit_two m (j + 2 ^ i)))

  -- one step down
  pub advance : Moved s (i + 1) x z
  unfolding Came
  advance = record { kept = kept_on; rest = came }

-- ---- the digits of the gaps

abbrev pub Counts : ℕ → ℕ → ℕ → Type 0
Counts s k g = (p : ℕ) → p < 64 → sum_to (bit_of g) (p + 1) ≡ gap s p / 2 ^ k

pub first_counts : (s g : ℕ) → bit_of g 0 ≡ 0 → ((p : ℕ) → p < 63 → bit_of g (p + 1) ≡ 1 - bit_of s p) → Counts s 0 g
first_counts s g a f zero h = let e = sum_more (bit_of g) 0 in let n = sum_none (bit_of g) in omega (arith, e, n, a)
first_counts s g a f (suc p) h =
    let ih = first_counts s g a f p (omega arith) in
    let q : suc p ≡ p + 1 = omega arith in
    let e = sum_more (bit_of g) (p + 1) in
    let d = sum_more (bit_of s) p in
    let b = f p (omega arith) in
    let k = sum_bound (bit_of s) (bit_lt s) p in
    let l = bit_lt s p in
    subst (λ x. sum_to (bit_of g) (x + 1) ≡ gap s x / 1) (sym q) (omega (arith, ih, e, d, b, k, l))

module _ (g d n : ℕ) (odd : (p : ℕ) → p < 64 → bit_of d p ≡ sum_to (bit_of g) (p + 1) % 2) (is : (p : ℕ) → bit_of n p ≡ bit_of g p * (1 - bit_of d p)) where
  turn : (p : ℕ) → p < 64 → sum_to (bit_of n) p ≡ sum_to (bit_of g) p / 2 → sum_to (bit_of n) (p + 1) ≡ sum_to (bit_of g) (p + 1) / 2
  turn p h ih =
      let a = sum_more (bit_of g) p in
      let b = sum_more (bit_of n) p in
      let o = odd p h in
      let i = is p in
      ⊎_elim (λ (e : bit_of g p ≡ 0). let z : bit_of n p ≡ 0 = i ∙ ap (λ t. t * (1 - bit_of d p)) e ∙ zero-mul (1 - bit_of d p) in omega (arith, a, b, ih, e, z))
      (λ (e : bit_of g p ≡ 1). let z : bit_of n p ≡ 1 - bit_of d p = i ∙ ap (λ t. t * (1 - bit_of d p)) e ∙ one-mul (1 - bit_of d p) in omega (arith, a, b, ih, e, z, o))
      (bit_two g p)

  half_to : (p : ℕ) → p ≤ 64 → sum_to (bit_of n) p ≡ sum_to (bit_of g) p / 2
  half_to zero h = let a = sum_none (bit_of n) in let b = sum_none (bit_of g) in omega (arith, a, b)
  half_to (suc p) h =
      let q : suc p ≡ p + 1 = omega arith in
      subst (λ x. sum_to (bit_of n) x ≡ sum_to (bit_of g) x / 2) (sym q) (turn p (omega arith) (half_to p (omega arith)))

  module _ (s k : ℕ) (cs : Counts s k g) where
    pub next_counts : Counts s (k + 1) n
    next_counts p h = half_to (p + 1) (omega arith) ∙ ap (λ x. x / 2) (cs p h) ∙ shr-shr (gap s p) k 1

pub digit_of : (g d s k : ℕ) → ((p : ℕ) → p < 64 → bit_of d p ≡ sum_to (bit_of g) (p + 1) % 2) → Counts s k g → Digit s k d
unfolding bit_of
digit_of g d s k odd cs p h = odd p h ∙ ap (λ x. x % 2) (cs p h)

pub spot_start : (s p : ℕ) → spot s 0 p ≡ p
spot_start s p = ap (λ x. p - x) (mod-one (gap s p)) ∙ omega arith

one_low : (w j : ℕ) → w < 2 ^ 64 → bit_of w j ≡ 1 → j < 64
one_low w j l e = ⊎_elim (λ (a : j < 64). a) (λ (a : 64 ≤ j). absurd (let z = bit_high w j l a in omega (arith, z, e))) (cases_lt j 64)

pub first_moved : (s x r : ℕ) → (x < 2 ^ 64) ⊎ (s < 2 ^ 64) → ((j : ℕ) → bit_of r j ≡ bit_of x j * bit_of s j) → Moved s 0 x r
first_moved s x r l is = record {
  kept = λ p h e. ap (λ t. bit_of r t) (spot_start s p) ∙ is p ∙ ap (λ t. bit_of x p * t) e ∙ mul-one (bit_of x p);
  rest = λ j o.
      let u : bit_of x j * bit_of s j ≡ 1 = sym (is j) ∙ o in
      let e : bit_of s j ≡ 1 = right1 (bit_of x j) (bit_of s j) u (bit_lt x j) in
      let d : bit_of x j ≡ 1 = left1 (bit_of x j) (bit_of s j) u (bit_lt x j) in
      let h : j < 64 = ⊎_elim (λ (a : x < 2 ^ 64). one_low x j a d) (λ (a : s < 2 ^ 64). one_low s j a e) l in
      (j, (h, e, spot_start s j));
}

pub steer : (s i x y : ℕ) → Moved s i x y → Digit s i x → Steers s i y
steer s i x y mv f p h e = mv.kept p h e ∙ f p h

pub gathered : (s x y : ℕ) → Moved s 6 x y → Gathered s x y
gathered s x y mv = record {
  kept = λ p h e. ap (λ t. bit_of y t) (sym (whole p h)) ∙ mv.kept p h e;
  rest = λ j a.
      let w = mv.rest j a in
      (w.0, (w.1.0, w.1.1, sym (whole w.0 w.1.0) ∙ w.1.2));
}
  where
    whole : (p : ℕ) → p < 64 → spot s 6 p ≡ sum_to (bit_of s) p
    whole p h =
        let b = sum_bound (bit_of s) (bit_lt s) p in
        let m : gap s p % 2 ^ 6 ≡ gap s p = mod-eq_of_lt (let l : gap s p < 2 ^ 6 = omega arith in l) in
        omega (arith, b, m)

-- the places of a step, as a number of 32 bits
pub places : (i : ℕ) → i < 6 → 1 * 2 ^ i % 2 ^ 32 ≡ 2 ^ i
places i h = let l : 2 ^ i ≤ 2 ^ 5 = pow_mono (let m : i ≤ 5 = omega arith in m) in ap (λ x. x % 2 ^ 32) (one-mul (2 ^ i)) ∙ mod-eq_of_lt (omega arith)

pub few_places : (i : ℕ) → i < 6 → 1 * 2 ^ i % 2 ^ 32 < 64
few_places i h = let l : 2 ^ i ≤ 2 ^ 5 = pow_mono (let m : i ≤ 5 = omega arith in m) in omega (arith, places i h)

-- a word whose bits go along takes the next step
pub go_along : (s i k m y z n : ℕ) → n ≡ 2 ^ i → Steers s i m → Along s i k y → Stepped y m n z → Along s (i + 1) k z
go_along s i k m y z n e st a is = (a.0, (a.1.0, advance s i a.0 y m z st a.1.1 (subst (λ x. Stepped y m x z) e is)))
