-- How many entries the rows of the first points of a grid have.
use Rattle.std.proofs.Common.{◌≡◌, ℕ, zero, suc, ◌+◌, ◌-◌, ◌*◌, ◌/◌, ◌%◌, ◌<◌, ◌≤◌, min, ltb, ⊎_elim, [], length, get_or, take, sum, sym, ap, ◌∙◌, subst, mul-le-mul_right, mul_comm, add-mul, add-one, arith}
use Rattle.std.specs.List.{between}
use Rattle.std.proofs.lemmas.Nat.{div-add-mod', div-mul-add, mod_below, mul-le}
use Rattle.std.proofs.lemmas.List.{get_or-map, length-map}
use Rattle.std.proofs.lemmas.List.Sums.{sum_by_more}
use Rattle.std.proofs.lemmas.Slice.{between_from_start}
use Rattle.std.proofs.lemmas.Bool.{cases_lt, cond_both, ltb-true, ltb-false}
use Rattle.pattern.specs.Sparsity.{Sparsity, row_counts, row_count, entries_between}
use Rattle.pattern.proofs.Spans.{sum_between, entries_clipped}
use Rattle.grid.specs.Lattice.{lattice_sparsity, neighbours}
use Rattle.grid.specs.Rows.{bit, degree, row_is, length_lattice, above_in, below_in}

-- the points themselves, and those with a point above, to the left, to the right and below
abbrev pub before : ℕ → ℕ → ℕ → ℕ
before p n i = i + (i - p) + (i - (i + p - 1) / p) + (i - i / p) + min i (n - p)

module _ (p q i : ℕ) (pos : 0 < p) where
  split : i / p * p + i % p ≡ i
  split = div-add-mod' i p

  -- no more lines than points come before
  low : i / p ≤ i / p * p
  low = let t : i / p * 1 ≤ i / p * p = mul-le (i / p) 1 (i / p) p (omega arith) (omega arith) in omega arith

  -- what one point more adds to those with a point above, to the left, to the right and below
  above : i + 1 - p ≡ (i - p) + bit (ltb 0 (i / p))
  above =
      cond_both (ltb 0 (i / p)) 1 0 (λ v. i + 1 - p ≡ (i - p) + v)
      (λ e. omega (arith, above_in p i (ltb-true 0 (i / p) e)))
      (λ e. let z : i / p ≡ 0 = omega (arith, ltb-false 0 (i / p) e) in
      let m : i % p < p = mod_below i p pos in
      let s : 0 * p + i % p ≡ i = subst (λ d. d * p + i % p ≡ i) z split in omega arith)

  ceil_first : i % p ≡ 0 → (i + p - 1) / p ≡ i / p
  ceil_first z =
      let e : i + p - 1 ≡ i / p * p + (p - 1) = omega (arith, split) in
      ap (λ n. n / p) e ∙ div-mul-add (i / p) p (p - 1) (omega arith)

  ceil_inner : 0 < i % p → (i + p - 1) / p ≡ i / p + 1
  ceil_inner z =
      let m : i % p < p = mod_below i p pos in
      let e : i + p - 1 ≡ (i / p + 1) * p + (i % p - 1) = omega (arith, split, add-mul (i / p) 1 p) in
      ap (λ n. n / p) e ∙ div-mul-add (i / p + 1) p (i % p - 1) (omega arith)

  -- how many lines begin before a point
  ceil_is : i / p + min 1 (i % p) ≡ (i + p - 1) / p
  ceil_is = ⊎_elim (λ l. omega (arith, ceil_inner l)) (λ l. omega (arith, ceil_first (omega arith))) (cases_lt 0 (i % p))

  ceil_next : (i + 1 + p - 1) / p ≡ i / p + 1
  ceil_next =
      let m : i % p < p = mod_below i p pos in
      let e : i + 1 + p - 1 ≡ (i / p + 1) * p + i % p = omega (arith, split, add-mul (i / p) 1 p) in
      ap (λ n. n / p) e ∙ div-mul-add (i / p + 1) p (i % p) m

  left : i + 1 - (i + 1 + p - 1) / p ≡ (i - (i + p - 1) / p) + bit (ltb 0 (i % p))
  left =
      cond_both (ltb 0 (i % p)) 1 0 (λ v. i + 1 - (i + 1 + p - 1) / p ≡ (i - (i + p - 1) / p) + v)
      (λ e. omega (arith, ceil_next, ceil_inner (ltb-true 0 (i % p) e), ltb-true 0 (i % p) e, low, split))
      (λ e. omega (arith, ceil_next, ceil_first (omega (arith, ltb-false 0 (i % p) e)), low, split))

  floor_inner : i % p + 1 < p → (i + 1) / p ≡ i / p
  floor_inner r =
      let e : i + 1 ≡ i / p * p + (i % p + 1) = omega (arith, split) in
      ap (λ n. n / p) e ∙ div-mul-add (i / p) p (i % p + 1) r

  floor_last : p ≤ i % p + 1 → (i + 1) / p ≡ i / p + 1
  floor_last r =
      let m : i % p < p = mod_below i p pos in
      let e : i + 1 ≡ (i / p + 1) * p + 0 = omega (arith, split, add-mul (i / p) 1 p) in
      ap (λ n. n / p) e ∙ div-mul-add (i / p + 1) p 0 pos

  right : i + 1 - (i + 1) / p ≡ (i - i / p) + bit (ltb (i % p + 1) p)
  right =
      cond_both (ltb (i % p + 1) p) 1 0 (λ v. i + 1 - (i + 1) / p ≡ (i - i / p) + v)
      (λ e. omega (arith, floor_inner (ltb-true (i % p + 1) p e), low, split))
      (λ e. omega (arith, floor_last (ltb-false (i % p + 1) p e), low, split))

  below : min (i + 1) (p * q - p) ≡ min i (p * q - p) + bit (ltb (i / p + 1) q)
  below =
      cond_both (ltb (i / p + 1) q) 1 0 (λ v. min (i + 1) (p * q - p) ≡ min i (p * q - p) + v)
      (λ e. omega (arith, below_in p q i pos (ltb-true (i / p + 1) q e)))
      (λ e. let l : q ≤ i / p + 1 = ltb-false (i / p + 1) q e in
      let t : q * p ≤ (i / p + 1) * p = mul-le-mul_right p l in
      omega (arith, t, split, add-mul (i / p) 1 p, mul_comm p q))

  before_more : before p (p * q) (i + 1) ≡ before p (p * q) i + length (neighbours p q i)
  before_more = omega (arith, degree p q i, above, left, right, below)

module _ (p q : ℕ) (pos : 0 < p) where
  counts_at : (i : ℕ) → i < p * q → get_or (row_counts (lattice_sparsity p q)) i 0 ≡ length (neighbours p q i)
  counts_at i h =
      get_or-map length (lattice_sparsity p q).rows i [] 0 (omega (arith, length_lattice p q)) ∙ ap length (row_is p q i h)

  sum_step : (i : ℕ) → i < p * q
      → sum (take (i + 1) (row_counts (lattice_sparsity p q))) ≡ sum (take i (row_counts (lattice_sparsity p q))) + length (neighbours p q i)
  sum_step i h =
      let e : length (row_counts (lattice_sparsity p q)) ≡ p * q = length-map (lattice_sparsity p q).rows length ∙ length_lattice p q in
      sum_by_more (λ x. x) (row_counts (lattice_sparsity p q)) i 0 (omega arith)
      ∙ ap (λ n. sum (take i (row_counts (lattice_sparsity p q))) + n) (counts_at i h)

  -- the closed form counts the entries of the rows before i
  before_is : (i : ℕ) → i ≤ p * q → before p (p * q) i ≡ sum (take i (row_counts (lattice_sparsity p q)))
  before_is zero h = omega arith
  before_is (suc i) h =
      let e : before p (p * q) (i + 1) ≡ sum (take (i + 1) (row_counts (lattice_sparsity p q))) =
      before_more p q i pos ∙ ap (λ n. n + length (neighbours p q i)) (before_is i (omega arith)) ∙ sym (sum_step i (omega arith)) in
      subst (λ n. before p (p * q) n ≡ sum (take n (row_counts (lattice_sparsity p q)))) (add-one i) e

-- the entries of the rows before a point, counted as the grid counts them
pub entries_before_is : (p q i : ℕ) → 0 < p → i ≤ p * q
    → i + (i - p) + (i - (i / p + min 1 (i % p))) + (i - i / p) + min i (p * q - p) ≡ entries_between (lattice_sparsity p q) 0 i
entries_before_is p q i pos h =
    let s : Sparsity = lattice_sparsity p q in
    let t : sum (between 0 i (row_counts s)) ≡ sum (take i (row_counts s)) = ap sum (between_from_start (row_counts s) i) in
    omega (arith, before_is p q pos i h, ceil_is p q i pos, t)

-- the entries of the rows from a up to b are those before the end without those before the start, once both are clipped
pub entries_cut : (s : Sparsity) (a b end start : ℕ) → end ≡ min b (row_count s) → start ≡ min a end
    → entries_between s 0 end ≡ entries_between s 0 start + entries_between s a b
entries_cut s a b end start to from =
    let xs = row_counts s in
    let c : sum (between start end xs) ≡ entries_between s a b = rw (from, to) (entries_clipped s a b) in
    let t : sum (between 0 end xs) ≡ sum (take end xs) = ap sum (between_from_start xs end) in
    let u : sum (between 0 start xs) ≡ sum (take start xs) = ap sum (between_from_start xs start) in
    omega (arith, sum_between xs start end (omega arith), c, t, u)
