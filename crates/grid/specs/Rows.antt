-- The pattern of a grid is lawful.
use Rattle.std.specs.Prelude.{◌≡◌, ℕ, zero, suc, ◌+◌, ◌-◌, ◌*◌, ◌/◌, ◌%◌, ◌<◌, ◌≤◌, Bool, true, false, cond, List, [], ◌∷◌, map, length, sum, nat_lt, slice_index, slice_index_or, refl}
use Rattle.std.proofs.Math.Logic.{⊎_elim}
use Rattle.std.proofs.Common.{le_refl, mul_comm, mul-le-mul_right, add-mul, zero-mul, add-one}
use native.Mathlib.Omega.{arith}
use Rattle.std.proofs.lemmas.Nat.{div-add-mod', div_below, mod_below}
use Rattle.std.proofs.lemmas.List.{get_or_past}
use Rattle.std.proofs.lemmas.List.FromFn.{length-map-range_with_len, get_or-map-range_with_len}
use Rattle.std.proofs.lemmas.List.Sums.{sum_by-cons}
use Rattle.std.proofs.lemmas.Bool.{cond_both, cases_lt, ltb-true}
use Rattle.pattern.specs.Sparsity.{Lawful, RowOrdered, row_at, row_count}
use Rattle.grid.specs.Lattice.{neighbours, lattice_sparsity}

-- a list that rises from lo on, below n
up : ℕ → ℕ → List ℕ → Type 0
up lo n [] = Unit {0}
up lo n (x ∷ xs) = (lo ≤ x) × (x < n) × up (x + 1) n xs

up_when : (b : Bool) (lo n x : ℕ) (xs : List ℕ) → (b ≡ true → (lo ≤ x) × (x < n) × up (x + 1) n xs) → (b ≡ false → up lo n xs)
    → up lo n (cond b (x ∷ xs) xs)
unfolding up
up_when true lo n x xs h l = h refl
up_when false lo n x xs h l = l refl

up_below : (lo n : ℕ) (xs : List ℕ) → up lo n xs → (k : ℕ) → k < length xs → slice_index xs k < n
unfolding up
up_below lo n [] u k h = absurd (omega arith)
up_below lo n (x ∷ xs) u zero h = u.1
up_below lo n (x ∷ xs) u (suc k) h = up_below (x + 1) n xs u.2 k (omega arith)

up_rising : (lo n : ℕ) (xs : List ℕ) → up lo n xs → (k : ℕ) → suc k < length xs → slice_index xs k < slice_index xs (suc k)
unfolding up
up_rising lo n [] u k h = absurd (omega arith)
up_rising lo n (x ∷ []) u k h = absurd (omega arith)
up_rising lo n (x ∷ y ∷ xs) u zero h = omega (arith, u.2.0)
up_rising lo n (x ∷ y ∷ xs) u (suc k) h = up_rising (x + 1) n (y ∷ xs) u.2 k (omega arith)

up_ordered : (n : ℕ) (xs : List ℕ) → up 0 n xs → RowOrdered n xs
up_ordered n xs u = (up_below 0 n xs u, λ k. rw (add-one k) (up_rising 0 n xs u k))

-- the points to the right and below, where there are such, are in the grid
right_in : (p q i : ℕ) → 0 < p → i < p * q → i % p + 1 < p → i + 1 < p * q
right_in p q i pos h r =
    let d : i / p < q = div_below i p q pos (omega (arith, mul_comm p q)) in
    let s : i / p * p + i % p ≡ i = div-add-mod' i p in
    let t : (i / p + 1) * p ≤ q * p = mul-le-mul_right p (omega arith) in
    omega (arith, add-mul (i / p) 1 p, mul_comm p q)

pub below_in : (p q i : ℕ) → 0 < p → i / p + 1 < q → i + p < p * q
below_in p q i pos h =
    let m : i % p < p = mod_below i p pos in
    let s : i / p * p + i % p ≡ i = div-add-mod' i p in
    let t : (i / p + 1 + 1) * p ≤ q * p = mul-le-mul_right p (omega arith) in
    omega (arith, add-mul (i / p + 1) 1 p, add-mul (i / p) 1 p, mul_comm p q)

-- a point that is not in the first line is p or a later one
pub above_in : (p i : ℕ) → 0 < i / p → p ≤ i
above_in p i h =
    let s : i / p * p + i % p ≡ i = div-add-mod' i p in
    let t : 1 * p ≤ i / p * p = mul-le-mul_right p (omega arith) in
    omega arith

-- the columns of a row rise and are points, from the last one back to the first
module _ (p q i : ℕ) (pos : 0 < p) (h : i < p * q) where
  downs : List ℕ
  downs = cond (nat_lt (i / p + 1) q) ((i + p) ∷ []) []

  rights : List ℕ
  rights = cond (nat_lt (i % p + 1) p) ((i + 1) ∷ downs) downs

  lefts : List ℕ
  lefts = cond (nat_lt 0 (i % p)) ((i - 1) ∷ i ∷ rights) (i ∷ rights)

  up_downs : (lo : ℕ) → lo ≤ i + p → up lo (p * q) downs
  unfolding up downs
  up_downs lo l =
      up_when (nat_lt (i / p + 1) q) lo (p * q) (i + p) []
      (λ e. (l, below_in p q i pos (ltb-true (i / p + 1) q e), tt)) (λ e. tt)

  up_rights : up (i + 1) (p * q) rights
  unfolding up rights
  up_rights =
      up_when (nat_lt (i % p + 1) p) (i + 1) (p * q) (i + 1) downs
      (λ e. let r : i % p + 1 < p = ltb-true (i % p + 1) p e in (le_refl (i + 1), right_in p q i pos h r, up_downs (i + 1 + 1) (omega arith)))
      (λ e. up_downs (i + 1) (omega arith))

  up_lefts : (lo : ℕ) → (0 < i % p → lo ≤ i - 1) → lo ≤ i → up lo (p * q) lefts
  unfolding up lefts
  up_lefts lo k l =
      let s : i / p * p + i % p ≡ i = div-add-mod' i p in
      up_when (nat_lt 0 (i % p)) lo (p * q) (i - 1) (i ∷ rights)
      (λ e. let r : 0 < i % p = ltb-true 0 (i % p) e in (k r, omega arith, (omega arith, h, up_rights)))
      (λ e. (l, h, up_rights))

  up_neighbours : up 0 (p * q) (neighbours p q i)
  unfolding up lefts rights downs
  up_neighbours =
      let m : i % p < p = mod_below i p pos in
      let s : i / p * p + i % p ≡ i = div-add-mod' i p in
      up_when (nat_lt 0 (i / p)) 0 (p * q) (i - p) lefts
      (λ e. let a : p ≤ i = above_in p i (ltb-true 0 (i / p) e) in (omega arith, omega arith, up_lefts (i - p + 1) (λ r. omega arith) (omega arith)))
      (λ e. up_lefts 0 (λ r. omega arith) (omega arith))

-- 1 where b holds, else 0
abbrev pub bit : Bool → ℕ
bit b = cond b 1 0

bit_le : (b : Bool) → bit b ≤ 1
bit_le b = cond_both b 1 0 (λ k. k ≤ 1) (λ e. omega arith) (λ e. omega arith)

length_cond : (b : Bool) (x : ℕ) (xs : List ℕ) → length (cond b (x ∷ xs) xs) ≡ length xs + bit b
length_cond true x xs = omega arith
length_cond false x xs = omega arith

pub degree : (p q i : ℕ)
    → length (neighbours p q i) ≡ 1 + bit (nat_lt 0 (i / p)) + bit (nat_lt 0 (i % p)) + bit (nat_lt (i % p + 1) p) + bit (nat_lt (i / p + 1) q)
degree p q i =
    let downs : List ℕ = cond (nat_lt (i / p + 1) q) ((i + p) ∷ []) [] in
    let rights : List ℕ = cond (nat_lt (i % p + 1) p) ((i + 1) ∷ downs) downs in
    omega (
      arith,
      length_cond (nat_lt 0 (i / p)) (i - p) (cond (nat_lt 0 (i % p)) ((i - 1) ∷ i ∷ rights) (i ∷ rights)),
      length_cond (nat_lt 0 (i % p)) (i - 1) (i ∷ rights),
      length_cond (nat_lt (i % p + 1) p) (i + 1) downs,
      length_cond (nat_lt (i / p + 1) q) (i + p) [],
    )

length_neighbours : (p q i : ℕ) → length (neighbours p q i) ≤ 5
length_neighbours p q i =
    omega (arith, degree p q i, bit_le (nat_lt 0 (i / p)), bit_le (nat_lt 0 (i % p)), bit_le (nat_lt (i % p + 1) p), bit_le (nat_lt (i / p + 1) q))

-- the row of a point, and no row from the number of points on
module _ (p q : ℕ) where
  pub length_lattice : row_count (lattice_sparsity p q) ≡ p * q
  length_lattice = length-map-range_with_len (neighbours p q) 0 (p * q)

  pub row_is : (i : ℕ) → i < p * q → row_at (lattice_sparsity p q) i ≡ neighbours p q i
  row_is i h = get_or-map-range_with_len (neighbours p q) 0 (p * q) i i [] h (omega arith)

  pub row_past : (i : ℕ) → p * q ≤ i → row_at (lattice_sparsity p q) i ≡ []
  row_past i h = get_or_past (lattice_sparsity p q).rows i [] (omega (arith, length_lattice))

-- a line with a point has some width
some_width : (p q i : ℕ) → i < p * q → 0 < p
some_width zero q i h = let e = simp zero-mul at h in absurd (omega arith)
some_width (suc p) q i h = omega arith

-- at most five entries to a row
few_entries : (rs : List (List ℕ)) → ((k : ℕ) → k < length rs → length (slice_index_or rs k []) ≤ 5) → sum (map length rs) ≤ 5 * length rs
few_entries [] f = omega arith
few_entries (r ∷ rs) f =
    let a : length r ≤ 5 = f 0 (omega arith) in
    let b : sum (map length rs) ≤ 5 * length rs = few_entries rs (λ k h. f (suc k) (omega arith)) in
    omega (arith, sum_by-cons (λ x. x) (length r) (map length rs))

module _ (p q : ℕ) (few : p * q ≤ 1000000) where
  pub lawful_lattice : Lawful (lattice_sparsity p q)
  unfolding up
  lawful_lattice = record {
    height = let e = length_lattice p q in omega arith;
    width = few;
    entries =
        let e = length_lattice p q in
        let t = few_entries (lattice_sparsity p q).rows (λ k h. rw (row_is p q k (omega arith)) (length_neighbours p q k)) in
        omega arith;
    ordered = λ i.
        ⊎_elim (λ l. rw (row_is p q i l) (up_ordered (p * q) (neighbours p q i) (up_neighbours p q i (some_width p q i l) l)))
        (λ l. rw (row_past p q i l) (up_ordered (p * q) [] tt))
        (cases_lt i (p * q));
  }
