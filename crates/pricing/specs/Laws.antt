-- What holds of the columns of runs of rows, and that each cost over a pattern keeps the law of costs.
use Rattle.std.specs.Prelude.{◌≡◌, ℕ, ◌-◌, ◌*◌, ◌<◌, ◌≤◌, Bool, true, false, not, ◌&&◌, ◌||◌, List, sum, nat_le, nat_lt}
use Rattle.std.proofs.Common.{sym, ap, ◌∙◌, ⊎_elim, mul-le-mul, mul-le-mul_left, mul-zero, arith}
use Rattle.std.proofs.lemmas.Bool.{cases_lt, and_parts, and_from, and_left, and_right, or_cases, or_from, or_left, or_right, leb-true, ltb-true, le-leb, lt-leb, lt-ltb, le-ltb}
use Rattle.std.specs.List.{between}
use Rattle.cost.specs.Price.{Lawful}
use Rattle.marks.specs.Nonlocals.{nonlocal_columns}
use Rattle.owners.specs.Owned.{owned_by}
use Rattle.pattern.specs.Columns.{among, columns_and_rows, columns_in, distinct_columns, row_number, size_below}
use Rattle.pattern.specs.Sparsity.{Sparsity, row_count, row_counts}
use Rattle.pattern.proofs.Sets.{columns_grow, columns_none, size_grows, size_le, size_none, size_same}
use Rattle.pattern.proofs.Spans.{sum_between_le}
use Rattle.table.specs.Told.{SomeTable}
use Rattle.pricing.specs.Columns.{counted_price, footprint_price, nonlocal_price, pattern_counts, scanned_price}
use Rattle.pricing.specs.Told.{told_counts, told_price}
use Rattle.pricing.specs.Works.{Weight, work, work_price}
use Rattle.pricing.specs.Growth.{entries_inside, footprint_counts_lawful, nonlocal_counts_lawful, priced_lawful, scanned_counts_lawful}
use Rattle.pricing.specs.Telling.{told_counts_lawful}

-- no rows have no columns, and rows inside other rows never more than those
module _ (s : Sparsity) where
  no_columns : (a b c : ℕ) → a ≡ b → among (columns_in s a b) c ≡ false
  no_columns a b c e = ap (λ v. among v c) (ap (columns_in s a) (sym e) ∙ columns_none s a)

  pub distinct_none : (a b : ℕ) → a ≡ b → distinct_columns s a b ≡ 0
  distinct_none a b e = size_same s.column_count (among (columns_in s a b)) (λ c. false) (λ c h. no_columns a b c e) ∙ size_none s.column_count

  pub distinct_grows : (a b a' b' : ℕ) → a' ≤ a → a ≤ b → b ≤ b' → distinct_columns s a b ≤ distinct_columns s a' b'
  distinct_grows a b a' b' h l k =
      size_grows s.column_count (among (columns_in s a b)) (among (columns_in s a' b')) (λ c m e. columns_grow s a b a' b' c h l k e)

  pub union_none : (a b : ℕ) → a ≡ b → columns_and_rows s a b ≡ 0
  union_none a b e =
      size_same s.column_count (λ c. among (columns_in s a b) c || row_number a b c) (λ c. false)
      (λ c h. or_from (among (columns_in s a b) c) (row_number a b c) (no_columns a b c e) (no_number c)) ∙ size_none s.column_count
    where
      no_number : (c : ℕ) → row_number a b c ≡ false
      no_number c = ⊎_elim
          (λ h. and_left (nat_le a c) (nat_lt c b) (lt-leb a c h))
          (λ h. and_right (nat_le a c) (nat_lt c b) (le-ltb c b (omega arith)))
          (cases_lt c a)

  pub union_grows : (a b a' b' : ℕ) → a' ≤ a → a ≤ b → b ≤ b' → columns_and_rows s a b ≤ columns_and_rows s a' b'
  union_grows a b a' b' h l k =
      size_grows s.column_count (λ c. among (columns_in s a b) c || row_number a b c) (λ c. among (columns_in s a' b') c || row_number a' b' c)
      (λ c m e. ⊎_elim
      (λ x. or_left (among (columns_in s a' b') c) (row_number a' b' c) (columns_grow s a b a' b' c h l k x))
      (λ x. or_right (among (columns_in s a' b') c) (row_number a' b' c) (number c x))
      (or_cases (among (columns_in s a b) c) (row_number a b c) e))
    where
      number : (c : ℕ) → row_number a b c ≡ true → row_number a' b' c ≡ true
      number c x =
          let p = and_parts (nat_le a c) (nat_lt c b) x in
          let low : a ≤ c = leb-true a c p.0 in
          let high : c < b = ltb-true c b p.1 in
          and_from (nat_le a' c) (nat_lt c b') (le-leb a' c (omega arith)) (lt-ltb c b' (omega arith))

  module _ (owners : List ℕ) (n : ℕ) where
    pub nonlocal_none : (a b : ℕ) → a ≡ b → nonlocal_columns s owners n a b ≡ 0
    nonlocal_none a b e =
        size_same s.column_count (λ c. among (columns_in s a b) c && not (owned_by owners n c)) (λ c. false)
        (λ c h. and_left (among (columns_in s a b) c) (not (owned_by owners n c)) (no_columns a b c e)) ∙ size_none s.column_count

    pub nonlocal_grows : (a b a' b' : ℕ) → a' ≤ a → a ≤ b → b ≤ b' → nonlocal_columns s owners n a b ≤ nonlocal_columns s owners n a' b'
    nonlocal_grows a b a' b' h l k =
        size_grows s.column_count (λ c. among (columns_in s a b) c && not (owned_by owners n c)) (λ c. among (columns_in s a' b') c && not (owned_by owners n c))
        (λ c m e. let p = and_parts (among (columns_in s a b) c) (not (owned_by owners n c)) e in
        and_from (among (columns_in s a' b') c) (not (owned_by owners n c)) (columns_grow s a b a' b' c h l k p.0) p.1)

-- the costs
module _ (R E : ℕ) (s : Sparsity) (fit : Weight R × Weight E) (height : row_count s ≤ 1000000) (entries : sum (row_counts s) ≤ 16777216) where
  -- no rows are no work
  pub work_none : (a b : ℕ) → a ≡ b → work R E (row_counts s) a b ≡ 0
  work_none a b e =
      let z : b - a ≡ 0 = omega arith in
      let rows : R * (b - a) ≡ 0 = rw (z, mul-zero) in
      let none : E * sum (between a b (row_counts s)) ≡ 0 = rw (z, mul-zero) in
      omega arith

  -- the work of at most 1,000,000 rows, part by part
  pub work_few : (a b : ℕ) → b - a ≤ 1000000 → (R * (b - a) ≤ 1000000000000) × (E * sum (between a b (row_counts s)) ≤ 16777216000000)
  work_few a b h =
      let few : sum (between a b (row_counts s)) ≤ 16777216 = omega (arith, sum_between_le (row_counts s) a b) in
      (mul-le-mul fit.0 h, mul-le-mul fit.1 few)

  pub work_lawful : Lawful (work_price R E s)
  work_lawful = record {
    few = height;
    small = λ k a b block. omega (arith, work_few a b (omega arith));
    grows = λ k a b a' b' block block' inside.
        let rows : b - a ≤ b' - a' = grind arith in
        omega (arith, mul-le-mul_left R rows, mul-le-mul_left E (entries_inside s a b a' b' block.1 inside));
  }

-- whatever columns are counted, if none count in no rows and no more in rows inside other rows
module _ (R E Q : ℕ) (s : Sparsity) (fit : Weight R × Weight E × Weight Q) (height : row_count s ≤ 1000000) (entries : sum (row_counts s) ≤ 16777216)
    (count : ℕ → ℕ → ℕ → ℕ) (few : (k a b : ℕ) → count k a b ≤ 1000000) where
  pub columns_few : (k a b : ℕ) → Q * count k a b ≤ 1000000000000
  columns_few k a b = mul-le-mul fit.2 (few k a b)

  pub counted_lawful : ((k a b : ℕ) → a ≡ b → count k a b ≡ 0)
      → ((k a b a' b' : ℕ) → a' ≤ a → a ≤ b → b ≤ b' → count k a b ≤ count k a' b') → Lawful (counted_price R E Q s count)
  counted_lawful none grows = priced_lawful R E Q fit (pattern_counts s count) (record {
    few_rows = height;
    few_entries = λ a b run. omega (arith, sum_between_le (row_counts s) a b);
    few_columns = λ k a b run. few k a b;
    entries_grow = λ a b a' b' run run' inside. entries_inside s a b a' b' run.0 inside;
    columns_grow = λ k a b a' b' run run' inside.
        ⊎_elim (λ e. omega (arith, none k a b e)) (λ i. grows k a b a' b' i.0 run.0 i.1) inside;
  })

module _ (R E Q : ℕ) (s : Sparsity) (fit : Weight R × Weight E × Weight Q) (height : row_count s ≤ 1000000) (entries : sum (row_counts s) ≤ 16777216)
    (narrow : s.column_count ≤ 1000000) where
  -- what a block costs, part by part, where `count` columns of it are counted
  pub parts_few : (a b e t : ℕ) (p : ℕ → Bool) → b ≤ row_count s → e ≡ sum (between a b (row_counts s)) → t ≡ size_below s.column_count p
      → (R * (b - a) ≤ 1000000000000) × ((E * e ≤ 16777216000000) × (Q * t ≤ 1000000000000))
  parts_few a b e t p h i j =
      let w = work_few R E s (fit.0, fit.1) height entries a b (omega arith) in
      let k : t ≤ 1000000 = omega (arith, size_le s.column_count p) in
      (w.0, (rw i w.1, mul-le-mul fit.2 k))

  pub scanned_lawful : Lawful (scanned_price R E Q s)
  scanned_lawful = priced_lawful R E Q fit (pattern_counts s (λ k a b. distinct_columns s a b)) (scanned_counts_lawful s height entries narrow)

  pub footprint_lawful : Lawful (footprint_price R E Q s)
  footprint_lawful = priced_lawful R E Q fit (pattern_counts s (λ k a b. columns_and_rows s a b)) (footprint_counts_lawful s height entries narrow)

  pub nonlocal_lawful : (owners : List ℕ) → Lawful (nonlocal_price R E Q s owners)
  nonlocal_lawful owners =
      priced_lawful R E Q fit (pattern_counts s (λ k a b. nonlocal_columns s owners k a b)) (nonlocal_counts_lawful s height entries narrow owners)

module _ (R E Q : ℕ) (ws : List ℕ) (fit : Weight R × Weight E × Weight Q) (table : SomeTable ws) where
  pub told_lawful : Lawful (told_price R E Q ws)
  told_lawful = priced_lawful R E Q fit (told_counts ws) (told_counts_lawful ws table)
