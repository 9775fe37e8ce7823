-- What is counted keeps the law of counts, and its cost the law of costs.
use Rattle.std.specs.Prelude.{◌≡◌, ℕ, ◌-◌, ◌≤◌, Bool, true, not, ◌&&◌, ◌||◌, List, sum}
use Rattle.std.proofs.Common.{mul-le-mul, mul-le-mul_left, arith}
use Rattle.std.proofs.lemmas.Grind.{common_steps}
use Rattle.std.proofs.lemmas.Bool.Decides.{nat_tests}
use Rattle.cost.specs.Price.{Inside, Lawful}
use Rattle.marks.specs.Nonlocals.{nonlocal_columns}
use Rattle.owners.specs.Owned.{owned_by}
use Rattle.pattern.specs.Columns.{among, columns_and_rows, columns_in, distinct_columns, row_number, size_below}
use Rattle.pattern.specs.Sparsity.{Sparsity, entries_between, row_counts, row_count}
use Rattle.pattern.proofs.Spans.{sum_between_grows, sum_between_le}
use Rattle.pattern.proofs.Sets.{size_grows, size_le, columns_none, columns_grow}
use Rattle.pricing.specs.Columns.{pattern_counts}
use Rattle.pricing.specs.Counts.{Counts, LawfulCounts, Run, priced}
use Rattle.pricing.specs.Works.{Weight}

-- what is counted, priced
module _ (R E Q : ℕ) (fit : Weight R × Weight E × Weight Q) (c : Counts) (law : LawfulCounts c) where
  pub priced_lawful : Lawful (priced R E Q c)
  priced_lawful = record {
    few = law.few_rows;
    small = λ k a b block.
        let rows : b - a ≤ 1000000 = omega (arith, law.few_rows) in
        let run : Run c a b = (block.1, block.2) in
        omega (arith, mul-le-mul fit.0 rows, mul-le-mul fit.1 (law.few_entries a b run), mul-le-mul fit.2 (law.few_columns k a b run));
    grows = λ k a b a' b' block block' inside.
        let rows : b - a ≤ b' - a' = grind arith in
        let entries = law.entries_grow a b a' b' (block.1, block.2) (block'.1, block'.2) inside in
        let columns = law.columns_grow k a b a' b' (block.1, block.2) (block'.1, block'.2) inside in
        omega (arith, mul-le-mul_left R rows, mul-le-mul_left E entries, mul-le-mul_left Q columns);
  }

module _ (s : Sparsity) where
  -- rows inside other rows have no entries and no columns that those do not have
  pub entries_inside : (a b a' b' : ℕ) → a ≤ b → Inside a b a' b' → entries_between s a b ≤ entries_between s a' b'
  entries_inside a b a' b' l inside = grind (arith, common_steps, sum_between_grows (row_counts s) a b a' b')

  columns_inside : (a b a' b' c : ℕ) → a ≤ b → Inside a b a' b' → among (columns_in s a b) c ≡ true → among (columns_in s a' b') c ≡ true
  columns_inside a b a' b' c l inside m = grind (arith, columns_none s a, columns_grow s a b a' b' c)

-- the counts of a pattern, where a column counts for a block when it is a member
module _ (s : Sparsity) (height : row_count s ≤ 1000000) (entries : sum (row_counts s) ≤ 16777216) (narrow : s.column_count ≤ 1000000) where
  members_lawful : (member : ℕ → ℕ → ℕ → ℕ → Bool)
      → ((k a b a' b' c : ℕ) → a ≤ b → Inside a b a' b' → member k a b c ≡ true → member k a' b' c ≡ true)
      → LawfulCounts (pattern_counts s (λ k a b. size_below s.column_count (member k a b)))
  members_lawful member grow = record {
    few_rows = height;
    few_entries = λ a b run. omega (arith, sum_between_le (row_counts s) a b);
    few_columns = λ k a b run. omega (arith, size_le s.column_count (member k a b));
    entries_grow = λ a b a' b' run run' inside. entries_inside s a b a' b' run.0 inside;
    columns_grow = λ k a b a' b' run run' inside.
        size_grows s.column_count (member k a b) (member k a' b') (λ c h m. grow k a b a' b' c run.0 inside m);
  }

  pub scanned_counts_lawful : LawfulCounts (pattern_counts s (λ k a b. distinct_columns s a b))
  scanned_counts_lawful = members_lawful (λ k a b c. among (columns_in s a b) c) (λ k. columns_inside s)

  pub footprint_counts_lawful : LawfulCounts (pattern_counts s (λ k a b. columns_and_rows s a b))
  footprint_counts_lawful = members_lawful
      (λ k a b c. among (columns_in s a b) c || row_number a b c)
      (λ k a b a' b' c l inside m. grind (arith, nat_tests, columns_inside s a b a' b' c l inside))

  pub nonlocal_counts_lawful : (owners : List ℕ) → LawfulCounts (pattern_counts s (λ k a b. nonlocal_columns s owners k a b))
  nonlocal_counts_lawful owners = members_lawful
      (λ k a b c. among (columns_in s a b) c && not (owned_by owners k c))
      (λ k a b a' b' c l inside m. grind (arith, columns_inside s a b a' b' c l inside))
