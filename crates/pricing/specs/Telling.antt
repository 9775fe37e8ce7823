-- What a counting table tells is what a scan finds, and keeps the law.
use Rattle.std.specs.Prelude.{ℕ, ◌+◌, ◌-◌, ◌*◌, ◌≤◌, List}
use Rattle.std.proofs.Common.{ap₂, arith}
use Rattle.std.proofs.Math.Logic.{∥∥₁_elim}
use Rattle.std.proofs.Math.Bridge.{le_prop}
use Rattle.cost.specs.Price.{Inside, SameFigures}
use Rattle.pattern.specs.Sparsity.{Lawful as LawfulRows, Sparsity, row_count}
use Rattle.table.specs.Told.{SomeTable, told_distinct, told_start}
use Rattle.table.specs.Words.{IsTable}
use Rattle.table.proofs.Told.{distinct-told, entries_within, rows_told, some_few, some_rows, some_start}
use Rattle.pricing.specs.Columns.{scanned_price}
use Rattle.pricing.specs.Counts.{LawfulCounts, Run}
use Rattle.pricing.specs.Told.{told_counts, told_price}
use Rattle.pricing.specs.Growth.{scanned_counts_lawful}

module _ (ws : List ℕ) where
  pub told_same : (R E Q : ℕ) (s : Sparsity) → LawfulRows s → IsTable s ws → SameFigures (scanned_price R E Q s) (told_price R E Q ws)
  told_same R E Q s law is = record {
    rows = rows_told s law ws is;
    figures = λ k a b block.
        ap₂ (λ x y. R * (b - a) + E * x + Q * y) (entries_within s law ws is a b block.1 block.2) (distinct-told s law ws is a b block.1 block.2);
  }

  -- rows inside other rows are never told to have more entries or more columns
  told_inside : (s : Sparsity) → LawfulRows s → IsTable s ws → (a b a' b' : ℕ) → Run (told_counts ws) a b → Run (told_counts ws) a' b' → Inside a b a' b'
      → (told_start ws b - told_start ws a ≤ told_start ws b' - told_start ws a') × (told_distinct ws a b ≤ told_distinct ws a' b')
  told_inside s law is a b a' b' run run' inside =
      let rows = rows_told s law ws is in
      let scanned = scanned_counts_lawful s law.height law.entries law.width in
      let within : b ≤ row_count s = omega (arith, run.1) in
      let within' : b' ≤ row_count s = omega (arith, run'.1) in
      let entries = scanned.entries_grow a b a' b' (run.0, within) (run'.0, within') inside in
      let columns = scanned.columns_grow 0 a b a' b' (run.0, within) (run'.0, within') inside in (
        omega (arith, entries, entries_within s law ws is a b run.0 within, entries_within s law ws is a' b' run'.0 within'),
        omega (arith, columns, distinct-told s law ws is a b run.0 within, distinct-told s law ws is a' b' run'.0 within'),
      )

  pub told_counts_lawful : SomeTable ws → LawfulCounts (told_counts ws)
  told_counts_lawful table = record {
    few_rows = some_rows ws table;
    few_entries = λ a b run. omega (arith, some_start ws table b run.1);
    few_columns = λ k a b run. some_few ws table a b run.0 run.1;
    entries_grow = λ a b a' b' run run' inside.
        ∥∥₁_elim table le_prop (λ t. (told_inside t.0 t.1.0 t.1.1 a b a' b' run run' inside).0);
    columns_grow = λ k a b a' b' run run' inside.
        ∥∥₁_elim table le_prop (λ t. (told_inside t.0 t.1.0 t.1.1 a b a' b' run run' inside).1);
  }
