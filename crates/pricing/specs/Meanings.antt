-- What each cost over a pattern means, given what the pattern means.
use Rattle.std.specs.Prelude.{◌≡◌, length}
use Rattle.cost.specs.Price.{Price}
use Rattle.marks.specs.Meanings.{marked_sparsity}
use Rattle.owners.specs.Lists.{list_of}
use Rattle.pattern.specs.Sparsity.{Sparsity}
use Rattle.marks.specs.declared.memory.Marked.{Marked}
use Rattle.owners.specs.declared.owners.Owners.{Owners}
use Rattle.stored.specs.Judged.{sparsity_of}
use Rattle.stored.specs.declared.lists.Stored.{Stored}
use Rattle.pricing.specs.Columns.{footprint_price, nonlocal_price, scanned_price}
use Rattle.pricing.specs.Counts.{Counts, priced}
use Rattle.pricing.specs.Works.{Weight, work_price}
use Rattle.pricing.specs.declared.footprint.ColumnsAndRows.{ColumnsAndRows}
use Rattle.pricing.specs.declared.nonlocal.NonlocalColumns.{NonlocalColumns}
use Rattle.pricing.specs.declared.priced.Priced.{Priced}
use Rattle.pricing.specs.declared.weights.Weights.{Weights}
use Rattle.pricing.specs.declared.work.Work.{Work}

-- an owner is said for each column of the pattern, and for no other
abbrev pub OneForEach : Owners → Marked Stored → Type 0
OneForEach owners marked = length (list_of owners) ≡ (marked_sparsity sparsity_of marked).column_count

-- no weight is above 1,000,000
abbrev pub Fit : Weights → Type 0
Fit w = Weight w.row × Weight w.entry × Weight w.column

abbrev pub work_of : {P : Type 0} → (P → Sparsity) → Work P → Price
work_of sparsity w = work_price w.weights.row w.weights.entry (sparsity w.pattern)

-- what is counted, priced
abbrev pub priced_of : {C : Type 0} → (C → Counts) → Priced C → Price
priced_of counts x = priced x.weights.row x.weights.entry x.weights.column (counts x.counted)

abbrev pub scanned_of : {P : Type 0} → (P → Sparsity) → Priced (Marked P) → Price
scanned_of sparsity x = scanned_price x.weights.row x.weights.entry x.weights.column (marked_sparsity sparsity x.counted)

abbrev pub footprint_of : {P : Type 0} → (P → Sparsity) → Priced (ColumnsAndRows P) → Price
footprint_of sparsity x = footprint_price x.weights.row x.weights.entry x.weights.column (marked_sparsity sparsity x.counted.marked)

abbrev pub nonlocal_of : Priced NonlocalColumns → Price
nonlocal_of x = nonlocal_price x.weights.row x.weights.entry x.weights.column (marked_sparsity sparsity_of x.counted.marked) (list_of x.counted.owners)
