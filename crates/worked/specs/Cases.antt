-- What the definitions come to on the sample.
use Rattle.std.specs.Prelude.{◌≡◌, ◌^◌, [], ◌∷◌}
use Rattle.combine.specs.Combined.{greater_price, limit_price, sum_price, times_price}
use Rattle.pattern.specs.Columns.{columns_and_rows, distinct_columns}
use Rattle.pricing.specs.Columns.{footprint_price, nonlocal_price}
use Rattle.worked.specs.Searched.{Searched}
use Rattle.worked.specs.Sample.{corner, entries_sample, nonlocal_sample, sample, scanned_sample}

-- the rows that the row starts and the columns stand for
pub record Rows : Type 0 where
  pub rows : sample.rows ≡ (0 ∷ 1 ∷ []) ∷ (1 ∷ []) ∷ (0 ∷ 2 ∷ 3 ∷ []) ∷ (3 ∷ []) ∷ []
  pub corner_rows : corner.rows ≡ (1 ∷ []) ∷ [] ∷ (0 ∷ []) ∷ []

pub record Scanned : Type 0 where
  pub first : scanned_sample.figure 0 0 2 ≡ 9
  pub last : scanned_sample.figure 0 2 4 ≡ 12
  pub middle : scanned_sample.figure 0 1 3 ≡ 14
  pub all : scanned_sample.figure 0 0 4 ≡ 19
  pub none : scanned_sample.figure 0 2 2 ≡ 0
  -- a column is counted once, however many rows have it
  pub once : distinct_columns sample 0 2 ≡ 2

pub record Footprint : Type 0 where
  pub first : (footprint_price 1 1 2 sample).figure 0 0 2 ≡ 9
  -- column 1 and the rows 0 and 1
  pub rows_too : columns_and_rows corner 0 2 ≡ 2
  pub off_diagonal : (footprint_price 1 1 2 corner).figure 0 0 2 ≡ 7

pub record Nonlocal : Type 0 where
  pub own_first : nonlocal_sample.figure 0 0 2 ≡ 5
  pub own_last : nonlocal_sample.figure 1 2 4 ≡ 8
  -- the byte 255 says that a column has no owner, and block 255 owns none
  pub no_owner : (nonlocal_price 1 1 2 sample (255 ∷ 255 ∷ 255 ∷ 255 ∷ [])).figure 255 0 2 ≡ 9
  -- block 256 is not owner 0
  pub past_bytes : nonlocal_sample.figure 256 0 2 ≡ 9

pub record Combined : Type 0 where
  pub barred : (limit_price 4 entries_sample scanned_sample).figure 0 2 4 ≡ 2 ^ 60
  pub not_barred : (limit_price 5 entries_sample scanned_sample).figure 0 2 4 ≡ 12
  -- a limit of 0 bars the empty block too
  pub bars_all : (limit_price 0 entries_sample scanned_sample).figure 0 2 2 ≡ 2 ^ 60
  pub added : (sum_price entries_sample scanned_sample).figure 0 2 4 ≡ 16
  pub larger : (greater_price entries_sample scanned_sample).figure 0 2 4 ≡ 12
  pub thrice : (times_price 3 scanned_sample).figure 0 2 4 ≡ 36
  -- a sum and a product stop at 2^60
  pub sum_stops : (sum_price (limit_price 0 entries_sample scanned_sample) scanned_sample).figure 0 2 4 ≡ 2 ^ 60
  pub product_stops : (times_price 2 (limit_price 0 entries_sample scanned_sample)).figure 0 2 4 ≡ 2 ^ 60

pub record Cases : Type 0 where
  pub patterns : Rows
  pub scanned : Scanned
  pub footprint : Footprint
  pub nonlocal : Nonlocal
  pub combined : Combined
  pub searched : Searched
