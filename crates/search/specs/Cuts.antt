-- Cuts of rows into blocks, and what they cost.
use Rattle.std.specs.Prelude.{◌≡◌, ℕ, zero, suc, ◌+◌, ◌<◌, ◌≤◌, max, List, length, slice_index, slice_index_or}
use Rattle.cost.specs.Price.{Price}

-- K + 1 boundaries, the first 0, the last the number of rows, none below the one before
pub record Cut (rows K : ℕ) (cut : List ℕ) : Type 0 where
  pub size : length cut ≡ K + 1
  pub first : slice_index_or cut 0 0 ≡ 0
  pub last : slice_index_or cut K 0 ≡ rows
  pub rises : (k : ℕ) → k < K → slice_index cut k ≤ slice_index cut (k + 1)

-- the greatest figure of the blocks before block k, the empty ones too
unfoldable pub cost_to : Price → List ℕ → ℕ → ℕ
cost_to p cut zero = 0
cost_to p cut (suc k) = max (cost_to p cut k) (p.figure k (slice_index cut k) (slice_index cut (k + 1)))

-- what a cut for K blocks costs
abbrev pub cost_of : Price → ℕ → List ℕ → ℕ
cost_of p K cut = cost_to p cut K

-- every cut that costs no more than this one has each boundary at or before this one's
abbrev pub Latest : Price → ℕ → ℕ → List ℕ → Type 0
Latest p rows K cut = (other : List ℕ) → Cut rows K other → cost_of p K other ≤ cost_of p K cut → (k : ℕ) → k ≤ K → slice_index other k ≤ slice_index cut k
