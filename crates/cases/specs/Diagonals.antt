-- The pattern of a diagonal matrix: row i has the one column i.
use Rattle.std.specs.Prelude.{ℕ, [], ◌∷◌, map}
use Rattle.std.specs.List.{range_with_len}
use Rattle.pattern.specs.Sparsity.{Sparsity}

abbrev pub diagonal : ℕ → Sparsity
diagonal n = record { rows = map (λ i. i ∷ []) (range_with_len 0 n); column_count = n }
