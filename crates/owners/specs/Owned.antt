-- Who owns a column, from one byte a column.
use Rattle.std.specs.Prelude.{ℕ, Bool, false, cond, List, Some, None, Option, ◌==◌, slice_index_or}

-- the owner that a byte says: 255 says that there is none
abbrev pub said_owner : ℕ → Option ℕ
said_owner byte = cond (byte == 255) None (Some byte)

-- the owner of column c; none where there is no byte for it
abbrev pub owner_of : List ℕ → ℕ → Option ℕ
owner_of bytes c = said_owner (slice_index_or bytes c 255)

-- whether an owner is block k
abbrev owns : ℕ → Option ℕ → Bool
owns k None = false
owns k (Some owner) = owner == k

-- whether block k owns column c
abbrev pub owned_by : List ℕ → ℕ → ℕ → Bool
owned_by bytes k c = owns k (owner_of bytes c)
