-- What a question put to a combination of costs does to its parts.
use Rattle.std.specs.Prelude.{◌≡◌, ℕ, min, cond}
use Rattle.cost.specs.Price.{Price}
use Rattle.combine.specs.Combined.{bars}
use Rattle.combine.specs.Meanings.{joined_of, times_of, limit_of}
use Rattle.combine.specs.declared.joined.Joined.{Joined}
use Rattle.combine.specs.declared.times.Times.{Times}
use Rattle.combine.specs.declared.limit.Limit.{Limit}

-- what the question for a block number, a first row and a last boundary may do to a cost: before, and after
abbrev pub Put : Type 0 → Type 1
Put A = A → ℕ → ℕ → ℕ → A → Type 0

-- the last boundary that a part is asked for, of so many rows
abbrev pub clipped_to : ℕ → ℕ → ℕ
clipped_to rows b = min b rows

-- the first row that a part is asked for, of so many rows
abbrev pub clipped_from : ℕ → ℕ → ℕ → ℕ
clipped_from rows a b = min a (clipped_to rows b)

-- the question is put to a part, with its rows clipped to so many
abbrev pub Clipped : {A : Type 0} → ℕ → Put A → Put A
Clipped rows put x k a b y = put x k (clipped_from rows a b) (clipped_to rows b) y

-- both parts are asked
abbrev pub joined_put : {J A B : Type 0} → (ℕ → ℕ → ℕ) → (A → Price) → (B → Price) → Put A → Put B → Put (Joined J A B)
joined_put join p q put put' x k a b y =
    let rows = (joined_of join p q x).rows in
    Clipped rows put x.first k a b y.first × Clipped rows put' x.second k a b y.second

-- the cost is asked, and the factor stays
abbrev pub times_put : {A : Type 0} → (A → Price) → Put A → Put (Times A)
times_put p put x k a b y = Clipped (times_of p x).rows put x.cost k a b y.cost × (y.factor ≡ x.factor)

-- the measure is asked, the limit stays, and the base is asked unless the block is barred: then it stays
abbrev pub limit_put : {M B : Type 0} → (M → Price) → (B → Price) → Put M → Put B → Put (Limit M B)
limit_put p q put put' x k a b y =
    let rows = (limit_of p q x).rows in
    Clipped rows put x.measure k a b y.measure × (y.limit ≡ x.limit) ×
    cond (bars x.limit ((p x.measure).figure k (clipped_from rows a b) (clipped_to rows b)))
    (y.base ≡ x.base)
    (Clipped rows put' x.base k a b y.base)
