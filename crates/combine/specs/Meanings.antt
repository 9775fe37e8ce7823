-- What each combination of costs means, given what its parts mean.
use Rattle.std.specs.Prelude.{ℕ}
use Rattle.cost.specs.Price.{Price}
use Rattle.combine.specs.Combined.{joined_price, times_price, limit_price}
use Rattle.combine.specs.declared.joined.Joined.{Joined}
use Rattle.combine.specs.declared.times.Times.{Times}
use Rattle.combine.specs.declared.limit.Limit.{Limit}

abbrev pub joined_of : {J A B : Type 0} → (ℕ → ℕ → ℕ) → (A → Price) → (B → Price) → Joined J A B → Price
joined_of join p q x = joined_price join (p x.first) (q x.second)

abbrev pub times_of : {A : Type 0} → (A → Price) → Times A → Price
times_of p t = times_price t.factor (p t.cost)

abbrev pub limit_of : {M B : Type 0} → (M → Price) → (B → Price) → Limit M B → Price
limit_of p q l = limit_price l.limit (p l.measure) (q l.base)
