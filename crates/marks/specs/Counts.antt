-- What a count does as it goes over some columns.
use Rattle.std.specs.Prelude.{◌≡◌, ℕ, ◌+◌, ◌<◌, Bool, ◌&&◌, ◌||◌}
use Rattle.pattern.specs.Columns.{size_below}
use Rattle.marks.specs.Seen.{seen}
use Rattle.marks.specs.declared.memory.Marked.{Marked}

-- of the numbers below n, a count that had seen p has seen q, which is p and the columns; `new` of those that it is about
-- it had not seen before
pub record Counts (n : ℕ) (about columns p q : ℕ → Bool) (new : ℕ) : Type 0 where
  pub sees : (c : ℕ) → c < n → q c ≡ (p c || columns c)
  pub adds : size_below n (λ c. p c && about c) + new ≡ size_below n (λ c. q c && about c)

-- the same of a pattern with marks, before and after
pub record Counted {P : Type 0} (about columns : ℕ → Bool) (m m' : Marked P) (new : ℕ) : Type 0 where
  pub pattern : m'.pattern ≡ m.pattern
  pub width : m'.width ≡ m.width
  pub counts : Counts m.width about columns (seen m.marks) (seen m'.marks) new
