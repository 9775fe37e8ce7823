-- What the check of a brought pattern says, and what a checked one means.
use Rattle.std.specs.Prelude.{◌≡◌, ℕ, ◌↔◌, List, Some, None, vec_items, Option}
use Rattle.pattern.specs.Sparsity.{Sparsity, Ordered}
use Rattle.refusal.specs.declared.Refusal.{Refusal}
use Rattle.refusal.specs.declared.Refusal.TheVariants.{Shape, Column}
use Rattle.stored.specs.Csr.{csr, Shaped}
use Rattle.stored.specs.declared.lists.Stored.{Stored}
use Rattle.stored.specs.declared.lists.Unchecked.{Unchecked}

-- which refusal the check gives, if any: that of the first rule that is broken
pub record Judged (n : ℕ) (starts columns : List ℕ) (o : Option Refusal) : Type 0 where
  pub shape : (o ≡ Some Shape) ↔ (Shaped n starts columns → ⊥)
  pub column : (o ≡ Some Column) ↔ (Shaped n starts columns × (Ordered (csr n starts columns) → ⊥))
  pub passed : (o ≡ None) ↔ (Shaped n starts columns × Ordered (csr n starts columns))

-- the rule of the sizes and the row starts, and the check's answer, of the pattern that a caller brings
abbrev pub ShapedOf : Unchecked → Type 0
ShapedOf u = Shaped u.width (vec_items u.starts) (vec_items u.columns)

abbrev pub JudgedOf : Unchecked → Option Refusal → Type 0
JudgedOf u = Judged u.width (vec_items u.starts) (vec_items u.columns)

-- the pattern that a caller means by the lists
abbrev pub brought_sparsity : Unchecked → Sparsity
brought_sparsity u = csr u.width (vec_items u.starts) (vec_items u.columns)

-- what a checked pattern means
abbrev pub sparsity_of : Stored → Sparsity
sparsity_of s = brought_sparsity s.lists

-- a checked pattern that holds the lists of the brought one, the very same
abbrev pub Holds : Unchecked → Stored → Type 0
Holds u s = s.lists ≡ u
