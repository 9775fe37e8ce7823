-- The questions that are really put to a cost.
use Rattle.std.specs.Prelude.{◌≡◌, ℕ, List, [], ◌∷◌}

-- a question is put for a block number, a first row and a last boundary
abbrev pub Question : Type 0
Question = ℕ × ℕ × ℕ

module _ {C : Type 0} where
  -- the cost before goes through exactly these questions, in order, and is then the cost after
  unfoldable pub Trail : (C → ℕ → ℕ → ℕ → C → Type 0) → C → List Question → C → Type 0
  Trail put before [] after = before ≡ after
  Trail put before (q ∷ qs) after = (next : C) × (put before q.0 q.1 q.2 next × Trail put next qs after)
