-- Where layouts and spans have their levels.
use Rattle.std.specs.Prelude.{◌≡◌, ℕ, ◌≤◌, List, length}
use Rattle.std.specs.List.{between}
use Rattle.levels.specs.Numbers.{levels}
use Rattle.levels.specs.Spans.{ends}
use Rattle.levels.specs.declared.layout.Layout.{Layout}
use Rattle.levels.specs.declared.span.Span.{Span}

-- the word after the last level
abbrev pub end_of : Layout → ℕ
end_of l = ends l.words l.bits l.start

-- the memory reaches as far
abbrev pub Reaches : Layout → List ℕ → Type 0
Reaches l ws = end_of l ≤ length ws

-- so does the memory for a span
abbrev pub InReach : Span → List ℕ → Type 0
InReach s ws = ends s.words s.bits s.at ≤ length ws

-- the memory has there the levels of these numbers, as many as the layout is for
abbrev pub Has : Layout → List ℕ → List ℕ → Type 0
Has l ws cs = (length cs ≡ l.count) × (between l.start (end_of l) ws ≡ levels l.words l.bits cs)
