use Rattle.std.proofs.Common.{◌≡◌, ℕ, ◌+◌, ◌*◌, ◌^◌, ◌<◌, ◌≤◌, List, length}
use Rattle.std.specs.List.{between}
use Rattle.levels.specs.Counting.{count_less}
use Rattle.levels.specs.Layouts.{InReach}
use Rattle.levels.specs.Numbers.{levels}
use Rattle.levels.specs.Spans.{ends}
use Rattle.levels.proofs.span.Span.found_below.Given as goal

-- what is left of a stretch of `cs`: a stretch of the numbers in the order of the level that comes next
abbrev pub invariant-loop-span : goal.invariant-loop-span
invariant-loop-span l = record {
  reach : InReach l.span l.memory;
  words : l.span.words ≡ l.self.words;
  within : (l.from ≤ 64 * l.self.words) × (l.to ≤ 64 * l.self.words);
  left : (cs : List ℕ) → length cs ≤ 64 * l.self.words → between l.self.at (ends l.self.words l.self.bits l.self.at) l.memory ≡ levels l.self.words l.self.bits cs
      → l.fn.from ≤ l.fn.to → l.fn.to ≤ length cs → count_less l.self.bits l.x (between l.fn.from l.fn.to cs) < 2 ^ 64
      → (now : List ℕ) × (length now ≡ length cs) × (between l.span.at (ends l.span.words l.span.bits l.span.at) l.memory ≡ levels l.span.words l.span.bits now)
      × (l.from ≤ l.to) × (l.to ≤ length now)
      × (count_less l.self.bits l.x (between l.fn.from l.fn.to cs) ≡ l.found + count_less l.span.bits l.x (between l.from l.to now));
}

abbrev pub decreases-loop-span : goal.decreases-loop-span
decreases-loop-span l = l.span.bits
