use Rattle.std.proofs.Common.{◌<◌}
use Rattle.levels.specs.Layouts.{InReach}
use Rattle.levels.specs.Traces.{AllStand, Traced}
use Rattle.levels.proofs.span.Span.trace.Given as goal

-- the way so far is right, and what is left decides
abbrev pub invariant-loop-span : goal.invariant-loop-span
invariant-loop-span l = record {
  reach : InReach l.span l.memory;
  within : l.place < l.span.count;
  left : AllStand l.self.words l.self.bits l.self.count l.memory l.self.at
      → AllStand l.span.words l.span.bits l.span.count l.memory l.span.at
      × (Traced l.self.words l.self.bits l.memory l.self.at l.fn.place l.number → Traced l.span.words l.span.bits l.memory l.span.at l.place l.number)
      × (Traced l.span.words l.span.bits l.memory l.span.at l.place l.number → Traced l.self.words l.self.bits l.memory l.self.at l.fn.place l.number);
}

abbrev pub decreases-loop-span : goal.decreases-loop-span
decreases-loop-span l = l.span.bits
