use Rattle.std.proofs.Common.{arith}
use Rattle.levels.proofs.Frames.{outside_self}
use Rattle.levels.proofs.Values.{holds_tails, value_holds}
use Rattle.levels.proofs.layout.Layout.arrange.Goals as goal

pub returns-then-tails_clear : goal.returns-then-tails_clear
returns-then-tails_clear c =
    let l = c.args.self.now in
    let q = c.span-span.ensures in
    record {
      levels = λ cs reach len vals. (len, rw (q.at, q.words, q.count, q.bits) at c.finish.ensures.levels cs len (value_holds l.words l.bits cs c.args.memory.now l.start vals));
      outside = rw (q.at, q.words, q.bits) at c.finish.ensures.outside;
    }

pub returns-else-tails_clear : goal.returns-else-tails_clear
returns-else-tails_clear c =
    let l = c.args.self.now in
    let q = c.span-span.ensures in
    record {
      levels = λ cs reach len vals.
          absurd ((rw (q.at, q.words, q.count, q.bits) at c.if-tails_clear.ensures)
          (holds_tails l.words l.bits l.count cs c.args.memory.now l.start (omega arith) (value_holds l.words l.bits cs c.args.memory.now l.start vals)));
      outside = outside_self _ _ c.args.memory.now;
    }
