use Rattle.std.proofs.Common.{◌≡◌, ◌+◌, ◌*◌, ◌%◌, ◌^◌, get_or, sym, ◌∙◌, subst, arith}
use Rattle.levels.specs.Spans.{value_at}
use Rattle.levels.proofs.Puts.{put_here, put_kept, put_others, put_outside}
use Rattle.levels.proofs.Values.{value_none}
use Rattle.levels.proofs.span.Span.+store.Goals as goal

pub returns-then-self-gt0 : goal.returns-then-self-gt0
returns-then-self-gt0 t c =
    let s = c.args.self.now in
    let q = c.below.ensures in
    let was = c.args.memory.now in
    let mid = c.or_word.new.ws in
    let is = c.store.new.memory in
    let numbers = c.args.numbers.now in
    let word = c.args.word in
    let column = c.column_of_bits-bits.result in
    let p = c.if-self-gt0.true in
    let out = rw (q.at, q.words, q.bits) at c.store.ensures.outside in
    record {
      here = λ k m z.
          put_here was mid is numbers s.at s.words s.bits word column p (omega arith) c.column_of_bits-bits.ensures c.or_word.ensures.bits c.or_word.ensures.words out k m z
          (rw (q.at, q.words, q.bits) at c.store.ensures.here k m);
      kept = λ k m z.
          put_kept was mid is numbers s.at s.words s.bits word column p (omega arith) c.column_of_bits-bits.ensures c.or_word.ensures.bits c.or_word.ensures.words out k m z
          (rw (q.at, q.words, q.bits) at c.store.ensures.kept k m z);
      others = λ d n m.
          put_others was mid is numbers s.at s.words s.bits word column p (omega arith) c.column_of_bits-bits.ensures c.or_word.ensures.bits c.or_word.ensures.words out d n m
          (rw (q.at, q.words, q.bits) at c.store.ensures.others d n m);
      outside = put_outside was mid is numbers s.at s.words s.bits word column p (omega arith) c.column_of_bits-bits.ensures c.or_word.ensures.bits c.or_word.ensures.words out;
    }

pub returns-else-self-gt0-clause-here : goal.returns-else-self-gt0-clause-here
returns-else-self-gt0-clause-here t c k m z =
    let s = c.args.self.now in
    let e : 0 ≡ s.bits = omega arith in
    let o : get_or c.args.numbers.now k 0 % 1 ≡ 0 = omega arith in
    subst (λ x. value_at s.words x c.args.memory.now s.at (64 * c.args.word + k) ≡ get_or c.args.numbers.now k 0 % 2 ^ x) e
    (value_none s.words c.args.memory.now s.at (64 * c.args.word + k) ∙ sym o)
