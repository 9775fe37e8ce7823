use Rattle.std.proofs.Common.{◌≡◌, ℕ, ◌+◌, ◌-◌, ◌*◌, ◌^◌, ◌<◌, get_or, ap, ◌∙◌, arith}
use Rattle.std.proofs.lemmas.List.{get_or-set_same, get_or-set_other}
use Rattle.levels.specs.Planes.{bits_from}
use Rattle.levels.proofs.Ends.{room_for}
use Rattle.levels.proofs.Routes.{ones_all}
use Rattle.levels.proofs.Regions.{settle_bits, settle_outside, settle_level}
use Rattle.levels.proofs.span.Span.settle.Goals as goal

pub returns : goal.returns
returns c =
    let r = room_for c.args.self.now.words c.args.self.now.bits c.args.self.now.at c.requires.reach.1 in
    let small : (i : ℕ) → get_or c.put_word.new.ws i 0 < 2 ^ 64 = λ i. omega (arith, c.type_inv.memory i) in
    let here : get_or c.put_word.new.ws c.args.self.now.at 0 ≡ c.saturating_sub-zeros.result =
    ap (λ l. get_or l c.args.self.now.at 0) c.put_word.ensures ∙ get_or-set_same c.tally-ones.new.memory c.args.self.now.at c.saturating_sub-zeros.result 0 (omega arith) in
    let others : (i : ℕ) → (i ≡ c.args.self.now.at → ⊥) → get_or c.put_word.new.ws i 0 ≡ get_or c.tally-ones.new.memory i 0 =
    λ i n. ap (λ l. get_or l i 0) c.put_word.ensures ∙ get_or-set_other c.tally-ones.new.memory c.args.self.now.at i c.saturating_sub-zeros.result 0 n in
    record {
      zeros = c.saturating_sub-zeros.ensures ∙ ap (λ x. c.args.self.now.count - x) c.tally-ones.ensures.total
          ∙ ap (λ x. c.args.self.now.count - x) (ones_all (bits_from c.args.memory.now (c.args.self.now.at + 1)) c.args.self.now.count (64 * c.args.self.now.words) (omega arith) c.requires.tail);
      bits = settle_bits c.args.memory.now c.tally-ones.new.memory c.put_word.new.ws c.args.self.now.at c.args.self.now.words c.args.self.now.count c.saturating_sub-zeros.result c.tally-ones.result
          (omega arith) (omega arith) small here c.saturating_sub-zeros.ensures c.tally-ones.ensures.total others c.tally-ones.ensures.counts c.tally-ones.ensures.outside;
      outside = settle_outside c.args.memory.now c.tally-ones.new.memory c.put_word.new.ws c.args.self.now.at c.args.self.now.words c.args.self.now.count c.saturating_sub-zeros.result c.tally-ones.result
          (omega arith) (omega arith) small here c.saturating_sub-zeros.ensures c.tally-ones.ensures.total others c.tally-ones.ensures.counts c.tally-ones.ensures.outside;
      level = settle_level c.args.memory.now c.tally-ones.new.memory c.put_word.new.ws c.args.self.now.at c.args.self.now.words c.args.self.now.count c.saturating_sub-zeros.result c.tally-ones.result
          (omega arith) (omega arith) small here c.saturating_sub-zeros.ensures c.tally-ones.ensures.total others c.tally-ones.ensures.counts c.tally-ones.ensures.outside;
    }
