use Rattle.std.proofs.Common.{◌≡◌, ℕ, ◌+◌, ◌<◌, length, get_or, sym, ◌∙◌, arith}
use Rattle.table.specs.Codes.{codes}
use Rattle.table.specs.Words.{table_words}
use Rattle.table.proofs.Stored.{codes_total}
use Rattle.table.proofs.Wholes.{heads_fit, parts_table, table_reaches, words_length}
use Rattle.table.proofs.plan.Plan.write_table.Goals as goal

pub write_starts-requires : goal.write_starts-requires
write_starts-requires g c =
    let plan = c.args.self.now in
    omega (arith, heads_fit (g.P.Pattern.sparsity plan.pattern.now) plan.layout plan.laid, c.requires, c.write_sizes.auto.memory)

pub store_codes-requires : goal.store_codes-requires
store_codes-requires g c =
    let s = g.P.Pattern.sparsity c.args.self.now.pattern.now in
    let l = c.args.self.now.layout in
    let laid = c.args.self.now.laid in
    record {
      reaches = table_reaches s l laid c.clear.new.memory (omega (arith, c.clear.auto.memory, c.write_starts.auto.memory, c.write_sizes.auto.memory, c.requires));
      clear = c.clear.ensures.zero (table_reaches s l laid c.write_starts.new.memory (omega (arith, c.write_starts.auto.memory, c.write_sizes.auto.memory, c.requires)));
    }

pub returns : goal.returns
returns g c =
    let s = g.P.Pattern.sparsity c.args.self.now.pattern.now in
    let l = c.args.self.now.layout in
    let laid = c.args.self.now.laid in
    let n : length c.store_codes.new.memory ≡ length (table_words s) =
    omega (arith, c.store_codes.auto.memory, c.clear.auto.memory, c.write_starts.auto.memory, c.write_sizes.auto.memory, c.requires) in
    let has = c.arrange.ensures.levels (codes s) (table_reaches s l laid c.store_codes.new.memory n) (codes_total s ∙ sym laid.counted) c.store_codes.ensures.codes in
    let low : (i : ℕ) → i < l.start → get_or c.arrange.new.memory i 0 ≡ get_or c.write_starts.new.memory i 0 =
    λ i h. c.arrange.ensures.outside.0 i h ∙ c.store_codes.ensures.outside.0 i h ∙ c.clear.ensures.outside.0 i h in
    let z = c.write_starts.ensures.outside.0 in
    let t = c.write_sizes.ensures in
    parts_table s l laid c.arrange.new.memory (omega (arith, c.arrange.auto.memory, n, words_length s l laid))
    (low 0 (omega (arith, laid.starting)) ∙ z 0 (omega arith) ∙ t.0, low 1 (omega (arith, laid.starting)) ∙ z 1 (omega arith) ∙ t.1, low 2 (omega (arith, laid.starting)) ∙ z 2 (omega arith) ∙ t.2)
    (λ i h. low (3 + i) (omega (arith, laid.starting)) ∙ c.write_starts.ensures.starts i h)
    has.1
