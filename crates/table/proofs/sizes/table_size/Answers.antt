use Rattle.std.proofs.Common.{◌+◌, ◌*◌, ◌/◌, length, ap, ◌∙◌}
use Rattle.pattern.specs.Sparsity.{row_count}
use Rattle.table.specs.Words.{table_words, total_entries}
use Rattle.table.proofs.sizes.table_size.Goals as goal

pub returns : goal.returns
returns g c =
    let bits = c.of.result.layout.bits in
    let e = ap g.P.Pattern.sparsity c.of.ensures.same in
    record {
      words = c.size.ensures.words ∙ ap (λ s. length (table_words s)) e;
      value = (bits, (c.size.ensures.value ∙ ap (λ s. 3 + (row_count s + 1) + bits * (2 * ((total_entries s + 63) / 64) + 2)) e, c.of.ensures.least.0, c.of.ensures.least.1));
    }
