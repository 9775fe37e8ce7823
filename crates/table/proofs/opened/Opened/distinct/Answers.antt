use Rattle.std.proofs.Common.{rules, tests, ◌≡◌, ◌+◌, ◌/◌, ◌<◌, ◌≤◌, sym, ap, ◌∙◌, ap₂, arith}
use Rattle.levels.specs.Numbers.{digits}
use Rattle.table.specs.Openings.{words_of}
use Rattle.table.specs.Told.{told_distinct}
use Rattle.table.proofs.Told.{distinct_value, some_counted, some_few, told_none}
use Rattle.table.proofs.opened.Opened.distinct.Given.{Over}
use Rattle.table.proofs.opened.Opened.distinct.Goals as goal

value : (g : Over) (c : goal.After-count_below g) → c.count_below.result ≡ told_distinct (words_of c.args.self.now) c.clip-rows.result.start c.clip-rows.result.end
value g c =
    let o = c.args.self.now in
    let rows = c.clip-rows.result in
    let height = c.row_count.ensures in
    let entries = c.entry_count.ensures.value in
    let made = c.layout_for-layout.ensures.made in
    let l : rows.start < rows.end = let h = c.if-is_empty.ensures in search (rules, tests) in
    some_counted (words_of o) o.table c.as_slice.result.now c.as_slice.ensures.value c.layout_for-layout.result c.count_below.result rows.start rows.end c.start-start.result c.start-end.result
    c.first_codes.result l (omega arith) c.start-start.ensures.value c.start-end.ensures.value c.first_codes.ensures
    (made.0 ∙ ap (λ x. 4 + x) height) (made.1 ∙ entries) (made.2 ∙ ap (λ x. (x + 63) / 64) entries) (made.3 ∙ ap digits height)
    (omega (arith, c.layout_for-layout.ensures.hold)) c.count_below.ensures

pub overflow_cast-result : goal.overflow_cast-result
overflow_cast-result g c =
    let o = c.args.self.now in
    let rows = c.clip-rows.result in
    omega (arith, value g c, some_few (words_of o) o.table rows.start rows.end (omega arith) (omega arith))

pub returns : goal.returns
returns g c =
    let ws = words_of c.args.self.now in
    let told = value g c ∙ ap₂ (told_distinct ws) c.clip-rows.ensures.0 c.clip-rows.ensures.1 in
    record { told = told; value = λ s law is. told ∙ distinct_value s law ws is c.args.from c.args.to }

pub returns-then-is_empty-clause-value : goal.returns-then-is_empty-clause-value
returns-then-is_empty-clause-value g c =
    let ws = words_of c.args.self.now in
    let rows = c.clip-rows.result in
    let l : rows.end ≤ rows.start = let h = c.if-is_empty.ensures in search (rules, tests) in
    let e : rows.start ≡ rows.end = omega arith in
    λ s law is. sym (told_none ws rows.start) ∙ ap₂ (told_distinct ws) c.clip-rows.ensures.0 (e ∙ c.clip-rows.ensures.1) ∙ distinct_value s law ws is c.args.from c.args.to
