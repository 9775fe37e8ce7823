use Rattle.std.proofs.Common.{◌≡◌, ◌+◌, ◌-◌, ◌<◌, get_or, ⊎_elim, arith}
use Rattle.std.proofs.lemmas.Bool.{cases_lt}
use Rattle.stored.proofs.check.row_ordered.Goals as goal
use Rattle.stored.proofs.check.row_ordered.Goals.{then-column-least-via-then-column-least, then-column-least-via-else-column-least+then-column-width}

pub returns-then-column-least : goal.returns-then-column-least
returns-then-column-least c =
    let l = c.loop-column in
    let row = c.args.row.now in
    λ h. elim c.then-column-least.branch [
      | then-column-least-via-then-column-least w ↦
          ⊎_elim
          (λ some.
          let k = l.column-index - 1 in
          let e : k + 1 ≡ l.column-index = omega arith in
          let up : get_or row k 0 < get_or row l.column-index 0 = rw e at (h.1 k (omega arith)) in
          omega (arith, up, l.invariant.2 k e))
          (λ none. omega (arith, l.invariant.3 (omega arith)))
          (cases_lt 0 l.column-index)
      | then-column-least-via-else-column-least+then-column-width w ↦ omega (arith, h.0 l.column-index (omega arith))
    ]
