use Rattle.std.proofs.Common.{ap}
use Rattle.search.specs.declared.report.State.{State}
use Rattle.search.specs.declared.report.Report.{Report}
use Rattle.search.specs.Of.{view_of}
use Rattle.search.proofs.Every.{law_ran}
use Rattle.search.proofs.search.Search.tell.Goals as goal

pub returns : goal.returns
returns g c =
    let s = c.args.self.now in
    let told : State → Report = λ x. record { state = x; floor = s.floor; figure = s.figure; advance_trials = s.advance_trials; try_trials = s.try_trials; questions = s.questions } in
    let exact = ap told c.state.ensures in
    record {
      exact = exact;
      law = λ calls ran. law_ran (g.C.Cost.price s.cost) (g.met.C.Cost.lawful s.cost) s.blocks s.ceiling s.shape.1 s.shape.2 calls (view_of s) ran (told c.state.result) exact;
    }
