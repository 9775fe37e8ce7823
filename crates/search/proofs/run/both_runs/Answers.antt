use Rattle.std.proofs.Common.{◌≡◌, None}
use Rattle.search.specs.Answers.{open_refusal}
use Rattle.search.proofs.Whole.{opens, ran_law, agree_ran, both_are}
use Rattle.search.proofs.run.both_runs.Goals as goal

pub returns : goal.returns
returns g c =
    let a = c.args in
    let p = g.C.Cost.price a.first.cost in
    let q = g.D.Cost.price a.second.cost in
    let one = c.run_through-first.ensures in
    let two = c.run_through-second.ensures in
    let fine : open_refusal a.blocks a.first.ceiling ≡ None = c.requires.first_opens in
    let fine' : open_refusal a.blocks a.second.ceiling ≡ None = c.requires.second_opens in
    let h = opens a.blocks a.first.ceiling fine in
    let h' = opens a.blocks a.second.ceiling fine' in
    record {
      exact = both_are p q a.blocks a.first.ceiling a.first.calls.now a.second.ceiling a.second.calls.now fine fine' c.run_through-first.result.0 c.run_through-second.result.0 one.exact two.exact;
      law = (
        ran_law p (g.met.C.Cost.lawful a.first.cost) a.blocks a.first.ceiling h.0 h.1 a.first.calls.now c.run_through-first.result.0 one.exact,
        ran_law q (g.met.D.Cost.lawful a.second.cost) a.blocks a.second.ceiling h'.0 h'.1 a.second.calls.now c.run_through-second.result.0 two.exact,
        agree_ran p q (g.met.C.Cost.lawful a.first.cost) (g.met.D.Cost.lawful a.second.cost) a.blocks a.first.ceiling a.second.ceiling h.0 h.1 h'.1 a.first.calls.now a.second.calls.now c.run_through-first.result.0 c.run_through-second.result.0 one.exact two.exact,
      );
      first_back = (one.same, one.puts);
      second_back = (two.same, two.puts);
    }
