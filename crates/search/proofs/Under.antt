-- A run under way through a real search.
use Rattle.std.proofs.Common.{◌≡◌, ℕ, ◌+◌, ◌<◌, List, [], ◌∷◌, ◌++◌, length, get_or, drop, Some, None, Option, sym, refl, ap, ◌∙◌, subst}
use Rattle.std.proofs.lemmas.List.{drop_more}
use Rattle.cost.specs.declared.Cost.{Ghosts}
use Rattle.cost.specs.Price.{Price}
use Rattle.search.specs.declared.search.Search.{Search}
use Rattle.search.specs.declared.call.Call.{Call}
use Rattle.search.specs.declared.call.Answer.{Answer}
use Rattle.search.specs.declared.report.Report.{Report}
use Rattle.search.specs.declared.played.Played.{Played}
use Rattle.search.specs.Trails.{Trail}
use Rattle.search.specs.Play.{View, start, step, call_asks, plays, play}
use Rattle.search.specs.Reports.{report_of}
use Rattle.search.specs.Runs.{answer_of, last_answer, run_asks, placed, played_of}
use Rattle.search.specs.Of.{view_of, Follows, Opened}
use Rattle.search.proofs.Trailing.{trail_none, trail_more}
use Rattle.search.proofs.Along.{Kept, kept_more, kept_by}

module _ (p : Price) (K C : ℕ) where
  plays_cons : (x : Call) (xs : List Call) (s : View) → plays p K C (x ∷ xs) s ≡ plays p K C xs (step p K C x s)
  unfolding plays
  plays_cons x xs s = refl

  plays_nil : (s : View) → plays p K C [] s ≡ s
  unfolding plays
  plays_nil s = refl

  last_cons : (x : Call) (xs : List Call) (s : View) (given : Option Answer) → last_answer p K C (x ∷ xs) s given ≡ last_answer p K C xs (step p K C x s) (Some (answer_of p K C x s))
  unfolding last_answer
  last_cons x xs s given = refl

  last_nil : (s : View) (given : Option Answer) → last_answer p K C [] s given ≡ given
  unfolding last_answer
  last_nil s given = refl

  asks_cons : (x : Call) (xs : List Call) (s : View) → run_asks p K C (x ∷ xs) s ≡ call_asks p K C x s ++ run_asks p K C xs (step p K C x s)
  unfolding run_asks
  asks_cons x xs s = refl

  asks_nil : (s : View) → run_asks p K C [] s ≡ []
  unfolding run_asks
  asks_nil s = refl

abbrev played : Report → Option (List ℕ) → Option Answer → Played
played r cut last = record { report = r; cut = cut; last = last }

module _ {C : Type 0} {g : Ghosts C} (price : C → Price) (put : C → ℕ → ℕ → ℕ → C → Type 0) (s : Search C g) (calls : List Call) where
  abbrev p : Price
  p = price s.cost

  abbrev K : ℕ
  K = s.blocks

  abbrev M : ℕ
  M = s.ceiling

  -- what is left of the calls leads from t on to the whole
  pub record Under (rest : List Call) (t : Search C g) (last : Option Answer) : Type 0 where
    pub kept : Kept price put s t
    pub view : plays p K M rest (view_of t) ≡ plays p K M calls (view_of s)
    pub last_is : last_answer p K M rest (view_of t) last ≡ last_answer p K M calls (view_of s) None
    pub asks : (z : C) → Trail put t.cost (run_asks p K M rest (view_of t)) z → Trail put s.cost (run_asks p K M calls (view_of s)) z

  module _ (x : Call) (rest : List Call) (t u : Search C g) (last : Option Answer) (a : Answer) (now : Under (x ∷ rest) t last) (f : Follows price put x t u) (e : a ≡ answer_of (price t.cost) t.blocks t.ceiling x (view_of t)) where
    stepped : view_of u ≡ step p K M x (view_of t)
    stepped = f.view ∙ ap (λ q. step q t.blocks t.ceiling x (view_of t)) now.kept.price_same ∙ ap (λ k. step p k t.ceiling x (view_of t)) now.kept.blocks_same ∙ ap (λ m. step p K m x (view_of t)) now.kept.ceiling_same

    answered : a ≡ answer_of p K M x (view_of t)
    answered = e ∙ ap (λ q. answer_of q t.blocks t.ceiling x (view_of t)) now.kept.price_same ∙ ap (λ k. answer_of p k t.ceiling x (view_of t)) now.kept.blocks_same ∙ ap (λ m. answer_of p K m x (view_of t)) now.kept.ceiling_same

    asked : Trail put t.cost (call_asks p K M x (view_of t)) u.cost
    asked =
        subst (λ m. Trail put t.cost (call_asks p K m x (view_of t)) u.cost) now.kept.ceiling_same
        (subst (λ k. Trail put t.cost (call_asks p k t.ceiling x (view_of t)) u.cost) now.kept.blocks_same
        (subst (λ q. Trail put t.cost (call_asks q t.blocks t.ceiling x (view_of t)) u.cost) now.kept.price_same f.puts))

    under_next : Under rest u (Some a)
    under_next = record {
      kept = kept_more price put s t u now.kept (kept_by price put x t u f);
      view = ap (plays p K M rest) stepped ∙ sym (plays_cons p K M x rest (view_of t)) ∙ now.view;
      last_is = ap (λ v. last_answer p K M rest v (Some a)) stepped ∙ ap (λ y. last_answer p K M rest (step p K M x (view_of t)) (Some y)) answered ∙ sym (last_cons p K M x rest (view_of t) last) ∙ now.last_is;
      asks = λ z h. now.asks z (subst (λ qs. Trail put t.cost qs z) (sym (asks_cons p K M x rest (view_of t))) (trail_more put t.cost u.cost z (call_asks p K M x (view_of t)) (run_asks p K M rest (step p K M x (view_of t))) asked (subst (λ v. Trail put u.cost (run_asks p K M rest v) z) stepped h)));
    }

  pub under_turn : (i : ℕ) (d : Call) (t u : Search C g) (last : Option Answer) (a : Answer) → i < length calls → Under (drop i calls) t last → Follows price put (get_or calls i d) t u → a ≡ answer_of (price t.cost) t.blocks t.ceiling (get_or calls i d) (view_of t) → Under (drop (i + 1) calls) u (Some a)
  under_turn i d t u last a l now f e = under_next (get_or calls i d) (drop (i + 1) calls) t u last a (subst (λ xs. Under xs t last) (drop_more calls i d l) now) f e

  -- the run is over, on a search that was opened so
  module _ (t : Search C g) (last : Option Answer) (now : Under [] t last) (cost : C) (K' M' : ℕ) (opened : Opened price cost K' M' s) where
    over : view_of t ≡ play (price cost) K' M' calls
    over =
        sym (plays_nil p K M (view_of t)) ∙ now.view
        ∙ ap (plays p K M calls) opened.view_is
        ∙ ap (λ x. plays (price x) K M calls (start M')) opened.cost_is
        ∙ ap (λ k. plays (price cost) k M calls (start M')) opened.blocks_are
        ∙ ap (λ m. plays (price cost) K' m calls (start M')) opened.ceiling_is

    last_over : last ≡ last_answer (price cost) K' M' calls (start M') None
    last_over =
        sym (last_nil p K M (view_of t) last) ∙ now.last_is
        ∙ ap (λ v. last_answer p K M calls v None) opened.view_is
        ∙ ap (λ x. last_answer (price x) K M calls (start M') None) opened.cost_is
        ∙ ap (λ k. last_answer (price cost) k M calls (start M') None) opened.blocks_are
        ∙ ap (λ m. last_answer (price cost) K' m calls (start M') None) opened.ceiling_is

    pub played_is : (r : Report) (cut : Option (List ℕ)) → r ≡ report_of (view_of t) → cut ≡ placed t.blocks (view_of t) → ◌≡◌ {A = Played} (record { report = r; cut = cut; last = last }) (played_of (price cost) K' M' calls)
    played_is r cut e e' =
        let a : r ≡ report_of (play (price cost) K' M' calls) = e ∙ ap report_of over in
        let b : cut ≡ placed K' (play (price cost) K' M' calls) = e' ∙ ap (λ k. placed k (view_of t)) (now.kept.blocks_same ∙ opened.blocks_are) ∙ ap (placed K') over in
        let d = last_over in
        ap (λ x. played x cut last) a ∙ ap (λ x. played (report_of (play (price cost) K' M' calls)) x last) b ∙ ap (λ x. played (report_of (play (price cost) K' M' calls)) (placed K' (play (price cost) K' M' calls)) x) d

    pub price_over : price t.cost ≡ price cost
    price_over = now.kept.price_same ∙ ap price opened.cost_is

    pub asks_over : Trail put cost (run_asks (price cost) K' M' calls (start M')) t.cost
    asks_over =
        subst (λ m. Trail put cost (run_asks (price cost) K' m calls (start M')) t.cost) opened.ceiling_is
        (subst (λ k. Trail put cost (run_asks (price cost) k M calls (start M')) t.cost) opened.blocks_are
        (subst (λ x. Trail put x (run_asks (price x) K M calls (start M')) t.cost) opened.cost_is
        (subst (λ v. Trail put s.cost (run_asks p K M calls v) t.cost) opened.view_is
        (now.asks t.cost (subst (λ qs. Trail put t.cost qs t.cost) (sym (asks_nil p K M (view_of t))) (trail_none put t.cost))))))
