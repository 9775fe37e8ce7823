-- The theorem on every run.
use Rattle.std.proofs.Common.{◌≡◌, ℕ, zero, suc, ◌+◌, ◌-◌, ◌*◌, ◌^◌, ◌<◌, ◌≤◌, max, Bool, true, false, cond, ◌&&◌, ltb, leb, List, [], ◌∷◌, length, get_or, Some, None, sym, refl, ap, ◌∙◌, subst, ⊎_elim, mul-le-mul_right, mul-le-mul, arith, pow_mono}
use Rattle.std.proofs.lemmas.Option.{cond_some}
use Rattle.std.proofs.lemmas.Bool.{cases_lt, cases_Bool, cond-true, cond-false, and_parts, lt-ltb, le-ltb, ltb-true, leb-true}
use Rattle.std.proofs.lemmas.List.{same_lists, get_or_default}
use Rattle.search.specs.declared.report.State.{State}
use Rattle.search.specs.declared.report.State.TheVariants.{Open, Settled, Missing}
use Rattle.search.specs.declared.report.Report.{Report}
use Rattle.search.specs.declared.call.Call.{Call}
use Rattle.search.specs.declared.call.Call.TheVariants.{Advance, Try, Take, Tell}
use Rattle.cost.specs.Price.{Price, Lawful, SameFigures}
use Rattle.search.specs.Digits.{digits}
use Rattle.search.specs.Cuts.{Cut, cost_to, cost_of, Latest}
use Rattle.search.specs.Play.{View, start, tried, advanced, advance_ok, try_makes, step, plays, play}
use Rattle.search.specs.Reports.{state_of, report_of}
use Rattle.search.specs.Law.{asked_for, NoCut, standing, Cheapest, Law, Agree}
use Rattle.search.proofs.Widths.{below_digits, digits_least}
use Rattle.search.proofs.Greedy.{rise}
use Rattle.search.proofs.Sounds.{Sound, sound_start, sound_tried, tried_advances, advanced_ran, advanced_done}

module _ (p : Price) (lawful : Lawful p) (K C : ℕ) (small : K < 2 ^ 32) where
  -- a search that is still open has made the trials that it was asked for
  pub record Counted (total : ℕ) (s : View) : Type 0 where
    pub sound : Sound p K C s
    pub all : s.floor < s.figure → s.advances ≡ total

  counted_step : (x : Call) (total : ℕ) (s : View) → Counted total s → Counted (total + asked_for (x ∷ [])) (step p K C x s)
  unfolding step asked_for
  counted_step (Advance n) total s h =
      ⊎_elim
      (λ a.
      let ran = advanced_ran p lawful K C small n s h.sound in
      subst (λ t. Counted (total + (cond (advance_ok n) n 0 + 0)) t) (sym (cond-true (advance_ok n) (advanced p K n s) s a)) (record {
        sound = ran.sound;
        all = λ o. ⊎_elim
            (λ before. omega (arith, ran.all o, h.all before, cond-true (advance_ok n) n 0 a))
            (λ (shut : s.figure ≤ s.floor). absurd (let e = advanced_done p lawful K C small n s shut in let o' = rw e at o in omega arith))
            (cases_lt s.floor s.figure);
      }))
      (λ a. subst (λ t. Counted (total + (cond (advance_ok n) n 0 + 0)) t) (sym (cond-false (advance_ok n) (advanced p K n s) s a)) (record {
        sound = h.sound;
        all = λ o. omega (arith, h.all o, cond-false (advance_ok n) n 0 a);
      }))
      (cases_Bool (advance_ok n))
  counted_step (Try c) total s h =
      let test : Bool = try_makes C s c in
      ⊎_elim
      (λ (a : test ≡ true).
      let one = and_parts (leb c C) ((leb s.floor c && ltb c s.figure) && ltb s.tries 65535) a in
      let two = and_parts (leb s.floor c && ltb c s.figure) (ltb s.tries 65535) one.1 in
      let three = and_parts (leb s.floor c) (ltb c s.figure) two.0 in
      let above : s.floor ≤ c = leb-true s.floor c three.0 in
      let under : c < s.figure = ltb-true c s.figure three.1 in
      let room : s.tries < 65535 = ltb-true s.tries 65535 two.1 in
      subst (λ t. Counted (total + 0) t) (sym (cond-true test (tried p K c false s) s a)) (record {
        sound = sound_tried p lawful K C small s h.sound c above under false room;
        all = λ o. omega (arith, h.all (omega arith), tried_advances p lawful K C small s h.sound c above under false);
      }))
      (λ (a : test ≡ false). subst (λ t. Counted (total + 0) t) (sym (cond-false test (tried p K c false s) s a)) (record {
        sound = h.sound;
        all = λ o. omega (arith, h.all o);
      }))
      (cases_Bool test)
  counted_step (Take n) total s h = record { sound = h.sound; all = λ o. omega (arith, h.all o) }
  counted_step Tell total s h = record { sound = h.sound; all = λ o. omega (arith, h.all o) }

  asked_cons : (x : Call) (xs : List Call) → asked_for (x ∷ xs) ≡ asked_for (x ∷ []) + asked_for xs
  unfolding asked_for
  asked_cons (Advance n) xs = omega arith
  asked_cons (Try c) xs = omega arith
  asked_cons (Take n) xs = omega arith
  asked_cons Tell xs = omega arith

  asked_nil : asked_for [] ≡ 0
  unfolding asked_for
  asked_nil = refl

  pub counted_plays : (calls : List Call) (total : ℕ) (s : View) → Counted total s → Counted (total + asked_for calls) (plays p K C calls s)
  unfolding plays
  counted_plays [] total s h = record { sound = h.sound; all = λ o. omega (arith, h.all o, asked_nil) }
  counted_plays (x ∷ xs) total s h =
      let rest = counted_plays xs (total + asked_for (x ∷ [])) (step p K C x s) (counted_step x total s h) in
      record { sound = rest.sound; all = λ o. omega (arith, rest.all o, asked_cons x xs) }

  pub counted_play : (calls : List Call) → Counted (asked_for calls) (play p K C calls)
  counted_play calls =
      let ran = counted_plays calls 0 (start C) (record { sound = sound_start p K C; all = λ _. refl }) in
      record { sound = ran.sound; all = λ o. omega (arith, ran.all o) }

-- what a report says of the search
module _ (s : View) where
  pub is_open : state_of s ≡ Open → s.floor < s.figure
  is_open e =
      ⊎_elim (λ h. h)
      (λ (h : s.figure ≤ s.floor).
      let shut = cond-false (ltb s.floor s.figure) Open (cond s.stands Settled Missing) (le-ltb s.floor s.figure h) in
      absurd (⊎_elim
      (λ a. let b = cond-true s.stands Settled Missing a in let z : ◌≡◌ {A = ℕ} 0 1 = cc in omega arith)
      (λ a. let b = cond-false s.stands Settled Missing a in let z : ◌≡◌ {A = ℕ} 0 1 = cc in omega arith)
      (cases_Bool s.stands)))
      (cases_lt s.floor s.figure)

  shut_so : (x : State) → (x ≡ Open → ⊥) → state_of s ≡ x → s.figure ≤ s.floor
  shut_so x no-open e =
      ⊎_elim
      (λ (h : s.floor < s.figure). absurd (no-open (sym e ∙ cond-true (ltb s.floor s.figure) Open (cond s.stands Settled Missing) (lt-ltb s.floor s.figure h))))
      (λ h. h)
      (cases_lt s.floor s.figure)

  shut_is : s.figure ≤ s.floor → state_of s ≡ cond s.stands Settled Missing
  shut_is h = cond-false (ltb s.floor s.figure) Open (cond s.stands Settled Missing) (le-ltb s.floor s.figure h)

  settled_open : Settled ≡ Open → ⊥
  settled_open e = let z : ◌≡◌ {A = ℕ} 0 1 = cc in omega arith

  missing_open : Missing ≡ Open → ⊥
  missing_open e = let z : ◌≡◌ {A = ℕ} 0 1 = cc in omega arith

  pub is_settled : state_of s ≡ Settled → (s.figure ≤ s.floor) × (s.stands ≡ true)
  is_settled e =
      let h = shut_so Settled settled_open e in
      (h, ⊎_elim (λ a. a) (λ a. absurd (let b = cond-false s.stands Settled Missing a in let d = shut_is h in let z : ◌≡◌ {A = ℕ} 0 1 = cc in omega arith)) (cases_Bool s.stands))

  pub is_missing : state_of s ≡ Missing → (s.figure ≤ s.floor) × (s.stands ≡ false)
  is_missing e =
      let h = shut_so Missing missing_open e in
      (h, ⊎_elim (λ a. absurd (let b = cond-true s.stands Settled Missing a in let d = shut_is h in let z : ◌≡◌ {A = ℕ} 0 1 = cc in omega arith)) (λ a. a) (cases_Bool s.stands))

  pub else_missing : (state_of s ≡ Open → ⊥) → (s.stands ≡ true → ⊥) → state_of s ≡ Missing
  else_missing no-open no_cut =
      ⊎_elim
      (λ (h : s.floor < s.figure). absurd (no-open (cond-true (ltb s.floor s.figure) Open (cond s.stands Settled Missing) (lt-ltb s.floor s.figure h))))
      (λ h. ⊎_elim (λ a. absurd (no_cut a)) (λ a. shut_is h ∙ cond-false s.stands Settled Missing a) (cases_Bool s.stands))
      (cases_lt s.floor s.figure)

-- equal figures make equal costs
module _ (p q : Price) (eq : SameFigures p q) (K : ℕ) (small : K < 2 ^ 32) (b : List ℕ) (is : Cut p.rows K b) where
  inside : (j : ℕ) → j ≤ K → get_or b j 0 ≤ p.rows
  inside j h = omega (arith, rise b K is.rises K j h (omega arith), is.last)

  same_to : (k : ℕ) → k ≤ K → cost_to q b k ≡ cost_to p b k
  unfolding cost_to
  same_to zero h = refl
  same_to (suc k) h =
      ap (λ x. max x (q.figure k (get_or b k 0) (get_or b (k + 1) 0))) (same_to k (omega arith))
      ∙ ap (λ x. max (cost_to p b k) x) (eq.figures k (get_or b k 0) (get_or b (k + 1) 0) (let f : k < 2 ^ 32 = omega arith in (f, is.rises k (omega arith), inside (k + 1) (omega arith))))

  pub same_costs : cost_of q K b ≡ cost_of p K b
  same_costs = same_to K (omega arith)

  pub same_cut : Cut q.rows K b
  same_cut = record { size = is.size; first = is.first; last = is.last ∙ sym eq.rows; rises = is.rises }

same_turned : (p q : Price) → SameFigures p q → SameFigures q p
same_turned p q eq = record {
  rows = sym eq.rows;
  figures = λ k a b h. let w : b ≤ p.rows = omega (arith, eq.rows, h.2) in sym (eq.figures k a b (h.0, h.1, w));
}

same_cuts : (x y : List ℕ) (K : ℕ) → length x ≡ K + 1 → length y ≡ K + 1 → ((k : ℕ) → k ≤ K → get_or x k 0 ≤ get_or y k 0) → ((k : ℕ) → k ≤ K → get_or y k 0 ≤ get_or x k 0) → x ≡ y
same_cuts x y K hx hy up down =
    same_lists x y (hx ∙ sym hy) (λ k d h.
    let l : k < length x = omega arith in
    let l' : k < length y = omega arith in
    get_or_default x k d 0 l ∙ omega (arith, up k (omega arith), down k (omega arith)) ∙ sym (get_or_default y k d 0 l'))

-- two searches over equal figures that both settle
module _ (p q : Price) (eq : SameFigures p q) (K C D : ℕ) (small : K < 2 ^ 32) (s t : View) (so : Sound p K C s) (to : Sound q K D t) (se : s.stands ≡ true) (te : t.stands ≡ true) (sf : s.figure ≤ s.floor) (tf : t.figure ≤ t.floor) where
  t_cut : Cut p.rows K t.cut
  t_cut = same_cut q p (same_turned p q eq) K small t.cut (to.some te).is_cut

  t_costs : cost_of p K t.cut ≡ cost_of q K t.cut
  t_costs = same_costs q p (same_turned p q eq) K small t.cut (to.some te).is_cut

  s_cut : Cut q.rows K s.cut
  s_cut = same_cut p q eq K small s.cut (so.some se).is_cut

  s_costs : cost_of q K s.cut ≡ cost_of p K s.cut
  s_costs = same_costs p q eq K small s.cut (so.some se).is_cut

  pub one_figure : t.figure ≡ s.figure
  one_figure = omega (arith, so.below t.cut t_cut, to.below s.cut s_cut, t_costs, s_costs, (so.some se).at_cost, (to.some te).at_cost)

  pub one_cut : t.cut ≡ s.cut
  one_cut =
      let a = so.some se in
      let b = to.some te in
      same_cuts t.cut s.cut K b.is_cut.size a.is_cut.size
      (a.latest t.cut t_cut (omega (arith, t_costs, a.at_cost, b.at_cost, one_figure)))
      (b.latest s.cut s_cut (omega (arith, s_costs, a.at_cost, b.at_cost, one_figure)))

-- an open search has made fewer trials than C + 1 has digits
few_trials : (g t X : ℕ) → 0 < g → g * 2 ^ t ≤ X → X < 2 ^ 64 → t < digits X
few_trials g t X h l w =
    ⊎_elim (λ z. z)
    (λ (z : digits X ≤ t). absurd (
    let one : 1 * 2 ^ t ≤ g * 2 ^ t = let h' : 1 ≤ g = omega arith in mul-le-mul_right (2 ^ t) h' in
    let up : 2 ^ digits X ≤ 2 ^ t = pow_mono z in
    omega (arith, below_digits X w)))
    (cases_lt t (digits X))

three : (x : State) → (x ≡ Open → ⊥) → (x ≡ Missing → ⊥) → x ≡ Settled
three Open a b = absurd (a refl)
three Settled a b = refl
three Missing a b = absurd (b refl)

stands_so : (s : View) (x : List ℕ) → standing s ≡ Some x → (s.stands ≡ true) × (s.cut ≡ x)
stands_so s x e = cond_some s.stands s.cut x e

module _ (p : Price) (lawful : Lawful p) (K C : ℕ) (small : K ≤ 1024) (cap : C < 2 ^ 60) (calls : List Call) (s : View) (ran : Counted p lawful K C (omega arith) (asked_for calls) s) where
  no_cut : state_of s ≡ Missing → NoCut p K C
  no_cut e cut is = omega (arith, (is_missing s e).0, ran.sound.none (is_missing s e).1, ran.sound.below cut is)

  exact : (state_of s ≡ Open → ⊥) → NoCut p K C → state_of s ≡ Missing
  exact no-open none = else_missing s no-open (λ e. let a = ran.sound.some e in omega (arith, none s.cut a.is_cut, a.at_cost, a.within))

  few_questions : (d : ℕ) → p.rows + 1 < 2 ^ d → s.questions ≤ (s.advances + s.tries) * (K * d)
  few_questions d l =
      let z : digits (p.rows + 1) ≤ d = digits_least (p.rows + 1) d (omega arith) (omega (arith, lawful.few)) l in
      let kk : K ≤ K = omega arith in
      let inner : K * digits (p.rows + 1) ≤ K * d = mul-le-mul kk z in
      let tt' : s.advances + s.tries ≤ s.advances + s.tries = omega arith in
      let outer : (s.advances + s.tries) * (K * digits (p.rows + 1)) ≤ (s.advances + s.tries) * (K * d) = mul-le-mul tt' inner in
      omega (arith, ran.sound.few, outer)

  law_at : Law p K C calls (report_of s) (standing s)
  law_at = record {
    floor = ran.sound.below;
    stands = λ x e. let a = ran.sound.some (stands_so s x e).0 in subst (λ y. Cut p.rows K y × (cost_of p K y ≡ s.figure) × Latest p p.rows K y) (stands_so s x e).1 (a.is_cut, a.at_cost, a.latest);
    none = no_cut;
    exactly = exact;
    decided = λ no yes. three (state_of s) no (λ m. yes (no_cut m));
    settled = λ e.
        let a = ran.sound.some (is_settled s e).1 in
        subst (Cheapest p K) (sym (cond-true s.stands (Some s.cut) None (is_settled s e).1)) (λ cut is. omega (arith, ran.sound.below cut is, a.at_cost, (is_settled s e).0));
    open_while = λ e d l.
        let o = is_open s e in
        omega (arith, ran.all o, few_trials (s.figure - s.floor) s.advances (C + 1) (omega arith) ran.sound.gap (omega arith), digits_least (C + 1) d (omega arith) (omega arith) l);
    questions = few_questions;
  }

-- the law holds after every run
pub law_play : (p : Price) → Lawful p → (K C : ℕ) → K ≤ 1024 → C < 2 ^ 60 → (calls : List Call) → Law p K C calls (report_of (play p K C calls)) (standing (play p K C calls))
law_play p lawful K C few cap calls = law_at p lawful K C few cap calls (play p K C calls) (counted_play p lawful K C (omega arith) calls)

-- and so of any search that a run leads to
pub law_ran : (p : Price) → Lawful p → (K C : ℕ) → K ≤ 1024 → C < 2 ^ 60 → (calls : List Call) (s : View) → s ≡ play p K C calls → (r : Report) → r ≡ report_of s → Law p K C calls r (standing s)
law_ran p lawful K C few cap calls s e r e' =
    subst (λ x. Law p K C calls x (standing s)) (sym e') (subst (λ t. Law p K C calls (report_of t) (standing t)) (sym e) (law_play p lawful K C few cap calls))

-- two runs agree
pub agree_play : (p q : Price) → Lawful p → Lawful q → (K C D : ℕ) → K ≤ 1024 → (calls others : List Call) → Agree p q (report_of (play p K C calls)) (report_of (play q K D others)) (standing (play p K C calls)) (standing (play q K D others))
agree_play p q lp lq K C D few calls others eq e e' =
    let s = play p K C calls in
    let t = play q K D others in
    let so = (counted_play p lp K C (omega arith) calls).sound in
    let to = (counted_play q lq K D (omega arith) others).sound in
    let cut = one_cut p q eq K C D (omega arith) s t so to (is_settled s e).1 (is_settled t e').1 (is_settled s e).0 (is_settled t e').0 in (
      cond-true t.stands (Some t.cut) None (is_settled t e').1 ∙ ap (λ x. Some x) cut ∙ sym (cond-true s.stands (Some s.cut) None (is_settled s e).1),
      one_figure p q eq K C D (omega arith) s t so to (is_settled s e).1 (is_settled t e').1 (is_settled s e).0 (is_settled t e').0,
    )
