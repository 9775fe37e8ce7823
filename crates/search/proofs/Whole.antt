-- What holds of whole runs.
use Rattle.std.proofs.Common.{◌≡◌, ℕ, zero, suc, ◌+◌, ◌^◌, ◌<◌, ◌≤◌, Bool, true, false, ◌&&◌, ltb, leb, List, [], ◌∷◌, ◌++◌, length, take, drop, replicate, Some, None, Ok, Err, Option, Result, sym, refl, ap, ◌∙◌, subst, ⊎_elim, arith}
use Rattle.std.proofs.lemmas.Option.{none-some, same_Some}
use Rattle.std.proofs.lemmas.Bool.{cases_Bool, cond-true, cond-false, cond_both, true≢false, ltb-true, ltb-false, leb-true, leb-false, le-ltb, and_parts}
use Rattle.std.proofs.lemmas.List.{take_at, length-append, length-replicate}
use Rattle.refusal.specs.declared.Refusal.{Refusal}
use Rattle.refusal.specs.declared.Refusal.TheVariants as refusal
use Rattle.cost.specs.Price.{Price, Lawful}
use Rattle.search.specs.declared.call.Call.{Call}
use Rattle.search.specs.declared.call.Call.TheVariants.{Advance, Try, Take, Tell}
use Rattle.search.specs.declared.call.Answer.{Answer}
use Rattle.search.specs.declared.call.Answer.TheVariants.{Advanced, Tried}
use Rattle.search.specs.declared.report.Report.{Report}
use Rattle.search.specs.declared.played.Played.{Played}
use Rattle.search.specs.declared.played.Unopened.{Unopened}
use Rattle.search.specs.Trial.{succeeds}
use Rattle.search.specs.Play.{View, start, trial_at, gained, lost, tried, halfway, advanced, advance_asks, advance_ok, try_makes, step, call_asks, plays, play}
use Rattle.search.specs.Reports.{report_of}
use Rattle.search.specs.Answers.{open_refusal, advance_answer, try_answer, taken}
use Rattle.search.specs.Law.{Law, standing, Agree}
use Rattle.search.specs.Runs.{answer_of, last_answer, run_asks, placed, boundaries_of, played_of, report_in, declines, idle, busy, RunLaw, both_or, compared_of}
use Rattle.search.proofs.Sounds.{trial_low}
use Rattle.search.proofs.Every.{counted_play, law_play, agree_play}
use Rattle.search.proofs.Along.{plays_more, advance_declined, advance_taken, try_declined, try_taken, take_same, tell_same}
use Rattle.search.proofs.Tries.{too-high, too-low, known, spent, makes}

-- what one call answers, against where it leads
module _ (p : Price) (K C : ℕ) (s : View) where
  -- a report in the answer is that of the search after the call, and a declined call leaves the search
  abbrev Fits : Answer → View → Type 0
  Fits a t = ((r : Report) → report_in a ≡ Some r → r ≡ report_of t) × (declines a ≡ true → t ≡ s)

  fits_advance : (n : ℕ) → Fits (Advanced (advance_answer p K n s)) (step p K C (Advance n) s)
  fits_advance n =
      cond_both (advance_ok n) (Ok (report_of (advanced p K n s))) (Err refusal.Count) (λ a. Fits (Advanced a) (step p K C (Advance n) s))
      (λ h. (λ r e. sym (same_Some (report_of (advanced p K n s)) r e) ∙ ap report_of (advance_taken p K C s n h), λ e. absurd (true≢false (sym e))))
      (λ h. (λ r e. absurd (none-some r e), λ _. sym (advance_declined p K C s n h)))

  stays : (c : ℕ) (b : Bool) → try_makes C s c ≡ false → Fits (Tried (Ok (b, report_of s))) (step p K C (Try c) s)
  stays c b h = (λ r e. sym (same_Some (report_of s) r e) ∙ ap report_of (try_declined p K C s c h), λ e. absurd (true≢false (sym e)))

  refuses : (c : ℕ) (x : Refusal) → try_makes C s c ≡ false → Fits (Tried (Err x)) (step p K C (Try c) s)
  refuses c x h = (λ r e. absurd (none-some r e), λ _. sym (try_declined p K C s c h))

  fits_try : (c : ℕ) → Fits (Tried (try_answer p K C c s)) (step p K C (Try c) s)
  fits_try c =
      cond_both (ltb C c) _ _ (λ a. Fits (Tried a) (step p K C (Try c) s))
      (λ h. refuses c refusal.Ceiling (too-high C c s (ltb-true C c h)))
      (λ h1. cond_both (ltb c s.floor) _ _ (λ a. Fits (Tried a) (step p K C (Try c) s))
      (λ h. stays c false (too-low C c s (ltb-true c s.floor h)))
      (λ h2. cond_both (leb s.figure c) _ _ (λ a. Fits (Tried a) (step p K C (Try c) s))
      (λ h. stays c true (known C c s (leb-true s.figure c h)))
      (λ h3. cond_both (ltb s.tries 65535) _ _ (λ a. Fits (Tried a) (step p K C (Try c) s))
      (λ h4.
      let yes = makes C c s (ltb-false C c h1) (ltb-false c s.floor h2) (leb-false s.figure c h3) (ltb-true s.tries 65535 h4) in
      (λ r e. sym (same_Some (report_of (tried p K c false s)) r e) ∙ ap report_of (try_taken p K C s c yes), λ e. absurd (true≢false (sym e))))
      (λ h4. refuses c refusal.Count (spent C c s (ltb-false s.tries 65535 h4))))))

  pub fits : (x : Call) → Fits (answer_of p K C x s) (step p K C x s)
  fits (Advance n) = fits_advance n
  fits (Try c) = fits_try c
  fits (Take n) = (λ r e. absurd (none-some r e), λ _. sym (take_same p K C s n))
  fits Tell = (λ r e. sym (same_Some (report_of s) r e) ∙ ap report_of (tell_same p K C s), λ _. sym (tell_same p K C s))

  idle_same : (x : Call) → idle p K C x s ≡ true → step p K C x s ≡ s
  idle_same (Advance n) h = (fits (Advance n)).1 h
  idle_same (Try c) h = (fits (Try c)).1 h
  idle_same (Take n) h = sym (take_same p K C s n)
  idle_same Tell h = sym (tell_same p K C s)

-- along a run
module _ (p : Price) (K C : ℕ) where
  pub last_more : (calls : List Call) (x : Call) (s : View) (given : Option Answer) → last_answer p K C (calls ++ (x ∷ [])) s given ≡ Some (answer_of p K C x (plays p K C calls s))
  unfolding last_answer plays
  last_more [] x s given = refl
  last_more (y ∷ ys) x s given = last_more ys x (step p K C y s) (Some (answer_of p K C y s))

  pub last_none : (s : View) (given : Option Answer) → last_answer p K C [] s given ≡ given
  unfolding last_answer
  last_none s given = refl

  abbrev Telling : View → Option Answer → Type 0
  Telling s given = (a : Answer) (r : Report) → given ≡ Some a → report_in a ≡ Some r → r ≡ report_of s

  telling : (calls : List Call) (s : View) (given : Option Answer) → Telling s given → Telling (plays p K C calls s) (last_answer p K C calls s given)
  unfolding last_answer plays
  telling [] s given h = h
  telling (x ∷ xs) s given h =
      telling xs (step p K C x s) (Some (answer_of p K C x s)) (λ a r e e'. (fits p K C s x).0 r (ap report_in (same_Some (answer_of p K C x s) a e) ∙ e'))

  busy_plays : (calls : List Call) (s : View) → plays p K C (busy p K C calls s) s ≡ plays p K C calls s
  unfolding busy plays
  busy_plays [] s = refl
  busy_plays (x ∷ xs) s =
      cond_both (idle p K C x s) (busy p K C xs (step p K C x s)) (x ∷ busy p K C xs (step p K C x s)) (λ ys. plays p K C ys s ≡ plays p K C xs (step p K C x s))
      (λ h. ap (plays p K C (busy p K C xs (step p K C x s))) (sym (idle_same p K C s x h)) ∙ busy_plays xs (step p K C x s))
      (λ h. busy_plays xs (step p K C x s))

  plays_two : (part rest : List Call) (s : View) → plays p K C (part ++ rest) s ≡ plays p K C rest (plays p K C part s)
  unfolding plays
  plays_two [] rest s = refl
  plays_two (x ∷ xs) rest s = plays_two xs rest (step p K C x s)

-- the floor never falls, the figure never rises
abbrev Closer : View → View → Type 0
Closer s t = (s.floor ≤ t.floor) × (t.figure ≤ s.figure)

closer_same : (s : View) → Closer s s
closer_same s = (omega arith, omega arith)

closer_more : (s t u : View) → Closer s t → Closer t u → Closer s u
closer_more s t u a b = (omega (arith, a.0, b.0), omega (arith, a.1, b.1))

module _ (p : Price) (lawful : Lawful p) (K C : ℕ) (small : K < 2 ^ 32) where
  closer_tried : (s : View) (c : ℕ) (b : Bool) → s.floor ≤ c → c < s.figure → Closer s (tried p K c b s)
  unfolding tried
  closer_tried s c b above under =
      cond_both (succeeds p.rows K (trial_at p K c)) (gained b s (trial_at p K c)) (lost b c s (trial_at p K c)) (Closer s)
      (λ h. (omega arith, omega (arith, trial_low p lawful K c small h)))
      (λ h. (omega arith, omega arith))

  closer_advanced : (n : ℕ) (s : View) → Closer s (advanced p K n s)
  unfolding advanced
  closer_advanced zero s = closer_same s
  closer_advanced (suc n) s =
      cond_both (ltb s.floor s.figure) (advanced p K n (tried p K (halfway s) true s)) s (Closer s)
      (λ h. let o = ltb-true s.floor s.figure h in closer_more s (tried p K (halfway s) true s) (advanced p K n (tried p K (halfway s) true s)) (closer_tried s (halfway s) true (omega arith) (omega arith)) (closer_advanced n (tried p K (halfway s) true s)))
      (λ _. closer_same s)

  closer_step : (x : Call) (s : View) → Closer s (step p K C x s)
  unfolding step
  closer_step (Advance n) s = cond_both (advance_ok n) (advanced p K n s) s (Closer s) (λ _. closer_advanced n s) (λ _. closer_same s)
  closer_step (Try c) s =
      cond_both (try_makes C s c) (tried p K c false s) s (Closer s)
      (λ h.
      let one = and_parts (leb c C) ((leb s.floor c && ltb c s.figure) && ltb s.tries 65535) h in
      let two = and_parts (leb s.floor c && ltb c s.figure) (ltb s.tries 65535) one.1 in
      let three = and_parts (leb s.floor c) (ltb c s.figure) two.0 in
      closer_tried s c false (leb-true s.floor c three.0) (ltb-true c s.figure three.1))
      (λ _. closer_same s)
  closer_step (Take n) s = closer_same s
  closer_step Tell s = closer_same s

  closer_plays : (calls : List Call) (s : View) → Closer s (plays p K C calls s)
  unfolding plays
  closer_plays [] s = closer_same s
  closer_plays (x ∷ xs) s = closer_more s (step p K C x s) (plays p K C xs (step p K C x s)) (closer_step x s) (closer_plays xs (step p K C x s))

  closer : (calls part rest : List Call) → part ++ rest ≡ calls → Closer (play p K C part) (play p K C calls)
  closer calls part rest e = subst (λ xs. Closer (play p K C part) (play p K C xs)) e (subst (Closer (play p K C part)) (sym (plays_two p K C part rest (start C))) (closer_plays rest (play p K C part)))

-- as many questions are counted as are put
module _ (p : Price) (K C : ℕ) where
  tried_asks : (s : View) (c : ℕ) (b : Bool) → (tried p K c b s).questions ≡ s.questions + length (trial_at p K c).questions
  unfolding tried
  tried_asks s c b = cond_both (succeeds p.rows K (trial_at p K c)) (gained b s (trial_at p K c)) (lost b c s (trial_at p K c)) (λ t. t.questions ≡ s.questions + length (trial_at p K c).questions) (λ _. refl) (λ _. refl)

  advanced_asks : (n : ℕ) (s : View) → (advanced p K n s).questions ≡ s.questions + length (advance_asks p K n s)
  unfolding advanced advance_asks
  advanced_asks zero s = omega arith
  advanced_asks (suc n) s =
      let t = tried p K (halfway s) true s in
      ⊎_elim
      (λ h.
      let e1 = ap (λ (v : View). v.questions) (cond-true (ltb s.floor s.figure) (advanced p K n t) s h) in
      let e2 = ap length (cond-true (ltb s.floor s.figure) ((trial_at p K (halfway s)).questions ++ advance_asks p K n t) [] h) in
      omega (arith, e1, e2, length-append (trial_at p K (halfway s)).questions (advance_asks p K n t), advanced_asks n t, tried_asks s (halfway s) true))
      (λ h.
      let e1 = ap (λ (v : View). v.questions) (cond-false (ltb s.floor s.figure) (advanced p K n t) s h) in
      let e2 = ap length (cond-false (ltb s.floor s.figure) ((trial_at p K (halfway s)).questions ++ advance_asks p K n t) [] h) in
      omega (arith, e1, e2))
      (cases_Bool (ltb s.floor s.figure))

  step_asks : (x : Call) (s : View) → (step p K C x s).questions ≡ s.questions + length (call_asks p K C x s)
  unfolding step call_asks
  step_asks (Advance n) s =
      ⊎_elim
      (λ h. omega (arith, ap (λ (v : View). v.questions) (cond-true (advance_ok n) (advanced p K n s) s h), ap length (cond-true (advance_ok n) (advance_asks p K n s) [] h), advanced_asks n s))
      (λ h. omega (arith, ap (λ (v : View). v.questions) (cond-false (advance_ok n) (advanced p K n s) s h), ap length (cond-false (advance_ok n) (advance_asks p K n s) [] h)))
      (cases_Bool (advance_ok n))
  step_asks (Try c) s =
      ⊎_elim
      (λ h. omega (arith, ap (λ (v : View). v.questions) (cond-true (try_makes C s c) (tried p K c false s) s h), ap length (cond-true (try_makes C s c) (trial_at p K c).questions [] h), tried_asks s c false))
      (λ h. omega (arith, ap (λ (v : View). v.questions) (cond-false (try_makes C s c) (tried p K c false s) s h), ap length (cond-false (try_makes C s c) (trial_at p K c).questions [] h)))
      (cases_Bool (try_makes C s c))
  step_asks (Take n) s = omega arith
  step_asks Tell s = omega arith

  plays_asks : (calls : List Call) (s : View) → (plays p K C calls s).questions ≡ s.questions + length (run_asks p K C calls s)
  unfolding plays run_asks
  plays_asks [] s = omega arith
  plays_asks (x ∷ xs) s = omega (arith, plays_asks xs (step p K C x s), step_asks x s, length-append (call_asks p K C x s) (run_asks p K C xs (step p K C x s)))

-- the boundaries among the places are the standing cut
front : (K : ℕ) (s : View) → K ≤ 1024 → (s.stands ≡ true → length s.cut ≡ K + 1) → boundaries_of K (placed K s) ≡ standing s
front K s few size =
    ⊎_elim
    (λ (h : s.stands ≡ true).
    let zeros : List ℕ = replicate 1025 0 in
    let long : length zeros ≡ 1025 = length-replicate {A = ℕ} 1025 0 in
    let is : taken K s zeros ≡ s.cut ++ drop (K + 1) zeros = cond-true s.stands _ _ h ∙ cond-false (ltb (length zeros) (K + 1)) _ _ (le-ltb (length zeros) (K + 1) (omega arith)) in
    ap (boundaries_of K) (cond-true s.stands (Some (taken K s zeros)) None h)
    ∙ ap (λ (x : List ℕ). Some (take (K + 1) x)) is
    ∙ ap (λ (x : List ℕ). Some x) (take_at s.cut (drop (K + 1) zeros) (K + 1) (size h))
    ∙ sym (cond-true s.stands (Some s.cut) None h))
    (λ h. ap (boundaries_of K) (cond-false s.stands _ None h) ∙ sym (cond-false s.stands (Some s.cut) None h))
    (cases_Bool s.stands)

module _ (p : Price) (lawful : Lawful p) (K C : ℕ) (few : K ≤ 1024) (cap : C < 2 ^ 60) (calls : List Call) where
  pub front_play : boundaries_of K (placed K (play p K C calls)) ≡ standing (play p K C calls)
  front_play = front K (play p K C calls) few (λ h. ((counted_play p lawful K C (omega arith) calls).sound.some h).is_cut.size)

  run_law : RunLaw p K C calls (played_of p K C calls)
  run_law =
      let small : K < 2 ^ 32 = omega arith in
      record {
        exact = refl;
        law = subst (Law p K C calls (report_of (play p K C calls))) (sym front_play) (law_play p lawful K C few cap calls);
        parts = λ part rest e. law_play p lawful K C few cap part;
        rises = λ part rest e. (closer p lawful K C small calls part rest e).0;
        falls = λ part rest e. (closer p lawful K C small calls part rest e).1;
        counted = omega (arith, plays_asks p K C calls (start C));
        uncalled = λ e. ap (λ xs. last_answer p K C xs (start C) None) e ∙ last_none p K C (start C) None;
        answered = λ part call e. ap (λ xs. last_answer p K C xs (start C) None) (sym e) ∙ last_more p K C part call (start C) None;
        told = telling p K C calls (start C) None (λ a r e _. absurd (none-some a e));
        declined = λ part call e h. ap (play p K C) (sym e) ∙ plays_more p K C part call (start C) ∙ (fits p K C (play p K C part) call).1 h;
        without = busy_plays p K C calls (start C);
      }

  pub ran_law : (x : Played) → x ≡ played_of p K C calls → RunLaw p K C calls x
  ran_law x e = subst (RunLaw p K C calls) (sym e) run_law

pub agree_ran : (p q : Price) → Lawful p → Lawful q → (K C D : ℕ) → K ≤ 1024 → C < 2 ^ 60 → D < 2 ^ 60 → (calls others : List Call) (x y : Played) → x ≡ played_of p K C calls → y ≡ played_of q K D others → Agree p q x.report y.report (boundaries_of K x.cut) (boundaries_of K y.cut)
agree_ran p q lp lq K C D few cap capd calls others x y e e' eq so to =
    let both = agree_play p q lp lq K C D few calls others eq (ap (λ (z : Played). z.report.state) (sym e) ∙ so) (ap (λ (z : Played). z.report.state) (sym e') ∙ to) in (
      ap (λ (z : Played). boundaries_of K z.cut) e' ∙ front_play q lq K D few capd others ∙ both.0 ∙ sym (ap (λ (z : Played). boundaries_of K z.cut) e ∙ front_play p lp K C few cap calls),
      ap (λ (z : Played). z.report.figure) e' ∙ both.1 ∙ ap (λ (z : Played). z.report.figure) (sym e),
    )

pair_is : (x x' y y' : Played) → x ≡ x' → y ≡ y' → ◌≡◌ {A = Played × Played} (x, y) (x', y')
pair_is x x' y y' e e' = cc

-- what may be opened
pub opens : (K C : ℕ) → open_refusal K C ≡ None → (K ≤ 1024) × (C < 2 ^ 60)
opens K C e =
    ⊎_elim
    (λ a. ⊎_elim
    (λ b. (leb-true K 1024 (and_parts (leb 1 K) (leb K 1024) a).1, ltb-true C (2 ^ 60) b))
    (λ b. absurd (none-some refusal.Ceiling (sym e ∙ cond-true (leb 1 K && leb K 1024) _ _ a ∙ cond-false (ltb C (2 ^ 60)) _ _ b)))
    (cases_Bool (ltb C (2 ^ 60))))
    (λ a. absurd (none-some refusal.Blocks (sym e ∙ cond-false (leb 1 K && leb K 1024) _ _ a)))
    (cases_Bool (leb 1 K && leb K 1024))

-- both runs are played
pub both_are : (p q : Price) (K C : ℕ) (calls : List Call) (D : ℕ) (others : List Call) → open_refusal K C ≡ None → open_refusal K D ≡ None → (x y : Played) → x ≡ played_of p K C calls → y ≡ played_of q K D others → ◌≡◌ {A = Result (Played × Played) Unopened} (Ok (x, y)) (compared_of p q K C calls D others)
both_are p q K C calls D others f f' x y e e' =
    let two : ◌≡◌ {A = Played × Played} (x, y) (played_of p K C calls, played_of q K D others) = pair_is x (played_of p K C calls) y (played_of q K D others) e e' in
    ap (λ (z : Played × Played). Ok z) two
    ∙ sym (ap (λ o. both_or o (open_refusal K D) (played_of p K C calls, played_of q K D others)) f ∙ ap (λ o. both_or None o (played_of p K C calls, played_of q K D others)) f')
