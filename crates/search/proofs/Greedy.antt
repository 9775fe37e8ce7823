-- The boundaries of a trial at c are the latest of all cuts within c.
use Rattle.std.proofs.Common.{◌≡◌, ℕ, zero, suc, ◌+◌, ◌*◌, ◌^◌, ◌<◌, ◌≤◌, max, true, false, eqb, leb, List, [], ◌∷◌, ◌++◌, length, get_or, take, Ok, Err, Result, sym, refl, ap, ◌∙◌, subst, inl, inr, ⊎_elim, add-mul, add-one, arith}
use Rattle.std.proofs.lemmas.Bool.{cases_lt, cases_Bool, cond_both, true≢false, and_parts, and_cases, eqb-true, eqb-false, leb-true, leb-false, both_ways}
use Rattle.std.proofs.lemmas.List.{get_or_append_left, get_or_push, length_push, length-append}
use Rattle.cost.specs.Price.{Price, Lawful}
use Rattle.search.specs.Digits.{digits}
use Rattle.search.specs.Halving.{halving_asks, halving_row, Furthest}
use Rattle.search.specs.Cuts.{Cut, cost_to, cost_of}
use Rattle.search.specs.Trial.{Trial, goes_on, fails, block, trial_to, succeeds, outcome, LatestWithin, TrialLaw}
use Rattle.search.proofs.Halves.{halved_so}
use Rattle.search.proofs.Trials.{trial_first, trial_next, trial_stays}

-- the first k blocks of a cut, each within c
pub record Within (p : Price) (end c k : ℕ) (b : List ℕ) : Type 0 where
  pub first : get_or b 0 0 ≡ 0
  pub rises : (j : ℕ) → j < k → get_or b j 0 ≤ get_or b (j + 1) 0
  pub inside : (j : ℕ) → j ≤ k → get_or b j 0 ≤ end
  pub granted : cost_to p b k ≤ c

pub record Far (p : Price) (end c k : ℕ) (cut : List ℕ) (worst : ℕ) : Type 0 where
  pub size : length cut ≡ k + 1
  pub first : get_or cut 0 0 ≡ 0
  pub rises : (j : ℕ) → j < k → get_or cut j 0 ≤ get_or cut (j + 1) 0
  pub inside : get_or cut k 0 ≤ end
  pub is : cost_to p cut k ≡ worst
  pub granted : worst ≤ c
  pub latest : (b : List ℕ) → Within p end c k b → (j : ℕ) → j ≤ k → get_or b j 0 ≤ get_or cut j 0

cost_agree : (p : Price) (b b' : List ℕ) (k : ℕ) → ((j : ℕ) → j ≤ k → get_or b j 0 ≡ get_or b' j 0) → cost_to p b k ≡ cost_to p b' k
unfolding cost_to
cost_agree p b b' zero h = refl
cost_agree p b b' (suc k) h =
    let e = cost_agree p b b' k (λ j l. h j (omega arith)) in
    let e1 = h k (omega arith) in
    let e2 = h (k + 1) (omega arith) in
    ap (λ x. max x (p.figure k (get_or b k 0) (get_or b (k + 1) 0))) e
    ∙ ap (λ x. max (cost_to p b' k) (p.figure k x (get_or b (k + 1) 0))) e1
    ∙ ap (λ x. max (cost_to p b' k) (p.figure k (get_or b' k 0) x)) e2

pub cost_suc : (p : Price) (b : List ℕ) (k : ℕ) → cost_to p b (suc k) ≡ max (cost_to p b k) (p.figure k (get_or b k 0) (get_or b (k + 1) 0))
unfolding cost_to
cost_suc p b k = refl

-- one block less
less : (p : Price) (end c k : ℕ) (b : List ℕ) → Within p end c (suc k) b → Within p end c k b
less p end c k b w = record {
  first = w.first;
  rises = λ j h. w.rises j (omega arith);
  inside = λ j h. w.inside j (omega arith);
  granted = omega (arith, w.granted, cost_suc p b k);
}

-- the last of its blocks is within c
last-granted : (p : Price) (end c k : ℕ) (b : List ℕ) → Within p end c (suc k) b → p.figure k (get_or b k 0) (get_or b (k + 1) 0) ≤ c
last-granted p end c k b w = omega (arith, w.granted, cost_suc p b k)

upto : (k : ℕ) (P : ℕ → Type 0) → ((j : ℕ) → j ≤ k → P j) → P (k + 1) → (j : ℕ) → j ≤ suc k → P j
upto k P below here j h = ⊎_elim (λ l. let e : k + 1 ≡ j = omega arith in subst P e here) (λ l. below j l) (cases_lt k j)

module _ (p : Price) (lawful : Lawful p) (end c k : ℕ) (fits : k < 2 ^ 32) (ends : end ≤ p.rows) (cut : List ℕ) (worst : ℕ) (far : Far p end c k cut worst) where
  -- a cut within c, of one block more, whose last boundary lies at or past s
  beyond : (b : List ℕ) → Within p end c (suc k) b → get_or cut k 0 ≤ get_or b (k + 1) 0 → p.figure k (get_or cut k 0) (get_or b (k + 1) 0) ≤ c
  beyond b w h =
      let before = far.latest b (less p end c k b w) k (omega arith) in
      let inn : get_or b (k + 1) 0 ≤ p.rows = omega (arith, w.inside (k + 1) (omega arith)) in
      let up = w.rises k (omega arith) in
      let mono = lawful.grows k (get_or cut k 0) (get_or b (k + 1) 0) (get_or b k 0) (get_or b (k + 1) 0) (fits, h, inn) (fits, up, inn) (inr (before, omega arith)) in
      omega (arith, mono, last-granted p end c k b w)

  module _ (r w n : ℕ) (u : Furthest p k (get_or cut k 0) (get_or cut k 0) end c r w n) where
    pub far_no : c < w → (b : List ℕ) → Within p end c (suc k) b → ⊥
    far_no z b v =
        let inn = v.inside (k + 1) (omega arith) in
        let in2 : get_or b (k + 1) 0 ≤ p.rows = omega arith in
        let in3 : get_or cut k 0 ≤ p.rows = omega (arith, far.inside) in
        let in4 : get_or cut k 0 ≤ get_or cut k 0 = omega arith in
        let up = v.rises k (omega arith) in
        ⊎_elim
        (λ (l : get_or b (k + 1) 0 < get_or cut k 0).
        let mono = lawful.grows k (get_or cut k 0) (get_or cut k 0) (get_or b k 0) (get_or b (k + 1) 0) (fits, in4, in3) (fits, up, in2) (inl refl) in
        omega (arith, mono, last-granted p end c k b v, u.nowhere z (get_or cut k 0) (omega arith) far.inside))
        (λ l. omega (arith, beyond b v l, u.nowhere z (get_or b (k + 1) 0) l inn))
        (cases_lt (get_or b (k + 1) 0) (get_or cut k 0))

    pub far_ok : w ≤ c → Far p end c (suc k) (cut ++ (r ∷ [])) (max worst w)
    far_ok z =
        let old : (j : ℕ) → j ≤ k → get_or (cut ++ (r ∷ [])) j 0 ≡ get_or cut j 0 = λ j h. get_or_append_left cut (r ∷ []) 0 j (omega (arith, far.size)) in
        let new : get_or (cut ++ (r ∷ [])) (k + 1) 0 ≡ r = get_or_push cut r 0 (k + 1) far.size in
        record {
          size = length_push cut r ∙ omega (arith, far.size);
          first = old 0 (omega arith) ∙ far.first;
          rises = λ j h. ⊎_elim
              (λ (l : j < k). omega (arith, old j (omega arith), old (j + 1) (omega arith), far.rises j l))
              (λ l. let e : k ≡ j = omega arith in subst (λ i. get_or (cut ++ (r ∷ [])) i 0 ≤ get_or (cut ++ (r ∷ [])) (i + 1) 0) e (omega (arith, old k (omega arith), new, u.from)))
              (cases_lt j k);
          inside = subst (λ i. get_or (cut ++ (r ∷ [])) i 0 ≤ end) (add-one k) (omega (arith, new, u.within));
          is = cost_suc p (cut ++ (r ∷ [])) k
              ∙ ap (λ x. max x (p.figure k (get_or (cut ++ (r ∷ [])) k 0) (get_or (cut ++ (r ∷ [])) (k + 1) 0))) (cost_agree p (cut ++ (r ∷ [])) cut k old ∙ far.is)
              ∙ ap (λ x. max worst (p.figure k x (get_or (cut ++ (r ∷ [])) (k + 1) 0))) (old k (omega arith))
              ∙ ap (λ x. max worst (p.figure k (get_or cut k 0) x)) new
              ∙ ap (λ x. max worst x) (sym u.worth);
          granted = omega (arith, far.granted, z);
          latest = λ b' v. upto k (λ j. get_or b' j 0 ≤ get_or (cut ++ (r ∷ [])) j 0)
              (λ j h. omega (arith, old j h, far.latest b' (less p end c k b' v) j h))
              (⊎_elim
              (λ (l : get_or b' (k + 1) 0 < get_or cut k 0). omega (arith, new, u.from))
              (λ l. omega (arith, new, u.furthest (get_or b' (k + 1) 0) l (v.inside (k + 1) (omega arith)) (beyond b' v l)))
              (cases_lt (get_or b' (k + 1) 0) (get_or cut k 0)));
        }

-- what k blocks of a trial come to
pub record Sure (p : Price) (end c k : ℕ) (t : Trial) : Type 0 where
  pub far : t.alive ≡ true → Far p end c k t.cut t.worst
  pub failed : t.alive ≡ false → (b : List ℕ) → Within p end c k b → ⊥
  pub few : length t.questions ≤ k * digits (end + 1)

sure_next : (p : Price) → Lawful p → (end c k : ℕ) → k < 2 ^ 32 → end ≤ p.rows → (t : Trial) → t.alive ≡ true → Sure p end c k t → Sure p end c (suc k) (block p end c k (get_or t.cut k 0) t)
sure_next p lawful end c k fits ends t a s =
    let b : ℕ = get_or t.cut k 0 in
    let r : ℕ = halving_row p k b b end c in
    let u = halved_so p lawful k b b end c fits (omega arith) ends (s.far a).inside in
    let more : length (t.questions ++ halving_asks p k b b end c) ≤ suc k * digits (end + 1) = omega (arith, length-append t.questions (halving_asks p k b b end c), s.few, u.few, add-mul k 1 (digits (end + 1)), ap (λ i. i * digits (end + 1)) (add-one k)) in
    cond_both (leb (p.figure k b r) c) (goes_on t r (p.figure k b r) (halving_asks p k b b end c)) (fails t (halving_asks p k b b end c)) (Sure p end c (suc k))
    (λ y. record {
      far = λ _. far_ok p lawful end c k fits ends t.cut t.worst (s.far a) r (p.figure k b r) (length (halving_asks p k b b end c)) u (leb-true (p.figure k b r) c y);
      failed = λ e. absurd (true≢false e);
      few = more;
    })
    (λ y. record {
      far = λ e. absurd (true≢false (sym e));
      failed = λ _. far_no p lawful end c k fits ends t.cut t.worst (s.far a) r (p.figure k b r) (length (halving_asks p k b b end c)) u (leb-false (p.figure k b r) c y);
      few = more;
    })

sure_first : (p : Price) (end c : ℕ) → Sure p end c 0 (record { alive = true; cut = 0 ∷ []; worst = 0; questions = [] })
unfolding cost_to
sure_first p end c = record {
  far = λ _. record {
    size = refl;
    first = refl;
    rises = λ j l. absurd (omega arith);
    inside = omega arith;
    is = refl;
    granted = omega arith;
    latest = λ b v j l. let e : 0 ≡ j = omega arith in subst (λ i. get_or b i 0 ≤ get_or (0 ∷ []) i 0) e (omega (arith, v.first));
  };
  failed = λ e. absurd (true≢false e);
  few = omega arith;
}

pub sure : (p : Price) → Lawful p → (end c k : ℕ) → k < 2 ^ 32 → end ≤ p.rows → Sure p end c k (trial_to p end c k)
sure p lawful end c zero h ends = subst (Sure p end c 0) (sym (trial_first p end c)) (sure_first p end c)
sure p lawful end c (suc k) h ends =
    let before = sure p lawful end c k (omega arith) ends in
    let t = trial_to p end c k in
    ⊎_elim
    (λ a. subst (Sure p end c (suc k)) (sym (trial_next p end c k a)) (sure_next p lawful end c k (omega arith) ends t a before))
    (λ a. subst (Sure p end c (suc k)) (sym (trial_stays p end c k a)) (record {
      far = λ e. absurd (both_ways t.alive a e);
      failed = λ _ b v. before.failed a b (less p end c k b v);
      few = omega (arith, before.few, add-mul k 1 (digits (end + 1)), ap (λ i. i * digits (end + 1)) (add-one k));
    }))
    (cases_Bool t.alive)

-- a boundary is at most a later one
pub rise : (b : List ℕ) (K : ℕ) → ((k : ℕ) → k < K → get_or b k 0 ≤ get_or b (k + 1) 0) → (i j : ℕ) → j ≤ i → i ≤ K → get_or b j 0 ≤ get_or b i 0
rise b K up zero j h l = let e : zero ≡ j = omega arith in subst (λ x. get_or b x 0 ≤ get_or b zero 0) e (omega arith)
rise b K up (suc i) j h l =
    ⊎_elim
    (λ (g : i < j). let e : suc i ≡ j = omega arith in subst (λ x. get_or b x 0 ≤ get_or b (suc i) 0) e (omega arith))
    (λ g.
    let one = up i (omega arith) in
    let e = ap (λ x. get_or b x 0) (add-one i) in
    omega (arith, rise b K up i j g (omega arith), one, e))
    (cases_lt i j)

cut_within : (p : Price) (end K c : ℕ) (b : List ℕ) → Cut end K b → cost_of p K b ≤ c → Within p end c K b
cut_within p end K c b is h = record {
  first = is.first;
  rises = is.rises;
  inside = λ j l. omega (arith, rise b K is.rises K j l (omega arith), is.last);
  granted = h;
}

-- the law of a trial
module _ (p : Price) (lawful : Lawful p) (end c K : ℕ) (few : K < 2 ^ 32) (ends : end ≤ p.rows) where
  reached : succeeds end K (trial_to p end c K) ≡ true → ((trial_to p end c K).alive ≡ true) × (get_or (trial_to p end c K).cut K 0 ≡ end)
  reached h =
      let both = and_parts (trial_to p end c K).alive (eqb (get_or (trial_to p end c K).cut K 0) end) h in
      (both.0, eqb-true (get_or (trial_to p end c K).cut K 0) end both.1)

  pub trial_latest : succeeds end K (trial_to p end c K) ≡ true → LatestWithin p end c K (trial_to p end c K).cut (trial_to p end c K).worst
  trial_latest h =
      let at = reached h in
      let far = (sure p lawful end c K few ends).far at.0 in
      record {
        is_cut = record { size = far.size; first = far.first; last = at.1; rises = far.rises };
        at_cost = far.is;
        within = far.granted;
        latest = λ other is cheap k kk. far.latest other (cut_within p end K c other is cheap) k kk;
      }

  pub trial_fails : succeeds end K (trial_to p end c K) ≡ false → (b : List ℕ) → Cut end K b → c < cost_of p K b
  trial_fails h b is =
      ⊎_elim (λ l. l)
      (λ (l : cost_of p K b ≤ c).
      let w = cut_within p end K c b is l in
      absurd (⊎_elim
      (λ a. (sure p lawful end c K few ends).failed a b w)
      (λ z. ⊎_elim
      (λ a.
      let far = (sure p lawful end c K few ends).far a in
      let e : get_or (trial_to p end c K).cut K 0 ≡ end = omega (arith, far.latest b w K (omega arith), far.inside, is.last) in
      eqb-false (get_or (trial_to p end c K).cut K 0) end z e)
      (λ a. (sure p lawful end c K few ends).failed a b w)
      (cases_Bool (trial_to p end c K).alive))
      (and_cases (trial_to p end c K).alive (eqb (get_or (trial_to p end c K).cut K 0) end) h)))
      (cases_lt c (cost_of p K b))

  pub trial_law : (out : List ℕ) (r : Result (ℕ × ℕ) ℕ) → r ≡ outcome end K (trial_to p end c K) → take (length (trial_to p end c K).cut) out ≡ (trial_to p end c K).cut → TrialLaw p end c K (take (K + 1) out) r
  trial_law out r e wrote =
      subst (TrialLaw p end c K (take (K + 1) out)) (sym e)
      (cond_both (succeeds end K (trial_to p end c K)) (Ok ((trial_to p end c K).worst, length (trial_to p end c K).questions)) (Err (length (trial_to p end c K).questions)) (TrialLaw p end c K (take (K + 1) out))
      (λ h.
      let l = trial_latest h in
      let front : take (K + 1) out ≡ (trial_to p end c K).cut = ap (λ i. take i out) (sym l.is_cut.size) ∙ wrote in
      subst (λ x. LatestWithin p end c K x (trial_to p end c K).worst) (sym front) l)
      trial_fails)
