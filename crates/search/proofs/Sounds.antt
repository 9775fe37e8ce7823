-- Each call keeps a search sound.
use Rattle.std.proofs.Common.{◌≡◌, ℕ, zero, suc, ◌+◌, ◌-◌, ◌*◌, ◌^◌, ◌<◌, ◌≤◌, Bool, true, false, cond, List, length, sym, refl, ap, ◌∙◌, subst, ⊎_elim, mul-le-mul_right, mul_assoc, mul_comm, add-mul, add-one, arith}
use native.Mathlib.Nat.{pow-succ'}
use Rattle.std.proofs.lemmas.Bool.{cases_lt, cond-true, cond-false, cond_both, true≢false, lt-ltb, le-ltb}
use Rattle.cost.specs.Price.{Price, Lawful}
use Rattle.search.specs.Digits.{digits}
use Rattle.search.specs.Cuts.{Cut, cost_of, Latest}
use Rattle.search.specs.Trial.{succeeds}
use Rattle.search.specs.Play.{View, start, trial_at, gained, lost, tried, halfway, advanced, Fair}
use Rattle.search.proofs.Greedy.{sure, trial_latest, trial_fails}

-- a cut that stands, at the figure that it costs
pub record Standing (p : Price) (K C : ℕ) (cut : List ℕ) (figure : ℕ) : Type 0 where
  pub is_cut : Cut p.rows K cut
  pub at_cost : cost_of p K cut ≡ figure
  pub latest : Latest p p.rows K cut
  pub within : figure ≤ C

-- what holds of a search at every moment
pub record Sound (p : Price) (K C : ℕ) (s : View) : Type 0 where
  pub order : s.floor ≤ s.figure
  pub top : s.figure ≤ C + 1
  pub below : (cut : List ℕ) → Cut p.rows K cut → s.floor ≤ cost_of p K cut
  pub none : s.stands ≡ false → s.figure ≡ C + 1
  pub some : s.stands ≡ true → Standing p K C s.cut s.figure
  pub gap : (s.figure - s.floor) * 2 ^ s.advances ≤ C + 1
  pub few : s.questions ≤ (s.advances + s.tries) * (K * digits (p.rows + 1))
  pub tries_few : s.tries ≤ 65535

-- a trial over all the rows that succeeds
module _ (p : Price) (lawful : Lawful p) (K c : ℕ) (few : K < 2 ^ 32) where
  all : p.rows ≤ p.rows
  all = omega arith

  pub trial_stands : (C : ℕ) → c ≤ C → succeeds p.rows K (trial_at p K c) ≡ true → Standing p K C (trial_at p K c).cut (trial_at p K c).worst
  trial_stands C l h =
      let best = trial_latest p lawful p.rows c K few all h in
      record {
        is_cut = best.is_cut;
        at_cost = best.at_cost;
        latest = λ other is cheap. best.latest other is (omega (arith, best.at_cost, best.within, cheap));
        within = omega (arith, best.within);
      }

  pub trial_low : succeeds p.rows K (trial_at p K c) ≡ true → (trial_at p K c).worst ≤ c
  trial_low h = (trial_latest p lawful p.rows c K few all h).within

  pub trial_none : succeeds p.rows K (trial_at p K c) ≡ false → (b : List ℕ) → Cut p.rows K b → c < cost_of p K b
  trial_none h = trial_fails p lawful p.rows c K few all h

  pub trial_few : length (trial_at p K c).questions ≤ K * digits (p.rows + 1)
  trial_few = (sure p lawful p.rows c K few all).few

pub sound_start : (p : Price) (K C : ℕ) → Sound p K C (start C)
sound_start p K C = record {
  order = omega arith;
  top = omega arith;
  below = λ cut _. omega arith;
  none = λ _. refl;
  some = λ e. absurd (true≢false (sym e));
  gap = omega arith;
  few = omega arith;
  tries_few = omega arith;
}

pub gap_half : (x y t X : ℕ) → 2 * x ≤ y → y * 2 ^ t ≤ X → x * 2 ^ (t + 1) ≤ X
gap_half x y t X h g =
    let e : x * 2 ^ (t + 1) ≡ 2 * x * 2 ^ t = ap (λ i. x * 2 ^ i) (add-one t) ∙ ap (λ z. x * z) (pow-succ' 2 t) ∙ sym (mul_assoc x 2 (2 ^ t)) ∙ ap (λ z. z * 2 ^ t) (mul_comm x 2) in
    omega (arith, e, mul-le-mul_right (2 ^ t) h)

pub gap_less : (x y t X : ℕ) → x ≤ y → y * 2 ^ t ≤ X → x * 2 ^ (t + 0) ≤ X
gap_less x y t X h g = let e : t + 0 ≡ t = omega arith in rw e (omega (arith, mul-le-mul_right (2 ^ t) h))

module _ (p : Price) (lawful : Lawful p) (K C : ℕ) (small : K < 2 ^ 32) (s : View) (sound : Sound p K C s) (c : ℕ) (above : s.floor ≤ c) (under : c < s.figure) where
  few_more : (a : ℕ) → a ≡ s.advances + s.tries + 1 → s.questions + length (trial_at p K c).questions ≤ a * (K * digits (p.rows + 1))
  few_more a e =
      let X : ℕ = K * digits (p.rows + 1) in
      let q : (s.advances + s.tries + 1) * X ≡ (s.advances + s.tries) * X + 1 * X = add-mul (s.advances + s.tries) 1 X in
      rw e (omega (arith, q, sound.few, trial_few p lawful K c small))

  module _ (h : succeeds p.rows K (trial_at p K c) ≡ true) where
    stood : Standing p K C (trial_at p K c).cut (trial_at p K c).worst
    stood = trial_stands p lawful K c small C (omega (arith, sound.top)) h

    floor_low : s.floor ≤ (trial_at p K c).worst
    floor_low = omega (arith, sound.below (trial_at p K c).cut stood.is_cut, stood.at_cost)

    sound_gained : (b : Bool) → Fair b s c → Sound p K C (gained b s (trial_at p K c))
    sound_gained true fair = record {
      order = floor_low;
      top = omega (arith, trial_low p lawful K c small h, sound.top);
      below = sound.below;
      none = λ e. absurd (true≢false e);
      some = λ _. stood;
      gap = gap_half ((trial_at p K c).worst - s.floor) (s.figure - s.floor) s.advances (C + 1) (omega (arith, trial_low p lawful K c small h, fair)) sound.gap;
      few = few_more (s.advances + 1 + (s.tries + 0)) (omega arith);
      tries_few = omega (arith, sound.tries_few);
    }
    sound_gained false fair = record {
      order = floor_low;
      top = omega (arith, trial_low p lawful K c small h, sound.top);
      below = sound.below;
      none = λ e. absurd (true≢false e);
      some = λ _. stood;
      gap = gap_less ((trial_at p K c).worst - s.floor) (s.figure - s.floor) s.advances (C + 1) (omega (arith, trial_low p lawful K c small h)) sound.gap;
      few = few_more (s.advances + 0 + (s.tries + 1)) (omega arith);
      tries_few = omega (arith, fair);
    }

  sound_lost : succeeds p.rows K (trial_at p K c) ≡ false → (b : Bool) → Fair b s c → Sound p K C (lost b c s (trial_at p K c))
  sound_lost h true fair = record {
    order = omega arith;
    top = sound.top;
    below = λ cut is. omega (arith, trial_none p lawful K c small h cut is);
    none = sound.none;
    some = sound.some;
    gap = gap_half (s.figure - (c + 1)) (s.figure - s.floor) s.advances (C + 1) (omega (arith, fair)) sound.gap;
    few = few_more (s.advances + 1 + (s.tries + 0)) (omega arith);
    tries_few = omega (arith, sound.tries_few);
  }
  sound_lost h false fair = record {
    order = omega arith;
    top = sound.top;
    below = λ cut is. omega (arith, trial_none p lawful K c small h cut is);
    none = sound.none;
    some = sound.some;
    gap = gap_less (s.figure - (c + 1)) (s.figure - s.floor) s.advances (C + 1) (omega arith) sound.gap;
    few = few_more (s.advances + 0 + (s.tries + 1)) (omega arith);
    tries_few = omega (arith, fair);
  }

  pub sound_tried : (b : Bool) → Fair b s c → Sound p K C (tried p K c b s)
  unfolding tried
  sound_tried b fair = cond_both (succeeds p.rows K (trial_at p K c)) (gained b s (trial_at p K c)) (lost b c s (trial_at p K c)) (Sound p K C) (λ h. sound_gained h b fair) (λ h. sound_lost h b fair)

  -- only a trial for the one count adds to it
  pub tried_advances : (b : Bool) → (tried p K c b s).advances ≡ s.advances + cond b 1 0
  unfolding tried
  tried_advances b = cond_both (succeeds p.rows K (trial_at p K c)) (gained b s (trial_at p K c)) (lost b c s (trial_at p K c)) (λ t. t.advances ≡ s.advances + cond b 1 0) (λ _. refl) (λ _. refl)

module _ (p : Price) (lawful : Lawful p) (K C : ℕ) (small : K < 2 ^ 32) where
  pub advanced_next : (n : ℕ) (s : View) → s.floor < s.figure → advanced p K (suc n) s ≡ advanced p K n (tried p K (halfway s) true s)
  unfolding advanced
  advanced_next n s h = cond-true _ _ _ (lt-ltb s.floor s.figure h)

  pub advanced_done : (n : ℕ) (s : View) → s.figure ≤ s.floor → advanced p K n s ≡ s
  unfolding advanced
  advanced_done zero s h = refl
  advanced_done (suc n) s h = cond-false _ _ _ (le-ltb s.floor s.figure h)

  advanced_none : (s : View) → advanced p K 0 s ≡ s
  unfolding advanced
  advanced_none s = refl

  -- a search that is still open has made every trial that it was asked for
  pub record Ran (n : ℕ) (s t : View) : Type 0 where
    pub sound : Sound p K C t
    pub all : t.floor < t.figure → t.advances ≡ s.advances + n

  pub advanced_ran : (n : ℕ) (s : View) → Sound p K C s → Ran n s (advanced p K n s)
  advanced_ran zero s sound = subst (Ran 0 s) (sym (advanced_none s)) (record { sound = sound; all = λ _. omega arith })
  advanced_ran (suc n) s sound =
      ⊎_elim
      (λ h.
      let t = tried p K (halfway s) true s in
      let rest = advanced_ran n t (sound_tried p lawful K C small s sound (halfway s) (omega arith) (omega arith) true refl) in
      subst (Ran (suc n) s) (sym (advanced_next n s h)) (record {
        sound = rest.sound;
        all = λ o. omega (arith, rest.all o, tried_advances p lawful K C small s sound (halfway s) (omega arith) (omega arith) true);
      }))
      (λ h. subst (Ran (suc n) s) (sym (advanced_done (suc n) s h)) (record { sound = sound; all = λ o. absurd (omega arith) }))
      (cases_lt s.floor s.figure)
