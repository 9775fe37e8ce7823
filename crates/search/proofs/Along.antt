-- A run goes on by one call.
use Rattle.std.proofs.Common.{◌≡◌, ◌⊎◌, ℕ, zero, suc, ◌+◌, ◌-◌, ◌<◌, true, false, ltb, List, [], ◌∷◌, ◌++◌, sym, refl, ap, ◌∙◌, subst, ⊎_elim, arith}
use Rattle.std.proofs.lemmas.Bool.{cond-true, cond-false, lt-ltb, cases_Bool}
use Rattle.cost.specs.declared.Cost.{Ghosts}
use Rattle.cost.specs.Price.{Price}
use Rattle.search.specs.declared.search.Search.{Search}
use Rattle.search.specs.declared.call.Call.{Call}
use Rattle.search.specs.declared.call.Call.TheVariants.{Advance, Try, Take, Tell}
use Rattle.search.specs.Trails.{Trail}
use Rattle.search.specs.Play.{View, start, trial_at, tried, halfway, advanced, advance_asks, advance_ok, try_makes, step, call_asks, plays, play}
use Rattle.search.specs.Of.{view_of, Ran, Follows}
use Rattle.search.proofs.Trailing.{trail_none}

pub plays_more : (p : Price) (K C : ℕ) (calls : List Call) (x : Call) (s : View) → plays p K C (calls ++ (x ∷ [])) s ≡ step p K C x (plays p K C calls s)
unfolding plays
plays_more p K C [] x s = refl
plays_more p K C (y ∷ ys) x s = plays_more p K C ys x (step p K C y s)

pub play_none : (p : Price) (K C : ℕ) → play p K C [] ≡ start C
unfolding plays
play_none p K C = refl

module _ {C : Type 0} {g : Ghosts C} (price : C → Price) (put : C → ℕ → ℕ → ℕ → C → Type 0) where
  -- what the search was opened with is kept
  pub record Kept (s t : Search C g) : Type 0 where
    pub price_same : price t.cost ≡ price s.cost
    pub blocks_same : t.blocks ≡ s.blocks
    pub ceiling_same : t.ceiling ≡ s.ceiling

  pub kept_same : (s : Search C g) → Kept s s
  kept_same s = record { price_same = refl; blocks_same = refl; ceiling_same = refl }

  pub kept_more : (s t u : Search C g) → Kept s t → Kept t u → Kept s u
  kept_more s t u a b = record { price_same = b.price_same ∙ a.price_same; blocks_same = b.blocks_same ∙ a.blocks_same; ceiling_same = b.ceiling_same ∙ a.ceiling_same }

  pub kept_by : (call : Call) (s t : Search C g) → Follows price put call s t → Kept s t
  kept_by call s t f = record { price_same = f.price_same; blocks_same = f.blocks_same; ceiling_same = f.ceiling_same }

  module _ (call : Call) (s t : Search C g) (kept : Kept s t) where
    ran_next : view_of t ≡ step (price s.cost) s.blocks s.ceiling call (view_of s) → (calls : List Call) → Ran price s calls → Ran price t (calls ++ (call ∷ []))
    ran_next e calls ran =
        e
        ∙ ap (step (price s.cost) s.blocks s.ceiling call) ran
        ∙ sym (plays_more (price s.cost) s.blocks s.ceiling calls call _)
        ∙ ap (λ p. play p s.blocks s.ceiling (calls ++ (call ∷ []))) (sym kept.price_same)
        ∙ ap (λ k. play (price t.cost) k s.ceiling (calls ++ (call ∷ []))) (sym kept.blocks_same)
        ∙ ap (λ c. play (price t.cost) t.blocks c (calls ++ (call ∷ []))) (sym kept.ceiling_same)

    pub follows : view_of t ≡ step (price s.cost) s.blocks s.ceiling call (view_of s) → Trail put s.cost (call_asks (price s.cost) s.blocks s.ceiling call (view_of s)) t.cost → Follows price put call s t
    follows e asks = record { view = e; price_same = kept.price_same; blocks_same = kept.blocks_same; ceiling_same = kept.ceiling_same; puts = asks; run = ran_next e }

  -- a call that changes nothing and asks nothing
  pub follows_same : (call : Call) (s : Search C g) → view_of s ≡ step (price s.cost) s.blocks s.ceiling call (view_of s) → call_asks (price s.cost) s.blocks s.ceiling call (view_of s) ≡ [] → Follows price put call s s
  follows_same call s e none = follows call s s (kept_same s) e (subst (λ qs. Trail put s.cost qs s.cost) (sym none) (trail_none put s.cost))

-- each call, as it goes
module _ (p : Price) (K C : ℕ) (s : View) where
  pub advance_declined : (n : ℕ) → advance_ok n ≡ false → s ≡ step p K C (Advance n) s
  unfolding step
  advance_declined n a = sym (cond-false (advance_ok n) (advanced p K n s) s a)

  pub advance_unasked : (n : ℕ) → advance_ok n ≡ false → call_asks p K C (Advance n) s ≡ []
  unfolding call_asks
  advance_unasked n a = cond-false (advance_ok n) (advance_asks p K n s) [] a

  pub advance_taken : (n : ℕ) → advance_ok n ≡ true → advanced p K n s ≡ step p K C (Advance n) s
  unfolding step
  advance_taken n a = sym (cond-true (advance_ok n) (advanced p K n s) s a)

  pub advance_asked : (n : ℕ) → advance_ok n ≡ true → advance_asks p K n s ≡ call_asks p K C (Advance n) s
  unfolding call_asks
  advance_asked n a = sym (cond-true (advance_ok n) (advance_asks p K n s) [] a)

  pub try_declined : (c : ℕ) → try_makes C s c ≡ false → s ≡ step p K C (Try c) s
  unfolding step
  try_declined c a = sym (cond-false (try_makes C s c) (tried p K c false s) s a)

  pub try_unasked : (c : ℕ) → try_makes C s c ≡ false → call_asks p K C (Try c) s ≡ []
  unfolding call_asks
  try_unasked c a = cond-false (try_makes C s c) (trial_at p K c).questions [] a

  pub try_taken : (c : ℕ) → try_makes C s c ≡ true → tried p K c false s ≡ step p K C (Try c) s
  unfolding step
  try_taken c a = sym (cond-true (try_makes C s c) (tried p K c false s) s a)

  pub try_asked : (c : ℕ) → try_makes C s c ≡ true → (trial_at p K c).questions ≡ call_asks p K C (Try c) s
  unfolding call_asks
  try_asked c a = sym (cond-true (try_makes C s c) (trial_at p K c).questions [] a)

  pub take_same : (n : ℕ) → s ≡ step p K C (Take n) s
  unfolding step
  take_same n = refl

  pub take_unasked : (n : ℕ) → call_asks p K C (Take n) s ≡ []
  unfolding call_asks
  take_unasked n = refl

  pub tell_same : s ≡ step p K C Tell s
  unfolding step
  tell_same = refl

  pub tell_unasked : call_asks p K C Tell s ≡ []
  unfolding call_asks
  tell_unasked = refl

-- one turn of advance
pub advanced_turn : (p : Price) (K n : ℕ) (s : View) → 0 < n → s.floor < s.figure → advanced p K (n - 1) (tried p K (halfway s) true s) ≡ advanced p K n s
unfolding advanced
advanced_turn p K zero s h o = elim h [ ]
advanced_turn p K (suc n) s h o =
    let e : suc n - 1 ≡ n = omega arith in
    ap (λ i. advanced p K i (tried p K (halfway s) true s)) e ∙ sym (cond-true (ltb s.floor s.figure) (advanced p K n (tried p K (halfway s) true s)) s (lt-ltb s.floor s.figure o))

pub asks_turn : (p : Price) (K n : ℕ) (s : View) → 0 < n → s.floor < s.figure → (trial_at p K (halfway s)).questions ++ advance_asks p K (n - 1) (tried p K (halfway s) true s) ≡ advance_asks p K n s
unfolding advance_asks
asks_turn p K zero s h o = elim h [ ]
asks_turn p K (suc n) s h o =
    let e : suc n - 1 ≡ n = omega arith in
    ap (λ i. (trial_at p K (halfway s)).questions ++ advance_asks p K i (tried p K (halfway s) true s)) e ∙ sym (cond-true (ltb s.floor s.figure) ((trial_at p K (halfway s)).questions ++ advance_asks p K n (tried p K (halfway s) true s)) [] (lt-ltb s.floor s.figure o))

pub advanced_stop : (p : Price) (K n : ℕ) (s : View) → (n ≡ 0) ⊎ (ltb s.floor s.figure ≡ false) → (advanced p K n s ≡ s) × (advance_asks p K n s ≡ [])
unfolding advanced advance_asks
advanced_stop p K zero s h = (refl, refl)
advanced_stop p K (suc n) s h = ⊎_elim (λ (z : suc n ≡ 0). absurd (omega arith)) (λ z. (cond-false _ _ _ z, cond-false _ _ _ z)) h

-- an advance by i + j is one by i and then one by j
module _ (p : Price) (K : ℕ) where
  advanced_none : (s : View) → advanced p K zero s ≡ s
  unfolding advanced
  advanced_none s = refl

  advanced_open : (n : ℕ) (s : View) → ltb s.floor s.figure ≡ true → advanced p K (suc n) s ≡ advanced p K n (tried p K (halfway s) true s)
  unfolding advanced
  advanced_open n s h = cond-true _ _ _ h

  advanced_shut : (n : ℕ) (s : View) → ltb s.floor s.figure ≡ false → advanced p K n s ≡ s
  unfolding advanced
  advanced_shut zero s h = refl
  advanced_shut (suc n) s h = cond-false _ _ _ h

  pub splits : (s : View) (i j : ℕ) → advanced p K (i + j) s ≡ advanced p K j (advanced p K i s)
  splits s zero j = (let e : zero + j ≡ j = omega arith in ap (λ n. advanced p K n s) e) ∙ ap (advanced p K j) (sym (advanced_none s))
  splits s (suc i) j =
      let e : suc i + j ≡ suc (i + j) = omega arith in
      ap (λ n. advanced p K n s) e
      ∙ ⊎_elim
      (λ h. advanced_open (i + j) s h ∙ splits (tried p K (halfway s) true s) i j ∙ ap (advanced p K j) (sym (advanced_open i s h)))
      (λ h. advanced_shut (suc (i + j)) s h ∙ sym (ap (advanced p K j) (advanced_shut (suc i) s h) ∙ advanced_shut j s h))
      (cases_Bool (ltb s.floor s.figure))
