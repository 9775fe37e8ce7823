-- What a try answers is true, and what a try without a trial leaves.
use Rattle.std.proofs.Common.{◌≡◌, ℕ, ◌^◌, ◌<◌, ◌≤◌, Bool, true, false, ◌&&◌, ltb, leb, List, Ok, Result, sym, refl, subst, ⊎_elim, arith}
use Rattle.std.proofs.lemmas.Bool.{cond_both, cases_Bool, ltb-true, ltb-false, leb-true, lt-leb, le-leb, lt-ltb, le-ltb, and_left, and_right, and_from}
use Rattle.refusal.specs.declared.Refusal.{Refusal}
use Rattle.cost.specs.declared.Cost.{Ghosts}
use Rattle.cost.specs.Price.{Price, Lawful}
use Rattle.search.specs.declared.search.Search.{Search}
use Rattle.search.specs.declared.call.Call.{Call}
use Rattle.search.specs.declared.call.Call.TheVariants.{Try}
use Rattle.search.specs.declared.report.Report.{Report}
use Rattle.search.specs.Trial.{succeeds}
use Rattle.search.specs.Play.{View, trial_at, tried, try_makes, play}
use Rattle.search.specs.Reports.{report_of}
use Rattle.search.specs.Answers.{try_answer, Told}
use Rattle.search.specs.Of.{view_of, Ran, Follows}
use Rattle.search.proofs.Sounds.{Sound, trial_stands, trial_low, trial_none}
use Rattle.search.proofs.Every.{counted_play}
use Rattle.search.proofs.Along.{follows_same, try_declined, try_unasked}

module _ (p : Price) (lawful : Lawful p) (K C : ℕ) (small : K < 2 ^ 32) (c : ℕ) where
  trial_tells : (b : Bool) (r : Report) → succeeds p.rows K (trial_at p K c) ≡ b → Told p K c (Ok (b, r))
  trial_tells true r h = let st = trial_stands p lawful K c small c (omega arith) h in ((trial_at p K c).cut, (st.is_cut, omega (arith, st.at_cost, trial_low p lawful K c small h)))
  trial_tells false r h = trial_none p lawful K c small h

  module _ (s : View) (sound : Sound p K C s) where
    stands_yes : s.figure ≤ c → c ≤ C → Told p K c (Ok (true, report_of s))
    stands_yes h l =
        ⊎_elim
        (λ e. let a = sound.some e in (s.cut, (a.is_cut, omega (arith, a.at_cost))))
        (λ e. absurd (omega (arith, sound.none e)))
        (cases_Bool s.stands)

    try_tells : Told p K c (try_answer p K C c s)
    try_tells =
        cond_both (ltb C c) _ _ (Told p K c) (λ _. tt)
        (λ h1. cond_both (ltb c s.floor) _ _ (Told p K c) (λ h cut is. omega (arith, ltb-true c s.floor h, sound.below cut is))
        (λ _. cond_both (leb s.figure c) _ _ (Told p K c) (λ h. stands_yes (leb-true s.figure c h) (ltb-false C c h1))
        (λ _. cond_both (ltb s.tries 65535) _ _ (Told p K c) (λ _. trial_tells (succeeds p.rows K (trial_at p K c)) (report_of (tried p K c false s)) refl) (λ _. tt))))

  told : (calls : List Call) (s : View) → s ≡ play p K C calls → Told p K c (try_answer p K C c s)
  told calls s ran = try_tells s (subst (Sound p K C) (sym ran) (counted_play p lawful K C small calls).sound)

module _ {C : Type 0} {g : Ghosts C} (price : C → Price) (put : C → ℕ → ℕ → ℕ → C → Type 0) (s : Search C g) (law : Lawful (price s.cost)) (c : ℕ) where
  pub told_of : (r : Result (Bool × Report) Refusal) → r ≡ try_answer (price s.cost) s.blocks s.ceiling c (view_of s) → (calls : List Call) → Ran price s calls → Told (price s.cost) s.blocks c r
  told_of r e calls ran =
      let small : s.blocks < 2 ^ 32 = omega (arith, s.shape.1) in
      subst (Told (price s.cost) s.blocks c) (sym e) (told (price s.cost) law s.blocks s.ceiling small c calls (view_of s) ran)

  -- without a trial nothing changes
  pub still : try_makes s.ceiling (view_of s) c ≡ false → Follows price put (Try c) s s
  still h = follows_same price put (Try c) s (try_declined (price s.cost) s.blocks s.ceiling (view_of s) c h) (try_unasked (price s.cost) s.blocks s.ceiling (view_of s) c h)

-- when a try makes no trial, and when it makes one
module _ (C c : ℕ) (s : View) where
  pub too-high : C < c → try_makes C s c ≡ false
  too-high h = and_left (leb c C) ((leb s.floor c && ltb c s.figure) && ltb s.tries 65535) (lt-leb c C h)

  pub too-low : c < s.floor → try_makes C s c ≡ false
  too-low h = and_right (leb c C) ((leb s.floor c && ltb c s.figure) && ltb s.tries 65535) (and_left (leb s.floor c && ltb c s.figure) (ltb s.tries 65535) (and_left (leb s.floor c) (ltb c s.figure) (lt-leb s.floor c h)))

  pub known : s.figure ≤ c → try_makes C s c ≡ false
  known h = and_right (leb c C) ((leb s.floor c && ltb c s.figure) && ltb s.tries 65535) (and_left (leb s.floor c && ltb c s.figure) (ltb s.tries 65535) (and_right (leb s.floor c) (ltb c s.figure) (le-ltb c s.figure h)))

  pub spent : 65535 ≤ s.tries → try_makes C s c ≡ false
  spent h = and_right (leb c C) ((leb s.floor c && ltb c s.figure) && ltb s.tries 65535) (and_right (leb s.floor c && ltb c s.figure) (ltb s.tries 65535) (le-ltb s.tries 65535 h))

  pub makes : c ≤ C → s.floor ≤ c → c < s.figure → s.tries < 65535 → try_makes C s c ≡ true
  makes h1 h2 h3 h4 = and_from (leb c C) ((leb s.floor c && ltb c s.figure) && ltb s.tries 65535) (le-leb c C h1) (and_from (leb s.floor c && ltb c s.figure) (ltb s.tries 65535) (and_from (leb s.floor c) (ltb c s.figure) (le-leb s.floor c h2) (lt-ltb c s.figure h3)) (lt-ltb s.tries 65535 h4))
