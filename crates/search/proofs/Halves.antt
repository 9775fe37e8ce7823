-- What a halving comes to.
use Rattle.std.proofs.Common.{◌≡◌, ℕ, zero, suc, ◌+◌, ◌-◌, ◌*◌, ◌^◌, ◌<◌, ◌≤◌, min, max, ltb, leb, List, [], ◌∷◌, length, sym, refl, ap, ◌∙◌, subst, inr, ⊎_elim, arith}
use native.Mathlib.Nat.{pow-succ'}
use Rattle.std.proofs.lemmas.Bool.{lt-ltb, le-ltb, le-leb, lt-leb, cond-true, cond-false, cases_lt}
use Rattle.cost.specs.Price.{Price, Lawful, asked}
use Rattle.search.specs.Digits.{digits}
use Rattle.search.specs.Trails.{Question}
use Rattle.search.specs.Halving.{middle, halves, last_granted, halving_asks, halving_row, halved, Furthest, Enough}
use Rattle.search.proofs.Widths.{below_digits, some_digit, pow_more}

abbrev begun : Question → List Question → List Question
begun q qs = q ∷ qs

three : (a a' b b' n n' : ℕ) → a ≡ a' → b ≡ b' → n ≡ n' → ◌≡◌ {A = ℕ × ℕ × ℕ} (a, b, n) (a', b', n')
three a a' b b' n n' e e' e'' = cc

module _ (p : Price) (k s c : ℕ) where
  pub halves_grant : (d low past : ℕ) → 0 < d → low < past → p.figure k s (middle low past) ≤ c → halves p k s c d low past ≡ (k, s, middle low past) ∷ halves p k s c (d - 1) (middle low past + 1) past
  unfolding halves
  halves_grant zero low past z h g = elim z [ ]
  halves_grant (suc d) low past z h g =
      let e : suc d - 1 ≡ d = omega arith in
      cond-true (ltb low past) _ _ (lt-ltb low past h)
      ∙ ap (λ (qs : List Question). (k, s, middle low past) ∷ qs) (cond-true (leb (p.figure k s (middle low past)) c) _ _ (le-leb (p.figure k s (middle low past)) c g) ∙ ap (λ i. halves p k s c i (middle low past + 1) past) (sym e))

  pub halves_refuse : (d low past : ℕ) → 0 < d → low < past → c < p.figure k s (middle low past) → halves p k s c d low past ≡ (k, s, middle low past) ∷ halves p k s c (d - 1) low (middle low past)
  unfolding halves
  halves_refuse zero low past z h g = elim z [ ]
  halves_refuse (suc d) low past z h g =
      let e : suc d - 1 ≡ d = omega arith in
      cond-true (ltb low past) _ _ (lt-ltb low past h)
      ∙ ap (λ (qs : List Question). (k, s, middle low past) ∷ qs) (cond-false (leb (p.figure k s (middle low past)) c) _ _ (lt-leb (p.figure k s (middle low past)) c g) ∙ ap (λ i. halves p k s c i low (middle low past)) (sym e))

  pub halves_stop : (d low past : ℕ) → past ≤ low → halves p k s c d low past ≡ []
  unfolding halves
  halves_stop zero low past h = refl
  halves_stop (suc d) low past h = cond-false _ _ _ (le-ltb low past h)

  granted_yes : (given m : ℕ) (qs : List Question) → p.figure k s m ≤ c → last_granted p c given ((k, s, m) ∷ qs) ≡ last_granted p c m qs
  unfolding last_granted
  granted_yes given m qs h = ap (λ b. last_granted p c b qs) (cond-true (leb (p.figure k s m) c) m given (le-leb (p.figure k s m) c h))

  granted_no : (given m : ℕ) (qs : List Question) → c < p.figure k s m → last_granted p c given ((k, s, m) ∷ qs) ≡ last_granted p c given qs
  unfolding last_granted
  granted_no given m qs h = ap (λ b. last_granted p c b qs) (cond-false (leb (p.figure k s m) c) m given (lt-leb (p.figure k s m) c h))

  granted_end : (given : ℕ) → last_granted p c given [] ≡ given
  unfolding last_granted
  granted_end given = refl

pub halves_all : (p : Price) (k s low high c : ℕ) → halves p k s c (digits (high + 1) - 0) low (high + 1) ≡ halving_asks p k s low high c
unfolding halving_asks
halves_all p k s low high c = let all : digits (high + 1) - 0 ≡ digits (high + 1) = omega arith in ap (λ i. halves p k s c i low (high + 1)) all

-- a halving over first to high under way, where n questions have been put
pub record Going (p : Price) (k s first high c low past n : ℕ) : Type 0 where
  pub from : first ≤ low
  pub order : low ≤ past
  pub within : past ≤ high + 1
  pub few : n ≤ digits (high + 1)
  pub width : past - low < 2 ^ (digits (high + 1) - n)
  pub under : first < low → p.figure k s (low - 1) ≤ c
  pub over : (row : ℕ) → past ≤ row → row ≤ high → c < p.figure k s row
  pub count : n + length (halves p k s c (digits (high + 1) - n) low past) ≡ length (halving_asks p k s first high c)
  pub row : last_granted p c (max first (low - 1)) (halves p k s c (digits (high + 1) - n) low past) ≡ halving_row p k s first high c

-- the last granted figure and the last refused one
pub record Figures (p : Price) (k s first high low past granted refused : ℕ) : Type 0 where
  pub yes : first < low → granted ≡ p.figure k s (low - 1)
  pub no : past ≤ high → refused ≡ p.figure k s past

module _ (p : Price) (lawful : Lawful p) (k s first high c : ℕ) (fits : k < 2 ^ 32) (start : s ≤ first) (ends : high ≤ p.rows) where
  pub going_start : first ≤ high → Going p k s first high c first (high + 1) 0
  unfolding halving_asks halving_row
  going_start h =
      let small : high + 1 < 2 ^ 64 = omega (arith, lawful.few) in
      let all : digits (high + 1) - 0 ≡ digits (high + 1) = omega arith in
      record {
        from = omega arith;
        order = omega arith;
        within = omega arith;
        few = omega arith;
        width = subst (λ i. high + 1 - first < 2 ^ i) (sym all) (omega (arith, below_digits (high + 1) small));
        under = λ z. absurd (omega arith);
        over = λ row lo hi. absurd (omega arith);
        count = let e = ap (λ i. length (halves p k s c i first (high + 1))) all in omega arith;
        row =
            let e : max first (first - 1) ≡ first = omega arith in
            ap (λ b. last_granted p c b (halves p k s c (digits (high + 1) - 0) first (high + 1))) e ∙ ap (λ i. last_granted p c first (halves p k s c i first (high + 1))) all;
      }

  module _ (low past n : ℕ) (now : Going p k s first high c low past n) where
    pub going_room : low < past → n + 1 ≤ digits (high + 1)
    going_room h = omega (arith, some_digit (past - low) (digits (high + 1) - n) (omega arith) now.width, now.few)

    module _ (h : low < past) where
      pub next_grant : p.figure k s (middle low past) ≤ c → halves p k s c (digits (high + 1) - n) low past ≡ (k, s, middle low past) ∷ halves p k s c (digits (high + 1) - (n + 1)) (middle low past + 1) past
      next_grant g =
          let room = going_room h in
          let e : digits (high + 1) - n - 1 ≡ digits (high + 1) - (n + 1) = omega arith in
          halves_grant p k s c (digits (high + 1) - n) low past (omega arith) h g ∙ ap (λ i. begun (k, s, middle low past) (halves p k s c i (middle low past + 1) past)) e

      pub next_refuse : c < p.figure k s (middle low past) → halves p k s c (digits (high + 1) - n) low past ≡ (k, s, middle low past) ∷ halves p k s c (digits (high + 1) - (n + 1)) low (middle low past)
      next_refuse g =
          let room = going_room h in
          let e : digits (high + 1) - n - 1 ≡ digits (high + 1) - (n + 1) = omega arith in
          halves_refuse p k s c (digits (high + 1) - n) low past (omega arith) h g ∙ ap (λ i. begun (k, s, middle low past) (halves p k s c i low (middle low past))) e

      pub going_grant : p.figure k s (middle low past) ≤ c → Going p k s first high c (middle low past + 1) past (n + 1)
      going_grant g =
          let room : n + 1 ≤ digits (high + 1) = going_room h in
          let e : digits (high + 1) - (n + 1) ≡ digits (high + 1) - n - 1 = omega arith in
          let pw : 2 ^ (digits (high + 1) - n) ≡ 2 * 2 ^ (digits (high + 1) - n - 1) = pow_more (digits (high + 1) - n) (omega arith) in
          let same : middle low past + 1 - 1 ≡ middle low past = omega arith in
          let top : max first (middle low past + 1 - 1) ≡ middle low past = omega (arith, now.from) in
          record {
            from = omega (arith, now.from);
            order = omega arith;
            within = now.within;
            few = room;
            width = subst (λ i. past - (middle low past + 1) < 2 ^ i) (sym e) (omega (arith, now.width, pw));
            under = λ _. subst (λ b. p.figure k s b ≤ c) (sym same) g;
            over = now.over;
            count = omega (arith, now.count, ap length (next_grant g));
            row =
                ap (λ b. last_granted p c b (halves p k s c (digits (high + 1) - (n + 1)) (middle low past + 1) past)) top
                ∙ sym (granted_yes p k s c (max first (low - 1)) (middle low past) (halves p k s c (digits (high + 1) - (n + 1)) (middle low past + 1) past) g)
                ∙ ap (last_granted p c (max first (low - 1))) (sym (next_grant g))
                ∙ now.row;
          }

      pub going_refuse : c < p.figure k s (middle low past) → Going p k s first high c low (middle low past) (n + 1)
      going_refuse g =
          let room : n + 1 ≤ digits (high + 1) = going_room h in
          let e : digits (high + 1) - (n + 1) ≡ digits (high + 1) - n - 1 = omega arith in
          let pw : 2 ^ (digits (high + 1) - n) ≡ 2 * 2 ^ (digits (high + 1) - n - 1) = pow_more (digits (high + 1) - n) (omega arith) in
          record {
            from = now.from;
            order = omega arith;
            within = omega (arith, now.within);
            few = room;
            width = subst (λ i. middle low past - low < 2 ^ i) (sym e) (omega (arith, now.width, pw));
            under = now.under;
            over = λ row lo hi.
                let in1 : s ≤ middle low past = omega (arith, now.from) in
                let in2 : middle low past ≤ p.rows = omega (arith, now.within) in
                let in3 : s ≤ row = omega arith in
                let in4 : row ≤ p.rows = omega arith in
                let up = lawful.grows k s (middle low past) s row (fits, in1, in2) (fits, in3, in4) (inr (omega arith, lo)) in
                omega arith;
            count = omega (arith, now.count, ap length (next_refuse g));
            row =
                sym (granted_no p k s c (max first (low - 1)) (middle low past) (halves p k s c (digits (high + 1) - (n + 1)) low (middle low past)) g)
                ∙ ap (last_granted p c (max first (low - 1))) (sym (next_refuse g))
                ∙ now.row;
          }

      -- one question at m, answered with w, the last of n'
      module _ (m w n' granted refused : ℕ) (e : m ≡ middle low past) (en : n' ≡ n + 1) (figs : Figures p k s first high low past granted refused) where
        pub turn_grant : (x : ℕ) → x ≡ m + 1 → w ≡ p.figure k s m → w ≤ c → Going p k s first high c x past n' × Figures p k s first high x past w refused × (halves p k s c (digits (high + 1) - n) low past ≡ (k, s, m) ∷ halves p k s c (digits (high + 1) - n') x past)
        turn_grant x ex v l =
            let g : p.figure k s (middle low past) ≤ c = omega (arith, v, ap (p.figure k s) e) in
            let same : m ≡ x - 1 = omega arith in
            let one = subst (λ y. Going p k s first high c (y + 1) past (n + 1)) (sym e) (going_grant g) in
            let two = subst (λ y. halves p k s c (digits (high + 1) - n) low past ≡ (k, s, y) ∷ halves p k s c (digits (high + 1) - (n + 1)) (y + 1) past) (sym e) (next_grant g) in (
              subst (λ i. Going p k s first high c x past i) (sym en) (subst (λ y. Going p k s first high c y past (n + 1)) (sym ex) one),
              record { yes = λ _. v ∙ ap (p.figure k s) same; no = figs.no },
              subst (λ i. halves p k s c (digits (high + 1) - n) low past ≡ (k, s, m) ∷ halves p k s c (digits (high + 1) - i) x past) (sym en) (subst (λ y. halves p k s c (digits (high + 1) - n) low past ≡ (k, s, m) ∷ halves p k s c (digits (high + 1) - (n + 1)) y past) (sym ex) two),
            )

        pub turn_refuse : w ≡ p.figure k s m → c < w → Going p k s first high c low m n' × Figures p k s first high low m granted w × (halves p k s c (digits (high + 1) - n) low past ≡ (k, s, m) ∷ halves p k s c (digits (high + 1) - n') low m)
        turn_refuse v l =
            let g : c < p.figure k s (middle low past) = omega (arith, v, ap (p.figure k s) e) in
            let one = subst (λ y. Going p k s first high c low y (n + 1)) (sym e) (going_refuse g) in
            let two = subst (λ y. halves p k s c (digits (high + 1) - n) low past ≡ (k, s, y) ∷ halves p k s c (digits (high + 1) - (n + 1)) low y) (sym e) (next_refuse g) in (
              subst (λ i. Going p k s first high c low m i) (sym en) one,
              record { yes = figs.yes; no = λ _. v },
              subst (λ i. halves p k s c (digits (high + 1) - n) low past ≡ (k, s, m) ∷ halves p k s c (digits (high + 1) - i) low m) (sym en) two,
            )

    module _ (h : past ≤ low) where
      end_count : n ≡ length (halving_asks p k s first high c)
      end_count = omega (arith, now.count, ap length (halves_stop p k s c (digits (high + 1) - n) low past h))

      end_row : max first (low - 1) ≡ halving_row p k s first high c
      end_row = sym (granted_end p k s c (max first (low - 1))) ∙ ap (last_granted p c (max first (low - 1))) (sym (halves_stop p k s c (digits (high + 1) - n) low past h)) ∙ now.row

      -- so ended, with row b at figure w
      pub record Ended (b w : ℕ) : Type 0 where
        pub exact : ◌≡◌ {A = ℕ × ℕ × ℕ} (b, w, n) (halved p k s first high c)
        pub furthest : Furthest p k s first high c b w n

      ended_is : (b w : ℕ) → b ≡ max first (low - 1) → w ≡ p.figure k s b → ◌≡◌ {A = ℕ × ℕ × ℕ} (b, w, n) (halved p k s first high c)
      ended_is b w e v =
          let r : b ≡ halving_row p k s first high c = e ∙ end_row in
          let v' : w ≡ p.figure k s (halving_row p k s first high c) = v ∙ ap (p.figure k s) r in
          let m : n ≡ length (halving_asks p k s first high c) = end_count in
          three b (halving_row p k s first high c) w (p.figure k s (halving_row p k s first high c)) n (length (halving_asks p k s first high c)) r v' m

      module _ (granted refused : ℕ) (figs : Figures p k s first high low past granted refused) (some : first ≤ high) where
        pub ended_granted : first < low → Ended (low - 1) granted
        ended_granted l = record {
          exact = ended_is (low - 1) granted (omega arith) (figs.yes l);
          furthest = record {
            from = omega arith;
            within = omega (arith, now.order, now.within);
            worth = figs.yes l;
            furthest = λ row lo hi g. ⊎_elim (λ z. omega arith) (λ q. absurd (omega (arith, now.over row q hi))) (cases_lt row past);
            nowhere = λ z. absurd (omega (arith, figs.yes l, now.under l));
            few = now.few;
          };
        }

        pub ended_refused : low ≤ first → Ended first refused
        ended_refused l =
            let at : past ≡ first = omega (arith, now.from, now.order) in
            let v : refused ≡ p.figure k s first = figs.no (omega arith) ∙ ap (p.figure k s) at in
            record {
              exact = ended_is first refused (omega arith) v;
              furthest = record {
                from = omega arith;
                within = some;
                worth = v;
                furthest = λ row lo hi g. absurd (omega (arith, now.over row (omega arith) hi));
                nowhere = λ z row lo hi. now.over row (omega arith) hi;
                few = now.few;
              };
            }

pub asked_within : (p : Price) (k a b : ℕ) → a ≤ b → b ≤ p.rows → asked p k a b ≡ p.figure k a b
asked_within p k a b h w =
    let e : min b p.rows ≡ b = omega arith in
    let e' : min a (min b p.rows) ≡ a = omega arith in
    ap (λ x. p.figure k x (min b p.rows)) e' ∙ ap (λ x. p.figure k a x) e

-- the same of a cost that means what p says
pub asked_at : (p q : Price) (k a b w : ℕ) → q ≡ p → a ≤ b → b ≤ p.rows → w ≡ asked q k a b → w ≡ p.figure k a b
asked_at p q k a b w e h v is = is ∙ ap (λ x. asked x k a b) e ∙ asked_within p k a b h v

module _ (p : Price) (lawful : Lawful p) (k s first high c : ℕ) (fits : k < 2 ^ 32) (start : s ≤ first) (ends : high ≤ p.rows) (some : first ≤ high) where
  abbrev Found : Type 0
  Found = Furthest p k s first high c (halving_row p k s first high c) (p.figure k s (halving_row p k s first high c)) (length (halving_asks p k s first high c))

  found_stop : (low past n : ℕ) → Going p k s first high c low past n → past ≤ low → Found
  found_stop low past n go h =
      let figs : Figures p k s first high low past (p.figure k s (low - 1)) (p.figure k s past) = record { yes = λ _. refl; no = λ _. refl } in
      ⊎_elim
      (λ l. let e = ended_granted p lawful k s first high c fits start ends low past n go h (p.figure k s (low - 1)) (p.figure k s past) figs some l in subst (λ (x : ℕ × ℕ × ℕ). Furthest p k s first high c x.0 x.1 x.2) e.exact e.furthest)
      (λ l. let e = ended_refused p lawful k s first high c fits start ends low past n go h (p.figure k s (low - 1)) (p.figure k s past) figs some l in subst (λ (x : ℕ × ℕ × ℕ). Furthest p k s first high c x.0 x.1 x.2) e.exact e.furthest)
      (cases_lt first low)

  found_run : (d low past n : ℕ) → digits (high + 1) - n ≡ d → Going p k s first high c low past n → Found
  found_run zero low past n is go =
      let w = rw is at go.width in
      found_stop low past n go (omega arith)
  found_run (suc d) low past n is go =
      ⊎_elim
      (λ h. ⊎_elim
      (λ g. found_run d low (middle low past) (n + 1) (omega arith) (going_refuse p lawful k s first high c fits start ends low past n go h g))
      (λ g. found_run d (middle low past + 1) past (n + 1) (omega arith) (going_grant p lawful k s first high c fits start ends low past n go h g))
      (cases_lt c (p.figure k s (middle low past))))
      (found_stop low past n go)
      (cases_lt low past)

  -- a halving finds the furthest row
  pub halved_so : Found
  halved_so = found_run (digits (high + 1)) first (high + 1) 0 (omega arith) (going_start p lawful k s first high c fits start ends some)

-- more fuel changes nothing
module _ (p : Price) (k s c : ℕ) where
  halves_more : (d e low past : ℕ) → past - low < 2 ^ d → halves p k s c (d + e) low past ≡ halves p k s c d low past
  halves_more zero e low past w = halves_stop p k s c (zero + e) low past (omega arith) ∙ sym (halves_stop p k s c zero low past (omega arith))
  halves_more (suc d) e low past w =
      let pw : 2 ^ suc d ≡ 2 * 2 ^ d = pow-succ' 2 d in
      let e1 : suc d + e - 1 ≡ d + e = omega arith in
      let e2 : suc d - 1 ≡ d = omega arith in
      ⊎_elim
      (λ h. ⊎_elim
      (λ g.
      halves_refuse p k s c (suc d + e) low past (omega arith) h g
      ∙ ap (λ i. begun (k, s, middle low past) (halves p k s c i low (middle low past))) e1
      ∙ ap (begun (k, s, middle low past)) (halves_more d e low (middle low past) (omega arith))
      ∙ sym (halves_refuse p k s c (suc d) low past (omega arith) h g ∙ ap (λ i. begun (k, s, middle low past) (halves p k s c i low (middle low past))) e2))
      (λ g.
      halves_grant p k s c (suc d + e) low past (omega arith) h g
      ∙ ap (λ i. begun (k, s, middle low past) (halves p k s c i (middle low past + 1) past)) e1
      ∙ ap (begun (k, s, middle low past)) (halves_more d e (middle low past + 1) past (omega arith))
      ∙ sym (halves_grant p k s c (suc d) low past (omega arith) h g ∙ ap (λ i. begun (k, s, middle low past) (halves p k s c i (middle low past + 1) past)) e2))
      (cases_lt c (p.figure k s (middle low past))))
      (λ h. halves_stop p k s c (suc d + e) low past h ∙ sym (halves_stop p k s c (suc d) low past h))
      (cases_lt low past)

  pub enough : (low high : ℕ) → high ≤ 1000000 → Enough p k s low high c
  unfolding halving_asks
  enough low high h more = halves_more (digits (high + 1)) more low (high + 1) (omega (arith, below_digits (high + 1) (omega arith)))
