-- A trial keeps the numbers of a search in their ranges.
use Rattle.std.proofs.Common.{◌≡◌, ℕ, ◌+◌, ◌-◌, ◌*◌, ◌^◌, ◌<◌, ◌≤◌, Bool, true, false, cond, List, length, Ok, Err, Result, sym, ap, ◌∙◌, ⊎_elim, mul-le-mul_right, mul-le-mul, arith, pow_mono}
use Rattle.std.proofs.lemmas.Bool.{cases_lt, cases_Bool, cond-true, cond-false, true≢false}
use Rattle.cost.specs.Price.{Price, Lawful}
use Rattle.search.specs.Digits.{digits}
use Rattle.search.specs.Trial.{Trial, succeeds, outcome}
use Rattle.search.specs.Play.{View, trial_at, gained, lost, tried, Fair}
use Rattle.search.specs.Sane.{Ranges, Counts}
use Rattle.search.proofs.Widths.{digits_rows}
use Rattle.search.proofs.Sounds.{trial_low, trial_stands, trial_few, gap_half, gap_less}

abbrev ok_in : Result (ℕ × ℕ) ℕ → Bool
ok_in (Ok x) = true
ok_in (Err n) = false

abbrev figure_in : Result (ℕ × ℕ) ℕ → ℕ
figure_in (Ok x) = x.0
figure_in (Err n) = 0

abbrev count_in : Result (ℕ × ℕ) ℕ → ℕ
count_in (Ok x) = x.1
count_in (Err n) = n

-- what the answer of a trial tells
module _ (end K : ℕ) (t : Trial) where
  pub record Won (figure n : ℕ) : Type 0 where
    pub reached : true ≡ succeeds end K t
    pub worst : figure ≡ t.worst
    pub questions : n ≡ length t.questions

  pub record Failed (n : ℕ) : Type 0 where
    pub reached : false ≡ succeeds end K t
    pub questions : n ≡ length t.questions

  reached_is : succeeds end K t ≡ true → outcome end K t ≡ Ok (t.worst, length t.questions)
  reached_is a = cond-true (succeeds end K t) _ _ a

  failed_is : succeeds end K t ≡ false → outcome end K t ≡ Err (length t.questions)
  failed_is a = cond-false (succeeds end K t) _ _ a

  pub won : (figure n : ℕ) → Ok (figure, n) ≡ outcome end K t → Won figure n
  won figure n e =
      ⊎_elim
      (λ a. let d = e ∙ reached_is a in record { reached = sym a; worst = ap figure_in d; questions = ap count_in d })
      (λ a. absurd (true≢false (ap ok_in (e ∙ failed_is a))))
      (cases_Bool (succeeds end K t))

  pub failed : (n : ℕ) → Err n ≡ outcome end K t → Failed n
  failed n e =
      ⊎_elim
      (λ a. absurd (true≢false (sym (ap ok_in (e ∙ reached_is a)))))
      (λ a. record { reached = sym a; questions = ap count_in (e ∙ failed_is a) })
      (cases_Bool (succeeds end K t))

module _ (p : Price) (lawful : Lawful p) (K c : ℕ) (few : K ≤ 1024) where
  pub few_asks : (n : ℕ) → n ≡ length (trial_at p K c).questions → n ≤ 20480
  few_asks n e =
      let most : K * digits (p.rows + 1) ≤ 1024 * 20 = mul-le-mul few (digits_rows p.rows lawful.few) in
      omega (arith, trial_few p lawful K c (omega arith))

  pub won_low : (figure n : ℕ) → Won p.rows K (trial_at p K c) figure n → figure ≤ c
  won_low figure n h = omega (arith, h.worst, trial_low p lawful K c (omega arith) (sym h.reached))

  pub won_size : (figure n : ℕ) → Won p.rows K (trial_at p K c) figure n → length (trial_at p K c).cut ≡ K + 1
  won_size figure n h = (trial_stands p lawful K c (omega arith) c (omega arith) (sym h.reached)).is_cut.size

-- so few trials make a gap close
few_advances : (g t X : ℕ) → 0 < g → g * 2 ^ t ≤ X → X ≤ 2 ^ 60 → t ≤ 60
few_advances g t X h l w =
    ⊎_elim
    (λ (z : 60 < t). absurd (
    let one : 1 * 2 ^ t ≤ g * 2 ^ t = let h' : 1 ≤ g = omega arith in mul-le-mul_right (2 ^ t) h' in
    let z' : 61 ≤ t = omega arith in
    let up : 2 ^ 61 ≤ 2 ^ t = pow_mono z' in
    omega arith))
    (λ z. z)
    (cases_lt 60 t)

module _ (C : ℕ) (cap : C < 2 ^ 60) (s : View) (ranges : Ranges C s.floor s.figure s.advances) (counts : Counts s.advances s.tries s.questions) (c : ℕ) (above : s.floor ≤ c) (under : c < s.figure) where
  pub ranges_gained : (b : Bool) → Fair b s c → (x : ℕ) → x ≡ cond b 1 0 → (w : ℕ) → w ≤ c → Ranges C s.floor w (s.advances + x)
  ranges_gained true fair x e w l = (ranges.0, omega (arith, ranges.1), rw e (gap_half (w - s.floor) (s.figure - s.floor) s.advances (C + 1) (omega (arith, fair)) ranges.2))
  ranges_gained false fair x e w l = (ranges.0, omega (arith, ranges.1), rw e (gap_less (w - s.floor) (s.figure - s.floor) s.advances (C + 1) (omega arith) ranges.2))

  pub ranges_lost : (b : Bool) → Fair b s c → (x : ℕ) → x ≡ cond b 1 0 → (f : ℕ) → f ≡ c + 1 → Ranges C f s.figure (s.advances + x)
  ranges_lost true fair x e f v = (omega (arith, ranges.1), ranges.1, rw e (gap_half (s.figure - f) (s.figure - s.floor) s.advances (C + 1) (omega (arith, fair)) ranges.2))
  ranges_lost false fair x e f v = (omega (arith, ranges.1), ranges.1, rw e (gap_less (s.figure - f) (s.figure - s.floor) s.advances (C + 1) (omega arith) ranges.2))

  few_now : s.advances ≤ 60
  few_now = few_advances (s.figure - s.floor) s.advances (C + 1) (omega arith) ranges.2 (omega arith)

  pub counts_next : (b : Bool) → Fair b s c → (x y : ℕ) → x ≡ cond b 1 0 → y ≡ cond b 0 1 → (n : ℕ) → n ≤ 20480 → Counts (s.advances + x) (s.tries + y) (s.questions + n)
  counts_next true fair x y e e' n l = (omega (arith, few_now), omega (arith, counts.1), omega (arith, counts.2))
  counts_next false fair x y e e' n l = (omega (arith, few_now), omega (arith, fair), omega (arith, counts.2))

-- the search after a trial, as its parts are
module _ (p : Price) (K c : ℕ) (s : View) (b : Bool) (x y n : ℕ) (xe : x ≡ cond b 1 0) (ye : y ≡ cond b 0 1) where
  pub gained_is : (figure : ℕ) (cut : List ℕ) → Won p.rows K (trial_at p K c) figure n → cut ≡ (trial_at p K c).cut → ◌≡◌ {A = View} (record { floor = s.floor; figure = figure; stands = true; cut = cut; advances = s.advances + x; tries = s.tries + y; questions = s.questions + n }) (tried p K c b s)
  unfolding tried
  gained_is figure cut h e = sym (cond-true (succeeds p.rows K (trial_at p K c)) (gained b s (trial_at p K c)) (lost b c s (trial_at p K c)) (sym h.reached) ∙ cc)

  pub lost_is : (f : ℕ) → f ≡ c + 1 → Failed p.rows K (trial_at p K c) n → ◌≡◌ {A = View} (record { floor = f; figure = s.figure; stands = s.stands; cut = s.cut; advances = s.advances + x; tries = s.tries + y; questions = s.questions + n }) (tried p K c b s)
  unfolding tried
  lost_is f v h = sym (cond-false (succeeds p.rows K (trial_at p K c)) (gained b s (trial_at p K c)) (lost b c s (trial_at p K c)) (sym h.reached) ∙ cc)
