-- What a trial comes to.
use Rattle.std.proofs.Common.{◌≡◌, ℕ, zero, suc, ◌+◌, ◌*◌, ◌^◌, ◌<◌, ◌≤◌, max, true, false, eqb, leb, List, [], ◌∷◌, ◌++◌, length, get_or, take, Ok, Err, sym, refl, ap, ◌∙◌, ⊎_elim, add-mul, mul-le-mul, add-one, arith}
use Rattle.std.proofs.lemmas.Bool.{cond-true, cond-false, cases_lt, eq-eqb, ne_eqb, le-leb, lt-leb, and_from, and_left, and_right}
use Rattle.std.proofs.lemmas.List.{get_or_push, length_push, length-append}
use Rattle.cost.specs.Price.{Price, Lawful}
use Rattle.search.specs.Digits.{digits}
use Rattle.search.specs.Halving.{halving_asks, halving_row, halved, Furthest}
use Rattle.search.specs.Trial.{Trial, goes_on, fails, block, trial_to, succeeds, outcome}
use Rattle.search.proofs.Widths.{digits_rows}
use Rattle.search.proofs.Halves.{halved_so}

module _ (p : Price) (end c : ℕ) where
  pub trial_first : trial_to p end c 0 ≡ record { alive = true; cut = 0 ∷ []; worst = 0; questions = [] }
  unfolding trial_to
  trial_first = refl

  pub trial_next : (k : ℕ) → (trial_to p end c k).alive ≡ true → trial_to p end c (suc k) ≡ block p end c k (get_or (trial_to p end c k).cut k 0) (trial_to p end c k)
  unfolding trial_to
  trial_next k h = cond-true _ _ _ h

  pub trial_stays : (k : ℕ) → (trial_to p end c k).alive ≡ false → trial_to p end c (suc k) ≡ trial_to p end c k
  unfolding trial_to
  trial_stays k h = cond-false _ _ _ h

  -- once failed, a trial stays as it is
  pub trial_dead : (k K : ℕ) → k ≤ K → (trial_to p end c k).alive ≡ false → trial_to p end c K ≡ trial_to p end c k
  trial_dead k zero h f = ap (trial_to p end c) (omega arith)
  trial_dead k (suc K) h f =
      ⊎_elim
      (λ (l : K < k). ap (trial_to p end c) (omega arith))
      (λ l. let e = trial_dead k K l f in trial_stays K (ap (λ (t : Trial). t.alive) e ∙ f) ∙ e)
      (cases_lt K k)

-- what is the front of a list, read off it by its length
pub front_is : (xs w : List ℕ) (k : ℕ) → w ≡ take k xs → length (take k xs) ≡ k → take (length w) xs ≡ w
front_is xs w k e l = ap (λ (v : List ℕ). take (length v) xs) e ∙ ap (λ n. take n xs) l ∙ sym e

-- a trial under way: k blocks done
pub record Walking (p : Price) (end c k : ℕ) (cut : List ℕ) (s worst n : ℕ) : Type 0 where
  pub alive : (trial_to p end c k).alive ≡ true
  pub cut_is : (trial_to p end c k).cut ≡ cut
  pub worst_is : (trial_to p end c k).worst ≡ worst
  pub count : length (trial_to p end c k).questions ≡ n
  pub size : length cut ≡ k + 1
  pub at : get_or cut k 0 ≡ s
  pub within : s ≤ end
  pub few : n ≤ k * digits (end + 1)

pub walking_start : (p : Price) (end c : ℕ) → Walking p end c 0 (0 ∷ []) 0 0 0
unfolding trial_to
walking_start p end c = record { alive = refl; cut_is = refl; worst_is = refl; count = refl; size = refl; at = refl; within = omega arith; few = omega arith }

module _ (p : Price) (lawful : Lawful p) (end c k : ℕ) (fits : k < 2 ^ 32) (ends : end ≤ p.rows) (cut : List ℕ) (s worst n : ℕ) (now : Walking p end c k cut s worst n) where
  next_is : trial_to p end c (k + 1) ≡ block p end c k s (trial_to p end c k)
  next_is =
      ap (trial_to p end c) (add-one k)
      ∙ trial_next p end c k now.alive
      ∙ ap (λ (x : List ℕ). block p end c k (get_or x k 0) (trial_to p end c k)) now.cut_is
      ∙ ap (λ b. block p end c k b (trial_to p end c k)) now.at

  found : Furthest p k s s end c (halving_row p k s s end c) (p.figure k s (halving_row p k s s end c)) (length (halving_asks p k s s end c))
  found = halved_so p lawful k s s end c fits (omega arith) ends now.within

  -- the block's halving answered b, w and m
  module _ (b w m : ℕ) (e : ◌≡◌ {A = ℕ × ℕ × ℕ} (b, w, m) (halved p k s s end c)) where
    row_is : b ≡ halving_row p k s s end c
    row_is = ap (λ (x : ℕ × ℕ × ℕ). x.0) e

    figure_is : w ≡ p.figure k s (halving_row p k s s end c)
    figure_is = ap (λ (x : ℕ × ℕ × ℕ). x.1) e

    count_is : m ≡ length (halving_asks p k s s end c)
    count_is = ap (λ (x : ℕ × ℕ × ℕ). x.2) e

    asks_more : (t : Trial) → trial_to p end c (k + 1) ≡ t → t.questions ≡ (trial_to p end c k).questions ++ halving_asks p k s s end c → length (trial_to p end c (k + 1)).questions ≡ n + m
    asks_more t is q =
        ap (λ (x : Trial). length x.questions) is ∙ ap length q ∙ length-append (trial_to p end c k).questions (halving_asks p k s s end c) ∙ omega (arith, now.count, count_is)

    few_more : n + m ≤ (k + 1) * digits (end + 1)
    few_more = omega (arith, add-mul k 1 (digits (end + 1)), now.few, count_is, found.few)

    pub walking_few : (K : ℕ) → k < K → K ≤ 1024 → n + m ≤ 20480
    walking_few K h h' =
        let most : (k + 1) * digits (end + 1) ≤ 1024 * 20 = let few : k + 1 ≤ 1024 = omega arith in mul-le-mul few (digits_rows end (omega (arith, ends, lawful.few))) in
        omega (arith, few_more)

    module _ (l : w ≤ c) where
      went : trial_to p end c (k + 1) ≡ goes_on (trial_to p end c k) (halving_row p k s s end c) (p.figure k s (halving_row p k s s end c)) (halving_asks p k s s end c)
      went = next_is ∙ cond-true (leb (p.figure k s (halving_row p k s s end c)) c) _ _ (le-leb (p.figure k s (halving_row p k s s end c)) c (omega (arith, figure_is)))

      pub walking_asks : (trial_to p end c (k + 1)).questions ≡ (trial_to p end c k).questions ++ halving_asks p k s s end c
      walking_asks = ap (λ (x : Trial). x.questions) went

      pub walking_next : Walking p end c (k + 1) (cut ++ (b ∷ [])) b (max worst w) (n + m)
      walking_next = record {
        alive = ap (λ (x : Trial). x.alive) went;
        cut_is = ap (λ (x : Trial). x.cut) went ∙ ap (λ (x : List ℕ). x ++ (halving_row p k s s end c ∷ [])) now.cut_is ∙ ap (λ x. cut ++ (x ∷ [])) (sym row_is);
        worst_is = ap (λ (x : Trial). x.worst) went ∙ ap (λ x. max x (p.figure k s (halving_row p k s s end c))) now.worst_is ∙ ap (max worst) (sym figure_is);
        count = asks_more (goes_on (trial_to p end c k) (halving_row p k s s end c) (p.figure k s (halving_row p k s s end c)) (halving_asks p k s s end c)) went refl;
        size = length_push cut b ∙ ap (λ x. x + 1) now.size;
        at = get_or_push cut b 0 (k + 1) now.size;
        within = omega (arith, row_is, found.within);
        few = few_more;
      }

    module _ (l : c < w) (K : ℕ) (h : k < K) where
      died : trial_to p end c (k + 1) ≡ fails (trial_to p end c k) (halving_asks p k s s end c)
      died = next_is ∙ cond-false (leb (p.figure k s (halving_row p k s s end c)) c) _ _ (lt-leb (p.figure k s (halving_row p k s s end c)) c (omega (arith, figure_is)))

      ended : trial_to p end c K ≡ fails (trial_to p end c k) (halving_asks p k s s end c)
      ended = trial_dead p end c (k + 1) K (omega arith) (ap (λ (x : Trial). x.alive) died) ∙ died

      pub failed_asks : (trial_to p end c K).questions ≡ (trial_to p end c k).questions ++ halving_asks p k s s end c
      failed_asks = ap (λ (x : Trial). x.questions) ended

      pub failed_cut : (trial_to p end c K).cut ≡ cut
      failed_cut = ap (λ (x : Trial). x.cut) ended ∙ now.cut_is

      pub failed_is : Err (n + m) ≡ outcome end K (trial_to p end c K)
      failed_is =
          let t = trial_to p end c K in
          let dead : t.alive ≡ false = ap (λ (x : Trial). x.alive) ended in
          let count : length t.questions ≡ n + m = ap (λ (x : Trial). length x.questions) (ended ∙ sym died) ∙ asks_more (fails (trial_to p end c k) (halving_asks p k s s end c)) died refl in
          sym (cond-false (succeeds end K t) _ _ (and_left t.alive (eqb (get_or t.cut K 0) end) dead) ∙ ap Err count)

-- a trial that has done all its blocks
module _ (p : Price) (end c K : ℕ) (cut : List ℕ) (s worst n : ℕ) (now : Walking p end c K cut s worst n) where
  last_is : get_or (trial_to p end c K).cut K 0 ≡ s
  last_is = ap (λ (x : List ℕ). get_or x K 0) now.cut_is ∙ now.at

  pub reached_is : s ≡ end → Ok (worst, n) ≡ outcome end K (trial_to p end c K)
  reached_is h =
      let t = trial_to p end c K in
      let two : ◌≡◌ {A = ℕ × ℕ} (t.worst, length t.questions) (worst, n) = let a = now.worst_is in let b = now.count in cc in
      sym (cond-true (succeeds end K t) _ _ (and_from t.alive (eqb (get_or t.cut K 0) end) now.alive (eq-eqb (get_or t.cut K 0) end (last_is ∙ h))) ∙ ap Ok two)

  pub short_is : (s ≡ end → ⊥) → Err n ≡ outcome end K (trial_to p end c K)
  short_is h =
      let t = trial_to p end c K in
      sym (cond-false (succeeds end K t) _ _ (and_right t.alive (eqb (get_or t.cut K 0) end) (ne_eqb (get_or t.cut K 0) end (λ e. h (sym last_is ∙ e)))) ∙ ap Err now.count)
