-- Distinct columns are counted by codes.
use Rattle.std.proofs.Common.{◌≡◌, ℕ, zero, suc, ◌+◌, ◌-◌, ◌<◌, ◌≤◌, Bool, true, false, cond, not, ◌&&◌, ◌||◌, eqb, leb, List, [], ◌∷◌, ◌++◌, map, length, get_or, take, drop, count_by, sym, refl, ap, ◌∙◌, subst, ⊎_elim, arith}
use Rattle.std.specs.List.{between}
use Rattle.std.proofs.lemmas.List.{append_assoc, length-append, take_at, drop_at}
use Rattle.std.proofs.lemmas.List.Sums.{sum_by-append, sum_by-cons}
use Rattle.std.proofs.Math.Bool.{or-false, or-true}
use Rattle.std.proofs.lemmas.Bool.{cases_eq, cases_Bool, eq-eqb, ne_eqb, le-leb, lt-leb, eqb-true}
use Rattle.pattern.specs.Columns.{among, columns_in, distinct_columns, size_below}
use Rattle.pattern.specs.Sparsity.{Lawful, Sparsity, entries_between, row_at, row_count}
use Rattle.pattern.proofs.Sets.{among_append, columns_more, columns_none, size_none, size_same}
use Rattle.table.specs.Codes.{code, codes, codes_to}
use Rattle.table.specs.Laws.{DistinctLaw}
use Rattle.table.proofs.Nearness.{code_le}
use Rattle.table.proofs.Runs.{codes_length, codes_more, grown, grown_to}

abbrev one : Bool → ℕ
one b = cond b 1 0

-- a code of at most a says that no row from a on has the column
code_seen : (s : Sparsity) (a d c : ℕ) → a + d ≤ row_count s → leb (code s (a + d) c) a ≡ not (among (columns_in s a (a + d)) c)
unfolding code
code_seen s a zero c h =
    let e : a + 0 ≡ a = omega arith in
    ap (λ x. leb (code s x c) a) e ∙ le-leb (code s a c) a (code_le s a c)
    ∙ ap (λ l. not (among l c)) (sym (ap (λ x. columns_in s a x) e ∙ columns_none s a))
code_seen s a (suc d) c h =
    let i = a + d in
    let e : a + suc d ≡ suc (a + d) = omega arith in
    let f : a + suc d ≡ a + d + 1 = omega arith in
    let m : among (columns_in s a (a + suc d)) c ≡ (among (columns_in s a i) c || among (row_at s i) c) =
    ap (λ x. among (columns_in s a x) c) f ∙ ap (λ l. among l c) (columns_more s a i (omega arith) (omega arith)) ∙ among_append (columns_in s a i) (row_at s i) c in
    ap (λ x. leb (code s x c) a) e
    ∙ ⊎_elim
    (λ (y : among (row_at s i) c ≡ true).
    ap (λ x. leb (cond x (suc i) (code s i c)) a) y ∙ lt-leb (suc i) a (omega arith)
    ∙ sym (ap not (m ∙ ap (λ x. among (columns_in s a i) c || x) y ∙ or-true (among (columns_in s a i) c))))
    (λ (n : among (row_at s i) c ≡ false).
    ap (λ x. leb (cond x (suc i) (code s i c)) a) n ∙ code_seen s a d c (omega arith)
    ∙ sym (ap not (m ∙ ap (λ x. among (columns_in s a i) c || x) n ∙ or-false (among (columns_in s a i) c))))
    (cases_Bool (among (row_at s i) c))

-- two sets of numbers that have none in common
size_add : (p q r : ℕ → Bool) → ((c : ℕ) → one (p c) ≡ one (q c) + one (r c)) → (n : ℕ) → size_below n p ≡ size_below n q + size_below n r
size_add p q r h zero = refl
size_add p q r h (suc n) = omega (arith, size_add p q r h n, h n)

-- a set of at most one number
size_one : (p : ℕ → Bool) (x n : ℕ) → x < n → size_below n (λ c. eqb x c && p c) ≡ one (p x)
size_one p x zero h = absurd (none h)
  where
    none : x < 0 → ⊥
    none l = omega arith
size_one p x (suc n) h =
    ⊎_elim
    (λ (e : x ≡ n).
    let z = size_same n (λ c. eqb x c && p c) (λ c. false) (λ c l. ap (λ b. b && p c) (ne_eqb x c (λ q. omega arith))) in
    let y = ap (λ b. one (b && p n)) (eq-eqb x n e) in
    omega (arith, z, size_none n, y, ap (λ w. one (p w)) e))
    (λ (m : x ≡ n → ⊥).
    let y = ap (λ b. one (b && p n)) (ne_eqb x n m) in
    omega (arith, y, size_one p x n (less x n h m)))
    (cases_eq x n)
  where
    less : (x n : ℕ) → x < suc n → (x ≡ n → ⊥) → x < n
    less x n l m = omega arith

-- a list that rises, from lo on
unfoldable pub Rising : ℕ → List ℕ → Type 0
Rising lo [] = Unit {0}
Rising lo (x ∷ xs) = (lo ≤ x) × Rising (x + 1) xs

rising_none : (lo : ℕ) (xs : List ℕ) → Rising lo xs → (c : ℕ) → c < lo → among xs c ≡ false
unfolding Rising
rising_none lo [] u c h = refl
rising_none lo (x ∷ xs) u c h =
    ap (λ b. b || among xs c) (ne_eqb x c (λ e. omega (arith, u.0))) ∙ rising_none (x + 1) xs u.1 c (omega (arith, u.0))

pub rising_from : (xs : List ℕ) (lo : ℕ) → (0 < length xs → lo ≤ get_or xs 0 0) → ((k : ℕ) → k + 1 < length xs → get_or xs k 0 < get_or xs (k + 1) 0) → Rising lo xs
unfolding Rising
rising_from [] lo h f = tt
rising_from (x ∷ xs) lo h f = (
  h (omega arith),
  rising_from xs (x + 1) (λ l. let g = f 0 (omega arith) in omega arith) (λ k l. next k (f (k + 1) (omega arith))),
)
  where
    next : (k : ℕ) → get_or (x ∷ xs) (k + 1) 0 < get_or (x ∷ xs) (k + 1 + 1) 0 → get_or xs k 0 < get_or xs (k + 1) 0
    next k g =
        let a : k + 1 ≡ suc k = omega arith in
        let b : k + 1 + 1 ≡ suc (k + 1) = omega arith in
        omega (arith, ap (λ i. get_or (x ∷ xs) i 0) a, ap (λ i. get_or (x ∷ xs) i 0) b)

-- the columns of a row that pass, counted over the row and over all columns
row_size : (p : ℕ → Bool) (n lo : ℕ) (xs : List ℕ) → Rising lo xs → ((k : ℕ) → k < length xs → get_or xs k 0 < n)
    → size_below n (λ c. among xs c && p c) ≡ count_by p xs
unfolding Rising
row_size p n lo [] u b = size_none n
row_size p n lo (x ∷ xs) u b =
    let ih = row_size p n (x + 1) xs u.1 (λ k l. b (suc k) (omega arith)) in
    let o = size_one p x n (b 0 (omega arith)) in
    let s = size_add (λ c. (eqb x c || among xs c) && p c) (λ c. eqb x c && p c) (λ c. among xs c && p c) (split x xs u.1) n in
    omega (arith, ih, o, s, sum_by-cons (λ c. one (p c)) x xs)
  where
    split : (x : ℕ) (xs : List ℕ) → Rising (x + 1) xs → (c : ℕ)
        → one ((eqb x c || among xs c) && p c) ≡ one (eqb x c && p c) + one (among xs c && p c)
    split x xs v c =
        ⊎_elim
        (λ (y : eqb x c ≡ true).
        let e = eqb-true x c y in
        let m = rising_none (x + 1) xs v c (omega arith) in
        omega (arith, ap (λ b. one ((b || among xs c) && p c)) y, ap (λ b. one (b && p c)) y, ap (λ b. one (b && p c)) m))
        (λ (m : eqb x c ≡ false).
        omega (arith, ap (λ b. one ((b || among xs c) && p c)) m, ap (λ b. one (b && p c)) m))
        (cases_Bool (eqb x c))

count_map : (f : ℕ → ℕ) (p : ℕ → Bool) (xs : List ℕ) → count_by p (map f xs) ≡ count_by (λ x. p (f x)) xs
count_map f p [] = refl
count_map f p (x ∷ xs) = omega (arith, sum_by-cons (λ c. one (p c)) (f x) (map f xs), sum_by-cons (λ c. one (p (f c))) x xs, count_map f p xs)

module _ (s : Sparsity) (lawful : Lawful s) (a : ℕ) where
  -- the low codes up to a row are those up to row a, and one for each distinct column since
  counted : (d : ℕ) → a + d ≤ row_count s
      → count_by (λ x. leb x a) (codes_to s (a + d)) ≡ count_by (λ x. leb x a) (codes_to s a) + distinct_columns s a (a + d)
  counted zero h =
      let e : a + 0 ≡ a = omega arith in
      let n : distinct_columns s a (a + 0) ≡ 0 =
      ap (λ x. size_below s.column_count (among x)) (ap (λ x. columns_in s a x) e ∙ columns_none s a) ∙ size_none s.column_count in
      omega (arith, ap (λ x. count_by (λ y. leb y a) (codes_to s x)) e, n)
  counted (suc d) h =
      let i = a + d in
      let n = s.column_count in
      let r = row_at s i in
      let old = among (columns_in s a i) in
      let f : a + suc d ≡ i + 1 = omega arith in
      let ih = counted d (omega arith) in
      let z = size_same n (among (columns_in s a (i + 1))) (λ c. old c || among r c)
      (λ c l. ap (λ l. among l c) (columns_more s a i (omega arith) (omega arith)) ∙ among_append (columns_in s a i) r c) in
      let t = size_add (λ c. old c || among r c) old (λ c. among r c && not (old c)) (λ c. split (old c) (among r c)) n in
      let u = row_size (λ c. not (old c)) n 0 r (rising_from r 0 (λ l. omega arith) (lawful.ordered i).1) (lawful.ordered i).0 in
      let m = count_map (code s i) (λ x. leb x a) r in
      let k = ap (λ (p : ℕ → Bool). count_by p r) (mathlib.Core.Path.fun_ext (λ c. code_seen s a d c (omega arith))) in
      let p = sum_by-append (λ x. one (leb x a)) (codes_to s i) (map (code s i) r) in
      let q = ap (λ l. count_by (λ x. leb x a) l) (codes_more s i) in
      subst (λ x. count_by (λ y. leb y a) (codes_to s x) ≡ count_by (λ y. leb y a) (codes_to s a) + distinct_columns s a x) (sym f)
      (omega (arith, ih, z, t, u, m, k, p, q))
    where
      split : (x y : Bool) → one (x || y) ≡ one x + one (y && not x)
      split true true = refl
      split true false = refl
      split false true = refl
      split false false = refl

pub distinct-law : DistinctLaw
distinct-law s lawful a b h l =
    let A = codes_to s a in
    let e : a + (b - a) ≡ b = omega arith in
    let t = grown (codes_to s) (λ j. map (code s j) (row_at s j)) (row_count s) (λ j k. codes_more s j) a (b - a) (omega arith) in
    let u = grown_to (codes_to s) (λ j. map (code s j) (row_at s j)) (row_count s) (λ j k. codes_more s j) b l in
    let B : codes_to s b ≡ A ++ t.0 = ap (λ x. codes_to s x) (sym e) ∙ t.1 in
    let c = subst (λ x. count_by (λ y. leb y a) (codes_to s x) ≡ count_by (λ y. leb y a) A + distinct_columns s a x) e (counted s lawful a (b - a) (omega arith)) in
    let p = sum_by-append (λ x. one (leb x a)) A t.0 in
    let la = codes_length s a (omega arith) in
    let lb = codes_length s b l in
    let n : entries_between s 0 b - entries_between s 0 a ≡ length t.0 = omega (arith, ap length B, length-append A t.0) in
    let w : codes s ≡ A ++ (t.0 ++ u.0) = u.1 ∙ ap (λ x. x ++ u.0) B ∙ append_assoc A t.0 u.0 in
    let m : between (entries_between s 0 a) (entries_between s 0 b) (codes s) ≡ t.0 =
    ap (λ x. take (entries_between s 0 b - entries_between s 0 a) (drop (entries_between s 0 a) x)) w
    ∙ ap (λ x. take (entries_between s 0 b - entries_between s 0 a) x) (drop_at A (t.0 ++ u.0) (entries_between s 0 a) la)
    ∙ take_at t.0 u.0 (entries_between s 0 b - entries_between s 0 a) (sym n) in
    omega (arith, c, p, ap (λ x. count_by (λ y. leb y a) x) B, ap (λ x. count_by (λ y. leb y a) x) m)
