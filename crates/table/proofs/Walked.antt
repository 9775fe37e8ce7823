-- The steps of a walk over the entries.
use Rattle.std.proofs.Common.{◌≡◌, ℕ, zero, suc, ◌+◌, ◌-◌, ◌<◌, ◌≤◌, Bool, true, false, cond, ◌&&◌, ◌||◌, eqb, ltb, leb, List, [], ◌∷◌, length, get_or, take, set, Some, None, sym, refl, ap, ◌∙◌, ⊎_elim, add-one, arith}
use Rattle.std.proofs.lemmas.List.{get_or_default, get_or_past, get_or-set_same, get_or-set_other, length-set, take_all, take_more}
use Rattle.std.proofs.Math.Bool.{and-false, or-false, or-true}
use Rattle.std.proofs.lemmas.Bool.{cases_lt, cases_eq, eq-eqb, ne_eqb, le-leb, lt-leb, lt-ltb, le-ltb}
use Rattle.pattern.specs.Columns.{among}
use Rattle.pattern.specs.Sparsity.{Lawful, Sparsity, entries_between, entry_count, row_at, row_count, row_counts}
use Rattle.pattern.proofs.Sets.{among_push}
use Rattle.pattern.proofs.Spans.{entries_more, sum_between_grows}
use Rattle.table.specs.Codes.{code, codes}
use Rattle.table.specs.Walks.{Knows, Stands, column_of, position, shown, windowed}
use Rattle.table.specs.Words.{total_entries}
use Rattle.table.specs.declared.cursor.Cursor.{Cursor}
use Rattle.table.proofs.Distincts.{Rising, rising_from}
use Rattle.table.proofs.Runs.{code_at, column-at}

-- ---- from row to row

module _ (s : Sparsity) (c n : Cursor) (st : Stands s c) (end : c.size ≤ c.place) (er : n.row ≡ c.row + 1) (ep : n.place ≡ 0)
    (es : n.size ≡ entry_count s (c.row + 1))
  where
    -- a row that is done is not past the last, where an entry is left
    pub row_below : position s c < entries_between s 0 (row_count s) → c.row < row_count s
    row_below m =
        ⊎_elim (λ l. l)
        (λ (l : row_count s ≤ c.row).
        let e : c.row ≡ row_count s = omega (arith, st.within) in
        let z : entry_count s c.row ≡ 0 = ap length (get_or_past s.rows c.row [] l) in
        absurd (none z (ap (λ x. entries_between s 0 x) e)))
        (cases_lt c.row (row_count s))
      where
        none : entry_count s c.row ≡ 0 → entries_between s 0 c.row ≡ entries_between s 0 (row_count s) → ⊥
        none z e = omega (arith, st.sized, st.placed)

    pub stands_row : c.row < row_count s → Stands s n
    stands_row l = record {
      within = omega arith;
      sized = es ∙ ap (entry_count s) (sym er);
      placed = omega arith;
    }

    pub position_row : c.row < row_count s → position s n ≡ position s c
    position_row l = omega (arith, entries_more s 0 c.row (omega arith) l, st.sized, st.placed, ap (λ r. entries_between s 0 r) er)

    pub knows_row : (first : ℕ) (window : List ℕ) → Knows s c first window → Knows s n first window
    unfolding code
    knows_row first window f d m =
        f d m
        ∙ ap (λ xs. cond (among xs (first + d)) (suc c.row) (code s c.row (first + d))) (take_all c.place (row_at s c.row) (omega (arith, st.sized)))
        ∙ sym (ap (λ k. cond (among (take k (row_at s n.row)) (first + d)) (suc n.row) (code s n.row (first + d))) ep
        ∙ ap (λ x. code s x (first + d)) (er ∙ add-one c.row))

-- ---- the start

module _ (s : Sparsity) (c : Cursor) (er : c.row ≡ 0) (ep : c.place ≡ 0) (es : c.size ≡ entry_count s 0) where
  pub stands_start : Stands s c
  stands_start = record {
    within = omega arith;
    sized = es ∙ ap (entry_count s) (sym er);
    placed = omega arith;
  }

  pub position_start : position s c ≡ 0
  position_start = omega (arith, ap (λ r. entries_between s 0 r) er)

  pub knows_start : (first : ℕ) (window : List ℕ) → ((d : ℕ) → d < length window → get_or window d 0 ≡ 0) → Knows s c first window
  unfolding code
  knows_start first window f d m =
      f d m
      ∙ sym (ap (λ k. cond (among (take k (row_at s c.row)) (first + d)) (suc c.row) (code s c.row (first + d))) ep
      ∙ ap (λ r. code s r (first + d)) er)

-- ---- within a row

rising_ge : (lo : ℕ) (xs : List ℕ) → Rising lo xs → (k : ℕ) → k < length xs → lo ≤ get_or xs k 0
unfolding Rising
rising_ge lo [] u k h = absurd (none h)
  where
    none : k < 0 → ⊥
    none l = omega arith
rising_ge lo (x ∷ xs) u zero h = u.0
rising_ge lo (x ∷ xs) u (suc k) h = omega (arith, u.0, rising_ge (x + 1) xs u.1 k (omega arith))

-- in a list that rises, none is among those before it
fresh : (lo : ℕ) (xs : List ℕ) → Rising lo xs → (k : ℕ) → k < length xs → among (take k xs) (get_or xs k 0) ≡ false
unfolding Rising
fresh lo [] u zero h = refl
fresh lo [] u (suc k) h = refl
fresh lo (x ∷ xs) u zero h = refl
fresh lo (x ∷ xs) u (suc k) h =
    let g = rising_ge (x + 1) xs u.1 k (omega arith) in
    ap (λ b. b || among (take k xs) (get_or xs k 0)) (ne_eqb x (get_or xs k 0) (λ e. omega arith)) ∙ fresh (x + 1) xs u.1 k (omega arith)

-- the next place of a row
abbrev pub onward : Cursor → Cursor
onward c = record { row = c.row; place = c.place + 1; size = c.size }

module _ (s : Sparsity) (lawful : Lawful s) (c : Cursor) (st : Stands s c) (more : c.place < c.size) (x : ℕ) (ex : x ≡ get_or (row_at s c.row) c.place s.column_count) where
  here : c.place < entry_count s c.row
  here = omega (arith, st.sized)

  row_within : c.row < row_count s
  row_within =
      ⊎_elim (λ l. l)
      (λ (l : row_count s ≤ c.row). absurd (none (ap length (get_or_past s.rows c.row [] l))))
      (cases_lt c.row (row_count s))
    where
      none : entry_count s c.row ≡ 0 → ⊥
      none z = omega (arith, here)

  pub stands_onward : Stands s (onward c)
  stands_onward = record { within = st.within; sized = st.sized; placed = omega arith }

  pub position_left : position s c + 1 ≤ total_entries s
  position_left =
      omega (
        arith,
        here,
        entries_more s 0 c.row (omega arith) row_within,
        sum_between_grows (row_counts s) 0 (c.row + 1) 0 (row_count s) (omega arith) (omega arith) (omega (arith, row_within)),
      )

  x_is : x ≡ get_or (row_at s c.row) c.place 0
  x_is = ex ∙ get_or_default (row_at s c.row) c.place s.column_count 0 here

  unseen : among (take c.place (row_at s c.row)) x ≡ false
  unseen =
      ap (λ y. among (take c.place (row_at s c.row)) y) x_is
      ∙ fresh 0 (row_at s c.row) (rising_from (row_at s c.row) 0 (λ z. omega arith) (lawful.ordered c.row).1) c.place here

  among_more : (e : ℕ) → among (take (c.place + 1) (row_at s c.row)) e ≡ (among (take c.place (row_at s c.row)) e || eqb x e)
  among_more e =
      ap (λ xs. among xs e) (take_more (row_at s c.row) c.place 0 here)
      ∙ among_push (take c.place (row_at s c.row)) (get_or (row_at s c.row) c.place 0) e
      ∙ ap (λ y. among (take c.place (row_at s c.row)) e || eqb y e) (sym x_is)

  module _ (first : ℕ) (window : List ℕ) (knows : Knows s c first window) where
    -- what the window should have after the step, by what it should have before it
    before : ℕ → Bool
    before d = among (take c.place (row_at s c.row)) (first + d)

    after : (d : ℕ) (b : Bool) → eqb x (first + d) ≡ b
        → cond (among (take (c.place + 1) (row_at s c.row)) (first + d)) (suc c.row) (code s c.row (first + d))
        ≡ cond (before d || b) (suc c.row) (code s c.row (first + d))
    unfolding before
    after d b e = ap (λ y. cond y (suc c.row) (code s c.row (first + d))) (among_more (first + d) ∙ ap (λ y. before d || y) e)

    -- a column that is not in the window changes nothing that the window knows
    pub knows_past : ((d : ℕ) → d < length window → x ≡ first + d → ⊥) → Knows s (onward c) first window
    unfolding before
    knows_past out d m =
        knows d m
        ∙ sym (after d false (ne_eqb x (first + d) (out d m)) ∙ ap (λ b. cond b (suc c.row) (code s c.row (first + d))) (or-false (before d)))

    pub knows_here : (d v : ℕ) → d < length window → x ≡ first + d → v ≡ c.row + 1 → Knows s (onward c) first (set window d v)
    unfolding before
    knows_here d v m q ev e r =
        ⊎_elim
        (λ (z : e ≡ d).
        ap (λ y. get_or (set window d v) y 0) z ∙ get_or-set_same window d v 0 m ∙ ev ∙ add-one c.row
        ∙ sym (after e true (eq-eqb x (first + e) (omega arith)) ∙ ap (λ b. cond b (suc c.row) (code s c.row (first + e))) (or-true (before e))))
        (λ (z : e ≡ d → ⊥).
        get_or-set_other window d e v 0 z ∙ knows e (simp length-set at r)
        ∙ sym (after e false (ne_eqb x (first + e) (λ y. z (omega arith))) ∙ ap (λ b. cond b (suc c.row) (code s c.row (first + e))) (or-false (before e))))
        (cases_eq e d)

    column_here : column_of s (position s c) ≡ x
    column_here = column-at s c.row c.place s.column_count row_within here ∙ sym ex

    code_here : get_or (codes s) (position s c) 0 ≡ code s c.row x
    code_here = code_at s c.row c.place row_within here ∙ ap (code s c.row) (sym x_is)

    pub shown_here : (d : ℕ) → d < length window → x ≡ first + d → Some (get_or window d 0) ≡ shown s first (length window) (position s c)
    shown_here d m q =
        let w : windowed first (length window) (column_of s (position s c)) ≡ true =
        ap (windowed first (length window)) column_here
        ∙ ap (λ b. b && ltb x (first + length window)) (le-leb first x (omega arith)) ∙ lt-ltb x (first + length window) (omega arith) in
        let v : get_or window d 0 ≡ get_or (codes s) (position s c) 0 =
        knows d m ∙ ap (λ y. cond (among (take c.place (row_at s c.row)) y) (suc c.row) (code s c.row y)) (sym q)
        ∙ ap (λ b. cond b (suc c.row) (code s c.row x)) unseen ∙ sym code_here in
        ap (λ y. Some y) v ∙ sym (ap (λ b. cond b (Some (get_or (codes s) (position s c) 0)) None) w)

    pub shown_past : ((d : ℕ) → d < length window → x ≡ first + d → ⊥) → None ≡ shown s first (length window) (position s c)
    shown_past out =
        let w : windowed first (length window) (column_of s (position s c)) ≡ false = ap (windowed first (length window)) column_here ∙ outer in
        sym (ap (λ b. cond b (Some (get_or (codes s) (position s c) 0)) None) w)
      where
        outer : windowed first (length window) x ≡ false
        outer =
            ⊎_elim
            (λ (l : x < first). ap (λ b. b && ltb x (first + length window)) (lt-leb first x l))
            (λ (l : first ≤ x).
            ⊎_elim
            (λ (k : x < first + length window). absurd (out (x - first) (omega arith) (omega arith)))
            (λ (k : first + length window ≤ x). ap (λ b. leb first x && b) (le-ltb x (first + length window) k) ∙ and-false (leb first x))
            (cases_lt x (first + length window)))
            (cases_lt x first)
