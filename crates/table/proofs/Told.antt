-- The words of a pattern's table tell of the pattern.
use Rattle.std.proofs.Common.{◌≡◌, ℕ, zero, suc, ◌+◌, ◌-◌, ◌*◌, ◌/◌, ◌%◌, ◌^◌, ◌<◌, ◌≤◌, min, Bool, ltb, leb, List, [], ◌∷◌, map, length, get_or, take, sum, count_by, sym, refl, ap, ◌∙◌, subst, ap₂, ⊎_elim, mod-eq_of_lt, arith}
use mathlib.Core.Logic.{∥∥₁_elim}
use native.Mathlib.Bridge.{le_prop}
use native.Mathlib.Nat.{ℕ_set}
use Rattle.std.specs.List.{between}
use Rattle.std.proofs.lemmas.List.FromFn.{length-map-range_with_len, get_or-map-range_with_len}
use Rattle.std.proofs.lemmas.List.{ext_get_or, get_or_append_left, get_or-append_right, get_or_default, get_or-take}
use Rattle.std.proofs.lemmas.List.Edits.{between_none}
use Rattle.std.proofs.lemmas.Bool.{cases_lt, le-leb, le-ltb, lt-leb, lt-ltb}
use Rattle.levels.specs.Layouts.{Has, Reaches, end_of}
use Rattle.levels.specs.Numbers.{AllBelow, numbers_below, digits, levels}
use Rattle.levels.specs.Traces.{Traced, onward}
use Rattle.levels.specs.declared.layout.Layout.{Layout}
use Rattle.levels.proofs.Digits.{digits_hold}
use Rattle.levels.proofs.Regions.{between_cong}
use Rattle.levels.proofs.Traces.{levels_traced}
use Rattle.levels.proofs.Values.{low_split}
use Rattle.pattern.specs.Columns.{among, columns_in, distinct_columns, size_below}
use Rattle.pattern.specs.Sparsity.{Lawful, Sparsity, entries_between, row_at, row_count, row_counts}
use Rattle.pattern.proofs.Sets.{columns_clipped, size_le}
use Rattle.pattern.proofs.Spans.{entries_clipped, sum_between, sum_between_le}
use Rattle.table.specs.Codes.{code, codes, codes_to}
use Rattle.table.specs.Stores.{LaidOut}
use Rattle.table.specs.Told.{SomeTable, told_codes, told_distinct, number_down, told_rows, told_start}
use Rattle.table.specs.Words.{IsTable, total_entries, table_words}
use Rattle.table.proofs.Distincts.{distinct-law}
use Rattle.table.proofs.Nearness.{code_le}
use Rattle.table.proofs.Stored.{codes_total}
use Rattle.table.proofs.Wholes.{heads_fit, table_leveled, table_started, words_length}

-- a number whose bits stand on the way down is the one that is read there
traced_down : (b t : ℕ) (ws : List ℕ) (at q c : ℕ) → Traced b t ws at q c → number_down b t ws at q ≡ c % 2 ^ t
unfolding Traced number_down
traced_down b zero ws at q c h = omega arith
traced_down b (suc t) ws at q c h =
    ap₂ (λ x y. x * 2 ^ t + y) h.0 (traced_down b t ws (at + (2 * b + 2)) (onward ws at q) c h.1) ∙ sym (low_split t c)

-- no code is above the number of rows
map_small : (f : ℕ → ℕ) (m : ℕ) → ((x : ℕ) → f x ≤ m) → (xs : List ℕ) (k : ℕ) → get_or (map f xs) k 0 ≤ m
map_small f m h [] k = omega arith
map_small f m h (x ∷ xs) zero = h x
map_small f m h (x ∷ xs) (suc k) = map_small f m h xs k

codes_small : (s : Sparsity) (i q : ℕ) → get_or (codes_to s i) q 0 ≤ i
unfolding codes_to
codes_small s zero q = omega arith
codes_small s (suc i) q =
    ⊎_elim
    (λ (l : q < length (codes_to s i)). omega (arith, get_or_append_left (codes_to s i) (map (code s i) (row_at s i)) 0 q l, codes_small s i q))
    (λ (l : length (codes_to s i) ≤ q).
    omega (
      arith,
      get_or-append_right (codes_to s i) (map (code s i) (row_at s i)) (length (codes_to s i)) q 0 refl l,
      map_small (code s i) i (code_le s i) (row_at s i) (q - length (codes_to s i)),
    ))
    (cases_lt q (length (codes_to s i)))

-- as many numbers are below a + 1 as are at most a
below_most : (a : ℕ) (xs : List ℕ) → numbers_below (a + 1) xs ≡ count_by (λ x. leb x a) xs
below_most a xs = ap (λ (p : ℕ → Bool). count_by p xs) (mathlib.Core.Path.fun_ext same)
  where
    same : (x : ℕ) → ltb x (a + 1) ≡ leb x a
    same x = ⊎_elim (λ (l : x < a + 1). lt-ltb x (a + 1) l ∙ sym (le-leb x a (omega arith))) (λ (l : a + 1 ≤ x). le-ltb x (a + 1) l ∙ sym (lt-leb x a (omega arith))) (cases_lt x (a + 1))

-- a run of no rows has no columns
pub told_none : (ws : List ℕ) (a : ℕ) → told_distinct ws a a ≡ 0
told_none ws a = ap (count_by (λ x. leb x a)) (between_none (told_codes ws) (told_start ws a))

module _ (s : Sparsity) (law : Lawful s) where
  pub few_entries : (a b : ℕ) → entries_between s a b ≤ 16777216
  few_entries a b = omega (arith, sum_between_le (row_counts s) a b, law.entries)

  from_first : (b : ℕ) → entries_between s 0 b ≡ sum (take b (row_counts s))
  from_first b = let e : b - 0 ≡ b = omega arith in ap (λ x. sum (take x (row_counts s))) e

  -- where its levels stand
  pub layout : Layout
  layout = record {
    start = 4 + row_count s;
    count = total_entries s;
    words = (total_entries s + 63) / 64;
    bits = digits (row_count s);
    near = omega (arith, law.height);
    enough = (omega arith, omega arith);
    few = (omega (arith, few_entries 0 (row_count s)), (digits_hold (row_count s) (omega (arith, law.height))).1);
  }

  laid : LaidOut s layout
  unfolding layout
  laid = record { starting = refl; counted = refl; worded = refl; digited = refl }

  module _ (ws : List ℕ) (is : IsTable s ws) where
    pub long_enough : length (table_words s) ≤ length ws
    long_enough = omega (arith, simp lib.ListN.length-take at (ap length is))

    word_told : (i : ℕ) → i < length (table_words s) → get_or ws i 0 ≡ get_or (table_words s) i 0
    word_told i h = sym (get_or-take (length (table_words s)) ws i 0 h) ∙ ap (λ x. get_or x i 0) is

    pub front_fits : 4 + row_count s ≤ length ws
    front_fits = omega (arith, heads_fit s layout laid, long_enough)

    pub rows_told : told_rows ws ≡ row_count s
    rows_told = word_told 0 (omega (arith, heads_fit s layout laid))

    pub entries-told : get_or ws 2 0 ≡ total_entries s
    entries-told = word_told 2 (omega (arith, heads_fit s layout laid))

    pub start-told : (i : ℕ) → i ≤ row_count s → told_start ws i ≡ entries_between s 0 i
    start-told i h = word_told (3 + i) (omega (arith, heads_fit s layout laid)) ∙ table_started s layout laid i h

    module _ (l : Layout) (at : LaidOut s l) where
      leveled_told : between l.start (end_of l) ws ≡ levels l.words l.bits (codes s)
      leveled_told =
          let n = words_length s l at in
          between_cong ws (table_words s) l.start (end_of l) (omega (arith, long_enough)) (omega arith) (λ i a h. word_told i (omega arith))
          ∙ table_leveled s l at

      small : (q : ℕ) → get_or (codes s) q 0 < 2 ^ l.bits
      small q =
          let h : row_count s < 2 ^ l.bits = subst (λ x. row_count s < 2 ^ x) (sym at.digited) (digits_hold (row_count s) (omega (arith, law.height))).0 in
          omega (arith, codes_small s (row_count s) q)

      reaches : Reaches l ws
      reaches = omega (arith, words_length s l at, long_enough)

      pub has_codes : Reaches l ws × Has l ws (codes s) × AllBelow (2 ^ l.bits) (codes s)
      has_codes = (reaches, (codes_total s ∙ sym at.counted, leveled_told), λ q h. small q)

      number_told : (q : ℕ) → q < total_entries s → number_down l.words l.bits ws l.start q ≡ get_or (codes s) q 0
      number_told q h =
          let e = codes_total s in
          let c = at.counted in
          traced_down l.words l.bits ws l.start q (get_or (codes s) q 0)
          ((levels_traced ws l.words l.bits (codes s) l.start (omega (arith, l.enough.0)) reaches leveled_told).1 q (omega arith))
          ∙ mod-eq_of_lt (small q)

    pub codes_told : told_codes ws ≡ codes s
    unfolding layout
    codes_told =
        let f = number_down ((get_or ws 2 0 + 63) / 64) (digits (told_rows ws)) ws (4 + told_rows ws) in
        let n = length-map-range_with_len f 0 (get_or ws 2 0) in
        ext_get_or 0 (told_codes ws) (codes s) (n ∙ entries-told ∙ sym (codes_total s))
        (λ i h.
        let k : i < total_entries s = omega (arith, entries-told) in
        get_or-map-range_with_len f 0 (get_or ws 2 0) i i 0 (omega arith) (omega arith)
        ∙ ap₂ (λ x y. number_down ((x + 63) / 64) (digits y) ws (4 + y) i) entries-told rows_told
        ∙ number_told layout laid i k)

    pub distinct-told : (a b : ℕ) → a ≤ b → b ≤ row_count s → told_distinct ws a b ≡ distinct_columns s a b
    distinct-told a b h l =
        ap₂ (λ x y. count_by (λ c. leb c a) (between x y (told_codes ws))) (start-told a (omega arith)) (start-told b l)
        ∙ ap (λ x. count_by (λ c. leb c a) (between (entries_between s 0 a) (entries_between s 0 b) x)) codes_told
        ∙ sym (distinct-law s law a b h l)

    pub few_told : (a b : ℕ) → a ≤ b → b ≤ row_count s → told_distinct ws a b ≤ 1000000
    few_told a b h l = omega (arith, distinct-told a b h l, size_le s.column_count (among (columns_in s a b)), law.width)

    -- any rows that are asked for, clipped
    pub distinct_value : (a b : ℕ) → told_distinct ws (min a (min b (told_rows ws))) (min b (told_rows ws)) ≡ distinct_columns s a b
    distinct_value a b =
        ap (λ x. told_distinct ws (min a (min b x)) (min b x)) rows_told
        ∙ distinct-told (min a (min b (row_count s))) (min b (row_count s)) (omega arith) (omega arith)
        ∙ ap (λ x. size_below s.column_count (among x)) (columns_clipped s a b)

    pub entries_within : (a b : ℕ) → a ≤ b → b ≤ row_count s → told_start ws b - told_start ws a ≡ entries_between s a b
    entries_within a b h l =
        ap₂ (λ u v. u - v) (start-told b l) (start-told a (omega arith)) ∙ omega (arith, from_first a, from_first b, sum_between (row_counts s) a b h)

    pub entries_value : (a b : ℕ) → told_start ws (min b (told_rows ws)) - told_start ws (min a (min b (told_rows ws))) ≡ entries_between s a b
    entries_value a b =
        ap (λ m. told_start ws (min b m) - told_start ws (min a (min b m))) rows_told
        ∙ entries_within (min a (min b (row_count s))) (min b (row_count s)) (omega arith) (omega arith) ∙ entries_clipped s a b

    -- a count of the codes below from + 1 is the count of distinct columns
    pub counted_told : (l : Layout) → LaidOut s l → (r from to start end bound : ℕ) → from ≤ to → to ≤ row_count s → start ≡ told_start ws from → end ≡ told_start ws to
        → bound ≡ from + 1 → bound < 2 ^ l.bits
        → ((cs : List ℕ) → Reaches l ws → Has l ws cs → AllBelow (2 ^ l.bits) cs → bound < 2 ^ l.bits → start ≤ end → end ≤ l.count → r ≡ numbers_below bound (between start end cs))
        → r ≡ told_distinct ws from to
    counted_told l at r from to start end bound h k p q e fits count =
        let has = has_codes l at in
        let rise = sum_between (row_counts s) from to h in
        let all = sum_between (row_counts s) to (row_count s) k in
        let c = at.counted in
        let a = start-told from (omega arith) ∙ from_first from in
        let b = start-told to k ∙ from_first to in
        let d = from_first (row_count s) in
        count (codes s) has.0 has.1 has.2 fits (omega arith) (omega arith)
        ∙ ap (λ x. numbers_below x (between start end (codes s))) e
        ∙ below_most from (between start end (codes s))
        ∙ ap₂ (λ x y. count_by (λ c. leb c from) (between x y (codes s))) p q
        ∙ ap (λ x. count_by (λ c. leb c from) (between (told_start ws from) (told_start ws to) x)) (sym codes_told)

-- what holds of a table of any pattern
module _ (ws : List ℕ) (table : SomeTable ws) where
  pub some_front : 4 + told_rows ws ≤ length ws
  some_front = ∥∥₁_elim table le_prop (λ t. omega (arith, front_fits t.0 t.1.0 ws t.1.1, rows_told t.0 t.1.0 ws t.1.1))

  -- a word of the front that was read
  pub some_word : (i x : ℕ) → i < 4 + told_rows ws → x ≡ get_or ws i x → x ≡ get_or ws i 0
  some_word i x h e = e ∙ get_or_default ws i x 0 (omega (arith, some_front))

  pub some_rows : told_rows ws ≤ 1000000
  some_rows = ∥∥₁_elim table le_prop (λ t. omega (arith, rows_told t.0 t.1.0 ws t.1.1, t.1.0.height))

  pub some_entries : get_or ws 2 0 ≤ 16777216
  some_entries = ∥∥₁_elim table le_prop (λ t. omega (arith, entries-told t.0 t.1.0 ws t.1.1, few_entries t.0 t.1.0 0 (row_count t.0)))

  pub some_start : (i : ℕ) → i ≤ told_rows ws → told_start ws i ≤ 16777216
  some_start i h =
      ∥∥₁_elim table le_prop (λ t.
      let r = rows_told t.0 t.1.0 ws t.1.1 in
      omega (arith, start-told t.0 t.1.0 ws t.1.1 i (omega arith), few_entries t.0 t.1.0 0 i))

  pub some_few : (a b : ℕ) → a ≤ b → b ≤ told_rows ws → told_distinct ws a b ≤ 1000000
  some_few a b h l =
      ∥∥₁_elim table le_prop (λ t. let r = rows_told t.0 t.1.0 ws t.1.1 in few_told t.0 t.1.0 ws t.1.1 a b h (omega arith))

  pub some_counted : (vs : List ℕ) → vs ≡ ws → (l : Layout) (r from to start end bound : ℕ) → from < to → to ≤ told_rows ws → start ≡ told_start ws from → end ≡ told_start ws to
      → bound ≡ from + 1 → l.start ≡ 4 + told_rows ws → l.count ≡ get_or ws 2 0 → l.words ≡ (get_or ws 2 0 + 63) / 64 → l.bits ≡ digits (told_rows ws) → told_rows ws < 2 ^ l.bits
      → ((cs : List ℕ) → Reaches l vs → Has l vs cs → AllBelow (2 ^ l.bits) cs → bound < 2 ^ l.bits → start ≤ end → end ≤ l.count → r ≡ numbers_below bound (between start end cs))
      → r ≡ told_distinct ws from to
  some_counted vs same l r from to start end bound h k p q e st co wo bi hold count =
      ∥∥₁_elim table (ℕ_set _ _) (λ t.
      let rows = rows_told t.0 t.1.0 ws t.1.1 in
      let entries = entries-told t.0 t.1.0 ws t.1.1 in
      counted_told t.0 t.1.0 ws t.1.1 l
      (record { starting = st ∙ ap (λ x. 4 + x) rows; counted = co ∙ entries; worded = wo ∙ ap (λ x. (x + 63) / 64) entries; digited = bi ∙ ap digits rows })
      r from to start end bound (omega arith) (omega arith) p q e (omega arith) (λ cs a b. count cs (subst (Reaches l) (sym same) a) (subst (λ x. Has l x cs) (sym same) b)))
