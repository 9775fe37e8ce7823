-- The whole table: its length, and its words from its parts.
use Rattle.std.proofs.Common.{◌≡◌, ℕ, zero, suc, ◌+◌, ◌*◌, ◌<◌, ◌≤◌, List, [], ◌∷◌, ◌++◌, length, get_or, take, drop, sym, refl, ap, ◌∙◌, ap₂, suc-mul, zero-mul, arith}
use Rattle.std.specs.List.{between}
use Rattle.std.proofs.lemmas.List.FromFn.{length-map-range_with_len, get_or-map-range_with_len}
use Rattle.std.proofs.lemmas.List.{drop_at, ext_get_or, get_or_append_left, get_or-take, length-append, length-take-le, take-append-drop}
use Rattle.std.proofs.lemmas.Slice.{between_to_end}
use Rattle.levels.specs.Layouts.{Reaches, end_of}
use Rattle.levels.specs.Numbers.{level, levels, plane, sorted}
use Rattle.levels.specs.declared.layout.Layout.{Layout}
use Rattle.levels.proofs.Ends.{ends_is}
use Rattle.levels.proofs.Leveled.{length_level}
use Rattle.pattern.specs.Sparsity.{Sparsity, entries_between, row_count}
use Rattle.table.specs.Codes.{codes}
use Rattle.table.specs.Heads.{Sized, Started}
use Rattle.table.specs.Stores.{LaidOut}
use Rattle.table.specs.Words.{total_entries, starts, table_words}

length_levels : (b t : ℕ) (cs : List ℕ) → length (levels b t cs) ≡ t * (2 * b + 2)
unfolding levels
length_levels b zero cs = sym (zero-mul (2 * b + 2))
length_levels b (suc t) cs =
    omega (arith, length-append (level b (plane t cs)) (levels b t (sorted t cs)), length_level b (plane t cs) [], length_levels b t (sorted t cs), suc-mul t (2 * b + 2))

module _ (s : Sparsity) where
  -- the sizes and the row starts
  heads : List ℕ
  heads = row_count s ∷ s.column_count ∷ total_entries s ∷ starts s

  length_heads : length heads ≡ 4 + row_count s
  unfolding heads
  length_heads = omega (arith, length-map-range_with_len (λ i. entries_between s 0 i) 0 (row_count s + 1))

  module _ (l : Layout) (laid : LaidOut s l) where
    -- the levels, by the layout
    tail : List ℕ
    tail = levels l.words l.bits (codes s)

    words_split : table_words s ≡ heads ++ tail
    unfolding heads tail
    words_split =
        ap₂ (λ x y. row_count s ∷ s.column_count ∷ total_entries s ∷ (starts s ++ levels x y (codes s))) (sym laid.worded) (sym laid.digited)

    pub words_length : length (table_words s) ≡ end_of l
    unfolding tail
    words_length =
        ap length words_split ∙ length-append heads tail
        ∙ omega (arith, length_heads, length_levels l.words l.bits (codes s), ends_is l.words l.bits l.start, laid.starting)

    pub heads_fit : 4 + row_count s ≤ length (table_words s)
    heads_fit = omega (arith, words_length, ends_is l.words l.bits l.start, laid.starting)

    -- memory of the table's length reaches as far as its levels
    pub table_reaches : (ws : List ℕ) → length ws ≡ length (table_words s) → Reaches l ws
    table_reaches ws e = omega (arith, words_length, e)

    -- memory of the table's length is the table where its front and its levels are the table's
    pub parts_table : (is : List ℕ) → length is ≡ end_of l → Sized s is → Started s is
        → between l.start (end_of l) is ≡ levels l.words l.bits (codes s) → is ≡ table_words s
    unfolding heads tail
    parts_table is n sized started leveled =
        let m = 4 + row_count s in
        let h : m ≤ length is = omega (arith, ends_is l.words l.bits l.start, laid.starting) in
        let front : take m is ≡ heads =
        ext_get_or 0 (take m is) heads (length-take-le m is h ∙ sym length_heads)
        (λ i k. let j : i < m = omega (arith, length-take-le m is h) in get_or-take m is i 0 j ∙ at i j) in
        let back : drop m is ≡ tail =
        sym (between_to_end is m (end_of l) (omega arith)) ∙ ap (λ x. between x (end_of l) is) (sym laid.starting) ∙ leveled in
        sym (take-append-drop m is) ∙ ap₂ (λ x y. x ++ y) front back ∙ sym words_split
      where
        at : (i : ℕ) → i < 4 + row_count s → get_or is i 0 ≡ get_or heads i 0
        at zero k = sized.0
        at (suc zero) k = sized.1
        at (suc (suc zero)) k = sized.2
        at (suc (suc (suc i))) k =
            let e : suc (suc (suc i)) ≡ 3 + i = omega arith in
            ap (λ x. get_or is x 0) e ∙ started i (omega arith)
            ∙ sym (get_or-map-range_with_len (λ j. entries_between s 0 j) 0 (row_count s + 1) i i 0 (omega arith) (omega arith))

    -- and only there
    pub table_sized : Sized s (table_words s)
    table_sized = (refl, refl, refl)

    pub table_started : Started s (table_words s)
    unfolding heads
    table_started i h =
        ap (λ x. get_or x (3 + i) 0) words_split
        ∙ get_or_append_left heads tail 0 (3 + i) (omega (arith, length_heads))
        ∙ (let e : 3 + i ≡ suc (suc (suc i)) = omega arith in ap (λ x. get_or heads x 0) e)
        ∙ get_or-map-range_with_len (λ j. entries_between s 0 j) 0 (row_count s + 1) i i 0 (omega arith) (omega arith)

    pub table_leveled : between l.start (end_of l) (table_words s) ≡ levels l.words l.bits (codes s)
    unfolding tail
    table_leveled =
        between_to_end (table_words s) l.start (end_of l) (omega (arith, words_length))
        ∙ ap (λ x. drop l.start x) words_split ∙ drop_at heads tail l.start (length_heads ∙ sym laid.starting)
