-- What the lists of a checked pattern say of its rows.
use Rattle.std.proofs.Common.{◌≡◌, ℕ, ◌+◌, ◌-◌, ◌<◌, ◌≤◌, min, List, [], length, get_or, vec_items, ◌∙◌, refl, sym, subst, arith}
use Rattle.std.specs.List.{between}
use Rattle.std.proofs.lemmas.List.{get_or_default, get_or_past}
use Rattle.std.proofs.lemmas.List.Edits.{get_or-between, length-between}
use Rattle.pattern.specs.Sparsity.{column_at, row_at, row_count, entry_count, entries_between}
use Rattle.pattern.proofs.Spans.{entries_clipped}
use Rattle.stored.specs.Judged.{sparsity_of}
use Rattle.stored.specs.Rows.{bounds_at, bounds_end, bounds_row, climbs_to, count_le, entries_is, height_is, row_past}
use Rattle.stored.specs.declared.lists.Stored.{Stored}

module _ (s : Stored) where
  abbrev starts : List ℕ
  starts = vec_items s.lists.starts

  abbrev columns : List ℕ
  columns = vec_items s.lists.columns

  pub height : row_count (sparsity_of s) + 1 ≡ length starts
  height = omega (arith, height_is s.lists.width starts columns, s.framed.0)

  pub few : (i : ℕ) → entry_count (sparsity_of s) i ≤ 16777216
  few i = omega (arith, count_le s.lists.width starts columns s.framed s.climbing i, s.sized.2)

  pub past : (i : ℕ) → length starts ≤ i + 1 → row_at (sparsity_of s) i ≡ []
  past i h = row_past s.lists.width starts columns i h

  -- of starts that are listed from a row's own on, the next one is within the columns
  pub end : (i : ℕ) (w : List ℕ) → 2 ≤ length w → w ≡ between i (length starts) starts → length w + i ≡ length starts
      → get_or w 1 0 ≤ length columns
  end i w two e l = bounds_end s.lists.width starts columns s.framed s.climbing i w (bounds_at starts i w two e l)

  pub listed : (i : ℕ) (w : List ℕ) → 2 ≤ length w → w ≡ between i (length starts) starts → length w + i ≡ length starts
      → between (get_or w 0 0) (get_or w 1 0) columns ≡ row_at (sparsity_of s) i
  listed i w two e l = bounds_row s.lists.width starts columns s.framed s.climbing i w (bounds_at starts i w two e l)

  pub rising : (i : ℕ) (w : List ℕ) → 2 ≤ length w → w ≡ between i (length starts) starts → length w + i ≡ length starts
      → get_or w 0 0 ≤ get_or w 1 0
  rising i w two e l = let b = bounds_at starts i w two e l in rw (b.from, b.to) (s.climbing i b.within)

  -- a place of the row that begins there is within the columns, and has the row's column
  pub inside : (i place : ℕ) (w : List ℕ) → 2 ≤ length w → w ≡ between i (length starts) starts → length w + i ≡ length starts
      → place < get_or w 1 0 - get_or w 0 0 → get_or w 0 0 + place < length columns
  inside i place w two e l h = omega (arith, end i w two e l)

  pub column_is : (i place : ℕ) (w : List ℕ) → 2 ≤ length w → w ≡ between i (length starts) starts → length w + i ≡ length starts
      → place < get_or w 1 0 - get_or w 0 0 → get_or columns (get_or w 0 0 + place) 0 ≡ column_at (sparsity_of s) i place
  column_is i place w two e l h =
      subst (λ row. get_or columns (get_or w 0 0 + place) 0 ≡ get_or row place s.lists.width) (listed i w two e l)
      (get_or_default columns (get_or w 0 0 + place) 0 s.lists.width (inside i place w two e l h)
      ∙ sym (get_or-between columns (get_or w 0 0) (get_or w 1 0) place s.lists.width (omega arith)))

  -- past the row's end, and where there is no row, it is the number of columns
  pub column_past : (i place : ℕ) (w : List ℕ) → 2 ≤ length w → w ≡ between i (length starts) starts → length w + i ≡ length starts
      → get_or w 1 0 - get_or w 0 0 ≤ place → s.lists.width ≡ column_at (sparsity_of s) i place
  column_past i place w two e l h =
      subst (λ row. s.lists.width ≡ get_or row place s.lists.width) (listed i w two e l)
      (sym (get_or_past (between (get_or w 0 0) (get_or w 1 0) columns) place s.lists.width
      (omega (arith, length-between columns (get_or w 0 0) (get_or w 1 0) (end i w two e l)))))

  pub no_column : (i place : ℕ) → length starts ≤ i + 1 → s.lists.width ≡ column_at (sparsity_of s) i place
  no_column i place h = rw (past i h) refl

  -- a later start is no smaller, and what lies between two starts is what the rows between have
  pub climb : (i j : ℕ) → i ≤ j → j < length starts → get_or starts i 0 ≤ get_or starts j 0
  climb i j h l = climbs_to starts s.climbing i j h l

  pub cut : (a b : ℕ)
      → entries_between (sparsity_of s) a b ≡ get_or starts (min b (row_count (sparsity_of s))) 0 - get_or starts (min a (min b (row_count (sparsity_of s)))) 0
  cut a b =
      let n = row_count (sparsity_of s) in
      sym (entries_is s.lists.width starts columns s.framed s.climbing (min a (min b n)) (min b n) (omega arith) (omega (arith, height))
      ∙ entries_clipped (sparsity_of s) a b)
