-- The columns and the codes of the entries, row after row.
use Rattle.std.proofs.Common.{◌≡◌, ℕ, zero, suc, ◌+◌, ◌-◌, ◌<◌, ◌≤◌, min, List, [], ◌∷◌, ◌++◌, map, length, get_or, sym, refl, ap, ◌∙◌, subst, ⊎_elim, add-one, arith}
use Rattle.std.specs.List.{range_with_len}
use Rattle.std.proofs.lemmas.List.{append-nil, append_assoc, length-append, length-map, get_or_append_left, get_or-append-add, get_or-map, get_or_past}
use Rattle.std.proofs.lemmas.Bool.{cases_lt}
use Rattle.pattern.specs.Columns.{columns_in}
use Rattle.pattern.specs.Sparsity.{Sparsity, entries_between, entry_count, row_at, row_count}
use Rattle.pattern.proofs.Sets.{columns_none, columns_more}
use Rattle.pattern.proofs.Spans.{entries_clipped, entries_more}
use Rattle.table.specs.Codes.{code, codes, codes_to}
use Rattle.table.specs.Heads.{starts_from}

-- lists of which each is the one before it and some more
module _ (F f : ℕ → List ℕ) (m : ℕ) (more : (i : ℕ) → i < m → F (i + 1) ≡ F i ++ f i) where
  pub grown : (i d : ℕ) → i + d ≤ m → (rest : List ℕ) × (F (i + d) ≡ F i ++ rest)
  grown i zero h = ([], let e : i + 0 ≡ i = omega arith in ap F e ∙ sym (append-nil (F i)))
  grown i (suc d) h =
      let t = grown i d (omega arith) in
      let e : i + suc d ≡ i + d + 1 = omega arith in
      (t.0 ++ f (i + d), ap F e ∙ more (i + d) (omega arith) ∙ ap (λ l. l ++ f (i + d)) t.1 ∙ append_assoc (F i) t.0 (f (i + d)))

  -- the last of them, from one on
  pub grown_to : (i : ℕ) → i ≤ m → (rest : List ℕ) × (F m ≡ F i ++ rest)
  grown_to i h =
      let e : i + (m - i) ≡ m = omega arith in
      let t = grown i (m - i) (omega arith) in (t.0, ap F (sym e) ∙ t.1)

  -- what part i has at place k
  grown_at : (i k d : ℕ) → i < m → k < length (f i) → get_or (F m) (length (F i) + k) d ≡ get_or (f i) k d
  grown_at i k d h l =
      let t = grown_to (i + 1) (omega arith) in
      let n = length-append (F i) (f i) in
      ap (λ x. get_or x (length (F i) + k) d) (t.1 ∙ ap (λ x. x ++ t.0) (more i h))
      ∙ get_or_append_left (F i ++ f i) t.0 d (length (F i) + k) (omega arith)
      ∙ get_or-append-add (F i) (f i) k d

module _ (s : Sparsity) where
  pub codes_more : (i : ℕ) → codes_to s (i + 1) ≡ codes_to s i ++ map (code s i) (row_at s i)
  unfolding codes_to
  codes_more i = ap (λ x. codes_to s x) (add-one i)

  codes_none : codes_to s 0 ≡ []
  unfolding codes_to
  codes_none = refl

  -- the entries before the next row, the last included
  pub entries_next : (i : ℕ) → i ≤ row_count s → entries_between s 0 (i + 1) ≡ entries_between s 0 i + entry_count s i
  entries_next i h =
      ⊎_elim (λ (l : i < row_count s). entries_more s 0 i (omega arith) l)
      (λ (l : row_count s ≤ i).
      let a : min (i + 1) (row_count s) ≡ i = omega arith in
      let b : min 0 i ≡ 0 = omega arith in
      let n : entry_count s i ≡ 0 = ap length (get_or_past s.rows i [] l) in
      omega (
        arith,
        n,
        entries_clipped s 0 (i + 1),
        ap (λ x. entries_between s (min 0 x) x) a,
        ap (λ x. entries_between s x i) b,
      ))
      (cases_lt i (row_count s))

  -- as many codes as entries, up to each row
  pub codes_length : (i : ℕ) → i ≤ row_count s → length (codes_to s i) ≡ entries_between s 0 i
  codes_length zero h = ap length codes_none
  codes_length (suc i) h =
      let e : suc i ≡ i + 1 = omega arith in
      subst (λ x. length (codes_to s x) ≡ entries_between s 0 x) (sym e)
      (omega (
        arith,
        ap length (codes_more i),
        length-append (codes_to s i) (map (code s i) (row_at s i)),
        length-map (row_at s i) (code s i),
        entries_more s 0 i (omega arith) (omega arith),
        codes_length i (omega arith),
      ))

  -- as many columns, up to each row
  pub columns_length : (i : ℕ) → i ≤ row_count s → length (columns_in s 0 i) ≡ entries_between s 0 i
  columns_length zero h = ap length (columns_none s 0)
  columns_length (suc i) h =
      let e : suc i ≡ i + 1 = omega arith in
      subst (λ x. length (columns_in s 0 x) ≡ entries_between s 0 x) (sym e)
      (omega (
        arith,
        ap length (columns_more s 0 i (omega arith) (omega arith)),
        length-append (columns_in s 0 i) (row_at s i),
        entries_more s 0 i (omega arith) (omega arith),
        columns_length i (omega arith),
      ))

  -- the code and the column of the entry at place k of row i
  pub code_at : (i k : ℕ) → i < row_count s → k < entry_count s i → get_or (codes s) (entries_between s 0 i + k) 0 ≡ code s i (get_or (row_at s i) k 0)
  code_at i k h l =
      ap (λ x. get_or (codes s) (x + k) 0) (sym (codes_length i (omega arith)))
      ∙ grown_at (codes_to s) (λ j. map (code s j) (row_at s j)) (row_count s) (λ j a. codes_more j) i k 0 h (omega (arith, length-map (row_at s i) (code s i)))
      ∙ get_or-map (code s i) (row_at s i) k 0 0 l

  pub column-at : (i k d : ℕ) → i < row_count s → k < entry_count s i → get_or (columns_in s 0 (row_count s)) (entries_between s 0 i + k) d ≡ get_or (row_at s i) k d
  column-at i k d h l =
      ap (λ x. get_or (columns_in s 0 (row_count s)) (x + k) d) (sym (columns_length i (omega arith)))
      ∙ grown_at (columns_in s 0) (row_at s) (row_count s) (λ j a. columns_more s 0 j (omega arith) a) i k d h l

  -- the row starts from row n on begin with row n, if there is one
  starts_more : (n : ℕ) → n ≤ row_count s → starts_from s n ≡ (n, entries_between s 0 n) ∷ starts_from s (n + 1)
  starts_more n h =
      let z : row_count s + 1 - n ≡ suc (row_count s - n) = omega arith in
      let y : row_count s - n ≡ row_count s + 1 - (n + 1) = omega arith in
      ap (λ k. map (λ j. (j, entries_between s 0 j)) (range_with_len n k)) z
      ∙ ap (λ k. (n, entries_between s 0 n) ∷ map (λ j. (j, entries_between s 0 j)) (range_with_len (n + 1) k)) y

  starts_none : (n : ℕ) → row_count s < n → starts_from s n ≡ []
  starts_none n h = let z : row_count s + 1 - n ≡ 0 = omega arith in ap (λ k. map (λ j. (j, entries_between s 0 j)) (range_with_len n k)) z

  pub starts_turn : (n : ℕ) (x : ℕ × ℕ) (rest : List (ℕ × ℕ)) → starts_from s n ≡ x ∷ rest
      → (n ≤ row_count s) × (x.0 ≡ n) × (x.1 ≡ entries_between s 0 n) × (rest ≡ starts_from s (n + 1))
  starts_turn n x rest e = ⊎_elim past within (cases_lt (row_count s) n)
    where
      past : row_count s < n → (n ≤ row_count s) × (x.0 ≡ n) × (x.1 ≡ entries_between s 0 n) × (rest ≡ starts_from s (n + 1))
      past l = let d = starts_none n l in cc

      within : n ≤ row_count s → (n ≤ row_count s) × (x.0 ≡ n) × (x.1 ≡ entries_between s 0 n) × (rest ≡ starts_from s (n + 1))
      within l =
          let d = starts_more n l in
          let first : x ≡ (n, entries_between s 0 n) = cc in
          let others : rest ≡ starts_from s (n + 1) = cc in
          (l, ap (λ p. p.0) first, ap (λ p. p.1) first, others)

  pub starts_done : (n : ℕ) → starts_from s n ≡ [] → row_count s < n
  starts_done n e = ⊎_elim (λ (l : row_count s < n). l) (λ (l : n ≤ row_count s). let d = starts_more n l in cc) (cases_lt (row_count s) n)
