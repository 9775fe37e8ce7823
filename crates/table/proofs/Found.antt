-- The codes of a table are found, batch after batch and window after window, and then its levels are those of the codes.
use Rattle.std.proofs.Common.{◌≡◌, ℕ, ◌+◌, ◌-◌, ◌*◌, ◌^◌, ◌<◌, ◌≤◌, min, true, ltb, leb, List, IfSome, length, get_or, sym, ap, ◌∙◌, subst, ⊎_elim, arith}
use Rattle.std.specs.List.{between}
use Rattle.std.proofs.lemmas.Bool.{and_from, cases_lt, le-leb, lt-ltb}
use Rattle.levels.specs.Layouts.{end_of}
use Rattle.levels.specs.Numbers.{levels}
use Rattle.levels.specs.Traces.{AllStand}
use Rattle.levels.specs.declared.layout.Layout.{Layout}
use Rattle.levels.proofs.Traces.{levels_traced, traced_levels}
use Rattle.pattern.specs.Sparsity.{Lawful, Sparsity}
use Rattle.table.specs.Checks.{AllFound, BatchFound, FoundAt, WindowFound}
use Rattle.table.specs.Codes.{codes}
use Rattle.table.specs.Stores.{LaidOut}
use Rattle.table.specs.Walks.{Batched, column_of, windowed}
use Rattle.table.specs.Words.{total_entries, table_words}
use Rattle.table.specs.declared.batch.Batch.{Batch}
use Rattle.table.proofs.Batches.{shown_if}
use Rattle.table.proofs.Stored.{codes_total, column_below}
use Rattle.table.proofs.Wholes.{table_leveled, words_length}

-- one batch
module _ (s : Sparsity) (first w : ℕ) (l : Layout) (ws : List ℕ) (word size : ℕ) (b : Batch)
    (sized : size ≡ min (total_entries s - 64 * word) 64) (batched : Batched s first w (64 * word) size b)
  where
    -- with those of the batch, the entries of the window are found up to the next word
    pub found_more : BatchFound l ws word b
        → ((q : ℕ) → q < 64 * word → q < total_entries s → windowed first w (column_of s q) ≡ true → FoundAt l ws q (get_or (codes s) q 0))
        → (q : ℕ) → q < 64 * (word + 1) → q < total_entries s → windowed first w (column_of s q) ≡ true → FoundAt l ws q (get_or (codes s) q 0)
    found_more here before q h n y =
        ⊎_elim (λ (a : q < 64 * word). before q a n y)
        (λ (a : 64 * word ≤ q).
        let k = q - 64 * word in
        let e : 64 * word + k ≡ q = omega arith in
        let j : k < 64 = omega arith in
        subst (λ x. FoundAt l ws x (get_or (codes s) x 0)) e
        (shown_if (ltb k size) (windowed first w (column_of s (64 * word + k))) (get_or (codes s) (64 * word + k) 0) (FoundAt l ws (64 * word + k))
        (subst (λ o. IfSome o (FoundAt l ws (64 * word + k))) (batched k j) (here k j)) (lt-ltb k size (omega arith)) (ap (λ x. windowed first w (column_of s x)) e ∙ y)))
        (cases_lt q (64 * word))

-- one window more
pub found_next : (s : Sparsity) (first w : ℕ) (l : Layout) (ws : List ℕ) → WindowFound s first w l ws
    → ((q : ℕ) → q < total_entries s → column_of s q < first → FoundAt l ws q (get_or (codes s) q 0))
    → (q : ℕ) → q < total_entries s → column_of s q < first + w → FoundAt l ws q (get_or (codes s) q 0)
found_next s first w l ws here before q n h =
    ⊎_elim (λ (a : column_of s q < first). before q n a)
    (λ (a : first ≤ column_of s q).
    here q n (and_from (leb first (column_of s q)) (ltb (column_of s q) (first + w)) (le-leb first (column_of s q) a) (lt-ltb (column_of s q) (first + w) h)))
    (cases_lt (column_of s q) first)

-- all windows
pub found_all : (s : Sparsity) (first : ℕ) (l : Layout) (ws : List ℕ) → Lawful s → s.column_count ≤ first
    → ((q : ℕ) → q < total_entries s → column_of s q < first → FoundAt l ws q (get_or (codes s) q 0)) → AllFound s l ws
found_all s first l ws lawful h before q n = before q n (omega (arith, column_below s lawful q n))

module _ (s : Sparsity) (l : Layout) (laid : LaidOut s l) (ws : List ℕ) (long : length ws ≡ length (table_words s)) where
  count_is : length (codes s) ≡ l.count
  count_is = codes_total s ∙ sym laid.counted

  room : end_of l ≤ length ws
  room = omega (arith, words_length s l laid)

  -- levels that agree with themselves, down which every code is found, are those of the codes
  pub found_leveled : ((i : ℕ) → get_or ws i 0 < 2 ^ 64) → AllStand l.words l.bits l.count ws l.start → AllFound s l ws
      → between l.start (end_of l) ws ≡ levels l.words l.bits (codes s)
  found_leveled small stand found =
      traced_levels ws small l.words l.bits (codes s) l.start (omega (arith, count_is, l.enough.0)) room
      (subst (λ n. AllStand l.words l.bits n ws l.start) (sym count_is) stand)
      (λ q h. found q (omega (arith, codes_total s)))

  -- and in the table they are
  pub table_found : ws ≡ table_words s → AllStand l.words l.bits l.count ws l.start × AllFound s l ws
  table_found e =
      let t = levels_traced ws l.words l.bits (codes s) l.start (omega (arith, count_is, l.enough.0)) room
      (ap (λ x. between l.start (end_of l) x) e ∙ table_leveled s l laid) in
      (subst (λ n. AllStand l.words l.bits n ws l.start) count_is t.0, λ q h. t.1 q (omega (arith, codes_total s)))
