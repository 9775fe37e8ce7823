-- The codes at the places of a table, batch after batch and window after window.
use Rattle.std.proofs.Common.{◌≡◌, ℕ, zero, suc, ◌+◌, ◌-◌, ◌*◌, ◌/◌, ◌%◌, ◌^◌, ◌<◌, ◌≤◌, Bool, true, false, cond, ◌&&◌, ◌||◌, ltb, leb, ◌⊎◌, List, None, unwrap_or, length, get_or, sym, refl, ap, ◌∙◌, subst, ⊎_elim, arith}
use native.Mathlib.Nat.{zero-mod}
use Rattle.std.proofs.lemmas.List.{get_or_append_left, get_or-append_right, get_or_default, get_or_past, length-append}
use Rattle.std.proofs.Math.Bool.{and-false, or-false}
use Rattle.std.proofs.lemmas.Bool.{and_cases, and_parts, cases_Bool, cases_eq, cases_lt, leb-false, leb-true, lt-ltb, le-ltb, ltb-false}
use Rattle.levels.specs.declared.layout.Layout.{Layout}
use Rattle.pattern.specs.Columns.{columns_in}
use Rattle.pattern.specs.Sparsity.{Lawful, Sparsity, row_at, row_count}
use Rattle.pattern.proofs.Sets.{columns_more, columns_none}
use Rattle.table.specs.Codes.{codes}
use Rattle.table.specs.Stores.{Stored, done, done_code, placed}
use Rattle.table.specs.Walks.{Batched, column_of, windowed}
use Rattle.table.specs.Words.{total_entries}
use Rattle.table.specs.declared.batch.Batch.{Batch}
use Rattle.table.proofs.Batches.{code_shown}
use Rattle.table.proofs.Runs.{codes_length, columns_length}

module _ (s : Sparsity) where
  pub codes_total : length (codes s) ≡ total_entries s
  codes_total = codes_length s (row_count s) (omega arith)

  code_past : (q : ℕ) → total_entries s ≤ q → get_or (codes s) q 0 ≡ 0
  code_past q h = get_or_past (codes s) q 0 (omega (arith, codes_total))

  -- each column of the first i rows is in range
  columns_below : Lawful s → (i : ℕ) → i ≤ row_count s → (q d : ℕ) → q < length (columns_in s 0 i) → get_or (columns_in s 0 i) q d < s.column_count
  columns_below lawful zero h q d l = absurd (none (ap length (columns_none s 0)))
    where
      none : length (columns_in s 0 0) ≡ 0 → ⊥
      none e = omega arith
  columns_below lawful (suc i) h q d l =
      let e : suc i ≡ i + 1 = omega arith in
      let more = ap (λ x. columns_in s 0 x) e ∙ columns_more s 0 i (omega arith) (omega arith) in
      let xs = columns_in s 0 i in
      let n = length-append xs (row_at s i) in
      subst (λ x. get_or x q d < s.column_count) (sym more)
      (⊎_elim
      (λ (a : q < length xs). omega (arith, get_or_append_left xs (row_at s i) d q a, columns_below lawful i (omega arith) q d a))
      (λ (a : length xs ≤ q).
      let k : q - length xs < length (row_at s i) = omega (arith, ap length more) in
      omega (
        arith,
        get_or-append_right xs (row_at s i) (length xs) q d refl a,
        get_or_default (row_at s i) (q - length xs) d 0 k,
        (lawful.ordered i).0 (q - length xs) k,
      ))
      (cases_lt q (length xs)))

  pub column_below : Lawful s → (q : ℕ) → q < total_entries s → column_of s q < s.column_count
  column_below lawful q h =
      columns_below lawful (row_count s) (omega arith) q s.column_count (omega (arith, columns_length s (row_count s) (omega arith)))

-- tests

cond_zero : (b : Bool) (x : ℕ) → x ≡ 0 → cond b x 0 ≡ 0
cond_zero true x e = e
cond_zero false x e = refl

module _ (s : Sparsity) (first w : ℕ) where
  -- a window that is before its first entry
  done_before : (q : ℕ) → done s first w 0 q ≡ ltb (column_of s q) first
  done_before q =
      ap (λ b. ltb (column_of s q) first || (ltb (column_of s q) (first + w) && b)) (le-ltb q 0 (omega arith))
      ∙ ap (λ b. ltb (column_of s q) first || b) (and-false (ltb (column_of s q) (first + w))) ∙ or-false (ltb (column_of s q) first)

  -- outside of the window nothing changes
  done_outside : (q a b : ℕ) → windowed first w (column_of s q) ≡ false → done s first w a q ≡ done s first w b q
  done_outside q a b h =
      ⊎_elim
      (λ (e : leb first (column_of s q) ≡ false).
      let l = lt-ltb (column_of s q) first (leb-false first (column_of s q) e) in
      ap (λ t. t || (ltb (column_of s q) (first + w) && ltb q a)) l ∙ sym (ap (λ t. t || (ltb (column_of s q) (first + w) && ltb q b)) l))
      (λ (e : ltb (column_of s q) (first + w) ≡ false).
      ap (λ t. ltb (column_of s q) first || (t && ltb q a)) e ∙ sym (ap (λ t. ltb (column_of s q) first || (t && ltb q b)) e))
      (and_cases (leb first (column_of s q)) (ltb (column_of s q) (first + w)) h)

  -- in the window an entry is done once it is passed
  done_inside : (q to : ℕ) → windowed first w (column_of s q) ≡ true → done s first w to q ≡ ltb q to
  done_inside q to h =
      let p = and_parts (leb first (column_of s q)) (ltb (column_of s q) (first + w)) h in
      ap (λ t. t || (ltb (column_of s q) (first + w) && ltb q to)) (le-ltb (column_of s q) first (leb-true first (column_of s q) p.0))
      ∙ ap (λ t. t && ltb q to) p.1

module _ (s : Sparsity) (w : ℕ) where
  -- past the last column all is done
  pub stored_end : Lawful s → (first q : ℕ) → s.column_count ≤ first → done_code s first w 0 q ≡ get_or (codes s) q 0
  stored_end lawful first q h =
      ⊎_elim
      (λ (l : q < total_entries s).
      ap (λ b. cond b (get_or (codes s) q 0) 0)
      (done_before s first w q ∙ lt-ltb (column_of s q) first (omega (arith, column_below s lawful q l))))
      (λ (l : total_entries s ≤ q).
      cond_zero (done s first w 0 q) (get_or (codes s) q 0) (code_past s q l) ∙ sym (code_past s q l))
      (cases_lt q (total_entries s))

-- one batch
module _ (s : Sparsity) (first w : ℕ) (l : Layout) (was is : List ℕ) (word count : ℕ) (b : Batch)
    (all : total_entries s ≤ 64 * word + count ⊎ count ≡ 64)
    (batched : Batched s first w (64 * word) count b)
    (here : (k : ℕ) → k < 64 → placed l was (64 * word + k) ≡ 0 → placed l is (64 * word + k) ≡ unwrap_or (get_or b.found k None) 0 % 2 ^ l.bits)
    (kept : (k : ℕ) → k < 64 → unwrap_or (get_or b.found k None) 0 ≡ 0 → placed l is (64 * word + k) ≡ placed l was (64 * word + k))
    (others : (q : ℕ) → (q / 64 ≡ word → ⊥) → q < 64 * l.words → placed l is q ≡ placed l was q)
    (before : Stored s first w (64 * word) l was)
  where
    T : ℕ
    T = 2 ^ l.bits

    inner : (k : ℕ) → k < 64 → 64 * word + k < 64 * l.words → placed l is (64 * word + k) ≡ done_code s first w (64 * (word + 1)) (64 * word + k) % T
    unfolding T
    inner k h m =
        let q = 64 * word + k in
        let c = get_or (codes s) q 0 in
        let inside = ltb k count && windowed first w (column_of s q) in
        let e : unwrap_or (get_or b.found k None) 0 ≡ cond inside c 0 =
        ap (λ o. unwrap_or o 0) (batched k h) ∙ code_shown (ltb k count) (windowed first w (column_of s q)) c in
        ⊎_elim
        (λ (y : inside ≡ true).
        let p = and_parts (ltb k count) (windowed first w (column_of s q)) y in
        let old : done_code s first w (64 * word) q ≡ 0 =
        ap (λ t. cond t c 0) (done_inside s first w q (64 * word) p.1 ∙ le-ltb q (64 * word) (omega arith)) in
        let new : done_code s first w (64 * (word + 1)) q ≡ c =
        ap (λ t. cond t c 0) (done_inside s first w q (64 * (word + 1)) p.1 ∙ lt-ltb q (64 * (word + 1)) (omega arith)) in
        let z : placed l was q ≡ 0 = before q m ∙ ap (λ x. x % T) old ∙ zero-mod T in
        here k h z ∙ ap (λ x. x % T) (e ∙ ap (λ t. cond t c 0) y ∙ sym new))
        (λ (n : inside ≡ false).
        let z : unwrap_or (get_or b.found k None) 0 ≡ 0 = e ∙ ap (λ t. cond t c 0) n in
        let same : done_code s first w (64 * word) q ≡ done_code s first w (64 * (word + 1)) q =
        ⊎_elim
        (λ (f : ltb k count ≡ false).
        let past : c ≡ 0 = code_past s q (⊎_elim (λ a. omega (arith, ltb-false k count f)) (λ a. absurd (over k a (ltb-false k count f) h)) all) in
        cond_zero (done s first w (64 * word) q) c past ∙ sym (cond_zero (done s first w (64 * (word + 1)) q) c past))
        (λ (f : windowed first w (column_of s q) ≡ false).
        ap (λ t. cond t c 0) (done_outside s first w q (64 * word) (64 * (word + 1)) f))
        (and_cases (ltb k count) (windowed first w (column_of s q)) n) in
        kept k h z ∙ before q m ∙ ap (λ x. x % T) same)
        (cases_Bool inside)
      where
        over : (k : ℕ) → count ≡ 64 → count ≤ k → k < 64 → ⊥
        over k a f h = omega arith

    -- the batch is at its places, and the others are as they were
    pub stored_more : Stored s first w (64 * (word + 1)) l is
    unfolding T
    stored_more q m =
        ⊎_elim
        (λ (e : q / 64 ≡ word).
        let d : q ≡ 64 * word + q % 64 = omega arith in
        subst (λ x. placed l is x ≡ done_code s first w (64 * (word + 1)) x % T) (sym d) (inner (q % 64) (omega arith) (omega arith)))
        (λ (n : q / 64 ≡ word → ⊥).
        let same : ltb q (64 * word) ≡ ltb q (64 * (word + 1)) =
        ⊎_elim (λ (a : q < 64 * word). lt-ltb q (64 * word) a ∙ sym (lt-ltb q (64 * (word + 1)) (omega arith)))
        (λ (a : 64 * word ≤ q). le-ltb q (64 * word) a ∙ sym (le-ltb q (64 * (word + 1)) (beyond q a n)))
        (cases_lt q (64 * word)) in
        others q n m ∙ before q m
        ∙ ap (λ t. cond (ltb (column_of s q) first || (ltb (column_of s q) (first + w) && t)) (get_or (codes s) q 0) 0 % T) same)
        (cases_eq (q / 64) word)
      where
        beyond : (q : ℕ) → 64 * word ≤ q → (q / 64 ≡ word → ⊥) → 64 * (word + 1) ≤ q
        beyond q a n = ⊎_elim (λ (z : q < 64 * (word + 1)). absurd (n (omega arith))) (λ z. z) (cases_lt q (64 * (word + 1)))
