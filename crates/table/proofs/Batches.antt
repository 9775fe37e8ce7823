-- A batch, entry by entry.
use Rattle.std.proofs.Common.{◌≡◌, ℕ, ◌+◌, ◌-◌, ◌*◌, ◌<◌, ◌≤◌, min, Bool, true, false, cond, ◌&&◌, ltb, length, get_or, set, IfSome, Some, None, unwrap_or, sym, refl, ap, ◌∙◌, subst, ⊎_elim, arith}
use Rattle.std.proofs.lemmas.List.{get_or-set_same, get_or-set_other}
use Rattle.std.proofs.lemmas.Bool.{cases_lt, cases_eq, lt-ltb, le-ltb}
use Rattle.pattern.specs.Sparsity.{Sparsity}
use Rattle.table.specs.Walks.{Batched, position, shown}
use Rattle.table.specs.Words.{total_entries}
use Rattle.table.specs.declared.batch.Batch.{Batch}
use Rattle.table.specs.declared.cursor.Cursor.{Cursor}

-- what a walk's next word has, by the number of the word
pub batched_word : (s t : Sparsity) (c : Cursor) (first g w v left entries word : ℕ) (b : Batch) → s ≡ t → first ≡ g → w ≡ v
    → position s c + left ≡ total_entries s → left ≡ entries - 64 * word → entries ≡ total_entries t → 64 * word < entries
    → Batched s first w (position s c) (min left 64) b → Batched t g v (64 * word) (min (total_entries t - 64 * word) 64) b
batched_word s t c first g w v left entries word b es ef ew rest el ee h f k l =
    let q : position s c ≡ 64 * word = omega (arith, ap total_entries es) in
    let n : min left 64 ≡ min (total_entries t - 64 * word) 64 = omega arith in
    f k l ∙ cc

-- what is found of an entry, by whether it is in the batch and in the window
pub code_shown : (a t : Bool) (x : ℕ) → unwrap_or (cond a (cond t (Some x) None) None) 0 ≡ cond (a && t) x 0
code_shown true true x = refl
code_shown true false x = refl
code_shown false t x = refl

pub shown_if : (a t : Bool) (x : ℕ) (P : ℕ → Type 0) → IfSome (cond a (cond t (Some x) None) None) P → a ≡ true → t ≡ true → P x
shown_if true true x P h y z = h
shown_if true false x P h y z = cc
shown_if false t x P h y z = cc

-- one entry more
pub batched_more : (s : Sparsity) (first w q : ℕ) (b n : Batch) (place : ℕ) → place < 64 → length b.found ≡ 64
    → n.found ≡ set b.found place (shown s first w (q + place)) → Batched s first w q place b → Batched s first w q (place + 1) n
batched_more s first w q b n place l long e f k h = ap (λ x. get_or x k None) e ∙ ⊎_elim here there (cases_eq k place)
  where
    here : k ≡ place → get_or (set b.found place (shown s first w (q + place))) k None ≡ cond (ltb k (place + 1)) (shown s first w (q + k)) None
    here z =
        subst (λ x. get_or (set b.found place (shown s first w (q + place))) x None ≡ cond (ltb x (place + 1)) (shown s first w (q + x)) None) (sym z)
        (get_or-set_same b.found place (shown s first w (q + place)) None (omega arith)
        ∙ sym (ap (λ t. cond t (shown s first w (q + place)) None) (lt-ltb place (place + 1) (omega arith))))

    past : (a b : ℕ) → (a ≡ b → ⊥) → b ≤ a → b + 1 ≤ a
    past a b m z = omega arith

    there : (k ≡ place → ⊥) → get_or (set b.found place (shown s first w (q + place))) k None ≡ cond (ltb k (place + 1)) (shown s first w (q + k)) None
    there m =
        let t : ltb k place ≡ ltb k (place + 1) =
        ⊎_elim (λ (z : k < place). lt-ltb k place z ∙ sym (lt-ltb k (place + 1) (omega arith)))
        (λ (z : place ≤ k). le-ltb k place z ∙ sym (le-ltb k (place + 1) (past k place m z)))
        (cases_lt k place) in
        get_or-set_other b.found place k (shown s first w (q + place)) None m ∙ f k h ∙ ap (λ y. cond y (shown s first w (q + k)) None) t

-- the code of an entry, by other terms
pub shown_same : (s t : Sparsity) (first g w v q p : ℕ) → s ≡ t → first ≡ g → w ≡ v → q ≡ p → shown s first w q ≡ shown t g v p
shown_same s t first g w v q p es ef ew eq = cc
