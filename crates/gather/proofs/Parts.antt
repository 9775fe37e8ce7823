-- The numbers of a list of which one, or a part, is written.
use Rattle.std.proofs.Common.{◌≡◌, ℕ, ◌+◌, ◌-◌, ◌<◌, ◌≤◌, List, ◌++◌, length, get_or, set, take, drop, sym, ap, ◌∙◌, subst, ⊎_elim, arith}
use Rattle.std.proofs.lemmas.List.{get_or-set_same, get_or-set_other, get_or-take, get_or-drop, get_or_append_left, get_or-append_right, length-take-le}
use Rattle.std.proofs.lemmas.Bool.{cases_eq}
use borrow.Rule.Slice.PartMut.{put_mid, post_of}

-- what holds of the first i numbers, and of the one written next
pub set_more : (P : ℕ → ℕ → Type 0) (xs : List ℕ) (i v : ℕ) → i < length xs → ((k : ℕ) → k < i → P k (get_or xs k 0)) → P i v
    → (k : ℕ) → k < i + 1 → P k (get_or (set xs i v) k 0)
set_more P xs i v l before here k h =
    ⊎_elim
    (λ (e : k ≡ i). subst (λ n. P n (get_or (set xs i v) n 0)) (sym e) (subst (λ x. P i x) (sym (get_or-set_same xs i v 0 l)) here))
    (λ (n : k ≡ i → ⊥). subst (λ x. P k x) (sym (get_or-set_other xs i k v 0 n)) (before k (omega arith)))
    (cases_eq k i)

-- a part from a on is written: what is before it, and what is in it
pub part_before : (a n : ℕ) (xs ys : List ℕ) (k : ℕ) → k < a → a ≤ length xs → get_or (put_mid a n xs ys) k 0 ≡ get_or xs k 0
part_before a n xs ys k h l =
    get_or_append_left (take a xs) (ys ++ post_of a n xs) 0 k (omega (arith, length-take-le a xs l)) ∙ get_or-take a xs k 0 h

pub part_in : (a n : ℕ) (xs ys : List ℕ) (k : ℕ) → k < length ys → a ≤ length xs → get_or (put_mid a n xs ys) (a + k) 0 ≡ get_or ys k 0
part_in a n xs ys k h l =
    let e : a + k - a ≡ k = omega arith in
    get_or-append_right (take a xs) (ys ++ post_of a n xs) a (a + k) 0 (length-take-le a xs l) (omega arith)
    ∙ ap (λ x. get_or (ys ++ post_of a n xs) x 0) e ∙ get_or_append_left ys (post_of a n xs) 0 k h

pub part_after : (a n : ℕ) (xs ys : List ℕ) (k : ℕ) → length ys ≡ n → a + n ≤ length xs → a + n ≤ k → get_or (put_mid a n xs ys) k 0 ≡ get_or xs k 0
part_after a n xs ys k e l h =
    let q : n + (k - a - n) ≡ k - a = omega arith in
    let r : a + (k - a) ≡ k = omega arith in
    get_or-append_right (take a xs) (ys ++ post_of a n xs) a k 0 (length-take-le a xs (omega arith)) (omega arith)
    ∙ get_or-append_right ys (post_of a n xs) n (k - a) 0 e (omega arith)
    ∙ get_or-drop n (drop a xs) (k - a - n) 0 ∙ ap (λ x. get_or (drop a xs) x 0) q
    ∙ get_or-drop a xs (k - a) 0 ∙ ap (λ x. get_or xs x 0) r
