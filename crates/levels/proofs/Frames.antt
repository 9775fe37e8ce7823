-- Writes to a stretch of words, and what they leave alone.
use Rattle.std.proofs.Common.{◌≡◌, ℕ, zero, suc, ◌+◌, ◌-◌, ◌*◌, ◌/◌, ◌%◌, ◌^◌, ◌<◌, ◌≤◌, List, ◌++◌, length, get_or, set, take, drop, sym, refl, ap, ◌∙◌, ap₂, subst, ⊎_elim, lt_of_le_of_lt, length-drop, arith}
use native.Mathlib.Nat.{mod-le}
use lib.Bits.{bit_and}
use Rattle.std.proofs.lemmas.Nat.{and_mask}
use borrow.Rule.Slice.PartMut.{put_mid}
use Rattle.std.specs.List.{between}
use Rattle.std.proofs.lemmas.List.{get_or-set_same, get_or-set_other, get_or-take, length-take-le}
use Rattle.std.proofs.lemmas.List.Edits.{get_or-between, length-between}
use Rattle.std.proofs.lemmas.Bool.{cases_eq}
use Rattle.gather.specs.Bits.{bit_of, sum_to}
use Rattle.levels.specs.Planes.{Outside, bit_at, bits_from}
use Rattle.gather.proofs.Bitwise.{bit_lt}
use Rattle.gather.proofs.Sums.{sum_cong}
use Rattle.gather.proofs.Counts.{ones_low, ones_word}

pub outside_self : (a e : ℕ) (ws : List ℕ) → Outside a e ws ws
outside_self a e ws = (λ i h. refl, λ i h. refl)

pub outside_set : (a e : ℕ) (was is : List ℕ) (p v : ℕ) → Outside a e was is → a ≤ p → p < e → Outside a e was (set is p v)
outside_set a e was is p v o l h = (
  λ i k. get_or-set_other is p i v 0 (λ q. omega arith) ∙ o.0 i k,
  λ i k. get_or-set_other is p i v 0 (λ q. omega arith) ∙ o.1 i k,
)

pub outside_then : (a e : ℕ) (xs ys zs : List ℕ) → Outside a e xs ys → Outside a e ys zs → Outside a e xs zs
outside_then a e xs ys zs o p = (λ i k. p.0 i k ∙ o.0 i k, λ i k. p.1 i k ∙ o.1 i k)

pub run_more : (f : ℕ → ℕ) (ws : List ℕ) (a i : ℕ) → a + i < length ws → ((k : ℕ) → k < i → get_or ws (a + k) 0 ≡ f k)
    → (k : ℕ) → k < i + 1 → get_or (set ws (a + i) (f i)) (a + k) 0 ≡ f k
run_more f ws a i h g k l =
    ⊎_elim (λ (e : k ≡ i). ap (λ x. get_or (set ws (a + i) (f i)) (a + x) 0) e ∙ get_or-set_same ws (a + i) (f i) 0 h ∙ ap f (sym e))
    (λ (n : k ≡ i → ⊥). get_or-set_other ws (a + i) (a + k) (f i) 0 (λ q. n (omega arith)) ∙ g k (le k i l n))
    (cases_eq k i)
  where
    le : (x y : ℕ) → x < y + 1 → (x ≡ y → ⊥) → x < y
    le x y p q = omega arith

-- a bit stands in its word
pub bits_from_word : (ws : List ℕ) (a d : ℕ) → bits_from ws a d ≡ bit_of (get_or ws (a + d / 64) 0) (d % 64)
unfolding bit_at
bits_from_word ws a d =
    let q : (64 * a + d) / 64 ≡ a + d / 64 = omega arith in
    let r : (64 * a + d) % 64 ≡ d % 64 = omega arith in
    ap₂ (λ x y. bit_of (get_or ws x 0) y) q r

pub bits_same : (ws vs : List ℕ) (a e d : ℕ) → get_or ws (a + d / 64) 0 ≡ get_or vs (e + d / 64) 0 → bits_from ws a d ≡ bits_from vs e d
bits_same ws vs a e d h = bits_from_word ws a d ∙ ap (λ x. bit_of x (d % 64)) h ∙ sym (bits_from_word vs e d)

pub bits_zero : (ws : List ℕ) (a d : ℕ) → get_or ws (a + d / 64) 0 ≡ 0 → bits_from ws a d ≡ 0
unfolding bit_of
bits_zero ws a d h = bits_from_word ws a d ∙ ap (λ x. bit_of x (d % 64)) h ∙ ap (λ x. x % 2) (native.Mathlib.Nat.zero-div (2 ^ (d % 64)))

pub bits_lt : (ws : List ℕ) (a d : ℕ) → bits_from ws a d < 2
unfolding bit_at
bits_lt ws a d = bit_lt (get_or ws ((64 * a + d) / 64) 0) ((64 * a + d) % 64)

pub sum_to_word : (ws : List ℕ) (a i j : ℕ) → j ≤ 64 → sum_to (bits_from ws a) (64 * i + j) ≡ sum_to (bits_from ws a) (64 * i) + sum_to (bit_of (get_or ws (a + i) 0)) j
unfolding sum_to
sum_to_word ws a i zero h = let e : 64 * i + 0 ≡ 64 * i = omega arith in omega (arith, ap (λ x. sum_to (bits_from ws a) x) e)
sum_to_word ws a i (suc j) h =
    let ih = sum_to_word ws a i j (omega arith) in
    let e : 64 * i + suc j ≡ suc (64 * i + j) = omega arith in
    let q : a + (64 * i + j) / 64 ≡ a + i = omega arith in
    let r : (64 * i + j) % 64 ≡ j = omega arith in
    let b : bits_from ws a (64 * i + j) ≡ bit_of (get_or ws (a + i) 0) j =
    bits_from_word ws a (64 * i + j) ∙ ap₂ (λ x y. bit_of (get_or ws x 0) y) q r in
    ap (λ x. sum_to (bits_from ws a) x) e ∙ omega (arith, ih, b)

pub sum_to_more : (ws : List ℕ) (a i : ℕ) → sum_to (bits_from ws a) (64 * (i + 1)) ≡ sum_to (bits_from ws a) (64 * i) + sum_to (bit_of (get_or ws (a + i) 0)) 64
sum_to_more ws a i =
    let e : 64 * (i + 1) ≡ 64 * i + 64 = omega arith in ap (λ k. sum_to (bits_from ws a) k) e ∙ sum_to_word ws a i 64 (omega arith)

pub bits_before : (a e : ℕ) (was is : List ℕ) → Outside a e was is → (s k : ℕ) → s + k / 64 < a → bits_from is s k ≡ bits_from was s k
bits_before a e was is o s k h = bits_same is was s s k (o.0 (s + k / 64) h)

-- the running count before a word, and the set bits of the word below a position, make the ones before the position
pub rank_from : (ws : List ℕ) (a b k : ℕ) → k ≤ 64 * b → get_or ws (a + k / 64) 0 < 2 ^ 64 → ((i : ℕ) → i ≤ b → get_or ws (a + b + i) 0 ≡ sum_to (bits_from ws a) (64 * i))
    → get_or ws (a + b + k / 64) 0 + sum_to (bit_of (bit_and (get_or ws (a + k / 64) 0) (2 ^ (k % 64) - 1))) 64 ≡ sum_to (bits_from ws a) k
rank_from ws a b k h small f =
    let w = get_or ws (a + k / 64) 0 in
    let p = f (k / 64) (omega arith) in
    let m : w % 2 ^ (k % 64) < 2 ^ 64 = lt_of_le_of_lt (mod-le w (2 ^ (k % 64))) small in
    let q : sum_to (bit_of (bit_and w (2 ^ (k % 64) - 1))) 64 ≡ sum_to (bit_of w) (k % 64) =
    ap (λ x. sum_to (bit_of x) 64) (and_mask w (k % 64)) ∙ sym (ones_word (w % 2 ^ (k % 64)) m) ∙ ones_low w (k % 64) in
    let d = sum_to_word ws a (k / 64) (k % 64) (omega arith) in
    let e : 64 * (k / 64) + k % 64 ≡ k = omega arith in
    let g : sum_to (bits_from ws a) (64 * (k / 64) + k % 64) ≡ sum_to (bits_from ws a) k = ap (λ x. sum_to (bits_from ws a) x) e in
    omega arith

-- the bits of a word
pub word_bit : (ws : List ℕ) (a i p : ℕ) → p < 64 → bits_from ws a (64 * i + p) ≡ bit_of (get_or ws (a + i) 0) p
unfolding bit_at
word_bit ws a i p h =
    let e : (64 * a + (64 * i + p)) / 64 ≡ a + i = omega arith in
    let f : (64 * a + (64 * i + p)) % 64 ≡ p = omega arith in
    ap₂ (λ x y. bit_of (get_or ws x 0) y) e f

pub bit_word : (ws : List ℕ) (d : ℕ) → bit_at ws d ≡ bit_of (get_or ws (d / 64) 0) (d % 64)
unfolding bit_at
bit_word ws d = refl

-- the bits of words that stand from word a on
module _ (part ws : List ℕ) (a n : ℕ) (same : (i : ℕ) → i < n → get_or part i 0 ≡ get_or ws (a + i) 0) where
  pub part_bits : (d : ℕ) → d < 64 * n → bit_at part d ≡ bits_from ws a d
  part_bits d l = bit_word part d ∙ ap (λ x. bit_of x (d % 64)) (same (d / 64) (omega arith)) ∙ sym (bits_from_word ws a d)

  pub part_sums : (k : ℕ) → k ≤ 64 * n → sum_to (bit_at part) k ≡ sum_to (bits_from ws a) k
  part_sums k l = sum_cong (bit_at part) (bits_from ws a) k (λ j h. part_bits j (omega arith))

pub bit_at_lt : (ws : List ℕ) (d : ℕ) → bit_at ws d < 2
bit_at_lt ws d = subst (λ x. x < 2) (sym (bit_word ws d)) (bit_lt (get_or ws (d / 64) 0) (d % 64))

pub sum_bits_more : (ws : List ℕ) (i : ℕ) → sum_to (bit_at ws) (64 * (i + 1)) ≡ sum_to (bit_at ws) (64 * i) + sum_to (bit_of (get_or ws i 0)) 64
sum_bits_more ws i =
    let zero : (k : ℕ) → get_or ws k 0 ≡ get_or ws (0 + k) 0 = λ k. ap (λ x. get_or ws x 0) (let e : k ≡ 0 + k = omega arith in e) in
    let same = part_sums ws ws 0 (i + 1) (λ k l. zero k) in
    let m = sum_to_more ws 0 i in
    let w = ap (λ x. sum_to (bit_of x) 64) (zero i) in
    omega (arith, same (64 * (i + 1)) (omega arith), same (64 * i) (omega arith), m, w)

-- a level cut after its plane: the plane in the front, and the counts in the back
module _ (ws front back : List ℕ) (at b : ℕ) (room : at + (2 * b + 2) ≤ length ws) (f : front ≡ take (at + 1 + b) ws) (g : back ≡ drop (at + 1 + b) ws) where
  front_length : length front ≡ at + 1 + b
  front_length = ap length f ∙ length-take-le (at + 1 + b) ws (omega arith)

  pub cut_plane_length : length (between (at + 1) (length front) front) ≡ b
  cut_plane_length = length-between front (at + 1) (length front) (omega arith) ∙ omega (arith, front_length)

  pub cut_counts_length : length (take (b + 1) back) ≡ b + 1
  cut_counts_length = length-take-le (b + 1) back (omega (arith, ap length g, length-drop (at + 1 + b) ws))

  pub cut_plane : (i : ℕ) → i < b → get_or (between (at + 1) (length front) front) i 0 ≡ get_or ws (at + 1 + i) 0
  cut_plane i l =
      get_or-between front (at + 1) (length front) i 0 (omega (arith, front_length)) ∙ ap (λ x. get_or x (at + 1 + i) 0) f
      ∙ get_or-take (at + 1 + b) ws (at + 1 + i) 0 (omega arith)

  pub cut_put : (counts : List ℕ) → front ++ (counts ++ drop (b + 1) back) ≡ put_mid (at + 1 + b) (b + 1) ws counts
  cut_put counts = ap₂ (λ x y. x ++ (counts ++ drop (b + 1) y)) f g
