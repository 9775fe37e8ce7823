-- A level's words, and the bits that they hold.
use Rattle.std.proofs.Common.{◌≡◌, ℕ, zero, suc, ◌+◌, ◌-◌, ◌*◌, ◌/◌, ◌%◌, ◌^◌, ◌<◌, ◌≤◌, Bool, eqb, List, [], ◌∷◌, ◌++◌, length, get_or, take, drop, sum, filter, sym, refl, ap, ◌∙◌, ap₂, ⊎_elim, arith}
use Rattle.std.specs.List.{between}
use Rattle.std.proofs.lemmas.Nat.{shr-shr, mod_below}
use Rattle.std.proofs.lemmas.List.{length-append, append_assoc, get_or_past, get_or-take, get_or-drop, take_all, take_at, drop_at, take-map, take-append-drop, take-take, drop-take}
use Rattle.std.proofs.lemmas.List.Elements.{filter-append}
use Rattle.std.proofs.lemmas.List.Sums.{sum_by_more, sum_by-cons}
use Rattle.std.proofs.lemmas.List.FromFn.{length-map-range_with_len, get_or-map-range_with_len}
use Rattle.std.proofs.lemmas.Bool.{cases_lt, cases_eq, eq-eqb, ne_eqb, cond-true, cond-false}
use Rattle.gather.specs.Bits.{bit_of}
use Rattle.levels.specs.Planes.{bit_at}
use Rattle.levels.specs.Numbers.{pack, packed, running, level, plane, sorted}

-- each element is a bit
abbrev pub Bits : List ℕ → Type 0
Bits xs = (k : ℕ) → get_or xs k 0 < 2

pub pack_bit : (xs : List ℕ) → Bits xs → (j : ℕ) → bit_of (pack xs) j ≡ get_or xs j 0
unfolding pack bit_of
pack_bit [] f j = ap (λ x. x % 2) (native.Mathlib.Nat.zero-div (2 ^ j))
pack_bit (x ∷ xs) f zero = let l = f 0 in omega arith
pack_bit (x ∷ xs) f (suc j) =
    let ih : pack xs / 2 ^ j % 2 ≡ get_or xs j 0 = pack_bit xs (λ k. f (suc k)) j in
    let l = f 0 in
    let h : (x + 2 * pack xs) / 2 ≡ pack xs = omega arith in
    let s : suc j ≡ 1 + j = omega arith in
    ap (λ e. (x + 2 * pack xs) / 2 ^ e % 2) s
    ∙ ap (λ e. e % 2) (sym (shr-shr (x + 2 * pack xs) 1 j))
    ∙ ap (λ e. e / 2 ^ j % 2) h ∙ ih

pub bits_part : (bits : List ℕ) → Bits bits → (a n : ℕ) → Bits (take n (drop a bits))
bits_part bits f a n k =
    ⊎_elim (λ l. let e = get_or-take n (drop a bits) k 0 l ∙ get_or-drop a bits k 0 in omega (arith, e, f (a + k)))
    (λ (l : n ≤ k). let e = get_or_past (take n (drop a bits)) k 0 (simp lib.ListN.length-take (omega arith)) in omega arith)
    (cases_lt k n)

pub length_packed : (b : ℕ) (bits : List ℕ) → length (packed b bits) ≡ b
unfolding packed
length_packed b bits = length-map-range_with_len (λ i. pack (take 64 (drop (64 * i) bits))) 0 b

pub length_running : (b : ℕ) (bits : List ℕ) → length (running b bits) ≡ b + 1
unfolding running
length_running b bits = length-map-range_with_len (λ i. sum (take (64 * i) bits)) 0 (b + 1)

pub bit_at_packed : (b : ℕ) (bits : List ℕ) → Bits bits → (k : ℕ) → k < 64 * b → bit_at (packed b bits) k ≡ get_or bits k 0
unfolding packed bit_at
bit_at_packed b bits f k h =
    let q : k / 64 < b = omega arith in
    let w : get_or (packed b bits) (k / 64) 0 ≡ pack (take 64 (drop (64 * (k / 64)) bits)) =
    get_or-map-range_with_len (λ i. pack (take 64 (drop (64 * i) bits))) 0 b (k / 64) (k / 64) 0 q (omega arith) in
    let e : 64 * (k / 64) + k % 64 ≡ k = omega arith in
    ap (λ x. bit_of x (k % 64)) w
    ∙ pack_bit (take 64 (drop (64 * (k / 64)) bits)) (bits_part bits f (64 * (k / 64)) 64) (k % 64)
    ∙ get_or-take 64 (drop (64 * (k / 64)) bits) (k % 64) 0 (omega arith)
    ∙ get_or-drop (64 * (k / 64)) bits (k % 64) 0
    ∙ ap (λ x. get_or bits x 0) e

pub sum_take_more : (bits : List ℕ) (k : ℕ) → sum (take (k + 1) bits) ≡ sum (take k bits) + get_or bits k 0
sum_take_more bits k =
    ⊎_elim (λ l. sum_by_more (λ x. x) bits k 0 l)
    (λ l.
    let e = get_or_past bits k 0 l in
    let a = ap (λ x. sum x) (take_all (k + 1) bits (omega arith)) in
    let b = ap (λ x. sum x) (take_all k bits l) in
    omega arith)
    (cases_lt k (length bits))

-- the middle of three lists
mid : (xs ys zs : List ℕ) (n e : ℕ) → length xs ≡ n → n + length ys ≡ e → between n e (xs ++ (ys ++ zs)) ≡ ys
mid xs ys zs n e h k =
    let d : e - n ≡ length ys = omega arith in
    ap (λ l. take (e - n) l) (drop_at xs (ys ++ zs) n h) ∙ ap (λ i. take i (ys ++ zs)) d ∙ take_at ys zs (length ys) refl

module _ (b : ℕ) (bits rest : List ℕ) where
  pub length_level : length (level b bits) ≡ 2 * b + 2
  length_level = omega (arith, length_packed b bits, length_running b bits, length-append (packed b bits) (running b bits))

-- ---- one step down

abbrev pub zero_at : ℕ → ℕ → Bool
zero_at t c = eqb (bit_of c t) 0

abbrev pub one_at : ℕ → ℕ → Bool
one_at t c = eqb (bit_of c t) 1

pub bit_two : (c t : ℕ) → bit_of c t < 2
unfolding bit_of
bit_two c t = mod_below (c / 2 ^ t) 2 (omega arith)

pub bits_plane : (t : ℕ) (cs : List ℕ) → Bits (plane t cs)
bits_plane t [] k = omega arith
bits_plane t (c ∷ cs) zero = bit_two c t
bits_plane t (c ∷ cs) (suc k) = bits_plane t cs k

-- the ones of a plane are the numbers with a one there
pub sum_plane : (t : ℕ) (cs : List ℕ) → sum (plane t cs) ≡ length (filter (one_at t) cs)
sum_plane t [] = refl
sum_plane t (c ∷ cs) =
    let ih = sum_plane t cs in
    let s = sum_by-cons (λ x. x) (bit_of c t) (plane t cs) in
    let l = bit_two c t in
    ⊎_elim
    (λ (e : bit_of c t ≡ 1).
    omega (arith, ap length (cond-true (one_at t c) (c ∷ filter (one_at t) cs) (filter (one_at t) cs) (eq-eqb (bit_of c t) 1 e))))
    (λ (n : bit_of c t ≡ 1 → ⊥).
    let z : bit_of c t ≡ 0 = omega arith in
    omega (arith, ap length (cond-false (one_at t c) (c ∷ filter (one_at t) cs) (filter (one_at t) cs) (ne_eqb (bit_of c t) 1 n))))
    (cases_eq (bit_of c t) 1)

pub kept_two : (t : ℕ) (cs : List ℕ) → length (filter (zero_at t) cs) + length (filter (one_at t) cs) ≡ length cs
kept_two t [] = refl
kept_two t (c ∷ cs) =
    let ih = kept_two t cs in
    let l = bit_two c t in
    ⊎_elim
    (λ (e : bit_of c t ≡ 1).
    omega (
      arith,
      ap length (cond-true (one_at t c) (c ∷ filter (one_at t) cs) (filter (one_at t) cs) (eq-eqb (bit_of c t) 1 e)),
      ap length (cond-false (zero_at t c) (c ∷ filter (zero_at t) cs) (filter (zero_at t) cs) (ne_eqb (bit_of c t) 0 (λ z. omega arith))),
    ))
    (λ (n : bit_of c t ≡ 1 → ⊥).
    let z : bit_of c t ≡ 0 = omega arith in
    omega (
      arith,
      ap length (cond-false (one_at t c) (c ∷ filter (one_at t) cs) (filter (one_at t) cs) (ne_eqb (bit_of c t) 1 n)),
      ap length (cond-true (zero_at t c) (c ∷ filter (zero_at t) cs) (filter (zero_at t) cs) (eq-eqb (bit_of c t) 0 z)),
    ))
    (cases_eq (bit_of c t) 1)

-- how many ones stand before a position of a plane
pub ones-before : (t : ℕ) (cs : List ℕ) (k : ℕ) → sum (take k (plane t cs)) ≡ length (filter (one_at t) (take k cs))
ones-before t cs k = ap (λ l. sum l) (take-map (λ c. bit_of c t) k cs) ∙ sum_plane t (take k cs)

-- a stretch of a list, kept, is a stretch of the list kept
module _ (p : ℕ → Bool) (cs : List ℕ) (lo hi : ℕ) (l : lo ≤ hi) where
  kept_hi : filter p (take hi cs) ≡ filter p (take lo cs) ++ filter p (between lo hi cs)
  kept_hi =
      let d : lo + (hi - lo) ≡ hi = omega arith in
      let a : take hi cs ≡ take lo cs ++ between lo hi cs =
      sym (take-append-drop lo (take hi cs))
      ∙ ap₂ (λ x y. x ++ y) (take-take lo hi cs l)
      (ap (λ x. drop lo (take x cs)) (sym d) ∙ drop-take lo (hi - lo) cs) in
      ap (λ x. filter p x) a ∙ filter-append p (take lo cs) (between lo hi cs)

  kept_all : filter p cs ≡ filter p (take lo cs) ++ (filter p (between lo hi cs) ++ filter p (drop hi cs))
  kept_all =
      ap (λ x. filter p x) (sym (take-append-drop hi cs)) ∙ filter-append p (take hi cs) (drop hi cs)
      ∙ ap (λ x. x ++ filter p (drop hi cs)) kept_hi
      ∙ append_assoc (filter p (take lo cs)) (filter p (between lo hi cs)) (filter p (drop hi cs))

  pub length_hi : length (filter p (take hi cs)) ≡ length (filter p (take lo cs)) + length (filter p (between lo hi cs))
  length_hi = ap length kept_hi ∙ length-append (filter p (take lo cs)) (filter p (between lo hi cs))

module _ (t : ℕ) (cs : List ℕ) (lo hi : ℕ) (l : lo ≤ hi) where
  pub down_zero : between (length (filter (zero_at t) (take lo cs))) (length (filter (zero_at t) (take hi cs))) (sorted t cs) ≡ filter (zero_at t) (between lo hi cs)
  down_zero =
      let A = filter (zero_at t) (take lo cs) in
      let M = filter (zero_at t) (between lo hi cs) in
      let C = filter (zero_at t) (drop hi cs) in
      let K = filter (one_at t) cs in
      let e : sorted t cs ≡ A ++ (M ++ (C ++ K)) =
      ap (λ x. x ++ K) (kept_all (zero_at t) cs lo hi l) ∙ append_assoc A (M ++ C) K ∙ ap (λ x. A ++ x) (append_assoc M C K) in
      ap (λ x. between (length A) (length (filter (zero_at t) (take hi cs))) x) e
      ∙ mid A M (C ++ K) (length A) (length (filter (zero_at t) (take hi cs))) refl (sym (length_hi (zero_at t) cs lo hi l))

  pub down_one : between (length (filter (zero_at t) cs) + length (filter (one_at t) (take lo cs))) (length (filter (zero_at t) cs) + length (filter (one_at t) (take hi cs))) (sorted t cs)
      ≡ filter (one_at t) (between lo hi cs)
  down_one =
      let Z = filter (zero_at t) cs in
      let A = filter (one_at t) (take lo cs) in
      let M = filter (one_at t) (between lo hi cs) in
      let C = filter (one_at t) (drop hi cs) in
      let e : sorted t cs ≡ (Z ++ A) ++ (M ++ C) =
      ap (λ x. Z ++ x) (kept_all (one_at t) cs lo hi l) ∙ sym (append_assoc Z A (M ++ C)) in
      ap (λ x. between (length Z + length A) (length Z + length (filter (one_at t) (take hi cs))) x) e
      ∙ mid (Z ++ A) M C (length Z + length A) (length Z + length (filter (one_at t) (take hi cs))) (length-append Z A)
      (omega (arith, length_hi (one_at t) cs lo hi l))
