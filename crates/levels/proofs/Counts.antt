-- Counting the numbers below another, bit by bit from the highest down.
use Rattle.std.proofs.Common.{◌≡◌, ℕ, suc, ◌+◌, ◌*◌, ◌%◌, ◌^◌, ◌<◌, ◌≤◌, true, false, cond, ltb, List, [], ◌∷◌, length, filter, sym, refl, ap, ◌∙◌, ap₂, ⊎_elim, mod-eq_of_lt, arith}
use Rattle.std.proofs.lemmas.Nat.{mod_below, mod-pow-add, pow_pos}
use Rattle.std.proofs.lemmas.List.Sums.{count_by-le-length, sum_by-cons}
use Rattle.std.proofs.lemmas.Bool.{cases_lt, cases_eq, eq-eqb, ne_eqb, cond-true, cond-false, lt-ltb, le-ltb}
use Rattle.gather.specs.Bits.{bit_of}
use Rattle.levels.specs.Counting.{count_less, less}
use Rattle.levels.specs.Numbers.{AllBelow, numbers_below}
use Rattle.levels.proofs.Leveled.{bit_two, one_at, zero_at}

same_ltb : (a b c d : ℕ) → (a < b → c < d) → (c < d → a < b) → ltb a b ≡ ltb c d
same_ltb a b c d f g =
    ⊎_elim (λ (l : a < b). lt-ltb a b l ∙ sym (lt-ltb c d (f l)))
    (λ (l : b ≤ a). le-ltb a b l ∙ sym (le-ltb c d (⊎_elim (λ (k : c < d). absurd (no a b l (g k))) (λ k. k) (cases_lt c d))))
    (cases_lt a b)
  where
    no : (x y : ℕ) → y ≤ x → x < y → ⊥
    no x y p q = omega arith

module _ (t x c : ℕ) where
  low_split : (n : ℕ) → n % 2 ^ suc t ≡ bit_of n t * 2 ^ t + n % 2 ^ t
  unfolding bit_of
  low_split n = let s : suc t ≡ 1 + t = omega arith in ap (λ e. n % 2 ^ e) s ∙ mod-pow-add n 1 t

  low_lt : (n : ℕ) → n % 2 ^ t < 2 ^ t
  low_lt n = mod_below n (2 ^ t) (pow_pos t)

  less_same : bit_of c t ≡ bit_of x t → less (suc t) x c ≡ less t x c
  less_same e =
      let a = low_split c in
      let b = low_split x in
      let q : bit_of c t * 2 ^ t ≡ bit_of x t * 2 ^ t = ap (λ n. n * 2 ^ t) e in
      same_ltb (c % 2 ^ suc t) (x % 2 ^ suc t) (c % 2 ^ t) (x % 2 ^ t) (λ l. omega arith) (λ l. omega arith)

  less_yes : bit_of c t ≡ 0 → bit_of x t ≡ 1 → less (suc t) x c ≡ true
  less_yes e f =
      let a = low_split c in
      let b = low_split x in
      let q : bit_of c t * 2 ^ t ≡ 0 * 2 ^ t = ap (λ n. n * 2 ^ t) e in
      let r : bit_of x t * 2 ^ t ≡ 1 * 2 ^ t = ap (λ n. n * 2 ^ t) f in
      let u = low_lt c in
      lt-ltb (c % 2 ^ suc t) (x % 2 ^ suc t) (omega arith)

  less_no : bit_of c t ≡ 1 → bit_of x t ≡ 0 → less (suc t) x c ≡ false
  less_no e f =
      let a = low_split c in
      let b = low_split x in
      let q : bit_of c t * 2 ^ t ≡ 1 * 2 ^ t = ap (λ n. n * 2 ^ t) e in
      let r : bit_of x t * 2 ^ t ≡ 0 * 2 ^ t = ap (λ n. n * 2 ^ t) f in
      let u = low_lt x in
      le-ltb (c % 2 ^ suc t) (x % 2 ^ suc t) (omega arith)

count_cons : (t x c : ℕ) (cs : List ℕ) → count_less t x (c ∷ cs) ≡ cond (less t x c) 1 0 + count_less t x cs
unfolding count_less
count_cons t x c cs = sum_by-cons (λ y. cond (less t x y) 1 0) c cs

count_empty : (t x : ℕ) → count_less t x [] ≡ 0
unfolding count_less
count_empty t x = refl

pub count_zero : (x : ℕ) (cs : List ℕ) → count_less 0 x cs ≡ 0
count_zero x [] = count_empty 0 x
count_zero x (c ∷ cs) =
    let a : c % 1 ≡ 0 = omega arith in
    let b : x % 1 ≡ 0 = omega arith in
    let n : less 0 x c ≡ false = le-ltb (c % 1) (x % 1) (omega arith) in
    omega (arith, count_cons 0 x c cs, count_zero x cs, cond-false {A = ℕ} (less 0 x c) 1 0 n)

module _ (t x : ℕ) where
  pub count_one : bit_of x t ≡ 1 → (cs : List ℕ) → count_less (suc t) x cs ≡ length (filter (zero_at t) cs) + count_less t x (filter (one_at t) cs)
  count_one e [] = omega (arith, count_empty (suc t) x, count_empty t x)
  count_one e (c ∷ cs) =
      let ih = count_one e cs in
      let l = bit_two c t in
      let s = count_cons (suc t) x c cs in
      ⊎_elim
      (λ (o : bit_of c t ≡ 1).
      let k1 = cond-true (one_at t c) (c ∷ filter (one_at t) cs) (filter (one_at t) cs) (eq-eqb (bit_of c t) 1 o) in
      let k0 = cond-false (zero_at t c) (c ∷ filter (zero_at t) cs) (filter (zero_at t) cs) (ne_eqb (bit_of c t) 0 (λ z. omega arith)) in
      let m = ap (λ b. cond {A = ℕ} b 1 0) (less_same t x c (o ∙ sym e)) in
      omega (arith, ap (λ n. length n) k0, ap (λ n. count_less t x n) k1, count_cons t x c (filter (one_at t) cs), m))
      (λ (n : bit_of c t ≡ 1 → ⊥).
      let z : bit_of c t ≡ 0 = omega arith in
      let k1 = cond-false (one_at t c) (c ∷ filter (one_at t) cs) (filter (one_at t) cs) (ne_eqb (bit_of c t) 1 n) in
      let k0 = cond-true (zero_at t c) (c ∷ filter (zero_at t) cs) (filter (zero_at t) cs) (eq-eqb (bit_of c t) 0 z) in
      let m = cond-true {A = ℕ} (less (suc t) x c) 1 0 (less_yes t x c z e) in
      omega (arith, ap (λ n. length n) k0, ap (λ n. count_less t x n) k1, m))
      (cases_eq (bit_of c t) 1)

  pub count_nil : bit_of x t ≡ 0 → (cs : List ℕ) → count_less (suc t) x cs ≡ count_less t x (filter (zero_at t) cs)
  count_nil e [] = omega (arith, count_empty (suc t) x, count_empty t x)
  count_nil e (c ∷ cs) =
      let ih = count_nil e cs in
      let l = bit_two c t in
      let s = count_cons (suc t) x c cs in
      ⊎_elim
      (λ (o : bit_of c t ≡ 1).
      let k0 = cond-false (zero_at t c) (c ∷ filter (zero_at t) cs) (filter (zero_at t) cs) (ne_eqb (bit_of c t) 0 (λ z. omega arith)) in
      let m = cond-false {A = ℕ} (less (suc t) x c) 1 0 (less_no t x c o e) in
      omega (arith, ap (λ n. count_less t x n) k0, m))
      (λ (n : bit_of c t ≡ 1 → ⊥).
      let z : bit_of c t ≡ 0 = omega arith in
      let k0 = cond-true (zero_at t c) (c ∷ filter (zero_at t) cs) (filter (zero_at t) cs) (eq-eqb (bit_of c t) 0 z) in
      let m = ap (λ b. cond {A = ℕ} b 1 0) (less_same t x c (z ∙ sym e)) in
      omega (arith, ap (λ n. count_less t x n) k0, count_cons t x c (filter (zero_at t) cs), m))
      (cases_eq (bit_of c t) 1)

pub count_length : (t x : ℕ) (cs : List ℕ) → count_less t x cs ≤ length cs
unfolding count_less
count_length t x cs = count_by-le-length (less t x) cs

-- numbers of t bits are compared by these alone
pub count_whole : (t x : ℕ) (cs : List ℕ) → x < 2 ^ t → AllBelow (2 ^ t) cs → count_less t x cs ≡ numbers_below x cs
count_whole t x [] l f = count_empty t x
count_whole t x (c ∷ cs) l f =
    let ih = count_whole t x cs l (λ q h. f (suc q) (omega arith)) in
    let e : c % 2 ^ t ≡ c = mod-eq_of_lt (f 0 (omega arith)) in
    let g : x % 2 ^ t ≡ x = mod-eq_of_lt l in
    count_cons t x c cs ∙ ap₂ (λ a b. a + b) (ap₂ (λ a b. cond {A = ℕ} (ltb a b) 1 0) e g) ih ∙ sym (sum_by-cons (λ y. cond {A = ℕ} (ltb y x) 1 0) c cs)
