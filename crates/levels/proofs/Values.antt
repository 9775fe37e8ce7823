-- The numbers whose bits stand in planes.
use Rattle.std.proofs.Common.{◌≡◌, ℕ, zero, suc, ◌+◌, ◌-◌, ◌*◌, ◌/◌, ◌%◌, ◌^◌, ◌<◌, ◌≤◌, List, length, get_or, sym, refl, ap, ◌∙◌, ap₂, ⊎_elim, pow-suc, arith}
use Rattle.std.proofs.lemmas.Nat.{mod-pow-add, mod_below, pow_pos, div-mul-add, mod-mul-add}
use Rattle.std.proofs.lemmas.List.{get_or_past}
use Rattle.std.proofs.lemmas.Bool.{cases_eq}
use Rattle.gather.specs.Bits.{bit_of}
use Rattle.gather.proofs.Bitwise.{bit_none}
use Rattle.levels.specs.Planes.{bit_at, bits_from}
use Rattle.levels.proofs.Ends.{ends_more, room_for}
use Rattle.levels.proofs.Frames.{bits_same, bits_lt}
use Rattle.levels.specs.Spans.{ends, Holds, Tails, value_at}

pub low_split : (t n : ℕ) → n % 2 ^ suc t ≡ bit_of n t * 2 ^ t + n % 2 ^ t
unfolding bit_of
low_split t n = let s : suc t ≡ 1 + t = omega arith in ap (λ e. n % 2 ^ e) s ∙ mod-pow-add n 1 t

pub value_lt : (b t : ℕ) (ws : List ℕ) (at q : ℕ) → value_at b t ws at q < 2 ^ t
unfolding value_at
value_lt b zero ws at q = omega arith
value_lt b (suc t) ws at q =
    let ih = value_lt b t ws (at + (2 * b + 2)) q in
    let l = bits_lt ws (at + 1) q in
    let s = pow-suc 2 t in
    ⊎_elim (λ (z : bits_from ws (at + 1) q ≡ 0). omega (arith, ap (λ x. x * 2 ^ t) z))
    (λ (n : bits_from ws (at + 1) q ≡ 0 → ⊥). let o : bits_from ws (at + 1) q ≡ 1 = omega arith in omega (arith, ap (λ x. x * 2 ^ t) o))
    (cases_eq (bits_from ws (at + 1) q) 0)

-- numbers in the planes are the numbers held
pub value_holds : (b t : ℕ) (cs ws : List ℕ) (at : ℕ) → ((k : ℕ) → k < 64 * b → value_at b t ws at k ≡ get_or cs k 0 % 2 ^ t) → Holds b t cs ws at
unfolding Holds value_at
value_holds b zero cs ws at h = tt
value_holds b (suc t) cs ws at h = (
  λ k l.
      sym (div-mul-add (bits_from ws (at + 1) k) (2 ^ t) (value_at b t ws (at + (2 * b + 2)) k) (value_lt b t ws (at + (2 * b + 2)) k))
      ∙ ap (λ x. x / 2 ^ t) (h k l ∙ low_split t (get_or cs k 0))
      ∙ div-mul-add (bit_of (get_or cs k 0) t) (2 ^ t) (get_or cs k 0 % 2 ^ t) (mod_below (get_or cs k 0) (2 ^ t) (pow_pos t)),
  value_holds b t cs ws (at + (2 * b + 2)) (λ k l.
      sym (mod-mul-add (bits_from ws (at + 1) k) (2 ^ t) (value_at b t ws (at + (2 * b + 2)) k) (value_lt b t ws (at + (2 * b + 2)) k))
      ∙ ap (λ x. x % 2 ^ t) (h k l ∙ low_split t (get_or cs k 0))
      ∙ mod-mul-add (bit_of (get_or cs k 0) t) (2 ^ t) (get_or cs k 0 % 2 ^ t) (mod_below (get_or cs k 0) (2 ^ t) (pow_pos t))),
)

pub value_same : (b t : ℕ) (was is : List ℕ) (at q : ℕ) → ((i : ℕ) → at ≤ i → get_or is i 0 ≡ get_or was i 0) → value_at b t is at q ≡ value_at b t was at q
unfolding value_at
value_same b zero was is at q f = refl
value_same b (suc t) was is at q f =
    ap₂ (λ x y. x * 2 ^ t + y) (bits_same is was (at + 1) (at + 1) q (f (at + 1 + q / 64) (omega arith)))
    (value_same b t was is (at + (2 * b + 2)) q (λ i l. f i (omega arith)))

pub value_more : (b t : ℕ) → 0 < t → (ws : List ℕ) (at q : ℕ) → value_at b t ws at q ≡ bits_from ws (at + 1) q * 2 ^ (t - 1) + value_at b (t - 1) ws (at + (2 * b + 2)) q
unfolding value_at
value_more b t p ws at q = let e : t ≡ suc (t - 1) = omega arith in ap (λ x. value_at b x ws at q) e ∙ plain b (t - 1) ws at q
  where
    plain : (b t : ℕ) (ws : List ℕ) (at q : ℕ) → value_at b (suc t) ws at q ≡ bits_from ws (at + 1) q * 2 ^ t + value_at b t ws (at + (2 * b + 2)) q
    plain b t ws at q = refl

pub value_none : (b : ℕ) (ws : List ℕ) (at q : ℕ) → value_at b 0 ws at q ≡ 0
unfolding value_at
value_none b ws at q = refl

pub value_zero : (b t : ℕ) → 0 < t → (ws : List ℕ) (at q : ℕ) → value_at b t ws at q ≡ 0 → (bits_from ws (at + 1) q ≡ 0) × (value_at b (t - 1) ws (at + (2 * b + 2)) q ≡ 0)
value_zero b t p ws at q h =
    let e = value_more b t p ws at q in
    let l = bits_lt ws (at + 1) q in
    let m = pow_pos (t - 1) in
    let z : bits_from ws (at + 1) q ≡ 0 =
    ⊎_elim (λ (z : bits_from ws (at + 1) q ≡ 0). z)
    (λ (n : bits_from ws (at + 1) q ≡ 0 → ⊥). let o : bits_from ws (at + 1) q ≡ 1 = omega arith in omega (arith, ap (λ x. x * 2 ^ (t - 1)) o))
    (cases_eq (bits_from ws (at + 1) q) 0) in
    (z, omega arith)

-- cleared words hold zeros
pub value_wiped : (b t : ℕ) (ws : List ℕ) (from size at q : ℕ) → ((d : ℕ) → d < 64 * size → bits_from ws from d ≡ 0) → from ≤ at → ends b t at ≤ from + size → q < 64 * b
    → value_at b t ws at q ≡ 0
unfolding value_at
value_wiped b zero ws from size at q f l h m = refl
value_wiped b (suc t) ws from size at q f l h m =
    let e = ends_more b (suc t) at (omega arith) in
    let s : suc t - 1 ≡ t = omega arith in
    let g : ends b (suc t) at ≡ ends b t (at + (2 * b + 2)) = e ∙ ap (λ x. ends b x (at + (2 * b + 2))) s in
    let r = room_for b (suc t) at (omega arith) in
    let p : 64 * (at + 1) + q ≡ 64 * from + (64 * (at + 1 - from) + q) = omega arith in
    let z : bits_from ws (at + 1) q ≡ 0 = ap (λ x. bit_at ws x) p ∙ f (64 * (at + 1 - from) + q) (omega arith) in
    let ih = value_wiped b t ws from size (at + (2 * b + 2)) q f (omega arith) (omega arith) m in
    ap₂ (λ x y. x * 2 ^ t + y) z ih ∙ omega (arith, native.Mathlib.Nat.zero-mul (2 ^ t))

pub holds_tails : (b t n : ℕ) (cs ws : List ℕ) (at : ℕ) → length cs ≤ n → Holds b t cs ws at → Tails b t n ws at
unfolding Holds Tails
holds_tails b zero n cs ws at l h = tt
holds_tails b (suc t) n cs ws at l h = (
  λ k m r. h.0 k r ∙ ap (λ x. bit_of x t) (get_or_past cs k 0 (omega arith)) ∙ bit_none t,
  holds_tails b t n cs ws (at + (2 * b + 2)) l h.1,
)
