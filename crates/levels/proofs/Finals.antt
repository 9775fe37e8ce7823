-- Planes of bits, parted, and the words of the levels.
use Rattle.std.proofs.Common.{◌≡◌, ℕ, zero, suc, ◌+◌, ◌*◌, ◌/◌, ◌%◌, ◌^◌, ◌<◌, ◌≤◌, Bool, true, false, cond, eqb, List, [], ◌∷◌, ◌++◌, map, length, get_or, take, drop, filter, sym, refl, ap, ◌∙◌, ap₂, ⊎_elim, mod-eq_of_lt, pow-suc, arith}
use Rattle.std.proofs.lemmas.Nat.{mod-pow-add, pow_pos}
use Rattle.std.proofs.lemmas.List.{append-nil, length-append, map-append, get_or_past, get_or-map, get_or-take, get_or-drop, take_all}
use Rattle.std.proofs.lemmas.List.Elements.{filter_more}
use Rattle.std.proofs.lemmas.Bool.{cases_lt}
use Rattle.gather.specs.Bits.{bit_of}
use Rattle.gather.proofs.Bitwise.{bit_none}
use Rattle.levels.specs.Planes.{Routed, bit_at, bits_from, chosen, route}
use Rattle.levels.proofs.Routes.{chosen_both, route_in}
use Rattle.levels.specs.Numbers.{pack, sorted}
use Rattle.levels.proofs.Leveled.{Bits, pack_bit, bits_part, kept_two, zero_at, one_at}

-- a number is its bits
mods : (a e k : ℕ) → ((j : ℕ) → j < k → bit_of a j ≡ bit_of e j) → a % 2 ^ k ≡ e % 2 ^ k
unfolding bit_of
mods a e zero h = omega arith
mods a e (suc k) h =
    let ih = mods a e k (λ j l. h j (omega arith)) in
    let s : suc k ≡ 1 + k = omega arith in
    ap (λ x. a % 2 ^ x) s ∙ mod-pow-add a 1 k ∙ ap₂ (λ x y. x * 2 ^ k + y) (h k (omega arith)) ih ∙ sym (ap (λ x. e % 2 ^ x) s ∙ mod-pow-add e 1 k)

pub same_number : (a e k : ℕ) → a < 2 ^ k → e < 2 ^ k → ((j : ℕ) → j < k → bit_of a j ≡ bit_of e j) → a ≡ e
same_number a e k p q h = sym (mod-eq_of_lt p) ∙ mods a e k h ∙ mod-eq_of_lt q

pub pack_lt : (xs : List ℕ) (k : ℕ) → Bits xs → length xs ≤ k → pack xs < 2 ^ k
unfolding pack
pack_lt [] k f h = pow_pos k
pack_lt (x ∷ xs) zero f h = absurd (none h)
  where
    none : suc (length xs) ≤ 0 → ⊥
    none l = omega arith
pack_lt (x ∷ xs) (suc k) f h = let ih = pack_lt xs k (λ j. f (suc j)) (omega arith) in let l = f 0 in omega (arith, pow-suc 2 k)

-- the words from word a on hold packed bits, if they hold the bits
pub word_is : (ws bits : List ℕ) (a b : ℕ) → ((i : ℕ) → get_or ws i 0 < 2 ^ 64) → Bits bits → ((k : ℕ) → k < 64 * b → bits_from ws a k ≡ get_or bits k 0)
    → (i : ℕ) → i < b → get_or ws (a + i) 0 ≡ pack (take 64 (drop (64 * i) bits))
unfolding bit_at
word_is ws bits a b small f h i l =
    same_number (get_or ws (a + i) 0) (pack (take 64 (drop (64 * i) bits))) 64 (small (a + i))
    (pack_lt (take 64 (drop (64 * i) bits)) 64 (bits_part bits f (64 * i) 64) (simp lib.ListN.length-take (omega arith)))
    (λ j m.
    let q : a + i ≡ (64 * a + (64 * i + j)) / 64 = omega arith in
    let r : j ≡ (64 * a + (64 * i + j)) % 64 = omega arith in
    ap₂ (λ x y. bit_of (get_or ws x 0) y) q r ∙ h (64 * i + j) (omega arith)
    ∙ sym (get_or-drop (64 * i) bits j 0) ∙ sym (get_or-take 64 (drop (64 * i) bits) j 0 m)
    ∙ sym (pack_bit (take 64 (drop (64 * i) bits)) (bits_part bits f (64 * i) 64) j))

-- ---- the order of a plane is the order of the numbers

map_cond : (g : ℕ → ℕ) (t : Bool) (xs : List ℕ) (k : ℕ) → map g (cond t (xs ++ k ∷ []) xs) ≡ map g xs ++ cond t (g k ∷ []) []
map_cond g true xs k = map-append g xs (k ∷ [])
map_cond g false xs k = sym (append-nil (map g xs))

module _ (f : ℕ → ℕ) (cs : List ℕ) (u : ℕ) (sel : (k : ℕ) → k < length cs → f k ≡ bit_of (get_or cs k 0) u) where
  chosen_kept : (v k : ℕ) → k ≤ length cs → map (λ j. get_or cs j 0) (chosen f v k) ≡ filter (λ c. eqb (bit_of c u) v) (take k cs)
  unfolding chosen
  chosen_kept v zero h = refl
  chosen_kept v (suc k) h =
      let ih = chosen_kept v k (omega arith) in
      let s : k + 1 ≡ suc k = omega arith in
      map_cond (λ j. get_or cs j 0) (eqb (f k) v) (chosen f v k) k
      ∙ ap₂ (λ l x. l ++ cond (eqb x v) (get_or cs k 0 ∷ []) []) ih (sel k (omega arith))
      ∙ sym (filter_more (λ c. eqb (bit_of c u) v) cs k 0 (omega arith))
      ∙ ap (λ x. filter (λ c. eqb (bit_of c u) v) (take x cs)) s

  pub route_sorted : map (λ j. get_or cs j 0) (route f (length cs)) ≡ sorted u cs
  route_sorted =
      map-append (λ j. get_or cs j 0) (chosen f 0 (length cs)) (chosen f 1 (length cs))
      ∙ ap₂ (λ x y. x ++ y)
      (chosen_kept 0 (length cs) (omega arith) ∙ ap (λ l. filter (λ c. eqb (bit_of c u) 0) l) (take_all (length cs) cs (omega arith)))
      (chosen_kept 1 (length cs) (omega arith) ∙ ap (λ l. filter (λ c. eqb (bit_of c u) 1) l) (take_all (length cs) cs (omega arith)))

pub length_sorted : (t : ℕ) (cs : List ℕ) → length (sorted t cs) ≡ length cs
length_sorted t cs = length-append (filter (zero_at t) cs) (filter (one_at t) cs) ∙ kept_two t cs

pub routed_plane : (f p q : ℕ → ℕ) (cs : List ℕ) (u t b : ℕ) → ((k : ℕ) → f k < 2) → length cs ≤ 64 * b
    → ((k : ℕ) → k < length cs → f k ≡ bit_of (get_or cs k 0) u) → ((k : ℕ) → k < 64 * b → p k ≡ bit_of (get_or cs k 0) t)
    → Routed f b (length cs) p q → (d : ℕ) → d < 64 * b → q d ≡ bit_of (get_or (sorted u cs) d 0) t
routed_plane f p q cs u t b two le sel was h d l =
    ⊎_elim
    (λ (k : d < length cs).
    let i = route_in f two (length cs) d k in
    let n = chosen_both f two (length cs) in
    let e : get_or (sorted u cs) d 0 ≡ get_or cs (get_or (route f (length cs)) d 0) 0 =
    ap (λ x. get_or x d 0) (sym (route_sorted f cs u sel))
    ∙ get_or-map (λ j. get_or cs j 0) (route f (length cs)) d 0 0 (omega (arith, length-append (chosen f 0 (length cs)) (chosen f 1 (length cs)))) in
    h.0 d k ∙ was (get_or (route f (length cs)) d 0) (omega arith) ∙ ap (λ x. bit_of x t) (sym e))
    (λ (k : length cs ≤ d).
    let z = get_or_past (sorted u cs) d 0 (omega (arith, length_sorted u cs)) in
    h.1 d k l ∙ sym (bit_none t) ∙ ap (λ x. bit_of x t) (sym z))
    (cases_lt d (length cs))
