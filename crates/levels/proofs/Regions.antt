-- Levels in a table: where they stand, and what is in them.
use Rattle.std.proofs.Common.{◌≡◌, ℕ, zero, suc, ◌+◌, ◌-◌, ◌*◌, ◌/◌, ◌^◌, ◌<◌, ◌≤◌, List, [], ◌∷◌, ◌++◌, length, get_or, take, drop, sum, sym, refl, ap, ◌∙◌, subst, ap₂, ⊎_elim, arith}
use Rattle.std.specs.List.{between}
use Rattle.std.proofs.lemmas.List.{ext_get_or, get_or_append_left, get_or-append_right, length-map, take_all, take-append-drop, take-take, drop-take, drop-drop}
use Rattle.std.proofs.lemmas.List.Edits.{length-between, get_or-between}
use Rattle.std.proofs.lemmas.List.FromFn.{get_or-map-range_with_len}
use Rattle.std.proofs.lemmas.Bool.{cases_lt}
use Rattle.gather.specs.Bits.{bit_of, sum_to}
use Rattle.gather.proofs.Bitwise.{bit_none}
use Rattle.levels.specs.Planes.{Outside, Routed, bits_from}
use Rattle.levels.proofs.Ends.{ends_more, room_for}
use Rattle.levels.proofs.Frames.{bits_same}
use Rattle.levels.specs.Numbers.{pack, packed, running, level, plane, sorted, levels}
use Rattle.levels.specs.Spans.{AllRouted, Holds, Tails, ends}
use Rattle.levels.proofs.Leveled.{bits_plane, sum_take_more, length_packed, length_level}
use Rattle.levels.proofs.Finals.{word_is, routed_plane}

-- a list between two places
pub between_split : (xs : List ℕ) (a m e : ℕ) → a ≤ m → m ≤ e → between a e xs ≡ between a m xs ++ between m e xs
between_split xs a m e l h =
    let p : e - a ≡ (m - a) + (e - m) = omega arith in
    let q : a + (m - a) ≡ m = omega arith in
    ap (λ x. take x (drop a xs)) p
    ∙ sym (take-append-drop (m - a) (take ((m - a) + (e - m)) (drop a xs)))
    ∙ ap₂ (λ x y. x ++ y) (take-take (m - a) ((m - a) + (e - m)) (drop a xs) (omega arith))
    (drop-take (m - a) (e - m) (drop a xs) ∙ ap (λ x. take (e - m) x) (drop-drop (m - a) a xs ∙ ap (λ x. drop x xs) q))

pub between_cong : (xs ys : List ℕ) (a e : ℕ) → e ≤ length xs → e ≤ length ys → ((i : ℕ) → a ≤ i → i < e → get_or xs i 0 ≡ get_or ys i 0) → between a e xs ≡ between a e ys
between_cong xs ys a e l m h =
    let p = length-between xs a e l in
    let q = length-between ys a e m in
    ext_get_or 0 (between a e xs) (between a e ys) (p ∙ sym q)
    (λ i k. get_or-between xs a e i 0 (omega arith) ∙ h (a + i) (omega arith) (omega arith) ∙ sym (get_or-between ys a e i 0 (omega arith)))

-- a plane's bit is the bit of the number there
pub plane_at : (t : ℕ) (cs : List ℕ) (k : ℕ) → get_or (plane t cs) k 0 ≡ bit_of (get_or cs k 0) t
unfolding bit_of
plane_at t [] k = sym (bit_none t)
plane_at t (c ∷ cs) zero = refl
plane_at t (c ∷ cs) (suc k) = plane_at t cs k

pub sum_to_bits : (f : ℕ → ℕ) (bits : List ℕ) (k : ℕ) → ((j : ℕ) → j < k → f j ≡ get_or bits j 0) → sum_to f k ≡ sum (take k bits)
unfolding sum_to
sum_to_bits f bits zero h = refl
sum_to_bits f bits (suc k) h =
    let s : suc k ≡ k + 1 = omega arith in
    omega (arith, sum_to_bits f bits k (λ j l. h j (omega arith)), h k (omega arith), sum_take_more bits k, ap (λ x. sum (take x bits)) s)

-- the words of a level
pub level_at : (xs bits : List ℕ) (at b : ℕ) → at + (2 * b + 2) ≤ length xs → get_or xs at 0 ≡ length bits - sum bits
    → ((i : ℕ) → i < b → get_or xs (at + 1 + i) 0 ≡ pack (take 64 (drop (64 * i) bits)))
    → ((i : ℕ) → i ≤ b → get_or xs (at + 1 + b + i) 0 ≡ sum (take (64 * i) bits))
    → between at (at + (2 * b + 2)) xs ≡ level b bits
unfolding packed running
level_at xs bits at b room z w c =
    let p = length-between xs at (at + (2 * b + 2)) room in
    let q = length_level b bits [] in
    ext_get_or 0 (between at (at + (2 * b + 2)) xs) (level b bits) (omega arith)
    (λ i k. get_or-between xs at (at + (2 * b + 2)) i 0 (omega arith) ∙ at_place i (omega arith))
  where
    at_place : (i : ℕ) → i < 2 * b + 2 → get_or xs (at + i) 0 ≡ get_or (level b bits) i 0
    at_place zero l = let e : at + 0 ≡ at = omega arith in ap (λ x. get_or xs x 0) e ∙ z
    at_place (suc i) l =
        ⊎_elim
        (λ (h : i < b).
        let e : at + suc i ≡ at + 1 + i = omega arith in
        ap (λ x. get_or xs x 0) e ∙ w i h
        ∙ sym (get_or_append_left (packed b bits) (running b bits) 0 i (omega (arith, length_packed b bits))
        ∙ get_or-map-range_with_len (λ i. pack (take 64 (drop (64 * i) bits))) 0 b i i 0 h (omega arith)))
        (λ (h : b ≤ i).
        let e : at + suc i ≡ at + 1 + b + (i - b) = omega arith in
        ap (λ x. get_or xs x 0) e ∙ c (i - b) (omega arith)
        ∙ sym (get_or-append_right (packed b bits) (running b bits) b i 0 (length_packed b bits) h
        ∙ get_or-map-range_with_len (λ i. sum (take (64 * i) bits)) 0 (b + 1) (i - b) (i - b) 0 (omega arith) (omega arith)))
        (cases_lt i b)

-- ---- the first level, and the others

module _ (b t : ℕ) (p : 0 < t) where
  pub holds_more : (cs ws : List ℕ) (at : ℕ) → Holds b t cs ws at
      → ((k : ℕ) → k < 64 * b → bits_from ws (at + 1) k ≡ bit_of (get_or cs k 0) (t - 1)) × Holds b (t - 1) cs ws (at + (2 * b + 2))
  unfolding Holds
  holds_more cs ws at h = let e : t ≡ suc (t - 1) = omega arith in subst (λ n. Holds b n cs ws at) e h

  pub tails_more : (n : ℕ) (ws : List ℕ) (at : ℕ) → Tails b t n ws at
      → ((k : ℕ) → n ≤ k → k < 64 * b → bits_from ws (at + 1) k ≡ 0) × Tails b (t - 1) n ws (at + (2 * b + 2))
  unfolding Tails
  tails_more n ws at h = let e : t ≡ suc (t - 1) = omega arith in subst (λ m. Tails b m n ws at) e h

  pub levels_make : (cs : List ℕ) → levels b t cs ≡ level b (plane (t - 1) cs) ++ levels b (t - 1) (sorted (t - 1) cs)
  unfolding levels
  levels_make cs = let e : t ≡ suc (t - 1) = omega arith in ap (λ n. levels b n cs) e

pub holds_after : (b t : ℕ) (cs was is : List ℕ) (at : ℕ) → ((i : ℕ) → at ≤ i → get_or is i 0 ≡ get_or was i 0) → Holds b t cs was at → Holds b t cs is at
unfolding Holds
holds_after b zero cs was is at f h = tt
holds_after b (suc t) cs was is at f h = (
  λ k l. bits_same is was (at + 1) (at + 1) k (f (at + 1 + k / 64) (omega arith)) ∙ h.0 k l,
  holds_after b t cs was is (at + (2 * b + 2)) (λ i l. f i (omega arith)) h.1,
)

pub levels_none : (b : ℕ) (cs : List ℕ) → levels b 0 cs ≡ []
unfolding levels
levels_none b cs = refl

-- ---- planes in the order of another

pub routed_holds : (sel : ℕ → ℕ) → ((k : ℕ) → sel k < 2) → (b n t : ℕ) (cs was is : List ℕ) (u at : ℕ) → length cs ≡ n → n ≤ 64 * b
    → ((k : ℕ) → k < n → sel k ≡ bit_of (get_or cs k 0) u) → AllRouted sel b n t was is at → Holds b t cs was at → Holds b t (sorted u cs) is at
unfolding AllRouted Holds
routed_holds sel two b n zero cs was is u at len fit s r h = tt
routed_holds sel two b n (suc t) cs was is u at len fit s r h = (
  routed_plane sel (bits_from was (at + 1)) (bits_from is (at + 1)) cs u t b two (omega arith) (λ j q. s j (omega arith)) h.0
      (subst (λ x. Routed sel b x (bits_from was (at + 1)) (bits_from is (at + 1))) (sym len) r.0),
  routed_holds sel two b n t cs was is u (at + (2 * b + 2)) len fit s r.1 h.1,
)

pub routed_tails : (sel : ℕ → ℕ) (b n t : ℕ) (was is : List ℕ) (at : ℕ) → AllRouted sel b n t was is at → Tails b t n is at
unfolding AllRouted Tails
routed_tails sel b n zero was is at r = tt
routed_tails sel b n (suc t) was is at r = (r.0.1, routed_tails sel b n t was is (at + (2 * b + 2)) r.1)

pub tails_after : (b t n : ℕ) (was is : List ℕ) (at : ℕ) → ((i : ℕ) → at ≤ i → get_or is i 0 ≡ get_or was i 0) → Tails b t n was at → Tails b t n is at
unfolding Tails
tails_after b zero n was is at f h = tt
tails_after b (suc t) n was is at f h = (
  λ k l m. bits_same is was (at + 1) (at + 1) k (f (at + 1 + k / 64) (omega arith)) ∙ h.0 k l m,
  tails_after b t n was is (at + (2 * b + 2)) (λ i l. f i (omega arith)) h.1,
)

-- ---- a turn of the finish: `one` is the table once the first level is made, `two` once the others are regrouped, and `is` at the end

module _ (was one two is : List ℕ) (at b n t : ℕ) (p : 0 < t) (fit : n ≤ 64 * b) (len1 : length one ≡ length was) (len2 : length two ≡ length was) (len3 : length is ≡ length was)
    (room : ends b t at ≤ length was)
    (bits : (i : ℕ) → i < b → get_or one (at + 1 + i) 0 ≡ get_or was (at + 1 + i) 0)
    (o1 : Outside at (at + (2 * b + 2)) was one)
    (o2 : Outside (at + (2 * b + 2)) (ends b (t - 1) (at + (2 * b + 2))) one two)
    (o3 : Outside (at + (2 * b + 2)) (ends b (t - 1) (at + (2 * b + 2))) two is) where
  pub finish_outside : Outside at (ends b t at) was is
  finish_outside =
      let e = ends_more b t at p in
      let r = room_for b t at p in (
        λ i h. o3.0 i (omega arith) ∙ o2.0 i (omega arith) ∙ o1.0 i h,
        λ i h. o3.1 i (omega arith) ∙ o2.1 i (omega arith) ∙ o1.1 i (omega arith),
      )

  pub finish_levels : (cs : List ℕ) → length cs ≡ n
      → between at (at + (2 * b + 2)) one ≡ level b (plane (t - 1) cs)
      → between (at + (2 * b + 2)) (ends b (t - 1) (at + (2 * b + 2))) is ≡ levels b (t - 1) (sorted (t - 1) cs)
      → between at (ends b t at) is ≡ levels b t cs
  finish_levels cs len first rest =
      let e = ends_more b t at p in
      let r = room_for b t at p in
      between_split is at (at + (2 * b + 2)) (ends b t at) (omega arith) r
      ∙ ap₂ (λ x y. x ++ y)
      (between_cong is one at (at + (2 * b + 2)) (omega arith) (omega arith) (λ i a l. o3.0 i l ∙ o2.0 i l) ∙ first)
      (ap (λ x. between (at + (2 * b + 2)) x is) e ∙ rest)
      ∙ sym (levels_make b t p cs)

-- ---- the making of one level: `mid` has the counts, and `is` the number of zero bits too

module _ (was mid is : List ℕ) (at b n z ones : ℕ) (fit : n ≤ 64 * b) (room : at + (2 * b + 2) ≤ length is) (small : (i : ℕ) → get_or is i 0 < 2 ^ 64)
    (zis : get_or is at 0 ≡ z) (ze : z ≡ n - ones) (on : ones ≡ sum_to (bits_from was (at + 1)) (64 * b))
    (others : (i : ℕ) → (i ≡ at → ⊥) → get_or is i 0 ≡ get_or mid i 0)
    (counts : (i : ℕ) → i ≤ b → get_or mid (at + 1 + b + i) 0 ≡ sum_to (bits_from was (at + 1)) (64 * i))
    (out : Outside (at + 1 + b) (at + 1 + 2 * b + 1) was mid) where
  pub settle_bits : (i : ℕ) → i < b → get_or is (at + 1 + i) 0 ≡ get_or was (at + 1 + i) 0
  settle_bits i l = others (at + 1 + i) (λ q. omega arith) ∙ out.0 (at + 1 + i) (omega arith)

  pub settle_outside : Outside at (at + (2 * b + 2)) was is
  settle_outside = (
    λ i l. others i (λ q. omega arith) ∙ out.0 i (omega arith),
    λ i l. others i (λ q. omega arith) ∙ out.1 i (omega arith),
  )

  pub settle_level : (cs : List ℕ) (u : ℕ) → length cs ≡ n → ((k : ℕ) → k < 64 * b → bits_from was (at + 1) k ≡ bit_of (get_or cs k 0) u)
      → between at (at + (2 * b + 2)) is ≡ level b (plane u cs)
  settle_level cs u len h =
      let f : (k : ℕ) → k < 64 * b → bits_from was (at + 1) k ≡ get_or (plane u cs) k 0 = λ k l. h k l ∙ sym (plane_at u cs k) in
      let m = length-map cs (λ c. bit_of c u) in
      let s = sum_to_bits (bits_from was (at + 1)) (plane u cs) (64 * b) f in
      let a = ap (λ x. sum x) (take_all (64 * b) (plane u cs) (omega arith)) in
      level_at is (plane u cs) at b room (omega arith)
      (word_is is (plane u cs) (at + 1) b small (bits_plane u cs) (λ k l. bits_same is was (at + 1) (at + 1) k (settle_bits (k / 64) (omega arith)) ∙ f k l))
      (λ i l. others (at + 1 + b + i) (λ q. omega arith) ∙ counts i l ∙ sum_to_bits (bits_from was (at + 1)) (plane u cs) (64 * i) (λ j q. f j (omega arith)))
