-- A table that passes the check is the pattern's table.
use Rattle.std.proofs.Common.{◌≡◌, ℕ, zero, suc, ◌+◌, ◌-◌, ◌*◌, ◌/◌, ◌%◌, ◌^◌, ◌<◌, ◌≤◌, cond, List, [], ◌++◌, length, get_or, take, drop, sum, sym, refl, ap, ◌∙◌, subst, ap₂, ⊎_elim, arith}
use Rattle.std.specs.List.{between}
use Rattle.std.proofs.lemmas.List.{get_or_past, get_or-map, length-append, length-map, take_all, take_at, drop_at, get_or_append_left, get_or-append_right}
use Rattle.std.proofs.lemmas.List.FromFn.{get_or-map-range_with_len}
use Rattle.std.proofs.lemmas.List.Edits.{between_none, get_or-between, length-between}
use Rattle.std.proofs.lemmas.Bool.{cases_lt, cases_eq, eq-eqb, ne_eqb}
use Rattle.gather.specs.Bits.{bit_of, sum_to}
use Rattle.gather.proofs.Bitwise.{bit_none}
use Rattle.levels.specs.Planes.{bit_at, bits_from, chosen, route}
use Rattle.levels.proofs.Ends.{ends_le}
use Rattle.levels.proofs.Frames.{bits_lt, bits_from_word}
use Rattle.levels.proofs.Routes.{chosen_both, route_in, route_next, route_place, zeros_are}
use Rattle.levels.specs.Numbers.{packed, running, level, plane, sorted, levels}
use Rattle.levels.specs.Spans.{ends}
use Rattle.levels.specs.Traces.{Stands, AllStand, onward, Traced}
use Rattle.levels.proofs.Leveled.{Bits, bits_plane, bit_at_packed, length_packed, length_level}
use Rattle.levels.proofs.Finals.{word_is, route_sorted, length_sorted}
use Rattle.levels.proofs.Regions.{level_at, plane_at, sum_to_bits, between_split}

module _ (ws : List ℕ) (small : (i : ℕ) → get_or ws i 0 < 2 ^ 64) (b : ℕ) where
  -- one level: if it stands, and its bits are those of the numbers, its words are those of the plane
  level-stands : (cs : List ℕ) (t at : ℕ) → length cs ≤ 64 * b → at + (2 * b + 2) ≤ length ws → Stands b (length cs) ws at
      → ((q : ℕ) → q < length cs → bits_from ws (at + 1) q ≡ bit_of (get_or cs q 0) t)
      → between at (at + (2 * b + 2)) ws ≡ level b (plane t cs)
  level-stands cs t at fit room s h =
      let f : (k : ℕ) → k < 64 * b → bits_from ws (at + 1) k ≡ get_or (plane t cs) k 0 = λ k l.
      ⊎_elim (λ (a : k < length cs). h k a ∙ sym (plane_at t cs k))
      (λ (a : length cs ≤ k). s.2 k a l ∙ sym (plane_at t cs k ∙ ap (λ x. bit_of x t) (get_or_past cs k 0 a) ∙ bit_none t))
      (cases_lt k (length cs)) in
      let m = length-map cs (λ c. bit_of c t) in
      let u = sum_to_bits (bits_from ws (at + 1)) (plane t cs) (64 * b) f in
      let a = ap (λ x. sum x) (take_all (64 * b) (plane t cs) (omega arith)) in
      level_at ws (plane t cs) at b room (omega (arith, s.0))
      (word_is ws (plane t cs) (at + 1) b small (bits_plane t cs) f)
      (λ i l. s.1 i l ∙ sum_to_bits (bits_from ws (at + 1)) (plane t cs) (64 * i) (λ j q. f j (omega arith)))

  -- position d of the next level comes from position `route d`
  came_from : (n at d : ℕ) → n ≤ 64 * b → d < n → Stands b n ws at → onward ws at (get_or (route (bits_from ws (at + 1)) n) d 0) ≡ d
  came_from n at d fit l s =
      let f = bits_from ws (at + 1) in
      let j = get_or (route f n) d 0 in
      let z : get_or ws at 0 ≡ length (chosen f 0 n) = s.0 ∙ zeros_are f n (64 * b) (bits_lt ws (at + 1)) fit s.2 in
      ⊎_elim
      (λ p. ap (λ x. cond x (j - sum_to f j) (get_or ws at 0 + sum_to f j)) (eq-eqb (f j) 0 p.0) ∙ p.1)
      (λ p. ap (λ x. cond x (j - sum_to f j) (get_or ws at 0 + sum_to f j)) (ne_eqb (f j) 0 (λ e. clash (f j) e p.0)) ∙ ap (λ x. x + sum_to f j) z ∙ p.1)
      (route_next f (bits_lt ws (at + 1)) n d l)
    where
      clash : (x : ℕ) → x ≡ 0 → x ≡ 1 → ⊥
      clash x p q = omega arith

  -- levels that stand, down which every code is traced, are the levels of the codes
  pub traced_levels : (t : ℕ) (cs : List ℕ) (at : ℕ) → length cs ≤ 64 * b → ends b t at ≤ length ws → AllStand b t (length cs) ws at
      → ((q : ℕ) → q < length cs → Traced b t ws at q (get_or cs q 0)) → between at (ends b t at) ws ≡ levels b t cs
  unfolding AllStand Traced levels ends
  traced_levels zero cs at fit room s h = between_none ws at
  traced_levels (suc t) cs at fit room s h =
      let f = bits_from ws (at + 1) in
      let r = ends_le b t (at + (2 * b + 2)) in
      let len = length_sorted t cs in
      let first = level-stands cs t at fit (omega arith) s.0 (λ q l. (h q l).0) in
      let sel : (k : ℕ) → k < length cs → f k ≡ bit_of (get_or cs k 0) t = λ k l. (h k l).0 in
      let rest : between (at + (2 * b + 2)) (ends b t (at + (2 * b + 2))) ws ≡ levels b t (sorted t cs) =
      traced_levels t (sorted t cs) (at + (2 * b + 2)) (omega arith) room (subst (λ x. AllStand b t x ws (at + (2 * b + 2))) (sym len) s.1)
      (λ d l.
      let k : d < length cs = omega arith in
      let j = get_or (route f (length cs)) d 0 in
      let i = route_in f (bits_lt ws (at + 1)) (length cs) d k in
      let both = chosen_both f (bits_lt ws (at + 1)) (length cs) in
      let e : get_or (sorted t cs) d 0 ≡ get_or cs j 0 =
      ap (λ x. get_or x d 0) (sym (route_sorted f cs t sel))
      ∙ get_or-map (λ j. get_or cs j 0) (route f (length cs)) d 0 0 (omega (arith, length-append (chosen f 0 (length cs)) (chosen f 1 (length cs)))) in
      subst (λ c. Traced b t ws (at + (2 * b + 2)) d c) (sym e)
      (subst (λ q. Traced b t ws (at + (2 * b + 2)) q (get_or cs j 0)) (came_from (length cs) at d fit k s.0) (h j i).1)) in
      between_split ws at (at + (2 * b + 2)) (ends b t (at + (2 * b + 2))) (omega arith) r ∙ ap₂ (λ x y. x ++ y) first rest

-- ---- and the other way round: the pattern's table passes

-- what a level's words say
module _ (ws bits : List ℕ) (at b : ℕ) (room : at + (2 * b + 2) ≤ length ws) (e : between at (at + (2 * b + 2)) ws ≡ level b bits) where
  word_at : (i : ℕ) → i < 2 * b + 2 → get_or ws (at + i) 0 ≡ get_or (level b bits) i 0
  word_at i l = sym (get_or-between ws at (at + (2 * b + 2)) i 0 (omega arith)) ∙ ap (λ x. get_or x i 0) e

  pub zero-at : get_or ws at 0 ≡ length bits - sum bits
  zero-at = let q : at ≡ at + 0 = omega arith in ap (λ x. get_or ws x 0) q ∙ word_at 0 (omega arith)

  packed_at : (i : ℕ) → i < b → get_or ws (at + 1 + i) 0 ≡ get_or (packed b bits) i 0
  packed_at i l =
      let q : at + 1 + i ≡ at + suc i = omega arith in
      ap (λ x. get_or ws x 0) q ∙ word_at (suc i) (omega arith) ∙ get_or_append_left (packed b bits) (running b bits) 0 i (omega (arith, length_packed b bits))

  count_at : (i : ℕ) → i ≤ b → get_or ws (at + 1 + b + i) 0 ≡ sum (take (64 * i) bits)
  unfolding running
  count_at i l =
      let q : at + 1 + b + i ≡ at + suc (b + i) = omega arith in
      let d : (b + i) - b ≡ i = omega arith in
      ap (λ x. get_or ws x 0) q ∙ word_at (suc (b + i)) (omega arith)
      ∙ get_or-append_right (packed b bits) (running b bits) b (b + i) 0 (length_packed b bits) (omega arith) ∙ ap (λ x. get_or (running b bits) x 0) d
      ∙ get_or-map-range_with_len (λ i. sum (take (64 * i) bits)) 0 (b + 1) i i 0 (omega arith) (omega arith)

  pub bit-at : Bits bits → (k : ℕ) → k < 64 * b → bits_from ws (at + 1) k ≡ get_or bits k 0
  unfolding bit_at
  bit-at f k l =
      bits_from_word ws (at + 1) k ∙ ap (λ x. bit_of x (k % 64)) (packed_at (k / 64) (omega arith)) ∙ bit_at_packed b bits f k l

  pub stands_at : Bits bits → length bits ≤ 64 * b → Stands b (length bits) ws at
  stands_at f fit =
      let s = sum_to_bits (bits_from ws (at + 1)) bits (64 * b) (bit-at f) in
      let a = ap (λ x. sum x) (take_all (64 * b) bits fit) in (
        omega (arith, zero-at),
        λ i l. count_at i l ∙ sym (sum_to_bits (bits_from ws (at + 1)) bits (64 * i) (λ j q. bit-at f j (omega arith))),
        λ k m l. bit-at f k l ∙ get_or_past bits k 0 m,
      )

same_parts : (xs ys us vs : List ℕ) → length xs ≡ length us → xs ++ ys ≡ us ++ vs → (xs ≡ us) × (ys ≡ vs)
same_parts xs ys us vs l e = (
  sym (take_at xs ys (length us) l) ∙ ap (λ x. take (length us) x) e ∙ take_at us vs (length us) refl,
  sym (drop_at xs ys (length us) l) ∙ ap (λ x. drop (length us) x) e ∙ drop_at us vs (length us) refl,
)

-- the first of some levels, and the others
pub level_parts : (ws cs : List ℕ) (b t at : ℕ) → ends b (suc t) at ≤ length ws → between at (ends b (suc t) at) ws ≡ levels b (suc t) cs
    → (between at (at + (2 * b + 2)) ws ≡ level b (plane t cs)) × (between (at + (2 * b + 2)) (ends b t (at + (2 * b + 2))) ws ≡ levels b t (sorted t cs))
unfolding levels ends
level_parts ws cs b t at room e =
    let r = ends_le b t (at + (2 * b + 2)) in
    same_parts (between at (at + (2 * b + 2)) ws) (between (at + (2 * b + 2)) (ends b t (at + (2 * b + 2))) ws) (level b (plane t cs)) (levels b t (sorted t cs))
    (omega (arith, length-between ws at (at + (2 * b + 2)) (omega arith), length_level b (plane t cs) []))
    (sym (between_split ws at (at + (2 * b + 2)) (ends b t (at + (2 * b + 2))) (omega arith) r) ∙ e)

module _ (ws : List ℕ) (b : ℕ) where
  -- where a number of the list goes, it stands in the sorted list
  goes_to : (cs : List ℕ) (t at q : ℕ) → length cs ≤ 64 * b → q < length cs → Stands b (length cs) ws at
      → ((k : ℕ) → k < length cs → bits_from ws (at + 1) k ≡ bit_of (get_or cs k 0) t)
      → (onward ws at q < length cs) × (get_or (sorted t cs) (onward ws at q) 0 ≡ get_or cs q 0)
  goes_to cs t at q fit l s sel =
      let f = bits_from ws (at + 1) in
      let z : get_or ws at 0 ≡ length (chosen f 0 (length cs)) = s.0 ∙ zeros_are f (length cs) (64 * b) (bits_lt ws (at + 1)) fit s.2 in
      let p = route_place f (bits_lt ws (at + 1)) q (length cs) l in
      let both = chosen_both f (bits_lt ws (at + 1)) (length cs) in
      let at_place : (o : ℕ) → o < length cs → get_or (route f (length cs)) o 0 ≡ q → get_or (sorted t cs) o 0 ≡ get_or cs q 0 = λ o k e.
      ap (λ x. get_or x o 0) (sym (route_sorted f cs t sel))
      ∙ get_or-map (λ j. get_or cs j 0) (route f (length cs)) o 0 0 (omega (arith, length-append (chosen f 0 (length cs)) (chosen f 1 (length cs))))
      ∙ ap (λ j. get_or cs j 0) e in
      ⊎_elim
      (λ (e : f q ≡ 0).
      let r = p.0 e in
      let o : onward ws at q ≡ q - sum_to f q = ap (λ x. cond x (q - sum_to f q) (get_or ws at 0 + sum_to f q)) (eq-eqb (f q) 0 e) in
      subst (λ x. (x < length cs) × (get_or (sorted t cs) x 0 ≡ get_or cs q 0)) (sym o) (r.0, at_place (q - sum_to f q) r.0 r.1))
      (λ (n : f q ≡ 0 → ⊥).
      let e : f q ≡ 1 = only (f q) (bits_lt ws (at + 1) q) n in
      let r = p.1 e in
      let o : onward ws at q ≡ length (chosen f 0 (length cs)) + sum_to f q =
      ap (λ x. cond x (q - sum_to f q) (get_or ws at 0 + sum_to f q)) (ne_eqb (f q) 0 n) ∙ ap (λ x. x + sum_to f q) z in
      subst (λ x. (x < length cs) × (get_or (sorted t cs) x 0 ≡ get_or cs q 0)) (sym o) (r.0, at_place (length (chosen f 0 (length cs)) + sum_to f q) r.0 r.1))
      (cases_eq (f q) 0)
    where
      only : (y : ℕ) → y < 2 → (y ≡ 0 → ⊥) → y ≡ 1
      only y a m = omega arith

  pub levels_traced : (t : ℕ) (cs : List ℕ) (at : ℕ) → length cs ≤ 64 * b → ends b t at ≤ length ws → between at (ends b t at) ws ≡ levels b t cs
      → AllStand b t (length cs) ws at × ((q : ℕ) → q < length cs → Traced b t ws at q (get_or cs q 0))
  unfolding AllStand Traced levels ends
  levels_traced zero cs at fit room e = (tt, λ q l. tt)
  levels_traced (suc t) cs at fit room e =
      let r = ends_le b t (at + (2 * b + 2)) in
      let len = length_sorted t cs in
      let m = length-map cs (λ c. bit_of c t) in
      let parts = level_parts ws cs b t at room e in
      let st : Stands b (length cs) ws at =
      subst (λ x. Stands b x ws at) m (stands_at ws (plane t cs) at b (omega arith) parts.0 (bits_plane t cs) (omega arith)) in
      let sel : (k : ℕ) → k < length cs → bits_from ws (at + 1) k ≡ bit_of (get_or cs k 0) t = λ k l.
      bit-at ws (plane t cs) at b (omega arith) parts.0 (bits_plane t cs) k (omega arith) ∙ plane_at t cs k in
      let ih = levels_traced t (sorted t cs) (at + (2 * b + 2)) (omega arith) room parts.1 in (
        (st, subst (λ x. AllStand b t x ws (at + (2 * b + 2))) len ih.0),
        λ q l.
            let g = goes_to cs t at q fit l st sel in
            (sel q l, subst (λ c. Traced b t ws (at + (2 * b + 2)) (onward ws at q) c) g.1 (ih.1 (onward ws at q) (omega (arith, g.0)))),
      )

-- ---- for the code

pub onward_lt : (ws : List ℕ) (b n at q : ℕ) → n ≤ 64 * b → q < n → Stands b n ws at → onward ws at q < n
onward_lt ws b n at q fit l s =
    let f = bits_from ws (at + 1) in
    let z : get_or ws at 0 ≡ length (chosen f 0 n) = s.0 ∙ zeros_are f n (64 * b) (bits_lt ws (at + 1)) fit s.2 in
    let p = route_place f (bits_lt ws (at + 1)) q n l in
    ⊎_elim
    (λ (e : f q ≡ 0). subst (λ x. x < n) (sym (ap (λ x. cond x (q - sum_to f q) (get_or ws at 0 + sum_to f q)) (eq-eqb (f q) 0 e))) (p.0 e).0)
    (λ (m : f q ≡ 0 → ⊥).
    subst (λ x. x < n) (sym (ap (λ x. cond x (q - sum_to f q) (get_or ws at 0 + sum_to f q)) (ne_eqb (f q) 0 m) ∙ ap (λ x. x + sum_to f q) z)) (p.1 (only (f q) (bits_lt ws (at + 1) q) m)).0)
    (cases_eq (f q) 0)
  where
    only : (y : ℕ) → y < 2 → (y ≡ 0 → ⊥) → y ≡ 1
    only y a m = omega arith

module _ (b t : ℕ) (p : 0 < t) where
  pub stand_more : (n : ℕ) (ws : List ℕ) (at : ℕ) → AllStand b t n ws at → Stands b n ws at × AllStand b (t - 1) n ws (at + (2 * b + 2))
  unfolding AllStand
  stand_more n ws at h = let e : t ≡ suc (t - 1) = omega arith in subst (λ x. AllStand b x n ws at) e h

  pub traced_more : (ws : List ℕ) (at q c : ℕ) → Traced b t ws at q c → (bits_from ws (at + 1) q ≡ bit_of c (t - 1)) × Traced b (t - 1) ws (at + (2 * b + 2)) (onward ws at q) c
  unfolding Traced
  traced_more ws at q c h = let e : t ≡ suc (t - 1) = omega arith in subst (λ x. Traced b x ws at q c) e h

  pub traced_make : (ws : List ℕ) (at q c : ℕ) → (bits_from ws (at + 1) q ≡ bit_of c (t - 1)) × Traced b (t - 1) ws (at + (2 * b + 2)) (onward ws at q) c → Traced b t ws at q c
  unfolding Traced
  traced_make ws at q c h = let e : suc (t - 1) ≡ t = omega arith in subst (λ x. Traced b x ws at q c) e h

pub traced_none : (b : ℕ) (ws : List ℕ) (at q c : ℕ) → Traced b 0 ws at q c
unfolding Traced
traced_none b ws at q c = tt
