-- The parting of planes by a selector plane: what holds after the first words, and at the end.
use Rattle.std.proofs.Common.{◌≡◌, ℕ, ◌+◌, ◌-◌, ◌*◌, ◌/◌, ◌<◌, ◌≤◌, max, List, get_or, sym, refl, ap, ◌∙◌, subst, ap₂, arith}
use Rattle.gather.specs.Bits.{bit_of, sum_to}
use Rattle.gather.proofs.Sums.{sum_cong, sum_le, sum_bound}
use Rattle.levels.specs.Planes.{bits_from, Outside, Routed}
use Rattle.levels.specs.Rooms.{Each, Kept, Wiped, Grown, Filled}
use Rattle.levels.specs.Spans.{Tails, AllRouted, ends}
use Rattle.levels.specs.Streams.{from}
use Rattle.levels.proofs.Frames.{bits_same, bits_lt, bits_zero, word_bit}
use Rattle.levels.proofs.Placing.{Placed, unset_le, sum_word, turn, start}
use Rattle.levels.proofs.Rooms.{Tail, each_map, each_both, tails_each, each_routed}
use Rattle.levels.proofs.Routes.{placed_routed, routed_cong}

-- the plane at A is as it was, and its first k bits are parted in its room
abbrev pub Parted : (ℕ → ℕ) → ℕ → ℕ → ℕ → ℕ → List ℕ → List ℕ → ℕ → Type 0
Parted sel b n z k was is A = Kept b was is A × Placed sel (64 * b) n z k (bits_from was (A + 1)) (bits_from is (A + 1 + b))

-- `mid` is the memory once the rooms are cleared
module _ (was mid : List ℕ) (sel at b n z t : ℕ) (below : sel + b ≤ at) (fit : n ≤ 64 * b) (o : Outside at (ends b t at) was mid)
    (wiped : Each b t (Wiped b was mid) at) where
  sel_same : (k : ℕ) → k < 64 * b → bits_from mid sel k ≡ bits_from was sel k
  sel_same k l = bits_same mid was sel sel k (o.0 (sel + k / 64) (omega arith))

  plane_same : (A : ℕ) → Wiped b was mid A → (k : ℕ) → k < 64 * b → bits_from mid (A + 1) k ≡ bits_from was (A + 1) k
  plane_same A w k l = bits_same mid was (A + 1) (A + 1) k (w.0 (k / 64) (omega arith))

  pub count_same : z ≡ n - sum_to (bits_from was sel) n → z ≡ n - sum_to (bits_from mid sel) n
  count_same e = e ∙ ap (λ x. n - x) (sum_cong (bits_from was sel) (bits_from mid sel) n (λ j l. sym (sel_same j (omega arith))))

  pub tails_same : Tails b t n was at → Each b t (Tail b n mid) at
  tails_same h =
      each_map b t at (λ A. Wiped b was mid A × Tail b n was A) (Tail b n mid) (λ A m w k u v. plane_same A w.0 k v ∙ w.1 k u v)
      (each_both b t at (Wiped b was mid) (Tail b n was) wiped (tails_each b t n was at h))

  -- nothing is parted yet
  pub parted_start : z ≤ 64 * b → Each b t (Parted (bits_from mid sel) b n z 0 mid mid) at
  parted_start le =
      each_map b t at (Wiped b was mid) (Parted (bits_from mid sel) b n z 0 mid mid)
      (λ A l h. (
        (λ i u. refl),
        start (bits_from mid sel) (bits_from mid (A + 1)) (bits_from mid (A + 1 + b)) (64 * b) n z le
            (λ d u. bits_zero mid (A + 1 + b) d (h.1 (d / 64) (omega arith))),
      )) wiped

  -- planes that are filled from rooms where all is parted are in the order of the selector plane
  module _ (end is : List ℕ) (ze : z ≡ n - sum_to (bits_from mid sel) n) where
    one_end : (A : ℕ) → (Wiped b was mid A × Parted (bits_from mid sel) b n z (64 * b) mid end A) × Filled b end is A
        → Routed (bits_from was sel) b n (bits_from was (A + 1)) (bits_from is (A + 1))
    one_end A h =
        let r = placed_routed (bits_from mid sel) (bits_from mid (A + 1)) (bits_from end (A + 1 + b)) b n z (bits_lt mid sel) fit ze h.0.1.1 in
        let same : (d : ℕ) → d < 64 * b → bits_from is (A + 1) d ≡ bits_from end (A + 1 + b) d =
        λ d u. bits_same is end (A + 1) (A + 1 + b) d (h.1 (d / 64) (omega arith)) in
        routed_cong (bits_from mid sel) (bits_from was sel) (bits_from mid (A + 1)) (bits_from was (A + 1)) (bits_from is (A + 1)) b n (bits_lt mid sel)
        (λ j u. sel_same j (omega arith)) (λ j u. plane_same A h.0.0 j (omega arith))
        (λ d u. same d (omega arith) ∙ r.0 d u, λ d u v. same d v ∙ r.1 d u v)

    pub parted_end : Each b t (Parted (bits_from mid sel) b n z (64 * b) mid end) at → Each b t (Filled b end is) at
        → AllRouted (bits_from was sel) b n t was is at
    parted_end h k =
        let parted = Parted (bits_from mid sel) b n z (64 * b) mid end in
        each_routed (bits_from was sel) b n t was is at
        (each_map b t at (λ A. (Wiped b was mid A × parted A) × Filled b end is A)
        (λ A. Routed (bits_from was sel) b n (bits_from was (A + 1)) (bits_from is (A + 1))) (λ A l. one_end A)
        (each_both b t at (λ A. Wiped b was mid A × parted A) (Filled b end is) (each_both b t at (Wiped b was mid) parted wiped h) k))

-- one more word of the planes, where `lo` and `hi` are the places of its first zero and its first one
module _ (was : List ℕ) (sel b n z i lo hi : ℕ) (fit : n ≤ 64 * b) (whole : 64 * b < n + 64) (l : i < b) (ze : z ≡ n - sum_to (bits_from was sel) n)
    (lo-is : lo ≡ 64 * i - sum_to (bits_from was sel) (64 * i)) (hi-is : hi ≡ z + sum_to (bits_from was sel) (64 * i)) where
  pub in_reach : (lo ≤ n) × (hi ≤ n)
  in_reach =
      let f = bits_from was sel in
      let two = bits_lt was sel in
      (omega (arith, lo-is, unset_le f two (64 * i) n (omega arith)), omega (arith, hi-is, sum_le f (64 * i) n (omega arith), ze, sum_bound f two n))

  next : 64 * (i + 1) ≡ 64 * i + 64
  next = omega arith

  -- s is the word of the selector plane
  module _ (s : ℕ) (s-is : s ≡ get_or was (sel + i) 0) where
    sel_is : (p : ℕ) → p < 64 → bits_from was sel (64 * i + p) ≡ bit_of s p
    sel_is p u = word_bit was sel i p u ∙ ap (λ x. bit_of x p) (sym s-is)

    pub counts_on : (set : ℕ) → set ≡ sum_to (bit_of s) 64 → set ≤ 64
        → (lo + (64 - set) ≡ 64 * (i + 1) - sum_to (bits_from was sel) (64 * (i + 1))) × (hi + set ≡ z + sum_to (bits_from was sel) (64 * (i + 1)))
    counts_on set e m =
        let w = sum_word (bits_from was sel) (64 * i) s sel_is 64 (omega arith) in
        let v = ap (λ x. sum_to (bits_from was sel) x) next in
        let u = sum_bound (bits_from was sel) (bits_lt was sel) (64 * i) in
        (omega (arith, w, v, lo-is, e, m, u), omega (arith, w, v, hi-is, e, m))

    module _ (o : ℕ) (not_is : (p : ℕ) → p < 64 → bit_of o p ≡ 1 - bit_of s p) (mid is : List ℕ) where
      one_on : (A : ℕ) → (Tail b n was A × Parted (bits_from was sel) b n z (64 * i) was mid A) × Grown o s b i lo hi mid is A
          → Parted (bits_from was sel) b n z (64 * (i + 1)) was is A
      one_on A h =
          let f = bits_from was sel in
          let plane = bits_from was (A + 1) in
          let g = h.1.1 in
          let k = h.0.1.0 in (
            (λ j u. h.1.0 j u ∙ k j u),
            subst (λ m. Placed f (64 * b) n z m plane (bits_from is (A + 1 + b))) (sym next)
                (turn f plane (bits_from mid (A + 1 + b)) (bits_from is (A + 1 + b)) (64 * b) n z (64 * i) s o (get_or mid (A + 1 + i) 0) g.zb g.ob (bits_lt was sel) sel_is not_is
                (λ p u. word_bit was (A + 1) i p u ∙ ap (λ x. bit_of x p) (sym (k i l))) h.0.0 (omega arith) fit ze g.zeros g.ones
                (λ d u. g.bits d u ∙ ap₂ (λ x y. max (max (bits_from mid (A + 1 + b) d) (from x g.zb d)) (from y g.ob d)) lo-is hi-is) h.0.1.1),
          )

      pub parted_on : (t at : ℕ) → Each b t (Tail b n was) at → Each b t (Parted (bits_from was sel) b n z (64 * i) was mid) at
          → Each b t (Grown o s b i lo hi mid is) at → Each b t (Parted (bits_from was sel) b n z (64 * (i + 1)) was is) at
      parted_on t at tails h g =
          let before = Parted (bits_from was sel) b n z (64 * i) was mid in
          let add = Grown o s b i lo hi mid is in
          each_map b t at (λ A. (Tail b n was A × before A) × add A) (Parted (bits_from was sel) b n z (64 * (i + 1)) was is) (λ A u. one_on A)
          (each_both b t at (λ A. Tail b n was A × before A) add (each_both b t at (Tail b n was) before tails h) g)
