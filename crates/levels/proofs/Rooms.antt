-- Facts of each of the levels that stand one after another, and what is done to them in turn.
use Rattle.std.proofs.Common.{◌≡◌, ℕ, zero, suc, ◌+◌, ◌-◌, ◌*◌, ◌/◌, ◌%◌, ◌<◌, ◌≤◌, Bool, true, false, MatchBool, max, List, ◌++◌, length, get_or, take, drop, sym, ap, ◌∙◌, subst, add-one, length-append, length-drop, arith}
use borrow.Rule.Slice.PartMut.{put_mid, post_of}
use Rattle.std.specs.List.{between}
use Rattle.std.proofs.lemmas.List.{length-take-le}
use Rattle.std.proofs.lemmas.List.Edits.{get_or-between, length-between}
use Rattle.std.proofs.lemmas.Slice.{between-put_mid}
use Rattle.gather.proofs.Parts.{part_after, part_before, part_in}
use Rattle.gather.specs.Bits.{bit_of, sum_to}
use Rattle.gather.proofs.Sums.{sum_cong}
use Rattle.gather.specs.Gathered.{Gathered}
use Rattle.levels.specs.Planes.{bit_at, bits_from, Outside, Routed}
use Rattle.levels.specs.Rooms.{Each, Filled, Grown, Kept, OneOf, Wiped, level_words}
use Rattle.levels.specs.Spans.{ends, Tails, AllRouted}
use Rattle.levels.specs.Streams.{Added, from}
use Rattle.levels.specs.Traces.{AllStand, Stands}
use Rattle.levels.proofs.Ends.{ends_le, ends_next}
use Rattle.levels.proofs.Frames.{bit_word, bits_from_word, bits_same}
use Rattle.levels.proofs.Regions.{between_cong}

pub each_none : (b : ℕ) (fact : ℕ → Type 0) (at : ℕ) → Each b 0 fact at
unfolding Each
each_none b fact at = tt

pub each_next : (b k : ℕ) (fact : ℕ → Type 0) (at : ℕ) → Each b k fact at → fact (ends b k at) → Each b (k + 1) fact at
unfolding Each ends
each_next b k fact at h f = subst (λ m. Each b m fact at) (sym (add-one k)) (plain k at h f)
  where
    plain : (k at : ℕ) → Each b k fact at → fact (ends b k at) → Each b (suc k) fact at
    plain zero at h f = (f, tt)
    plain (suc k) at h f = (h.0, plain k (at + (2 * b + 2)) h.1 f)

pub each_map : (b t at : ℕ) (one two : ℕ → Type 0) → ((A : ℕ) → A + (2 * b + 2) ≤ ends b t at → one A → two A) → Each b t one at → Each b t two at
unfolding Each ends
each_map b zero at one two f h = tt
each_map b (suc t) at one two f h = (f at (ends_le b t (at + (2 * b + 2))) h.0, each_map b t (at + (2 * b + 2)) one two f h.1)

pub each_both : (b t at : ℕ) (one two : ℕ → Type 0) → Each b t one at → Each b t two at → Each b t (λ A. one A × two A) at
unfolding Each
each_both b zero at one two h k = tt
each_both b (suc t) at one two h k = ((h.0, k.0), each_both b t (at + (2 * b + 2)) one two h.1 k.1)

pub each_at : (b t k : ℕ) (fact : ℕ → Type 0) (at : ℕ) → k < t → Each b t fact at → fact (ends b k at)
unfolding Each ends
each_at b zero k fact at l h = absurd (omega arith)
each_at b (suc t) zero fact at l h = h.0
each_at b (suc t) (suc k) fact at l h = each_at b t k fact (at + (2 * b + 2)) (omega arith) h.1

-- a test of each level is a test of all of them
pub when_each : (b t at : ℕ) (one two fact : ℕ → Type 0) (r : Bool) → MatchBool r (Each b t one at) (OneOf b t two at)
    → ((A : ℕ) → A + (2 * b + 2) ≤ ends b t at → one A → fact A) → ((A : ℕ) → two A → fact A → ⊥) → MatchBool r (Each b t fact at) (Each b t fact at → ⊥)
unfolding OneOf
when_each b t at one two fact true h f g = each_map b t at one fact f h
when_each b t at one two fact false (k, l, n) f g = λ e. g (ends b k at) n (each_at b t k fact at l e)

-- the planes' zero bits from n on
abbrev pub Tail : ℕ → ℕ → List ℕ → ℕ → Type 0
Tail b n ws A = (k : ℕ) → n ≤ k → k < 64 * b → bits_from ws (A + 1) k ≡ 0

pub tails_each : (b t n : ℕ) (ws : List ℕ) (at : ℕ) → Tails b t n ws at → Each b t (Tail b n ws) at
unfolding Each Tails
tails_each b zero n ws at h = tt
tails_each b (suc t) n ws at h = (h.0, tails_each b t n ws (at + (2 * b + 2)) h.1)

pub each_tails : (b t n : ℕ) (ws : List ℕ) (at : ℕ) → Each b t (Tail b n ws) at → Tails b t n ws at
unfolding Each Tails
each_tails b zero n ws at h = tt
each_tails b (suc t) n ws at h = (h.0, each_tails b t n ws (at + (2 * b + 2)) h.1)

pub stand_each : (b t n : ℕ) (ws : List ℕ) (at : ℕ) → AllStand b t n ws at → Each b t (Stands b n ws) at
unfolding Each AllStand
stand_each b zero n ws at h = tt
stand_each b (suc t) n ws at h = (h.0, stand_each b t n ws (at + (2 * b + 2)) h.1)

pub each_stand : (b t n : ℕ) (ws : List ℕ) (at : ℕ) → Each b t (Stands b n ws) at → AllStand b t n ws at
unfolding Each AllStand
each_stand b zero n ws at h = tt
each_stand b (suc t) n ws at h = (h.0, each_stand b t n ws (at + (2 * b + 2)) h.1)

pub each_routed : (sel : ℕ → ℕ) (b n t : ℕ) (was is : List ℕ) (at : ℕ)
    → Each b t (λ A. Routed sel b n (bits_from was (A + 1)) (bits_from is (A + 1))) at → AllRouted sel b n t was is at
unfolding Each AllRouted
each_routed sel b n zero was is at h = tt
each_routed sel b n (suc t) was is at h = (h.0, each_routed sel b n t was is (at + (2 * b + 2)) h.1)

-- a level of which the memory is kept has the same words
pub words_same : (b A : ℕ) (xs ys : List ℕ) → A + (2 * b + 2) ≤ length xs → length ys ≡ length xs
    → ((j : ℕ) → A ≤ j → j < A + (2 * b + 2) → get_or ys j 0 ≡ get_or xs j 0) → level_words b ys A ≡ level_words b xs A
words_same b A xs ys l e h = between_cong ys xs A (A + (2 * b + 2)) (omega arith) l h

-- a write to a part leaves the length and the rest
length_part : (a e : ℕ) (xs ys : List ℕ) → a ≤ e → e ≤ length xs → length ys ≡ e - a → length (put_mid a (e - a) xs ys) ≡ length xs
length_part a e xs ys h l n =
    length-append (take a xs) (ys ++ post_of a (e - a) xs) ∙ ap (λ x. length (take a xs) + x) (length-append ys (post_of a (e - a) xs))
    ∙ omega (arith, length-take-le a xs (omega arith), length-drop (e - a) (drop a xs), length-drop a xs)

pub part_outside : (a e : ℕ) (xs ys : List ℕ) → a ≤ e → e ≤ length xs → length ys ≡ e - a → Outside a e xs (put_mid a (e - a) xs ys)
part_outside a e xs ys h l n =
    (λ i u. part_before a (e - a) xs ys i u (omega arith), λ i u. part_after a (e - a) xs ys i n (omega arith) (omega arith))

-- `ys` are made of the words of the level at e, which is the next after the first k
pub made_next : (made : List ℕ → List ℕ → Type 0) (b at k e w : ℕ) (was mid ys : List ℕ) → e ≡ ends b k at → w ≡ 2 * b + 2
    → e + (2 * b + 2) ≤ length was → length mid ≡ length was → length ys ≡ 2 * b + 2
    → Each b k (λ A. made (level_words b was A) (level_words b mid A)) at × Outside at (ends b k at) was mid → made (between e (e + w) mid) ys
    → Each b (k + 1) (λ A. made (level_words b was A) (level_words b (put_mid e (e + w - e) mid ys) A)) at
    × Outside at (ends b (k + 1) at) was (put_mid e (e + w - e) mid ys)
made_next made b at k e w was mid ys i width room lm ly (h, o) new =
    let is = put_mid e (e + w - e) mid ys in
    let p = part_outside e (e + w) mid ys (omega arith) (omega arith) (omega arith) in
    let n = ends_next b k at in
    let l = ends_le b k at in
    let whole : level_words b is e ≡ ys =
    ap (λ x. between e (e + x) is) (sym width) ∙ between-put_mid e (e + w - e) mid ys (e + w) (omega arith) (omega arith) in
    let size : length is ≡ length mid = length_part e (e + w) mid ys (omega arith) (omega arith) (omega arith) in
    let old : between e (e + w) mid ≡ level_words b was e =
    ap (λ x. between e (e + x) mid) width ∙ words_same b e was mid room lm (λ j u v. o.1 j (omega arith)) in (
      each_next b k (λ A. made (level_words b was A) (level_words b is A)) at
          (each_map b k at (λ A. made (level_words b was A) (level_words b mid A)) (λ A. made (level_words b was A) (level_words b is A))
          (λ A u m. subst (λ x. made (level_words b was A) x) (sym (words_same b A mid is (omega arith) size (λ j v x. p.0 j (omega arith)))) m) h)
          (subst (λ x. made (level_words b was x) (level_words b is x)) i (subst (λ x. made x (level_words b is e)) old (subst (λ x. made (between e (e + w) mid) x) (sym whole) new))),
      (λ j u. p.0 j (omega arith) ∙ o.0 j u, λ j u. p.1 j (omega arith) ∙ o.1 j (omega arith)),
    )

-- ---- what is done to the words of a level is done to the level

pub each_from : (b t at : ℕ) (one two : ℕ → Type 0) → Each b t one at → ((A : ℕ) → A + (2 * b + 2) ≤ ends b t at → one A → two A) → Each b t two at
each_from b t at one two h f = each_map b t at one two f h

pub at_words : (P : List ℕ → List ℕ → Type 0) {x y was is : List ℕ} → x ≡ was → y ≡ is → P x y → P was is
at_words P {x} {y} {was} {is} a e p = subst (λ v. P v is) a (subst (λ v. P x v) e p)

word_of : (b A : ℕ) (ws : List ℕ) (j i : ℕ) → j < 2 * b + 2 → A + j ≡ i → get_or (level_words b ws A) j 0 ≡ get_or ws i 0
word_of b A ws j i l e = get_or-between ws A (A + (2 * b + 2)) j 0 (omega arith) ∙ ap (λ x. get_or ws x 0) e

module _ (b A : ℕ) (was is : List ℕ) where
  kept_in : Kept b (level_words b was A) (level_words b is A) 0 → Kept b was is A
  kept_in h i l = sym (word_of b A is (1 + i) (A + 1 + i) (omega arith) (omega arith)) ∙ h i l ∙ word_of b A was (1 + i) (A + 1 + i) (omega arith) (omega arith)

  pub wiped_in : Wiped b (level_words b was A) (level_words b is A) 0 → Wiped b was is A
  wiped_in h = (kept_in h.0, λ i l. sym (word_of b A is (1 + b + i) (A + 1 + b + i) (omega arith) (omega arith)) ∙ h.1 i l)

  pub filled_in : Filled b (level_words b was A) (level_words b is A) 0 → Filled b was is A
  filled_in h i l =
      sym (word_of b A is (1 + i) (A + 1 + i) (omega arith) (omega arith)) ∙ h i l ∙ word_of b A was (1 + b + i) (A + 1 + b + i) (omega arith) (omega arith)

  room_of : (ws : List ℕ) (d : ℕ) → d < 64 * b → bits_from (level_words b ws A) (1 + b) d ≡ bits_from ws (A + 1 + b) d
  room_of ws d l = bits_same (level_words b ws A) ws (1 + b) (A + 1 + b) d (word_of b A ws (1 + b + d / 64) (A + 1 + b + d / 64) (omega arith) (omega arith))

  pub grown_in : (t s i lo hi : ℕ) → i < b → Grown t s b i lo hi (level_words b was A) (level_words b is A) 0 → Grown t s b i lo hi was is A
  grown_in t s i lo hi m h =
      let w = word_of b A was (1 + i) (A + 1 + i) (omega arith) (omega arith) in
      let a = h.1 in (
        kept_in h.0,
        record {
          zb = a.zb;
          ob = a.ob;
          zeros = subst (λ v. Gathered t v a.zb) w a.zeros;
          ones = subst (λ v. Gathered s v a.ob) w a.ones;
          bits = λ d l. sym (room_of is d l) ∙ a.bits d l ∙ ap (λ v. max (max v (from lo a.zb d)) (from hi a.ob d)) (room_of was d l);
        },
      )

-- what is found in the words of a level is found in the level
module _ (b A n : ℕ) (ws : List ℕ) where
  plane_of : (d : ℕ) → d < 64 * b → bits_from (level_words b ws A) 1 d ≡ bits_from ws (A + 1) d
  plane_of d l = bits_same (level_words b ws A) ws 1 (A + 1) d (word_of b A ws (1 + d / 64) (A + 1 + d / 64) (omega arith) (omega arith))

  pub tail_in : Tail b n (level_words b ws A) 0 → Tail b n ws A
  tail_in h k m l = sym (plane_of k l) ∙ h k m l

  pub tail_out : Tail b n ws A → Tail b n (level_words b ws A) 0
  tail_out h k m l = plane_of k l ∙ h k m l

  sums_of : (k : ℕ) → k ≤ 64 * b → sum_to (bits_from (level_words b ws A) 1) k ≡ sum_to (bits_from ws (A + 1)) k
  sums_of k l = sum_cong (bits_from (level_words b ws A) 1) (bits_from ws (A + 1)) k (λ j h. plane_of j (omega arith))

  pub stands_in : Stands b n (level_words b ws A) 0 → Stands b n ws A
  stands_in h = (
    sym (word_of b A ws 0 A (omega arith) (omega arith)) ∙ h.0 ∙ ap (λ x. n - x) (sums_of (64 * b) (omega arith)),
    λ i l. sym (word_of b A ws (1 + b + i) (A + 1 + b + i) (omega arith) (omega arith)) ∙ h.1 i l ∙ sums_of (64 * i) (omega arith),
    tail_in h.2,
  )

  pub stands_out : Stands b n ws A → Stands b n (level_words b ws A) 0
  stands_out h = (
    word_of b A ws 0 A (omega arith) (omega arith) ∙ h.0 ∙ ap (λ x. n - x) (sym (sums_of (64 * b) (omega arith))),
    λ i l. word_of b A ws (1 + b + i) (A + 1 + b + i) (omega arith) (omega arith) ∙ h.1 i l ∙ sym (sums_of (64 * i) (omega arith)),
    tail_out h.2,
  )

-- bits added to the room of a level's words are added to the level
module _ (b : ℕ) (level room : List ℕ) (len : length level ≡ 2 * b + 2) (whole : length room ≡ b + 1) where
  put : List ℕ
  put = put_mid (b + 1) (length level - (b + 1)) level room

  room_is : (d : ℕ) → d < 64 * b → bits_from put (1 + b) d ≡ bit_at room d
  unfolding put
  room_is d l =
      let e : 1 + b + d / 64 ≡ b + 1 + d / 64 = omega arith in
      bits_from_word put (1 + b) d
      ∙ ap (λ x. bit_of x (d % 64)) (ap (λ x. get_or put x 0) e ∙ part_in (b + 1) (length level - (b + 1)) level room (d / 64) (omega arith) (omega arith))
      ∙ sym (bit_word room d)

  room_was : (d : ℕ) → d < 64 * b → bit_at (between (b + 1) (length level) level) d ≡ bits_from level (1 + b) d
  room_was d l =
      let e : b + 1 + d / 64 ≡ 1 + b + d / 64 = omega arith in
      bit_word (between (b + 1) (length level) level) d
      ∙ ap (λ x. bit_of x (d % 64)) (get_or-between level (b + 1) (length level) (d / 64) 0 (omega arith) ∙ ap (λ x. get_or level x 0) e)
      ∙ sym (bits_from_word level (1 + b) d)

  pub room_grown : (t s i lo hi : ℕ) → i < b
      → Added t s (get_or level (i + 1) 0) lo hi (64 * length (between (b + 1) (length level) level)) (bit_at (between (b + 1) (length level) level)) (bit_at room)
      → Grown t s b i lo hi level (put_mid (b + 1) (length level - (b + 1)) level room) 0
  unfolding put
  room_grown t s i lo hi m a =
      let e : i + 1 ≡ 1 + i = omega arith in
      let w = ap (λ x. get_or level x 0) e in
      let size = length-between level (b + 1) (length level) (omega arith) in (
        λ j l. part_before (b + 1) (length level - (b + 1)) level room (1 + j) (omega arith) (omega arith),
        record {
          zb = a.zb;
          ob = a.ob;
          zeros = subst (λ v. Gathered t v a.zb) w a.zeros;
          ones = subst (λ v. Gathered s v a.ob) w a.ones;
          bits = λ d l. room_is d l ∙ a.bits d (omega arith) ∙ ap (λ v. max (max v (from lo a.zb d)) (from hi a.ob d)) (room_was d l);
        },
      )
