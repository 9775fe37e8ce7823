-- What is done to each of the levels that stand one after another. A level at A has its plane from A + 1 on, b words, and
-- after that its room, b + 1 words.
use Rattle.std.specs.Prelude.{◌≡◌, ℕ, zero, suc, ◌+◌, ◌*◌, ◌<◌, List, slice_index}
use Rattle.std.specs.Borrow.{MutBor}
use Rattle.std.specs.List.{between}
use Rattle.levels.specs.Planes.{bits_from}
use Rattle.levels.specs.Spans.{ends}
use Rattle.levels.specs.Streams.{Added}

-- a fact holds of each of t levels from word `at` on
unfoldable pub Each : ℕ → ℕ → (ℕ → Type 0) → ℕ → Type 0
Each b zero fact at = Unit {0}
Each b (suc t) fact at = fact at × Each b t fact (at + (2 * b + 2))

-- a fact holds of one of them
unfoldable pub OneOf : ℕ → ℕ → (ℕ → Type 0) → ℕ → Type 0
OneOf b t fact at = (k : ℕ) × (k < t) × fact (ends b k at)

-- the words of the level at A
abbrev pub level_words : ℕ → List ℕ → ℕ → List ℕ
level_words b ws A = between A (A + (2 * b + 2)) ws

-- a call with this outcome may make the words `is` of the words `was`
abbrev pub Made : (MutBor (List ℕ) → Unit {0} → MutBor (List ℕ) → Type 0) → List ℕ → List ℕ → Type 0
Made post was is = (x : MutBor (List ℕ)) × (y : MutBor (List ℕ)) × (x.now ≡ was) × (y.now ≡ is) × post x tt y

-- the plane is as it was
abbrev pub Kept : ℕ → List ℕ → List ℕ → ℕ → Type 0
Kept b was is A = (i : ℕ) → i < b → slice_index is (A + 1 + i) ≡ slice_index was (A + 1 + i)

-- the room is cleared
abbrev pub Wiped : ℕ → List ℕ → List ℕ → ℕ → Type 0
Wiped b was is A = Kept b was is A × ((i : ℕ) → i < b + 1 → slice_index is (A + 1 + b + i) ≡ 0)

-- the bits of word i of the plane are added to the room: those that t selects from position lo on, those that s selects
-- from hi on
abbrev pub Grown : ℕ → ℕ → ℕ → ℕ → ℕ → ℕ → List ℕ → List ℕ → ℕ → Type 0
Grown t s b i lo hi was is A =
    Kept b was is A × Added t s (slice_index was (A + 1 + i)) lo hi (64 * b) (bits_from was (A + 1 + b)) (bits_from is (A + 1 + b))

-- the plane is what the room was
abbrev pub Filled : ℕ → List ℕ → List ℕ → ℕ → Type 0
Filled b was is A = (i : ℕ) → i < b → slice_index is (A + 1 + i) ≡ slice_index was (A + 1 + b + i)
