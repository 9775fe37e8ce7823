-- One halving: the questions of one block of a trial.
use Rattle.std.specs.Prelude.{◌≡◌, ℕ, zero, suc, ◌+◌, ◌-◌, ◌/◌, ◌<◌, ◌≤◌, cond, List, [], ◌∷◌, length, nat_le, nat_lt}
use Rattle.cost.specs.Price.{Price}
use Rattle.search.specs.Digits.{digits}
use Rattle.search.specs.Trails.{Question}

-- the middle of low to past - 1, rounded down
abbrev pub middle : ℕ → ℕ → ℕ
middle low past = (low + past - 1) / 2

-- the questions for block k from row s on, while low is below past: at most c is granted and sets low to the middle
-- plus 1, else past is set to the middle; at most `fuel` questions
unfoldable pub halves : Price → ℕ → ℕ → ℕ → ℕ → ℕ → ℕ → List Question
halves p k s c zero low past = []
halves p k s c (suc fuel) low past =
    cond (nat_lt low past)
    ((k, s, middle low past) ∷ cond (nat_le (p.figure k s (middle low past)) c) (halves p k s c fuel (middle low past + 1) past) (halves p k s c fuel low (middle low past)))
    []

-- the boundary of the last question that was granted, or the given one where none was
unfoldable pub last_granted : Price → ℕ → ℕ → List Question → ℕ
last_granted p c given [] = given
last_granted p c given (q ∷ qs) = last_granted p c (cond (nat_le (p.figure q.0 q.1 q.2) c) q.2 given) qs

-- the questions of a halving over low to high, in order
unfoldable pub halving_asks : Price → ℕ → ℕ → ℕ → ℕ → ℕ → List Question
halving_asks p k s low high c = halves p k s c (digits (high + 1)) low (high + 1)

-- the last granted middle; where none is granted the last question stood at low
unfoldable pub halving_row : Price → ℕ → ℕ → ℕ → ℕ → ℕ → ℕ
halving_row p k s low high c = last_granted p c low (halving_asks p k s low high c)

-- what a halving gives back: that middle, its figure, and the number of questions
abbrev pub halved : Price → ℕ → ℕ → ℕ → ℕ → ℕ → ℕ × ℕ × ℕ
halved p k s low high c = (halving_row p k s low high c, p.figure k s (halving_row p k s low high c), length (halving_asks p k s low high c))

-- what that is: the furthest row b at which the block is granted, at its figure w, or that it is granted nowhere;
-- n questions are no more than the binary digits of high + 1
pub record Furthest (p : Price) (k s low high c b w n : ℕ) : Type 0 where
  pub from : low ≤ b
  pub within : b ≤ high
  pub worth : w ≡ p.figure k s b
  pub furthest : (row : ℕ) → low ≤ row → row ≤ high → p.figure k s row ≤ c → row ≤ b
  pub nowhere : c < w → (row : ℕ) → low ≤ row → row ≤ high → c < p.figure k s row
  pub few : n ≤ digits (high + 1)

-- the fuel cuts no question short: more of it would change nothing
abbrev pub Enough : Price → ℕ → ℕ → ℕ → ℕ → ℕ → Type 0
Enough p k s low high c = (more : ℕ) → halves p k s c (digits (high + 1) + more) low (high + 1) ≡ halving_asks p k s low high c
