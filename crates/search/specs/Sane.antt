-- The numbers of a search stay in their ranges, whatever its cost answers.
use Rattle.std.specs.Prelude.{ℕ, ◌+◌, ◌-◌, ◌*◌, ◌^◌, ◌<◌, ◌≤◌}

-- what a search is opened with
abbrev pub Shape : ℕ → ℕ → Type 0
Shape K C = (1 ≤ K) × (K ≤ 1024) × (C < 2 ^ 60)

-- the floor and the figure are at most C + 1, and each advance trial has at least halved what lies between them
abbrev pub Ranges : ℕ → ℕ → ℕ → ℕ → Type 0
Ranges C floor figure advances = (floor ≤ C + 1) × (figure ≤ C + 1) × ((figure - floor) * 2 ^ advances ≤ C + 1)

-- at most 61 advance trials and 65,535 try trials, each of at most 1,024 × 20 questions
abbrev pub Counts : ℕ → ℕ → ℕ → Type 0
Counts advances tries questions = (advances ≤ 61) × (tries ≤ 65535) × (questions ≤ (advances + tries) * 20480)
