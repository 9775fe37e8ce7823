-- A trial at c over the rows up to an end: block by block, each as far as c grants.
use Rattle.std.specs.Prelude.{◌≡◌, ℕ, zero, suc, ◌<◌, ◌≤◌, max, Bool, true, false, cond, ◌&&◌, List, [], ◌∷◌, ◌++◌, length, Ok, Err, Result, ◌==◌, nat_le, slice_index}
use Rattle.cost.specs.Price.{Price}
use Rattle.search.specs.Cuts.{Cut, cost_of}
use Rattle.search.specs.Trails.{Question}
use Rattle.search.specs.Halving.{halving_asks, halving_row}

-- a trial so far: its boundaries, their greatest figure and the questions; not alive once a block was granted nowhere
pub record Trial : Type 0 where
  pub alive : Bool
  pub cut : List ℕ
  pub worst : ℕ
  pub questions : List Question

-- block k was granted as far as row b, at figure w
abbrev pub goes_on : Trial → ℕ → ℕ → List Question → Trial
goes_on t b w asks = record { alive = true; cut = t.cut ++ (b ∷ []); worst = max t.worst w; questions = t.questions ++ asks }

-- block k was granted nowhere
abbrev pub fails : Trial → List Question → Trial
fails t asks = record { alive = false; cut = t.cut; worst = t.worst; questions = t.questions ++ asks }

-- block k from boundary s on
abbrev pub block : Price → ℕ → ℕ → ℕ → ℕ → Trial → Trial
block p end c k s t =
    cond (nat_le (p.figure k s (halving_row p k s s end c)) c)
    (goes_on t (halving_row p k s s end c) (p.figure k s (halving_row p k s s end c)) (halving_asks p k s s end c))
    (fails t (halving_asks p k s s end c))

-- the first k blocks
unfoldable pub trial_to : Price → ℕ → ℕ → ℕ → Trial
trial_to p end c zero = record { alive = true; cut = 0 ∷ []; worst = 0; questions = [] }
trial_to p end c (suc k) = cond (trial_to p end c k).alive (block p end c k (slice_index (trial_to p end c k).cut k) (trial_to p end c k)) (trial_to p end c k)

-- after K blocks the last boundary is the end
abbrev pub succeeds : ℕ → ℕ → Trial → Bool
succeeds end K t = t.alive && slice_index t.cut K == end

-- what a trial answers: the cost of its cut and the number of questions, or that number alone where it fails
abbrev pub outcome : ℕ → ℕ → Trial → Result (ℕ × ℕ) ℕ
outcome end K t = cond (succeeds end K t) (Ok (t.worst, length t.questions)) (Err (length t.questions))

-- a cut of cost w, at most c, whose boundaries are the latest of all cuts that cost c or less
pub record LatestWithin (p : Price) (end c K : ℕ) (cut : List ℕ) (w : ℕ) : Type 0 where
  pub is_cut : Cut end K cut
  pub at_cost : cost_of p K cut ≡ w
  pub within : w ≤ c
  pub latest : (other : List ℕ) → Cut end K other → cost_of p K other ≤ c → (k : ℕ) → k ≤ K → slice_index other k ≤ slice_index cut k

-- the law of a trial: it succeeds exactly when some cut costs c or less, and then its cut is the latest of those
abbrev pub TrialLaw : Price → ℕ → ℕ → ℕ → List ℕ → Result (ℕ × ℕ) ℕ → Type 0
TrialLaw p end c K cut (Ok x) = LatestWithin p end c K cut x.0
TrialLaw p end c K cut (Err n) = (other : List ℕ) → Cut end K other → c < cost_of p K other
