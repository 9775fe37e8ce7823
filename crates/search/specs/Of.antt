-- What a search holds, and how a call may change it.
use Rattle.std.specs.Prelude.{◌≡◌, ℕ, ◌+◌, Bool, List, [], ◌∷◌, ◌++◌, take, Some, None, is_some, Ok, Err, Option, Result}
use Rattle.refusal.specs.declared.Refusal.{Refusal}
use Rattle.cost.specs.Price.{Price}
use Rattle.cost.specs.declared.Cost.{Ghosts}
use Rattle.search.specs.declared.search.Search.{Search}
use Rattle.search.specs.declared.call.Call.{Call}
use Rattle.search.specs.declared.report.Report.{Report}
use Rattle.search.specs.Trails.{Trail}
use Rattle.search.specs.Play.{View, start, step, call_asks, play}
use Rattle.search.specs.Reports.{report_of}
use Rattle.search.specs.Answers.{open_refusal}
use Rattle.search.specs.Law.{Law, standing}

-- the boundaries of a cut into K blocks that stands, at the front of the places that hold it; no boundaries where none does
abbrev pub boundaries_in : ℕ → Option (List ℕ) → List ℕ
boundaries_in K (Some places) = take (K + 1) places
boundaries_in K None = []

module _ {C : Type 0} {g : Ghosts C} where
  -- what a search holds
  abbrev pub view_of : Search C g → View
  view_of s = record {
    floor = s.floor;
    figure = s.figure;
    stands = is_some s.standing;
    cut = boundaries_in s.blocks s.standing;
    advances = s.advance_trials;
    tries = s.try_trials;
    questions = s.questions;
  }

  -- the search is where the run of these calls leads
  abbrev pub Ran : (C → Price) → Search C g → List Call → Type 0
  Ran price s calls = view_of s ≡ play (price s.cost) s.blocks s.ceiling calls

  -- a new search
  pub record Opened (price : C → Price) (cost : C) (K M : ℕ) (s : Search C g) : Type 0 where
    pub accepted : open_refusal K M ≡ None
    pub cost_is : s.cost ≡ cost
    pub blocks_are : s.blocks ≡ K
    pub ceiling_is : s.ceiling ≡ M
    pub view_is : view_of s ≡ start M
    pub ran : Ran price s []

  -- a call leads from s to t: what the search was opened with is kept, and its cost goes through the call's questions
  pub record Follows (price : C → Price) (put : C → ℕ → ℕ → ℕ → C → Type 0) (call : Call) (s t : Search C g) : Type 0 where
    pub view : view_of t ≡ step (price s.cost) s.blocks s.ceiling call (view_of s)
    pub price_same : price t.cost ≡ price s.cost
    pub blocks_same : t.blocks ≡ s.blocks
    pub ceiling_same : t.ceiling ≡ s.ceiling
    pub puts : Trail put s.cost (call_asks (price s.cost) s.blocks s.ceiling call (view_of s)) t.cost
    pub run : (calls : List Call) → Ran price s calls → Ran price t (calls ++ (call ∷ []))

  -- the law holds of this report for every run that leads to the search
  abbrev pub LawAt : (C → Price) → Search C g → Report → Type 0
  LawAt price s r = (calls : List Call) → Ran price s calls → Law (price s.cost) s.blocks s.ceiling calls r (standing (view_of s))

  -- after an advance: an answered report is what tell answers next, under the law; a declined call leaves the whole search
  abbrev pub AfterAdvance : (C → Price) → Search C g → Search C g → Result Report Refusal → Type 0
  AfterAdvance price s t (Ok r) = (r ≡ report_of (view_of t)) × LawAt price t r
  AfterAdvance price s t (Err e) = t ≡ s

  -- after a try, the same
  abbrev pub AfterTry : (C → Price) → Search C g → Search C g → Result (Bool × Report) Refusal → Type 0
  AfterTry price s t (Ok x) = (x.1 ≡ report_of (view_of t)) × LawAt price t x.1
  AfterTry price s t (Err e) = t ≡ s
