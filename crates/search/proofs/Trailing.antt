-- Trails of questions, one after the other.
use Rattle.std.proofs.Common.{ℕ, List, [], ◌∷◌, ◌++◌, sym, refl, subst}
use Rattle.search.specs.Trails.{Question, Trail}

module _ {C : Type 0} (put : C → ℕ → ℕ → ℕ → C → Type 0) where
  pub trail_none : (x : C) → Trail put x [] x
  unfolding Trail
  trail_none x = refl

  pub trail_one : (x y z : C) (q : Question) (qs : List Question) → put x q.0 q.1 q.2 y → Trail put y qs z → Trail put x (q ∷ qs) z
  unfolding Trail
  trail_one x y z q qs h t = (y, (h, t))

  pub trail_more : (x y z : C) (qs rs : List Question) → Trail put x qs y → Trail put y rs z → Trail put x (qs ++ rs) z
  unfolding Trail
  trail_more x y z [] rs h t = subst (λ w. Trail put w rs z) (sym h) t
  trail_more x y z (q ∷ qs) rs h t = (h.0, (h.1.0, trail_more h.0 y z qs rs h.1.1 t))
