-- The parting of bits by others, over any bits that are given as functions: what holds after k positions.
use Rattle.std.proofs.Common.{◌≡◌, ℕ, zero, suc, ◌+◌, ◌-◌, ◌*◌, ◌<◌, ◌≤◌, cond, eqb, ◌⊎◌, [], ◌∷◌, ◌++◌, length, get_or, sym, refl, ap, ◌∙◌, subst, ap₂, inl, inr, ⊎_elim, add-one, arith}
use Rattle.std.proofs.lemmas.List.{get_or_append_left, get_or-append_right, get_or-append-add, get_or_push, length_push}
use Rattle.std.proofs.lemmas.Bool.{cases_eq, cases_lt, eq-eqb, ne_eqb, cond-true, cond-false}
use Rattle.gather.specs.Bits.{sum_to}
use Rattle.levels.specs.Planes.{Routed, chosen, route}
use Rattle.levels.proofs.Placing.{Placed}

module _ (ws : ℕ → ℕ) (v k : ℕ) where
  pub chosen_yes : ws k ≡ v → chosen ws v (k + 1) ≡ chosen ws v k ++ k ∷ []
  unfolding chosen
  chosen_yes e = ap (λ x. chosen ws v x) (add-one k) ∙ cond-true (eqb (ws k) v) (chosen ws v k ++ k ∷ []) (chosen ws v k) (eq-eqb (ws k) v e)

  pub chosen_no : (ws k ≡ v → ⊥) → chosen ws v (k + 1) ≡ chosen ws v k
  unfolding chosen
  chosen_no n = ap (λ x. chosen ws v x) (add-one k) ∙ cond-false (eqb (ws k) v) (chosen ws v k ++ k ∷ []) (chosen ws v k) (ne_eqb (ws k) v n)

pub chosen_none : (ws : ℕ → ℕ) (v : ℕ) → length (chosen ws v 0) ≡ 0
unfolding chosen
chosen_none ws v = refl

pub chosen_both : (ws : ℕ → ℕ) → ((k : ℕ) → ws k < 2) → (k : ℕ) → length (chosen ws 0 k) + length (chosen ws 1 k) ≡ k
chosen_both ws two zero = omega (arith, chosen_none ws 0, chosen_none ws 1)
chosen_both ws two (suc k) =
    let ih = chosen_both ws two k in
    let e : suc k ≡ k + 1 = omega arith in
    let l = two k in
    rw e
    (⊎_elim (λ z. omega (arith, ap length (chosen_yes ws 0 k z), ap length (chosen_no ws 1 k (λ o. omega arith)), length_push (chosen ws 0 k) k))
    (λ n. omega (arith, ap length (chosen_no ws 0 k n), ap length (chosen_yes ws 1 k (omega arith)), length_push (chosen ws 1 k) k))
    (cases_eq (ws k) 0))

chosen_grow : (ws : ℕ → ℕ) (v k : ℕ) → length (chosen ws v k) ≤ length (chosen ws v (k + 1))
chosen_grow ws v k =
    ⊎_elim (λ z. omega (arith, ap length (chosen_yes ws v k z), length_push (chosen ws v k) k)) (λ n. omega (arith, ap length (chosen_no ws v k n))) (cases_eq (ws k) v)

chosen_up : (ws : ℕ → ℕ) (v k d : ℕ) → length (chosen ws v k) ≤ length (chosen ws v (k + d))
chosen_up ws v k zero = let e : k + 0 ≡ k = omega arith in omega (arith, ap (λ x. length (chosen ws v x)) e)
chosen_up ws v k (suc d) =
    let e : k + suc d ≡ (k + d) + 1 = omega arith in
    omega (arith, chosen_up ws v k d, chosen_grow ws v (k + d), ap (λ x. length (chosen ws v x)) e)

pub chosen_le : (ws : ℕ → ℕ) (v k n : ℕ) → k ≤ n → length (chosen ws v k) ≤ length (chosen ws v n)
chosen_le ws v k n h =
    let e : k + (n - k) ≡ n = omega arith in omega (arith, chosen_up ws v k (n - k), ap (λ x. length (chosen ws v x)) e)

-- a position that is chosen leaves the count below the whole
pub chosen_lt : (ws : ℕ → ℕ) (v k n : ℕ) → k < n → ws k ≡ v → length (chosen ws v k) < length (chosen ws v n)
chosen_lt ws v k n h e = omega (arith, chosen_le ws v (k + 1) n (omega arith), ap length (chosen_yes ws v k e), length_push (chosen ws v k) k)

-- what is chosen hangs on the bits below k alone, and stands below k
pub chosen_cong : (f g : ℕ → ℕ) (v k : ℕ) → ((j : ℕ) → j < k → f j ≡ g j) → chosen f v k ≡ chosen g v k
unfolding chosen
chosen_cong f g v zero h = refl
chosen_cong f g v (suc k) h =
    let ih = chosen_cong f g v k (λ j l. h j (omega arith)) in
    ap₂ (λ x l. cond (eqb x v) (l ++ k ∷ []) l) (h k (omega arith)) ih

pub chosen_in : (f : ℕ → ℕ) (v k d : ℕ) → d < length (chosen f v k) → get_or (chosen f v k) d 0 < k
chosen_in f v zero d h = absurd (none (chosen_none f v) h)
  where
    none : length (chosen f v 0) ≡ 0 → d < length (chosen f v 0) → ⊥
    none e l = omega arith
chosen_in f v (suc k) d h =
    let s : suc k ≡ k + 1 = omega arith in
    ⊎_elim
    (λ (y : f k ≡ v).
    let e = ap (λ x. chosen f v x) s ∙ chosen_yes f v k y in
    let n = ap length e ∙ length_push (chosen f v k) k in
    rw e
    (⊎_elim (λ (l : d < length (chosen f v k)). omega (arith, get_or_append_left (chosen f v k) (k ∷ []) 0 d l, chosen_in f v k d l))
    (λ (l : length (chosen f v k) ≤ d). omega (arith, get_or_push (chosen f v k) k 0 d (omega arith)))
    (cases_lt d (length (chosen f v k)))))
    (λ (n : f k ≡ v → ⊥).
    let e = ap (λ x. chosen f v x) s ∙ chosen_no f v k n in
    let m = ap length e in
    rw e (omega (arith, chosen_in f v k d (omega arith))))
    (cases_eq (f k) v)

pub route_in : (f : ℕ → ℕ) → ((k : ℕ) → f k < 2) → (n d : ℕ) → d < n → get_or (route f n) d 0 < n
route_in f two n d h =
    let b = chosen_both f two n in
    ⊎_elim (λ (l : d < length (chosen f 0 n)). omega (arith, get_or_append_left (chosen f 0 n) (chosen f 1 n) 0 d l, chosen_in f 0 n d l))
    (λ (l : length (chosen f 0 n) ≤ d).
    omega (arith, get_or-append_right (chosen f 0 n) (chosen f 1 n) (length (chosen f 0 n)) d 0 refl l, chosen_in f 1 n (d - length (chosen f 0 n)) (omega arith)))
    (cases_lt d (length (chosen f 0 n)))

pub routed_cong : (f g p q is : ℕ → ℕ) (b n : ℕ) → ((k : ℕ) → f k < 2) → ((j : ℕ) → j < n → f j ≡ g j) → ((j : ℕ) → j < n → p j ≡ q j)
    → Routed f b n p is → Routed g b n q is
routed_cong f g p q is b n two e i h =
    let z = ap₂ (λ x y. x ++ y) (chosen_cong f g 0 n e) (chosen_cong f g 1 n e) in
    (λ d l. h.0 d l ∙ i (get_or (route f n) d 0) (route_in f two n d l) ∙ ap (λ x. q (get_or x d 0)) z, h.1)

-- the ones are those that are chosen
pub sum_to_chosen : (f : ℕ → ℕ) → ((k : ℕ) → f k < 2) → (n : ℕ) → sum_to f n ≡ length (chosen f 1 n)
unfolding sum_to
sum_to_chosen f two zero = sym (chosen_none f 1)
sum_to_chosen f two (suc n) =
    let ih = sum_to_chosen f two n in
    let s : suc n ≡ n + 1 = omega arith in
    let l = two n in
    ⊎_elim (λ (y : f n ≡ 1). omega (arith, ap (λ x. length (chosen f 1 x)) s, ap length (chosen_yes f 1 n y), length_push (chosen f 1 n) n))
    (λ (m : f n ≡ 1 → ⊥). let z : f n ≡ 0 = omega arith in omega (arith, ap (λ x. length (chosen f 1 x)) s, ap length (chosen_no f 1 n m)))
    (cases_eq (f n) 1)

-- zero bits add nothing
sum_to_flat : (f : ℕ → ℕ) (n d : ℕ) → ((k : ℕ) → n ≤ k → k < n + d → f k ≡ 0) → sum_to f (n + d) ≡ sum_to f n
unfolding sum_to
sum_to_flat f n zero h = let e : n + 0 ≡ n = omega arith in ap (λ x. sum_to f x) e
sum_to_flat f n (suc d) h =
    let e : n + suc d ≡ suc (n + d) = omega arith in
    omega (arith, ap (λ x. sum_to f x) e, sum_to_flat f n d (λ k a b. h k a (omega arith)), h (n + d) (omega arith) (omega arith))

pub ones_all : (f : ℕ → ℕ) (n top : ℕ) → n ≤ top → ((k : ℕ) → n ≤ k → k < top → f k ≡ 0) → sum_to f top ≡ sum_to f n
ones_all f n top le h =
    let e : n + (top - n) ≡ top = omega arith in
    sym (ap (λ x. sum_to f x) e) ∙ sum_to_flat f n (top - n) (λ k l m. h k l (omega arith))

pub zeros_are : (f : ℕ → ℕ) (n top : ℕ) → ((k : ℕ) → f k < 2) → n ≤ top → ((k : ℕ) → n ≤ k → k < top → f k ≡ 0) → n - sum_to f top ≡ length (chosen f 0 n)
zeros_are f n top two le h =
    let e : n + (top - n) ≡ top = omega arith in
    let a = ap (λ x. sum_to f x) e in
    let b = sum_to_flat f n (top - n) (λ k l m. h k l (omega arith)) in
    omega (arith, sum_to_chosen f two n, chosen_both f two n)

-- ---- where a position goes, and where it came from

pub chosen_rank : (f : ℕ → ℕ) (v k d : ℕ) → d < length (chosen f v k) → (f (get_or (chosen f v k) d 0) ≡ v) × (length (chosen f v (get_or (chosen f v k) d 0)) ≡ d)
chosen_rank f v zero d h = absurd (none (chosen_none f v) h)
  where
    none : length (chosen f v 0) ≡ 0 → d < length (chosen f v 0) → ⊥
    none e l = omega arith
chosen_rank f v (suc k) d h =
    let s : suc k ≡ k + 1 = omega arith in
    ⊎_elim
    (λ (y : f k ≡ v).
    let e = ap (λ x. chosen f v x) s ∙ chosen_yes f v k y in
    let n = ap length e ∙ length_push (chosen f v k) k in
    ⊎_elim
    (λ (l : d < length (chosen f v k)).
    let g : get_or (chosen f v (suc k)) d 0 ≡ get_or (chosen f v k) d 0 = ap (λ x. get_or x d 0) e ∙ get_or_append_left (chosen f v k) (k ∷ []) 0 d l in
    subst (λ j. (f j ≡ v) × (length (chosen f v j) ≡ d)) (sym g) (chosen_rank f v k d l))
    (λ (l : length (chosen f v k) ≤ d).
    let q : length (chosen f v k) ≡ d = omega arith in
    let g : get_or (chosen f v (suc k)) d 0 ≡ k = ap (λ x. get_or x d 0) e ∙ get_or_push (chosen f v k) k 0 d q in
    subst (λ j. (f j ≡ v) × (length (chosen f v j) ≡ d)) (sym g) (y, q))
    (cases_lt d (length (chosen f v k))))
    (λ (n : f k ≡ v → ⊥).
    let e = ap (λ x. chosen f v x) s ∙ chosen_no f v k n in
    let m = ap length e in
    let g : get_or (chosen f v (suc k)) d 0 ≡ get_or (chosen f v k) d 0 = ap (λ x. get_or x d 0) e in
    subst (λ j. (f j ≡ v) × (length (chosen f v j) ≡ d)) (sym g) (chosen_rank f v k d (omega arith)))
    (cases_eq (f k) v)

-- the place of position j: among the zeros, or after all z zeros among the ones
pub route_next : (f : ℕ → ℕ) → ((k : ℕ) → f k < 2) → (n d : ℕ) → d < n
    → ((f (get_or (route f n) d 0) ≡ 0) × (get_or (route f n) d 0 - sum_to f (get_or (route f n) d 0) ≡ d))
    ⊎ ((f (get_or (route f n) d 0) ≡ 1) × (length (chosen f 0 n) + sum_to f (get_or (route f n) d 0) ≡ d))
route_next f two n d h =
    let b = chosen_both f two n in
    ⊎_elim
    (λ (l : d < length (chosen f 0 n)).
    let g = get_or_append_left (chosen f 0 n) (chosen f 1 n) 0 d l in
    let r = chosen_rank f 0 n d l in
    let j = get_or (chosen f 0 n) d 0 in
    inl (subst (λ x. (f x ≡ 0) × (x - sum_to f x ≡ d)) (sym g) (r.0, omega (arith, r.1, sum_to_chosen f two j, chosen_both f two j))))
    (λ (l : length (chosen f 0 n) ≤ d).
    let g = get_or-append_right (chosen f 0 n) (chosen f 1 n) (length (chosen f 0 n)) d 0 refl l in
    let r = chosen_rank f 1 n (d - length (chosen f 0 n)) (omega arith) in
    let j = get_or (chosen f 1 n) (d - length (chosen f 0 n)) 0 in
    inr (subst (λ x. (f x ≡ 1) × (length (chosen f 0 n) + sum_to f x ≡ d)) (sym g) (r.0, omega (arith, r.1, sum_to_chosen f two j))))
    (cases_lt d (length (chosen f 0 n)))

pub chosen_place : (f : ℕ → ℕ) (v q n : ℕ) → q < n → f q ≡ v → get_or (chosen f v n) (length (chosen f v q)) 0 ≡ q
chosen_place f v q zero h e = absurd (none h)
  where
    none : q < 0 → ⊥
    none l = omega arith
chosen_place f v q (suc n) h e =
    let s : suc n ≡ n + 1 = omega arith in
    ⊎_elim
    (λ (l : q < n).
    let ih = chosen_place f v q n l e in
    let lt = chosen_lt f v q n l e in
    ⊎_elim
    (λ (y : f n ≡ v).
    ap (λ x. get_or (chosen f v x) (length (chosen f v q)) 0) s ∙ ap (λ x. get_or x (length (chosen f v q)) 0) (chosen_yes f v n y)
    ∙ get_or_append_left (chosen f v n) (n ∷ []) 0 (length (chosen f v q)) lt ∙ ih)
    (λ (m : f n ≡ v → ⊥). ap (λ x. get_or (chosen f v x) (length (chosen f v q)) 0) s ∙ ap (λ x. get_or x (length (chosen f v q)) 0) (chosen_no f v n m) ∙ ih)
    (cases_eq (f n) v))
    (λ (l : n ≤ q).
    let d : q ≡ n = omega arith in
    let y : f n ≡ v = ap f (sym d) ∙ e in
    subst (λ x. get_or (chosen f v (suc n)) (length (chosen f v x)) 0 ≡ x) (sym d)
    (ap (λ x. get_or (chosen f v x) (length (chosen f v n)) 0) s ∙ ap (λ x. get_or x (length (chosen f v n)) 0) (chosen_yes f v n y) ∙ get_or_push (chosen f v n) n 0 (length (chosen f v n)) refl))
    (cases_lt q n)

-- a position goes to where the route has it
pub route_place : (f : ℕ → ℕ) → ((k : ℕ) → f k < 2) → (q n : ℕ) → q < n
    → (f q ≡ 0 → (q - sum_to f q < n) × (get_or (route f n) (q - sum_to f q) 0 ≡ q))
    × (f q ≡ 1 → (length (chosen f 0 n) + sum_to f q < n) × (get_or (route f n) (length (chosen f 0 n) + sum_to f q) 0 ≡ q))
route_place f two q n l =
    let b = chosen_both f two q in
    let c = chosen_both f two n in
    let s = sum_to_chosen f two q in (
      λ e.
          let z : q - sum_to f q ≡ length (chosen f 0 q) = omega arith in
          let lt = chosen_lt f 0 q n l e in
          (omega arith, ap (λ x. get_or (route f n) x 0) z ∙ get_or_append_left (chosen f 0 n) (chosen f 1 n) 0 (length (chosen f 0 q)) lt ∙ chosen_place f 0 q n l e),
      λ e.
          let lt = chosen_lt f 1 q n l e in
          (omega arith, ap (λ x. get_or (route f n) (length (chosen f 0 n) + x) 0) s ∙ get_or-append-add (chosen f 0 n) (chosen f 1 n) (length (chosen f 1 q)) 0 ∙ chosen_place f 1 q n l e),
    )

-- bits that are all parted are in the order of `sel`
pub placed_routed : (sel plane room : ℕ → ℕ) (b n z : ℕ) → ((k : ℕ) → sel k < 2) → n ≤ 64 * b → z ≡ n - sum_to sel n
    → Placed sel (64 * b) n z (64 * b) plane room → Routed sel b n plane room
placed_routed sel plane room b n z two fit ze h =
    let c : length (chosen sel 0 n) ≡ z = omega (arith, ze, sum_to_chosen sel two n, chosen_both sel two n) in (
      λ d l.
          let q = get_or (route sel n) d 0 in
          let m = route_in sel two n d l in
          ⊎_elim (λ (e : (sel q ≡ 0) × (q - sum_to sel q ≡ d)). ap room (sym e.1) ∙ h.zeros q (omega arith) m e.0)
          (λ (e : (sel q ≡ 1) × (length (chosen sel 0 n) + sum_to sel q ≡ d)).
          ap room (sym e.1) ∙ ap (λ x. room (x + sum_to sel q)) c ∙ h.ones q (omega arith) m e.0)
          (route_next sel two n d l),
      h.past,
    )
