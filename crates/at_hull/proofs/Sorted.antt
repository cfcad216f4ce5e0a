-- The walks over ascending positions and over the same from the last to the first.
-- For `add`, `covers`, `hull`, `hull_join`, `into_hull` and `join`.
use Rattle.std.proofs.Common.{◌≡◌, ℕ, ◌-◌, ◌≤◌, length, take, arith, true, false, List, [], ◌∷◌, ◌++◌, reverse, fold, Contains, sym, ap, ap₂, ◌∙◌, subst, refl}
use Rattle.std.proofs.lemmas.List.{append-nil, reverse-reverse, length-append}
use Rattle.std.proofs.Math.Seq.{take-append_seam}
use Rattle.at_geom.specs.declared.positions.Pos.{Pos}
use Rattle.at_hull.specs.Hulls.{IsBelow, IsAscending, IsHull}
use Rattle.at_hull.specs.Walks.{pushed, IsWithoutEnd}
use Rattle.at_hull.proofs.Members.{unreel, in_reverse, to_reverse, reverse_cons}
use Rattle.at_hull.proofs.Ways.{Rises, Walked, walk_of, end_of, below_trans}
use Rattle.at_hull.proofs.Rings.{hull_of_ways}

rises_of : (a : Pos) (cs : List Pos) → IsAscending (a ∷ cs) → Rises true a cs
rises_of a [] h = tt
rises_of a (c ∷ cs) h = (h.0, rises_of c cs h.1)

pub end_above : (a c : Pos) (cs : List Pos) → Rises true a (c ∷ cs) → IsBelow a (end_of c cs)
end_above a c [] h = h.0
end_above a c (d ∷ cs) h = below_trans a c (end_of d cs) h.0 (end_above c d cs h.1)

-- a list turned round
record Turned (a t : Pos) (xs : List Pos) : Type 0 where
  rest : List Pos
  is : xs ≡ t ∷ rest
  falls : Rises false t rest
  last : end_of t rest ≡ a

turn_over : (a : Pos) (cs f : List Pos) → Rises true a cs → Rises false a f → Turned (end_of a f) (end_of a cs) (reverse (a ∷ cs) ++ f)
turn_over a [] f h k = record { rest = f; is = unreel a [] f; falls = k; last = refl }
turn_over a (c ∷ cs) f h k =
    subst (Turned (end_of a f) (end_of c cs)) (sym (unreel a (c ∷ cs) f)) (turn_over c cs (a ∷ f) h.1 (h.0, k))

pub walk_up : (a : Pos) (cs : List Pos) → Rises true a cs → Walked true (Contains (a ∷ cs)) a (end_of a cs) (fold pushed [] (a ∷ cs))
walk_up a cs h = walk_of true (Contains (a ∷ cs)) a cs (λ p m. m) (λ p m. m) h

pub walk_back : (a : Pos) (cs : List Pos) → Rises true a cs → Walked false (Contains (a ∷ cs)) (end_of a cs) a (fold pushed [] (reverse (a ∷ cs)))
walk_back a cs h =
    let t = subst (Turned a (end_of a cs)) (append-nil (reverse (a ∷ cs))) (turn_over a cs [] h tt) in
    let w = walk_of false (Contains (a ∷ cs)) (end_of a cs) t.rest (λ p m. subst (λ (l : List Pos). Contains l p) t.is (to_reverse p (a ∷ cs) m))
    (λ p m. in_reverse p (a ∷ cs) (subst (λ (l : List Pos). Contains l p) (sym t.is) m)) t.falls in
    let v = subst (λ (z : Pos). Walked false (Contains (a ∷ cs)) (end_of a cs) z (fold pushed [] (end_of a cs ∷ t.rest))) t.last w in
    subst (λ (l : List Pos). Walked false (Contains (a ∷ cs)) (end_of a cs) a (fold pushed [] l)) (sym t.is) v

pub without_end : (way front : List Pos) (n : ℕ) → n ≡ length way → front ≡ take (n - 1) way → IsWithoutEnd way front
without_end way front n e f = λ t s g.
    let h : way ≡ reverse s ++ t ∷ [] = sym (reverse-reverse way) ∙ ap reverse g ∙ reverse_cons t s in
    let i : n - 1 ≡ length (reverse s) = omega (arith, e, ap length h, length-append (reverse s) (t ∷ [])) in
    f ∙ ap (take (n - 1)) h ∙ ap (λ (k : ℕ). take k (reverse s ++ t ∷ [])) i ∙ take-append_seam (reverse s) (t ∷ [])

pub hull_of_several : (xs up down front back : List Pos) → 2 ≤ length xs → IsAscending xs → reverse up ≡ fold pushed [] xs → reverse down ≡ fold pushed [] (reverse xs)
    → IsWithoutEnd up front → IsWithoutEnd down back → IsHull xs (front ++ back)
hull_of_several (a ∷ c ∷ cs) up down front back n o e f g i =
    let h = rises_of a (c ∷ cs) o in
    let w = walk_up a (c ∷ cs) h in
    let v = walk_back a (c ∷ cs) h in
    subst (IsHull (a ∷ c ∷ cs)) (sym (ap₂ (λ (x : List Pos) (y : List Pos). x ++ y) (g (end_of c cs) w.rest (e ∙ w.is)) (i a v.rest (f ∙ v.is))))
    (hull_of_ways (a ∷ c ∷ cs) a (end_of c cs) w.rest v.rest (end_above a c cs h) w.way v.way)
hull_of_several _ up down front back n o e f g i = absurd (omega (arith, n))
