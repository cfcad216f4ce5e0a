-- Each list has a hull.
-- For `add`, `covers` and `join`.
use Rattle.std.proofs.Common.{◌≡◌, inl, inr, true, List, [], ◌∷◌, Contains, arith, ◌∙◌, refl}
use Rattle.at_geom.specs.declared.positions.Pos.{Pos}
use Rattle.at_hull.specs.Hulls.{IsBelow, IsHull}
use Rattle.at_hull.proofs.Ways.{Rises, by_order, end_of}
use Rattle.at_hull.proofs.Rings.{joined_ways, hull_of_ways}
use Rattle.at_hull.proofs.Sorted.{end_above, walk_up, walk_back}
use Rattle.at_hull.proofs.Laws.{hull_of_same}
use Rattle.at_hull.proofs.Members.{at_first, at_later, first_or_later, only_one, all_by}

-- a list of which each is below the next, with the positions of ps
record Rising (ps : List Pos) : Type 0 where
  first : Pos
  rest : List Pos
  rises : Rises true first rest
  to : (x : Pos) → Contains (first ∷ rest) x → Contains ps x
  from : (x : Pos) → Contains ps x → Contains (first ∷ rest) x

-- a rising list with p put in: what is below p and below all of the list is below all of it
record Put (p a : Pos) (r : List Pos) : Type 0 where
  is : Rising (p ∷ a ∷ r)
  bound : (q : Pos) → IsBelow q p → IsBelow q a → IsBelow q is.first

behind_first : (p k : Pos) (xs ys : List Pos) → (Contains xs p → Contains ys p) → Contains (k ∷ xs) p → Contains (k ∷ ys) p
behind_first p k xs ys f h = elim (first_or_later p k xs h) [ inl e ↦ at_first p k ys e | inr m ↦ at_later p k ys (f m) ]

exchanged : (x p a : Pos) (r : List Pos) → Contains (a ∷ p ∷ r) x → Contains (p ∷ a ∷ r) x
exchanged x p a r m = elim (first_or_later x a (p ∷ r) m) [ inl e ↦ at_later x p (a ∷ r) (at_first x a r e) | inr n ↦ behind_first x p r (a ∷ r) (at_later x a r) n ]

place : (p a : Pos) (r : List Pos) → Rises true a r → (IsBelow a p → Put p a r) → Put p a r
place p a r h k =
    by_order p a
    (λ f. record { is = record { first = p; rest = a ∷ r; rises = (f, h); to = λ x m. m; from = λ x m. m }; bound = λ q i g. i })
    (λ e. record {
      is = record { first = a; rest = r; rises = h; to = λ x m. at_later x p (a ∷ r) m; from = λ x m. elim (first_or_later x p (a ∷ r) m) [ inl f ↦ at_first x a r (f ∙ e) | inr n ↦ n ] };
      bound = λ q i g. g;
    })
    k

put : (p a : Pos) (r : List Pos) → Rises true a r → Put p a r
put p a [] h = place p a [] h (λ f. record { is = record { first = a; rest = p ∷ []; rises = (f, tt); to = λ x m. exchanged x p a [] m; from = λ x m. exchanged x a p [] m }; bound = λ q i g. g })
put p a (b ∷ r) h = place p a (b ∷ r) h (λ f.
    let t = put p b r h.1 in
    let s : List Pos = t.is.first ∷ t.is.rest in
    record {
      is = record {
        first = a;
        rest = s;
        rises = (t.bound a f h.0, t.is.rises);
        to = λ x m. exchanged x p a (b ∷ r) (behind_first x a s (p ∷ b ∷ r) (t.is.to x) m);
        from = λ x m. behind_first x a (p ∷ b ∷ r) s (t.is.from x) (exchanged x a p (b ∷ r) m);
      };
      bound = λ q i g. g;
    })

rising_of : (p : Pos) (ps : List Pos) → Rising (p ∷ ps)
rising_of p [] = record { first = p; rest = []; rises = tt; to = λ x m. m; from = λ x m. m }
rising_of p (q ∷ ps) =
    let t = rising_of q ps in
    let s = (put p t.first t.rest t.rises).is in
    record {
      first = s.first;
      rest = s.rest;
      rises = s.rises;
      to = λ x m. behind_first x p (t.first ∷ t.rest) (q ∷ ps) (t.to x) (s.to x m);
      from = λ x m. s.from x (behind_first x p (q ∷ ps) (t.first ∷ t.rest) (t.from x) m);
    }

pub record HasHull (ps : List Pos) : Type 0 where
  pub list : List Pos
  pub is : IsHull ps list

of_rising : (a : Pos) (cs : List Pos) → Rises true a cs → HasHull (a ∷ cs)
of_rising a [] h = record { list = a ∷ []; is = ((0, omega arith, refl), all_by (λ p. p ≡ a) (a ∷ []) (λ p m. only_one a p m)) }
of_rising a (c ∷ cs) h =
    let w = walk_up a (c ∷ cs) h in
    let v = walk_back a (c ∷ cs) h in
    record { list = joined_ways w.rest v.rest; is = hull_of_ways (a ∷ c ∷ cs) a (end_of c cs) w.rest v.rest (end_above a c cs h) w.way v.way }

-- each list has a hull
pub hull_exists : (ps : List Pos) → HasHull ps
hull_exists [] = record { list = []; is = refl }
hull_exists (p ∷ ps) =
    let t = rising_of p ps in
    let h = of_rising t.first t.rest t.rises in
    record {
      list = h.list;
      is = hull_of_same (t.first ∷ t.rest) (p ∷ ps) h.list (all_by (Contains (p ∷ ps)) (t.first ∷ t.rest) t.to, all_by (Contains (t.first ∷ t.rest)) (p ∷ ps) t.from) h.is;
    }
