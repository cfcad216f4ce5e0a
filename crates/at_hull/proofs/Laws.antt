-- The hull depends on the set of the positions alone, and two lists' hulls together have the hull of the two lists together.
-- For most public calls of the crate, `add`, `covers`, `covers_all` among them.
use Rattle.std.proofs.Common.{◌≡◌, ℤ, pos, ◌+ℤ◌, ◌-ℤ◌, ◌*ℤ◌, ◌≤ℤ◌, ◌<ℤ◌, inl, inr, neg_ℤ, List, [], ◌∷◌, ◌++◌, get_or, All, Contains, arith, sym, ap, ◌∙◌, subst, refl}
use Rattle.std.proofs.lemmas.Int.{ints, by_lt_z}
use Rattle.std.proofs.lemmas.List.Elements.{All-nil, All-append, All-contains, All-contains_itself, All-weaker, Contains-append_left, Contains-append_right, Contains-append_cases}
use Rattle.at_geom.specs.declared.positions.Pos.{Pos}
use Rattle.at_geom.specs.Segments.{turn}
use Rattle.at_geom.proofs.RingLaws.{expand}
use Rattle.at_hull.specs.Hulls.{IsBelow, IsAtMost, HasSame, NoneRight, IsHull, round}
use Rattle.at_hull.proofs.Planes.{div_pos}
use Rattle.at_hull.proofs.Ways.{same_pos}
use Rattle.at_hull.proofs.Members.{only_one, all_by, all_of_fewer, all_left, all_right}
use Rattle.at_hull.proofs.Rings.{on_one_line, turn_swap}
use Rattle.at_hull.proofs.Covers.{Covers, hull_covers, times_zero}

abbrev away : ℤ → ℤ → Pos → Pos
away dx dy a = record { x = a.x +ℤ dx; y = a.y +ℤ dy }

-- how far v is in one of three directions
to_left : (a v : Pos) → turn a (away (pos 0) (pos 1) a) v ≡ a.x -ℤ v.x
to_left a v = simp expand (omega (arith, ints))

to_up : (a v : Pos) → turn a (away (pos 1) (pos 0) a) v ≡ v.y -ℤ a.y
to_up a v = simp expand (omega (arith, ints))

to_down : (a v : Pos) → turn (away (pos 1) (pos 0) a) a v ≡ a.y -ℤ v.y
to_down a v = simp expand (omega (arith, ints))

left_of_all : (xs ps : List Pos) (a p : Pos) → Covers xs ps → Contains ps p → All (λ v. v.x ≤ℤ a.x) xs → p.x ≤ℤ a.x
left_of_all xs ps a p c m f =
    let h = c.sides a (away (pos 0) (pos 1) a) p m (All-weaker (λ v. v.x ≤ℤ a.x) (λ v. pos 0 ≤ℤ turn a (away (pos 0) (pos 1) a) v) (λ v k. omega (arith, ints, to_left a v, k)) xs f) in
    omega (arith, ints, h, to_left a p)

below_all : (xs ps : List Pos) (a p : Pos) → Covers xs ps → Contains ps p → All (λ v. v.y ≤ℤ a.y) xs → p.y ≤ℤ a.y
below_all xs ps a p c m f =
    let h = c.sides (away (pos 1) (pos 0) a) a p m (All-weaker (λ v. v.y ≤ℤ a.y) (λ v. pos 0 ≤ℤ turn (away (pos 1) (pos 0) a) a v) (λ v k. omega (arith, ints, to_down a v, k)) xs f) in
    omega (arith, ints, h, to_down a p)

on_line_of : (xs ps : List Pos) (a b p : Pos) → Covers xs ps → Contains ps p → All (λ v. turn a b v ≡ pos 0) xs → turn a b p ≡ pos 0
on_line_of xs ps a b p c m f = on_one_line a b p
    (c.sides a b p m (All-weaker (λ v. turn a b v ≡ pos 0) (λ v. pos 0 ≤ℤ turn a b v) (λ v e. omega (arith, ints, e)) xs f))
    (c.sides b a p m (All-weaker (λ v. turn a b v ≡ pos 0) (λ v. pos 0 ≤ℤ turn b a v) (λ v e. omega (arith, ints, e, turn_swap a b v)) xs f))

-- where all are a, a list that is covered has no other
equal_to_all : (xs ps : List Pos) (a p : Pos) → Covers xs ps → Contains ps p → All (λ v. v ≡ a) xs → p ≡ a
equal_to_all xs ps a p c m f =
    let on = λ (b : Pos). on_line_of xs ps a b p c m (All-weaker (λ v. v ≡ a) (λ v. turn a b v ≡ pos 0) (λ v e. subst (λ (q : Pos). turn a b q ≡ pos 0) (sym e) (simp expand (omega (arith, ints)))) xs f) in
    same_pos p a (omega (arith, ints, on (away (pos 0) (pos 1) a), to_left a p)) (omega (arith, ints, on (away (pos 1) (pos 0) a), to_up a p))

-- ---- the upper end

at_height : (v b : Pos) → IsAtMost v b → v.y ≤ℤ b.y
at_height v b (inl e) = omega (arith, ints, ap (λ (q : Pos). q.y) e)
at_height v b (inr (inl h)) = omega (arith, ints, h)
at_height v b (inr (inr h)) = omega (arith, ints, h.0)

at_width : (v b : Pos) → v.y ≡ b.y → IsAtMost v b → v.x ≤ℤ b.x
at_width v b f (inl e) = omega (arith, ints, ap (λ (q : Pos). q.x) e)
at_width v b f (inr (inl h)) = absurd (omega (arith, ints, h, f))
at_width v b f (inr (inr h)) = omega (arith, ints, h.1)

pub zero_factor : (a z : ℤ) → pos 0 <ℤ a → a *ℤ z ≡ pos 0 → z ≡ pos 0
zero_factor a z l e =
    let h = div_pos a z l (omega (arith, ints, e)) in
    let k = div_pos a (neg_ℤ z) l (simp expand (omega (arith, ints, e))) in
    omega (arith, ints, h, k)

pub flat_turn : (a b p : Pos) → a.y ≡ b.y → turn a b p ≡ (b.x -ℤ a.x) *ℤ (p.y -ℤ a.y)
flat_turn a b p e =
    let f : b.y -ℤ a.y ≡ pos 0 = omega (arith, ints, e) in
    ap (λ (t : ℤ). ((b.x -ℤ a.x) *ℤ (p.y -ℤ a.y)) -ℤ (t *ℤ (p.x -ℤ a.x))) f ∙ omega (arith, ints)

-- on the line of a and b, which lie at one height
at_same_height : (a b p : Pos) → a.y ≡ b.y → a.x <ℤ b.x → turn a b p ≡ pos 0 → p.y ≡ a.y
at_same_height a b p e l t =
    let z = zero_factor (b.x -ℤ a.x) (p.y -ℤ a.y) (omega (arith, ints, l)) (sym (flat_turn a b p e) ∙ t) in
    omega (arith, ints, z)

level_end : (a b p : Pos) → a.y <ℤ b.y → p.y ≡ b.y → turn a b p ≡ pos 0 → p ≡ b
level_end a b p l e t =
    let f : b.y -ℤ p.y ≡ pos 0 = omega (arith, ints, e) in
    let by_end : turn a b p ≡ ((b.y -ℤ a.y) *ℤ (b.x -ℤ p.x)) -ℤ ((b.x -ℤ a.x) *ℤ (b.y -ℤ p.y)) = simp expand (omega (arith, ints)) in
    let g = times_zero (b.x -ℤ a.x) (b.y -ℤ p.y) f in
    let h = zero_factor (b.y -ℤ a.y) (b.x -ℤ p.x) (omega (arith, ints, l)) (omega (arith, ints, by_end, g, t)) in
    same_pos p b (omega (arith, ints, h)) e

to_end : (xs ps : List Pos) (a b p : Pos) → Covers xs ps → Contains ps p → All (λ v. IsAtMost v b) xs → All (λ v. turn a b v ≡ pos 0) xs → turn a b p ≡ pos 0 → IsBelow a b → IsAtMost p b
to_end xs ps a b p c m f g t (inl l) =
    let h = below_all xs ps b p c m (All-weaker (λ v. IsAtMost v b) (λ v. v.y ≤ℤ b.y) (λ v k. at_height v b k) xs f) in
    by_lt_z p.y b.y (λ k. inr (inl k)) (λ k. inl (level_end a b p l (omega (arith, ints, h, k)) t))
to_end xs ps a b p c m f g t (inr l) =
    let h = left_of_all xs ps b p c m (λ k d n. at_width (get_or xs k d) b (at_same_height a b (get_or xs k d) l.0 l.1 (g k d n) ∙ l.0) (f k d n)) in
    let e = at_same_height a b p l.0 l.1 t ∙ l.0 in
    by_lt_z p.x b.x (λ k. inr (inr (e, k))) (λ k. inl (same_pos p b (omega (arith, ints, h, k)) e))

-- ---- the hull of what a list covers

none_right_of_more : (xs ps : List Pos) (l : List Pos) → Covers xs ps → NoneRight (Contains xs) l → NoneRight (Contains ps) l
none_right_of_more xs ps (a ∷ b ∷ l) c h = (λ p m. c.sides a b p m (all_by (λ q. pos 0 ≤ℤ turn a b q) xs h.0), none_right_of_more xs ps (b ∷ l) c h.1)
none_right_of_more xs ps _ c h = tt

nothing_more : (xs ps : List Pos) → Covers xs ps → xs ≡ [] → ps ≡ []
nothing_more xs [] c e = refl
nothing_more xs (p ∷ ps) c e =
    let a = away (pos 0) (pos 1) p in
    absurd (omega (arith, ints, at_height a p (c.low a p (0, omega arith, refl) (subst (All (IsAtMost a)) (sym e) (All-nil (IsAtMost a))))))

pub hull_of_covered : (xs ps h : List Pos) → Covers xs ps → IsHull xs h → IsHull ps h
hull_of_covered xs ps [] c h = nothing_more xs ps c h
hull_of_covered xs ps (a ∷ []) c h = (All-contains (Contains ps) xs a c.elements h.0, all_by (λ p. p ≡ a) ps (λ p m. equal_to_all xs ps a p c m h.1))
hull_of_covered xs ps (a ∷ b ∷ []) c h = record {
  lower = All-contains (Contains ps) xs a c.elements h.lower;
  upper = All-contains (Contains ps) xs b c.elements h.upper;
  apart = h.apart;
  on_line = all_by (λ p. turn a b p ≡ pos 0) ps (λ p m. on_line_of xs ps a b p c m h.on_line);
  from_lower = all_by (IsAtMost a) ps (λ p m. c.low a p m h.from_lower);
  to_upper = all_by (λ p. IsAtMost p b) ps (λ p m. to_end xs ps a b p c m h.to_upper h.on_line (on_line_of xs ps a b p c m h.on_line) h.apart);
}
hull_of_covered xs ps (a ∷ b ∷ d ∷ r) c h = record {
  of_list = all_of_fewer (Contains ps) (a ∷ b ∷ d ∷ r) xs h.of_list c.elements;
  different = h.different;
  lowest = (All-contains (Contains ps) xs a c.elements h.lowest.0, all_by (IsAtMost a) ps (λ p m. c.low a p m h.lowest.1));
  left = h.left;
  none_right = none_right_of_more xs ps (round a b (d ∷ r)) c h.none_right;
}

-- the hull depends on the set of the positions alone
pub hull_of_same : (xs ps h : List Pos) → HasSame xs ps → IsHull xs h → IsHull ps h
hull_of_same xs ps h s k =
    let back = λ (P : Pos → Type 0) (p : Pos) (m : Contains ps p) (f : All P xs). All-contains P xs p f (All-contains (Contains xs) ps p s.1 m) in
    hull_of_covered xs ps h (record { elements = s.0; sides = λ a b. back (λ v. pos 0 ≤ℤ turn a b v); low = λ a. back (IsAtMost a) }) k

-- ---- two lists

-- what is the hull of two hulls together is the hull of the lists together
pub hull_of_both : (ps qs a b h : List Pos) → IsHull ps a → IsHull qs b → IsHull (a ++ b) h → IsHull (ps ++ qs) h
hull_of_both ps qs a b h k l m =
    let c = hull_covers ps a k in
    let d = hull_covers qs b l in
    hull_of_covered (a ++ b) (ps ++ qs) h (record {
      elements = All-append (Contains (ps ++ qs)) a b (All-weaker (Contains ps) (Contains (ps ++ qs)) (Contains-append_left ps qs) a c.elements) (All-weaker (Contains qs) (Contains (ps ++ qs)) (Contains-append_right ps qs) b d.elements);
      sides = λ x y p n f. elim (Contains-append_cases ps qs p n) [
        | inl i ↦ c.sides x y p i (all_left (λ v. pos 0 ≤ℤ turn x y v) a b f)
        | inr i ↦ d.sides x y p i (all_right (λ v. pos 0 ≤ℤ turn x y v) a b f)
      ];
      low = λ x p n f. elim (Contains-append_cases ps qs p n) [ inl i ↦ c.low x p i (all_left (IsAtMost x) a b f) | inr i ↦ d.low x p i (all_right (IsAtMost x) a b f) ];
    }) m

-- a hull is its own hull
none_right_of_fewer : (S T : Pos → Type 0) (l : List Pos) → ((p : Pos) → T p → S p) → NoneRight S l → NoneRight T l
none_right_of_fewer S T (a ∷ b ∷ l) f h = (λ p m. h.0 p (f p m), none_right_of_fewer S T (b ∷ l) f h.1)
none_right_of_fewer S T _ f h = tt

pub hull_of_hull : (ps h : List Pos) → IsHull ps h → IsHull h h
hull_of_hull ps [] h = refl
hull_of_hull ps (a ∷ []) h = ((0, omega arith, refl), all_by (λ p. p ≡ a) (a ∷ []) (λ p m. only_one a p m))
hull_of_hull ps (a ∷ b ∷ []) h =
    let fewer = λ (P : Pos → Type 0). all_of_fewer P (a ∷ b ∷ []) ps (hull_covers ps (a ∷ b ∷ []) h).elements in
    record {
      lower = (0, omega arith, refl);
      upper = (1, omega arith, refl);
      apart = h.apart;
      on_line = fewer (λ p. turn a b p ≡ pos 0) h.on_line;
      from_lower = fewer (IsAtMost a) h.from_lower;
      to_upper = fewer (λ p. IsAtMost p b) h.to_upper;
    }
hull_of_hull ps (a ∷ b ∷ c ∷ r) h = record {
  of_list = All-contains_itself (a ∷ b ∷ c ∷ r);
  different = h.different;
  lowest = ((0, omega arith, refl), all_of_fewer (IsAtMost a) (a ∷ b ∷ c ∷ r) ps h.of_list h.lowest.1);
  left = h.left;
  none_right = none_right_of_fewer (Contains ps) (Contains (a ∷ b ∷ c ∷ r)) (round a b (c ∷ r)) (λ p m. All-contains (Contains ps) (a ∷ b ∷ c ∷ r) p h.of_list m) h.none_right;
}

-- the hull has coordinates in range where the list has
pub hull_elements : (ps h : List Pos) → IsHull ps h → All (Contains ps) h
hull_elements ps h k = (hull_covers ps h k).elements
