-- A law of the ray's test: it asks whether the edge's point at the height of the position lies to the right of it.
-- For `are_closed`, `reach` and `shapes_meet`.
use Rattle.std.proofs.Common.{◌≡◌, ℤ, pos, ◌-ℤ◌, ◌*ℤ◌, ◌≤ℤ◌, ◌<ℤ◌, Bool, true, false, arith, refl, sym, ◌∙◌}
use Rattle.std.specs.Prelude.{int_le, int_lt, if◌then◌else◌}
use Rattle.std.proofs.Math.IntN.{*ℤ_comm}
use Rattle.std.proofs.lemmas.Int.{ints, by_lt_z}
use Rattle.at_geom.specs.declared.positions.Pos.{Pos}
use Rattle.at_geom.specs.Segments.{turn}
use Rattle.at_geom.specs.Regions.{is_crossed}
use Rattle.at_geom.proofs.Comparisons.{le_true, le_false, lt_true, lt_false}
use Rattle.at_geom.proofs.Crossings.{by_heights, side_up, side_down, not_crossed}
use Rattle.at_geom.proofs.RingLaws.{expand, products}

-- how far the edge ab has gone to the right at the height of p, and how far p is to the right of a, both times the rise
-- of ab
abbrev pub run_of_edge : Pos → Pos → Pos → ℤ
run_of_edge p a b = (p.y -ℤ a.y) *ℤ (b.x -ℤ a.x)

abbrev pub run_to_point : Pos → Pos → Pos → ℤ
run_to_point p a b = (p.x -ℤ a.x) *ℤ (b.y -ℤ a.y)

-- exactly one end of ab is at most as high as p, and the edge's point at the height of p is to the right of p: the runs
-- are compared, and where the rise is negative the other way round
abbrev pub has_point_to_right : Pos → Pos × Pos → Bool
has_point_to_right p (a, b) =
    if int_le a.y p.y
    then (if int_le b.y p.y then false else int_lt (run_to_point p a b) (run_of_edge p a b))
    else (if int_le b.y p.y then int_lt (run_of_edge p a b) (run_to_point p a b) else false)

run_difference : (p a b : Pos) → turn a b p ≡ run_of_edge p a b -ℤ run_to_point p a b
run_difference p a b = omega (arith, ints, *ℤ_comm (b.x -ℤ a.x) (p.y -ℤ a.y), *ℤ_comm (b.y -ℤ a.y) (p.x -ℤ a.x))

lt_of_difference : (s x y : ℤ) → s ≡ y -ℤ x → int_lt (pos 0) s ≡ int_lt x y
lt_of_difference s x y e =
    by_lt_z x y (λ h. lt_true (pos 0) s (omega (arith, ints)) ∙ sym (lt_true x y h)) (λ h. lt_false (pos 0) s (omega (arith, ints)) ∙ sym (lt_false x y h))

gt_of_difference : (s x y : ℤ) → s ≡ y -ℤ x → int_lt s (pos 0) ≡ int_lt y x
gt_of_difference s x y e =
    by_lt_z y x (λ h. lt_true s (pos 0) (omega (arith, ints)) ∙ sym (lt_true y x h)) (λ h. lt_false s (pos 0) (omega (arith, ints)) ∙ sym (lt_false y x h))

-- an edge that rises past p, and one that falls past it
pub crossed_up : (p a b : Pos) → a.y ≤ℤ p.y → p.y <ℤ b.y → is_crossed p (a, b) ≡ int_lt (run_to_point p a b) (run_of_edge p a b)
crossed_up p a b h k = sym (side_up p a b (turn a b p) refl h k) ∙ lt_of_difference (turn a b p) (run_to_point p a b) (run_of_edge p a b) (run_difference p a b)

crossed_down : (p a b : Pos) → p.y <ℤ a.y → b.y ≤ℤ p.y → is_crossed p (a, b) ≡ int_lt (run_of_edge p a b) (run_to_point p a b)
crossed_down p a b h k = sym (side_down p a b (turn a b p) refl h k) ∙ gt_of_difference (turn a b p) (run_to_point p a b) (run_of_edge p a b) (run_difference p a b)

turned : (p a b : Pos) → turn a b p ≡ pos 0 -ℤ turn b a p
turned p a b = simp expand (omega (arith, products))

-- an edge is crossed as the edge the other way is
pub crossed_back : (p a b : Pos) → is_crossed p (a, b) ≡ is_crossed p (b, a)
crossed_back p a b =
    by_heights p a b
    (λ h k. sym (side_up p a b (turn a b p) refl h k) ∙ (lt_of_difference (turn a b p) (turn b a p) (pos 0) (turned p a b) ∙ side_down p b a (turn b a p) refl k h))
    (λ h k. sym (side_down p a b (turn a b p) refl h k) ∙ (gt_of_difference (turn a b p) (turn b a p) (pos 0) (turned p a b) ∙ side_up p b a (turn b a p) refl k h))
    (λ e. not_crossed p a b e ∙ sym (not_crossed p b a (sym e)))

pick_up : (u v f g : Bool) → u ≡ true → v ≡ false → (if u then (if v then false else f) else (if v then g else false)) ≡ f
pick_up u v f g d e = rw (d, e) refl

pick_down : (u v f g : Bool) → u ≡ false → v ≡ true → (if u then (if v then false else f) else (if v then g else false)) ≡ g
pick_down u v f g d e = rw (d, e) refl

pick_none : (u v f g : Bool) → u ≡ v → (if u then (if v then false else f) else (if v then g else false)) ≡ false
pick_none true false f g e = absurd (cc)
pick_none false true f g e = absurd (cc)
pick_none _ _ f g e = refl

pub crossed_by_point : (p a b : Pos) → is_crossed p (a, b) ≡ has_point_to_right p (a, b)
crossed_by_point p a b =
    let rising = int_lt (run_to_point p a b) (run_of_edge p a b) in
    let falling = int_lt (run_of_edge p a b) (run_to_point p a b) in
    by_heights p a b
    (λ h k. crossed_up p a b h k ∙ sym (pick_up (int_le a.y p.y) (int_le b.y p.y) rising falling (le_true a.y p.y h) (le_false b.y p.y k)))
    (λ h k. crossed_down p a b h k ∙ sym (pick_down (int_le a.y p.y) (int_le b.y p.y) rising falling (le_false a.y p.y h) (le_true b.y p.y k)))
    (λ e. not_crossed p a b e ∙ sym (pick_none (int_le a.y p.y) (int_le b.y p.y) rising falling e))
