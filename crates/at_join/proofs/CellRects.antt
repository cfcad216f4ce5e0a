-- A cell's positions are those of its rectangle.
-- For `cell_pairs`, `merge`, `new`, `pairs_grid`, `pairs_plain` and `run`.
use Rattle.std.proofs.Common.{◌≡◌, ℕ, ◌+◌, ◌*◌, ◌/◌, ◌%◌, ◌<◌, ◌≤◌, ◌==◌, Bool, true, false, ℤ, pos, nat_abs, ◌≤ℤ◌, ◌+ℤ◌, ◌-ℤ◌, inl, inr, arith, refl, sym, ap}
use Rattle.std.specs.Prelude.{IsTrue}
use Rattle.std.proofs.Math.Nat.{mul-le-mul_right, div-mul-le_self, lt-div-mul-add}
use Rattle.std.proofs.lemmas.Bool.{cases_lt, eq-eqb, eqb-true}
use Rattle.std.proofs.lemmas.Int.{ints}
use Rattle.at_geom.specs.declared.positions.Pos.{Pos}
use Rattle.at_geom.specs.declared.rectangles.Extent.{Extent}
use Rattle.at_geom.specs.Shapes.{is_within}
use Rattle.at_geom.proofs.Found.{sides, from_sides}
use Rattle.at_join.specs.Cells.{eighth, cell_of, edge_of, rect_of}

next_times : (q w : ℕ) → (q + 1) * w ≡ q * w + w
next_times q w = omega (arith)

-- d is in part c of 8 parts of w numbers
floor_in : (d w c : ℕ) → 0 < w → d * 8 / w ≡ c → ((c * w + 7) / 8 ≤ d) × (d < ((c + 1) * w + 7) / 8)
floor_in d w c some is =
    let same = ap (λ q. q * w) is in
    let least = div-mul-le_self (d * 8) w in
    let most = lt-div-mul-add {a = d * 8} {b = w} some in
    (omega (arith, same, least), omega (arith, same, most, next_times c w))

in_floor : (d w c : ℕ) → 0 < w → (c * w + 7) / 8 ≤ d → d < ((c + 1) * w + 7) / 8 → d * 8 / w ≡ c
in_floor d w c some from to =
    let q = d * 8 / w in
    let least = div-mul-le_self (d * 8) w in
    let most = lt-div-mul-add {a = d * 8} {b = w} some in
    elim (cases_lt c q) [
      | inl lt ↦ absurd (let m = mul-le-mul_right {m = c + 1} {n = q} w (omega (arith, lt)) in omega (arith, m, least, to, next_times c w))
      | inr ge ↦ elim (cases_lt q c) [
        | inl lt ↦ absurd (let m = mul-le-mul_right {m = q + 1} {n = c} w (omega (arith, lt)) in omega (arith, m, most, from, next_times q w))
        | inr le ↦ omega (arith, ge, le)
      ]
    ]

-- the distance of a number from the low end, and the width
abbrev dist : ℤ → ℤ → ℕ
dist low x = nat_abs (x -ℤ low)

abbrev wide : ℤ → ℤ → ℕ
wide low high = nat_abs (high -ℤ low) + 1

past_by : (low x : ℤ) (n : ℕ) → low ≤ℤ x → (low +ℤ pos n) ≤ℤ x → n ≤ dist low x
past_by low x n h k = omega (arith, ints, h, k)

by_past : (low x : ℤ) (n : ℕ) → low ≤ℤ x → n ≤ dist low x → (low +ℤ pos n) ≤ℤ x
by_past low x n h k = omega (arith, ints, h, k)

before_by : (low x : ℤ) (n : ℕ) → low ≤ℤ x → x ≤ℤ ((low +ℤ pos n) -ℤ pos 1) → dist low x < n
before_by low x n h k = omega (arith, ints, h, k)

by_before : (low x : ℤ) (n : ℕ) → low ≤ℤ x → dist low x < n → x ≤ℤ ((low +ℤ pos n) -ℤ pos 1)
by_before low x n h k = omega (arith, ints, h, k)

some_width : (low high : ℤ) → 0 < wide low high
some_width low high = omega (arith)

in_part : (low high x : ℤ) (c : ℕ) → low ≤ℤ x → (edge_of low high c) ≤ℤ x → x ≤ℤ ((edge_of low high (c + 1)) -ℤ pos 1) → eighth low high x ≡ c
in_part low high x c h from to =
    let w = wide low high in
    in_floor (dist low x) w c (some_width low high) (past_by low x ((c * w + 7) / 8) h from) (before_by low x (((c + 1) * w + 7) / 8) h to)

part_in : (low high x : ℤ) (c : ℕ) → low ≤ℤ x → eighth low high x ≡ c → ((edge_of low high c) ≤ℤ x) × (x ≤ℤ ((edge_of low high (c + 1)) -ℤ pos 1))
part_in low high x c h is =
    let w = wide low high in
    let t = floor_in (dist low x) w c (some_width low high) is in
    (by_past low x ((c * w + 7) / 8) h t.0, by_before low x (((c + 1) * w + 7) / 8) h t.1)

below_eight : (low high x : ℤ) → low ≤ℤ x → x ≤ℤ high → eighth low high x < 8
below_eight low high x h k = elim (cases_lt (eighth low high x) 8) [
  | inl lt ↦ lt
  | inr ge ↦ absurd (
      let w = wide low high in
      let n = mul-le-mul_right {m = 8} {n = eighth low high x} w ge in
      let least = div-mul-le_self (dist low x * 8) w in
      let less : dist low x < w = omega (arith, ints, h, k) in
      omega (arith, n, least, less))
]

same_bool : (a b : Bool) → (a ≡ true → b ≡ true) → (b ≡ true → a ≡ true) → a ≡ b
same_bool true b f g = sym (f refl)
same_bool false true f g = g refl
same_bool false false f g = refl

column_of : (r c cell : ℕ) → c < 8 → 8 * r + c ≡ cell → (c ≡ cell % 8) × (r ≡ cell / 8)
column_of r c cell lt e = (omega (arith, lt, e), omega (arith, lt, e))

cell_from : (r c cell : ℕ) → c ≡ cell % 8 → r ≡ cell / 8 → 8 * r + c ≡ cell
cell_from r c cell e f = omega (arith, e, f)

-- of a position in the joint extent
pub rect_is_cell : (joint : Extent) (cell : ℕ) (p : Pos) → IsTrue (is_within joint p) → is_within (rect_of joint cell) p ≡ (cell_of joint p == cell)
rect_is_cell joint cell p inside =
    let s = sides joint p inside in
    let col = eighth joint.low.x joint.high.x p.x in
    let row = eighth joint.low.y joint.high.y p.y in
    same_bool (is_within (rect_of joint cell) p) (cell_of joint p == cell)
    (λ h. let t = sides (rect_of joint cell) p h in
    eq-eqb (cell_of joint p) cell (cell_from row col cell
    (in_part joint.low.x joint.high.x p.x (cell % 8) s.left t.left t.right)
    (in_part joint.low.y joint.high.y p.y (cell / 8) s.below t.below t.above)))
    (λ h. let e = column_of row col cell (below_eight joint.low.x joint.high.x p.x s.left s.right) (eqb-true (cell_of joint p) cell h) in
    let x = part_in joint.low.x joint.high.x p.x (cell % 8) s.left e.0 in
    let y = part_in joint.low.y joint.high.y p.y (cell / 8) s.below e.1 in
    from_sides (rect_of joint cell) p (record { left = x.0; right = x.1; below = y.0; above = y.1 }))

-- such a position has one of 64 cells
pub cell_below : (joint : Extent) (p : Pos) → IsTrue (is_within joint p) → cell_of joint p < 64
cell_below joint p inside =
    let s = sides joint p inside in
    let x = below_eight joint.low.x joint.high.x p.x s.left s.right in
    let y = below_eight joint.low.y joint.high.y p.y s.below s.above in
    omega (arith, x, y)
