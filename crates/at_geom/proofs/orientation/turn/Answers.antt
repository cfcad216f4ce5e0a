use Rattle.std.specs.Prelude.{FitsSigned, ◌-ℤ◌, ◌*ℤ◌}
use Rattle.std.specs.Int.{w64, w128}
use Rattle.std.proofs.Common.{◌≡◌, arith, rules}
use Rattle.std.proofs.lemmas.Int.{ints, to_z-of_z, fits_signed_from_abs}
use Rattle.at_geom.proofs.orientation.turn.Goals as goal

pub overflow_sub-result : goal.overflow_sub-result
overflow_sub-result c = omega (arith, ints)

pub returns : goal.returns
returns c =
    let (ax, ay, bx, by) : FitsSigned w64 c.args.a.x × FitsSigned w64 c.args.a.y × FitsSigned w64 c.args.b.x × FitsSigned w64 c.args.b.y = search rules in
    let (cx, cy, d1, d2) : FitsSigned w64 c.args.c.x × FitsSigned w64 c.args.c.y × FitsSigned w64 c.difference.result × FitsSigned w64 c.difference-2.result = search rules in
    let (d3, d4, f, g) : FitsSigned w64 c.difference-3.result × FitsSigned w64 c.difference-4.result × FitsSigned w128 c.product-left.result × FitsSigned w128 c.product-right.result = search rules in
    let h : FitsSigned w128 (c.product-left.result -ℤ c.product-right.result) = fits_signed_from_abs w128 _ (omega (arith, ints)) in
    let e1 = simp to_z-of_z at c.difference.ensures in
    let e2 = simp to_z-of_z at c.difference-2.ensures in
    let e3 = simp to_z-of_z at c.difference-3.ensures in
    let e4 = simp to_z-of_z at c.difference-4.ensures in
    let e5 : c.product-left.result ≡ (c.difference.result *ℤ c.difference-2.result) = simp to_z-of_z at c.product-left.ensures.value in
    let e6 : c.product-right.result ≡ (c.difference-3.result *ℤ c.difference-4.result) = simp to_z-of_z at c.product-right.ensures.value in
    simp to_z-of_z (rw (e5, e6, e1, e2, e3, e4))
