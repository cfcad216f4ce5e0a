use Rattle.std.specs.Prelude.{FitsSigned, ◌-ℤ◌, ◌*ℤ◌}
use Rattle.std.specs.Int.{w64, w128}
use Rattle.std.proofs.Common.{◌≡◌, arith, rules}
use Rattle.std.proofs.lemmas.Int.{ints, to_z-of_z, fits_signed_from_abs}
use Rattle.at_geom.proofs.areas.shoelace_term.Goals as goal

pub overflow_sub-result : goal.overflow_sub-result
overflow_sub-result c = omega (arith, ints)

pub returns : goal.returns
returns c =
    let (ax, ay, bx, by) : FitsSigned w64 c.args.a.x × FitsSigned w64 c.args.a.y × FitsSigned w64 c.args.b.x × FitsSigned w64 c.args.b.y = search rules in
    let (f, g) : FitsSigned w128 c.product.result × FitsSigned w128 c.product-2.result = search rules in
    let h : FitsSigned w128 (c.product.result -ℤ c.product-2.result) = fits_signed_from_abs w128 _ (omega (arith, ints)) in
    let e : c.product.result ≡ (c.args.a.x *ℤ c.args.b.y) = simp to_z-of_z at c.product.ensures.value in
    let k : c.product-2.result ≡ (c.args.b.x *ℤ c.args.a.y) = simp to_z-of_z at c.product-2.ensures.value in
    simp to_z-of_z (rw (e, k))
