use Rattle.std.specs.Prelude.{FitsSigned}
use Rattle.std.specs.Int.{w64, w128}
use Rattle.std.proofs.Common.{◌*ℤ◌, arith}
use Rattle.std.proofs.lemmas.Int.{to_z-of_z, fits_signed_from_abs}
use Rattle.at_geom.proofs.Bounds.{product_bound}
use Rattle.at_geom.proofs.integers.product.Goals as goal

pub returns-clause-bounded : goal.returns-clause-bounded
returns-clause-bounded c =
    let bound = product_bound c.args.a c.args.b c.requires.a_is_small c.requires.b_is_small in
    let fa : FitsSigned w64 c.args.a = c.ranges.a in
    let fb : FitsSigned w64 c.args.b = c.ranges.b in
    let ga : FitsSigned w128 c.args.a = fits_signed_from_abs w128 c.args.a (omega (arith, c.requires.a_is_small)) in
    let gb : FitsSigned w128 c.args.b = fits_signed_from_abs w128 c.args.b (omega (arith, c.requires.b_is_small)) in
    let gp : FitsSigned w128 (c.args.a *ℤ c.args.b) = fits_signed_from_abs w128 (c.args.a *ℤ c.args.b) (omega (arith, bound)) in
    simp to_z-of_z bound
