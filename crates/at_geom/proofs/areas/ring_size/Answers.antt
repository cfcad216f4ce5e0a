use Rattle.std.specs.Prelude.{FitsSigned}
use Rattle.std.specs.Int.{w128, int_wrap}
use Rattle.std.proofs.Common.{pos, nat_abs, sym, ap, ◌∙◌, arith, rules}
use Rattle.std.proofs.lemmas.Int.{ints, to_z-of_z}
use Rattle.at_geom.proofs.Shoelace.{wrap_natural}
use Rattle.at_geom.proofs.areas.ring_size.Goals as goal

pub returns : goal.returns
returns c =
    let (f, g) : FitsSigned w128 c.wrapping_abs.result × FitsSigned w128 c.shoelace.result = search rules in
    let e = simp to_z-of_z at c.wrapping_abs.ensures in
    simp to_z-of_z (e ∙ (sym (wrap_natural (nat_abs c.shoelace.result) (omega (arith, ints))) ∙ ap (λ z. int_wrap w128 (pos (nat_abs z))) c.shoelace.ensures))
