-- The size of the sum.
use Rattle.std.specs.Prelude.{FitsSigned}
use Rattle.std.specs.Int.{w128}
use Rattle.std.proofs.Common.{nat_abs, refl, sym, ◌∙◌, arith, rules}
use Rattle.std.proofs.lemmas.Int.{ints, to_z-of_z}
use Rattle.at_geom.proofs.Shoelace.{wrap_natural}
use Rattle.at_query.proofs.TallyFolds.{ring_told}
use Rattle.at_query.proofs.answer.tallies.Tally.of_ring.Goals as goal

pub returns : goal.returns
returns c measure before path =
    let f : FitsSigned w128 c.wrapping_abs.result = search rules in
    let g : FitsSigned w128 c.args.self.area = search rules in
    let e = simp to_z-of_z at c.wrapping_abs.ensures in
    ring_told measure before path c.args.self _ refl (simp to_z-of_z (e ∙ sym (wrap_natural (nat_abs c.args.self.area) (omega (arith, ints)))))
