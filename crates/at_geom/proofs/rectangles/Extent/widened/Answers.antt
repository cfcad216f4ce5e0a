use Rattle.std.specs.Prelude.{FitsSigned}
use Rattle.std.specs.Int.{w64, int_min, int_max}
use Rattle.std.proofs.Common.{◌≡◌, rules}
use Rattle.std.proofs.lemmas.Int.{to_z-of_z}
use Rattle.at_geom.proofs.rectangles.Extent.widened.Goals as goal

pub returns : goal.returns
returns c =
    let (p, q, a, b) : FitsSigned w64 c.args.p.x × FitsSigned w64 c.args.p.y × FitsSigned w64 c.args.self.low.x × FitsSigned w64 c.args.self.high.x = search rules in
    let (i, j, f, g) : FitsSigned w64 c.args.self.low.y × FitsSigned w64 c.args.self.high.y × FitsSigned w64 c.min.result × FitsSigned w64 c.min-2.result = search rules in
    let (h, k) : FitsSigned w64 c.max.result × FitsSigned w64 c.max-2.result = search rules in
    let e1 : c.min.result ≡ int_min c.args.p.x c.args.self.low.x = simp to_z-of_z at c.min.ensures.value in
    let e2 : c.min-2.result ≡ int_min c.args.p.y c.args.self.low.y = simp to_z-of_z at c.min-2.ensures.value in
    let e3 : c.max.result ≡ int_max c.args.p.x c.args.self.high.x = simp to_z-of_z at c.max.ensures.value in
    let e4 : c.max-2.result ≡ int_max c.args.p.y c.args.self.high.y = simp to_z-of_z at c.max-2.ensures.value in
    simp to_z-of_z (rw (e1, e2, e3, e4))
