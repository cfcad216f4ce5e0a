use Rattle.std.specs.Prelude.{FitsSigned}
use Rattle.std.specs.Int.{w64}
use Rattle.std.proofs.Common.{rules}
use Rattle.std.proofs.lemmas.Int.{to_z-of_z}
use Rattle.at_geom.proofs.rectangles.Extent.touches_box.Goals as goal

pub returns-then-span_touches : goal.returns-then-span_touches
returns-then-span_touches c =
    let (ax, ay, bx, by) : FitsSigned w64 c.args.a.x × FitsSigned w64 c.args.a.y × FitsSigned w64 c.args.b.x × FitsSigned w64 c.args.b.y = search rules in
    let (lx, ly, hx, hy) : FitsSigned w64 c.args.self.low.x × FitsSigned w64 c.args.self.low.y × FitsSigned w64 c.args.self.high.x × FitsSigned w64 c.args.self.high.y = search rules in
    let x = simp to_z-of_z at c.span_touches.ensures in
    let y = simp to_z-of_z at c.span_touches-then-span_touches.ensures in
    let h = x.0 c.if-span_touches.true in
    (λ t. (h.0, h.1, (y.0 t).0, (y.0 t).1), λ t. y.1 (t.2, t.3))
