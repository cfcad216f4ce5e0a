use Rattle.std.specs.Prelude.{FitsSigned}
use Rattle.std.specs.Int.{w64}
use Rattle.std.proofs.Common.{rules}
use Rattle.std.proofs.lemmas.Int.{to_z-of_z}
use Rattle.at_geom.proofs.segments.boxes_overlap.Goals as goal

pub returns-then-spans_overlap : goal.returns-then-spans_overlap
returns-then-spans_overlap c =
    let (ax, ay, bx, by) : FitsSigned w64 c.args.a.x × FitsSigned w64 c.args.a.y × FitsSigned w64 c.args.b.x × FitsSigned w64 c.args.b.y = search rules in
    let (cx, cy, dx, dy) : FitsSigned w64 c.args.c.x × FitsSigned w64 c.args.c.y × FitsSigned w64 c.args.d.x × FitsSigned w64 c.args.d.y = search rules in
    let x = simp to_z-of_z at c.spans_overlap.ensures in
    let y = simp to_z-of_z at c.spans_overlap-then-spans_overlap.ensures in
    let h = x.0 c.if-spans_overlap.true in
    (λ t. (h.0, h.1, (y.0 t).0, (y.0 t).1), λ t. y.1 (t.2, t.3))
