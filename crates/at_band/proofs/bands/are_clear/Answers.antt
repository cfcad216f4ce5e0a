use Rattle.std.proofs.Common.{sym, ◌∙◌}
use Rattle.std.proofs.lemmas.Bool.{false≢true}
use Rattle.at_geom.proofs.ApartShapes.{meet_touches}
use Rattle.at_band.proofs.bands.are_clear.Goals as goal

pub returns-then-frame : goal.returns-then-frame
returns-then-frame c = λ h m.
    let first = rw c.as_slice.ensures at (c.are_closed.ensures h) in
    let second = c.requires.framed.closed c.if-frame.true in
    let t = meet_touches c.args.a.now c.args.b.now c.args.around c.args.frame.around c.requires.covered c.requires.framed.extent_is first second m in
    false≢true (sym c.if-touches_box.false ∙ c.touches_box.ensures.1 (t.right, t.left, t.above, t.below))
