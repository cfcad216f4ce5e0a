-- What is told of the positions with one more of them, whose values are the marks.
use Rattle.std.proofs.Common.{[], ◌∷◌, ◌++◌, sym, subst}
use Rattle.at_geom.specs.declared.positions.Pos.{Pos}
use Rattle.at_query.specs.declared.query.looks.Measure.{Measure}
use Rattle.at_query.specs.Tallies.{SumsUp}
use Rattle.at_geojson.proofs.coordinates.makers.TalliesMaker.next.Goals as goal

pub returns : goal.returns
returns g c before front p q hp hq told =
    let r = c.with.result in
    let asked = c.measure.result in
    subst (λ (m : Measure). SumsUp m before ((front ++ p ∷ []) ++ q ∷ []) r) c.measure.ensures
    (subst (λ (z : Pos). SumsUp asked before ((front ++ p ∷ []) ++ z ∷ []) r) hq
    (subst (λ (z : Pos). SumsUp asked before ((front ++ z ∷ []) ++ c.args.mark ∷ []) r) hp
    (c.with.ensures before front (subst (λ (z : Pos). SumsUp asked before (front ++ z ∷ []) c.args.line.now) (sym hp)
    (subst (λ (m : Measure). SumsUp m before (front ++ p ∷ []) c.args.line.now) (sym c.measure.ensures) told)))))
