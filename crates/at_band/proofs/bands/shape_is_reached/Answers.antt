use Rattle.std.proofs.Common.{◌≡◌, List, length, sym, subst, ◌∙◌, rules}
use Rattle.std.proofs.lemmas.List.{nil_from_length}
use Rattle.std.proofs.lemmas.Bool.{false≢true}
use Rattle.at_geom.specs.declared.shapes.Polygon.{Polygon}
use Rattle.at_geom.specs.Shapes.{SomeIsIn, positions}
use Rattle.at_band.proofs.TouchedShapes.{nothing_in_none}
use Rattle.at_band.proofs.bands.shape_is_reached.Goals as goal

pub returns-then-is_empty : goal.returns-then-is_empty
returns-then-is_empty c =
    let empty : length c.as_slice-polygons.result.now ≡ 0 = search rules in
    let none = sym c.as_slice-polygons.ensures ∙ nil_from_length c.as_slice-polygons.result.now empty in (
      λ t. absurd (false≢true t),
      λ m. absurd (nothing_in_none (positions c.args.shape.now) (subst (λ (all : List Polygon). SomeIsIn (positions c.args.shape.now) all) none m)),
    )
