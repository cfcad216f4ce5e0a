use Rattle.at_geom.specs.Shapes.{segments}
use Rattle.at_band.proofs.BandsOf.{met_somewhere, met_in_band, met_by_some, met_in_zone}
use Rattle.at_band.proofs.bands.segment_meets_zone.Goals as goal

pub returns-in_default : goal.returns-in_default
returns-in_default c =
    let said = rw c.as_slice.ensures.value at c.bands_are_met.ensures in (
      λ t. met_by_some c.args.shape.now c.args.a c.args.b c.args.zone.now.bands.items (said.0 t),
      λ m. said.1 (met_in_zone c.args.shape.now c.args.zone.now c.args.a c.args.b c.requires.kept c.requires.a_within c.requires.b_within m),
    )

pub returns-then-not-has_height : goal.returns-then-not-has_height
returns-then-not-has_height c =
    let said = rw c.as_slice-then-not-has_height.ensures.value at c.bands_are_met-then-not-has_height.ensures in (
      λ t. met_by_some c.args.shape.now c.args.a c.args.b c.args.zone.now.bands.items (said.0 t),
      λ m. said.1 (met_in_zone c.args.shape.now c.args.zone.now c.args.a c.args.b c.requires.kept c.requires.a_within c.requires.b_within m),
    )

pub returns : goal.returns
returns c =
    let at_end = c.has_height.ensures.0 c.if-not-has_height.false in (
      λ t. met_somewhere c.in-Some.band.now.heights.low c.in-Some.band.now.heights.high c.args.a c.args.b (segments c.args.shape.now) (c.segment_meets_band.ensures.0 t),
      λ m. c.segment_meets_band.ensures.1 (met_in_band c.in-Some.band.now c.args.a c.args.b (segments c.args.shape.now) c.in-Some.ensures.0 at_end m),
    )
