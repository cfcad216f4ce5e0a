use Rattle.std.proofs.Common.{sym, subst, refl, arith}
use Rattle.at_band.specs.Banded.{IsZoneOf, IsMetInZone}
use Rattle.at_geom.proofs.Elements.{untrue}
use Rattle.at_band.proofs.BandsOf.{met_zones, met_by_some, some_next}
use Rattle.at_band.proofs.bands.segment_meets_zones.Goals as goal

pub loop-zone-init : goal.loop-zone-init
loop-zone-init c = λ m. met_zones c.args.shape.now c.args.frame c.args.zones.now c.args.a c.args.b c.requires.kept m

pub is_met_in_zone-requires-clause-kept : goal.is_met_in_zone-requires-clause-kept
is_met_in_zone-requires-clause-kept c = subst (IsZoneOf c.args.shape.now) (sym c.zone-item.is) (c.requires.kept.kept c.loop-zone.zone-index c.zone-item.result (omega arith))

pub returns-then-is_met_in_zone : goal.returns-then-is_met_in_zone
returns-then-is_met_in_zone c = (
  λ _. met_by_some c.args.shape.now c.args.a c.args.b c.zone-item.result.bands.items (c.is_met_in_zone.ensures.0 c.if-is_met_in_zone.true).1,
  λ _. refl,
)

pub loop-zone-preserved : goal.loop-zone-preserved
loop-zone-preserved c =
    λ m. some_next (IsMetInZone c.args.a c.args.b c.args.shape.now) c.args.zones.now c.loop-zone.zone-index c.zone-item.result c.zone-item.result (omega arith) c.zone-item.is (untrue c.is_met_in_zone.result c.if-is_met_in_zone.false c.is_met_in_zone.ensures.1) (c.loop-zone.invariant m)
