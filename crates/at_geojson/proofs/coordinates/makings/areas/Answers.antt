-- Each area is read behind those before it.
use Rattle.std.proofs.Common.{refl, arith}
use Rattle.at_geojson.proofs.MadeFolds.{polygons_begin, polygons_go_on, polygons_end}
use Rattle.at_geojson.proofs.coordinates.makings.areas.Goals as goal

pub areas-init : goal.areas-init
areas-init g c =
    polygons_begin g.S.Maker.tells_lines g.S.Maker.tells_areas c.args.before c.args.text.now.algebra.now c.args.text.now.base c.args.text.now.bytes.now c.args.text.now.alloc (omega (arith, c.args.text.now.fits)) c.args.at c.in_ok-first.first c.in_ok-made.made
    c.requires.inside c.in_ok-first.ensures c.in_ok-made.ensures

pub areas-preserved : goal.areas-preserved
areas-preserved g c =
    polygons_go_on g.S.Maker.tells_lines g.S.Maker.tells_areas c.args.before c.args.text.now.algebra.now c.args.text.now.base c.args.text.now.bytes.now c.args.text.now.alloc (omega (arith, c.args.text.now.fits)) c.args.at _ c.areas.end c.areas.fault _ c.areas.made c.add_area.new.areas c.around_areas-around.result _ c.in_ok-next.next
    c.areas.invariant c.in_ok-expect_comma.ensures.inside c.in_ok-expect_comma.ensures.byte c.around_areas-around.ensures c.in_ok-next.ensures c.first_fault-fault.ensures c.in_ok-add_area.ensures

pub returns : goal.returns
returns g c =
    let here = c.areas-test.false in
    polygons_end g.S.Maker.tells_lines g.S.Maker.tells_areas c.args.before c.args.text.now.algebra.now c.args.text.now.base c.args.text.now.bytes.now c.args.text.now.alloc (omega (arith, c.args.text.now.fits)) c.args.at _ c.areas.end c.areas.fault c.areas.made _
    c.areas.invariant (c.stands.ensures.inside here) c.requires.opens (c.stands.ensures.byte here) refl refl refl refl refl
