-- Each list is read behind those before it.
use Rattle.std.proofs.Common.{refl, arith}
use Rattle.at_geojson.proofs.MadeFolds.{lines_begin, lines_go_on, lines_end}
use Rattle.at_geojson.proofs.coordinates.makings.lists.Goals as goal

pub lists-init : goal.lists-init
lists-init g c =
    lines_begin g.S.Maker.tells g.S.Maker.tells_lines c.args.before c.args.text.now.algebra.now c.args.text.now.base c.args.text.now.bytes.now c.args.text.now.alloc (omega (arith, c.args.text.now.fits)) c.args.at c.in_ok-first.first c.in_ok-made.made
    c.requires.inside c.in_ok-first.ensures c.in_ok-made.ensures

pub lists-preserved : goal.lists-preserved
lists-preserved g c =
    lines_go_on g.S.Maker.tells g.S.Maker.tells_lines c.args.before c.args.text.now.algebra.now c.args.text.now.base c.args.text.now.bytes.now c.args.text.now.alloc (omega (arith, c.args.text.now.fits)) c.args.at _ c.lists.end c.lists.as_lines c.lists.as_rings _ _ c.lists.made c.add_line.new.lines c.around_lines-around.result _ c.in_ok-next.next
    c.lists.invariant c.in_ok-expect_comma.ensures.inside c.in_ok-expect_comma.ensures.byte c.around_lines-around.ensures c.in_ok-next.ensures c.first_fault-as_lines.ensures c.first_fault-as_rings.ensures c.in_ok-add_line.ensures

pub returns : goal.returns
returns g c =
    let here = c.lists-test.false in
    lines_end g.S.Maker.tells g.S.Maker.tells_lines c.args.before c.args.text.now.algebra.now c.args.text.now.base c.args.text.now.bytes.now c.args.text.now.alloc (omega (arith, c.args.text.now.fits)) c.args.at _ c.lists.end c.lists.as_lines c.lists.as_rings c.lists.made _
    c.lists.invariant (c.stands.ensures.inside here) c.requires.opens (c.stands.ensures.byte here) refl refl refl refl refl refl
