-- A list of positions with white space round it.
use Rattle.std.proofs.Common.{arith}
use Rattle.at_geojson.proofs.MadeFolds.{line_spaced}
use Rattle.at_geojson.proofs.coordinates.makings.positions_item.Goals as goal

pub returns : goal.returns
returns g c =
    line_spaced g.S.Maker.tells g.S.Maker.tells_lines c.args.before c.args.text.now.algebra.now c.args.text.now.base c.args.text.now.bytes.now c.args.text.now.alloc (omega (arith, c.args.text.now.fits)) c.args.at c.in_ok-first.first c.skip_spaces.result c.in_ok-line.line
    c.in_ok-first.ensures.order c.in_ok-first.ensures.spaces c.in_ok-line.ensures c.skip_spaces.ensures.order c.skip_spaces.ensures.within c.skip_spaces.ensures.spaces
