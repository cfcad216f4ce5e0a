-- An area with white space round it.
use Rattle.std.proofs.Common.{arith}
use Rattle.at_geojson.proofs.MadeFolds.{lines_spaced}
use Rattle.at_geojson.proofs.coordinates.makings.lists_item.Goals as goal

pub returns : goal.returns
returns g c =
    lines_spaced g.S.Maker.tells_lines g.S.Maker.tells_areas c.args.before c.args.text.now.algebra.now c.args.text.now.base c.args.text.now.bytes.now c.args.text.now.alloc (omega (arith, c.args.text.now.fits)) c.args.at c.in_ok-first.first c.skip_spaces.result c.in_ok-read.read
    c.in_ok-first.ensures.order c.in_ok-first.ensures.spaces c.in_ok-read.ensures c.skip_spaces.ensures.order c.skip_spaces.ensures.within c.skip_spaces.ensures.spaces
