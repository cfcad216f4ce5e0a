-- Each position is read behind those before it.
use Rattle.std.proofs.Common.{refl, arith}
use Rattle.at_geojson.proofs.MadeFolds.{making_begins, making_goes_on, making_ends}
use Rattle.at_geojson.proofs.coordinates.makings.positions.Goals as goal

pub positions-init : goal.positions-init
positions-init g c =
    making_begins g.S.Reader.Reads.marks g.S.Reader.Reads.stands g.S.Maker.tells c.args.before c.args.text.now.algebra.now c.args.text.now.base c.args.text.now.bytes.now c.args.text.now.alloc (omega (arith, c.args.text.now.fits)) c.args.at c.in-Some.first c.in_ok-made.made
    c.requires.inside c.in-Some.ensures c.in_ok-made.ensures

pub positions-preserved : goal.positions-preserved
positions-preserved g c =
    making_goes_on g.S.Reader.Reads.marks g.S.Reader.Reads.stands g.S.Maker.tells c.args.before c.args.text.now.algebra.now c.args.text.now.base c.args.text.now.bytes.now c.args.text.now.alloc (omega (arith, c.args.text.now.fits)) c.args.at c.in-Some.first c.positions.last c.in-Some-read.next c.positions.place c.positions.count c.one_more-count.result c.positions.made c.next.new.line
    c.positions.invariant c.in_ok-expect_comma.ensures.inside c.in_ok-expect_comma.ensures.byte c.in-Some-read.ensures c.one_more-count.ensures c.in_ok-next.ensures

pub returns : goal.returns
returns g c =
    let here = c.positions-test.false in
    making_ends g.S.Reader.Reads.marks g.S.Reader.Reads.stands g.S.Maker.tells c.args.before c.args.text.now.algebra.now c.args.text.now.base c.args.text.now.bytes.now c.args.text.now.alloc (omega (arith, c.args.text.now.fits)) c.args.at c.in-Some.first c.positions.last c.positions.place c.positions.count c.in-Some-closes.closes c.positions.made _
    c.positions.invariant (c.stands.ensures.inside here) c.requires.opens (c.stands.ensures.byte here) c.in-Some-closes.ensures refl refl refl c.line_fault.ensures c.ring_fault.ensures refl
