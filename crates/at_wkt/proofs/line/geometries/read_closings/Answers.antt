use Rattle.std.proofs.Common.{arith}
use Rattle.std.proofs.lemmas.Bool.{not-false, not-true}
use Rattle.at_wkt.specs.Readers.{DelimiterBreaks}
use Rattle.at_wkt.proofs.ProgressAnswers.{closes_start, closes_more, closes_stuck, closes_next, closes_over}
use Rattle.at_text.proofs.Exits.{exits}
use Rattle.at_wkt.proofs.line.geometries.read_closings.Goals as goal

pub loop-depth-init : goal.loop-depth-init
loop-depth-init c = record { closes = closes_start c.args.text.now c.args.from c.args.opened; low = omega arith; inside = c.requires.inside; deep = c.requires.deep }

pub loop-depth-preserved : goal.loop-depth-preserved
loop-depth-preserved c =
    let d = c.in_ok-delimiter.ensures in
    record {
      closes = closes_more c.args.text.now c.args.from c.args.opened c.loop-depth.at c.loop-depth.depth c.loop-depth.invariant.closes c.loop-depth-test.true c.in_ok-delimiter.delimiter d (not-false c.in_ok-delimiter.delimiter.is_last c.if-not-delimiter.false);
      low = omega (arith, c.loop-depth.invariant.low, d.blanks.order, d.end_is);
      inside = omega (arith, d.inside, d.end_is);
      deep = omega (arith, c.loop-depth.invariant.deep, d.blanks.order, d.end_is);
    }

pub returns-in_err-delimiter : goal.returns-in_err-delimiter
returns-in_err-delimiter c = exits c.from_residual.result c.in_err-delimiter.field-0.0 _ (DelimiterBreaks c.args.text.now c.loop-depth.at) _ c.from_residual.ensures.1
    (closes_stuck c.args.text.now c.args.from c.args.opened c.loop-depth.at c.loop-depth.depth c.loop-depth.invariant.closes c.loop-depth-test.true) c.in_err-delimiter.ensures

pub returns-then-not-delimiter : goal.returns-then-not-delimiter
returns-then-not-delimiter c =
    let d = c.in_ok-delimiter.ensures in
    let s = c.skip_blanks-next.ensures in (
      omega (arith, c.loop-depth.invariant.deep, d.blanks.order, d.end_is, s.order),
      closes_next c.args.text.now c.args.from c.args.opened c.loop-depth.at c.loop-depth.depth c.loop-depth.invariant.closes c.loop-depth-test.true c.in_ok-delimiter.delimiter c.skip_blanks-next.result d
          (not-true c.in_ok-delimiter.delimiter.is_last c.if-not-delimiter.true) s c.loop-depth.invariant.low,
    )

pub returns : goal.returns
returns c = (c.loop-depth.invariant.deep, closes_over c.args.text.now c.args.from c.args.opened c.loop-depth.at c.loop-depth.depth c.loop-depth.invariant.closes (omega arith) c.loop-depth.invariant.low c.loop-depth.invariant.inside)
