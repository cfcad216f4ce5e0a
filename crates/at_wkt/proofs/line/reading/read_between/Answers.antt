use Rattle.std.proofs.Common.{zero, refl, arith}
use Rattle.at_wkt.proofs.Names.{Open, Stuck, Expected}
use Rattle.at_wkt.proofs.LineAnswers.{line_stuck, line_spelled, line_beyond}
use Rattle.at_text.proofs.Exits.{exits}
use Rattle.at_wkt.proofs.line.reading.read_between.Goals as goal

pub returns-in_err-end : goal.returns-in_err-end
returns-in_err-end c = exits c.from_residual.result c.in_err-end.field-0.0 _ (Stuck (λ d. Expected c.args.source.now.rules.digits c.args.source.now.rules.how zero) c.args.source.now.rules.base c.args.source.now.text.now c.skip_blanks-start.result Open) _ c.from_residual.ensures.1
    (λ n h. record { within = h.within; fault = line_stuck c.args.source.now.rules.digits c.args.source.now.rules.how c.args.source.now.rules.base c.args.source.now.text.now c.skip_blanks-start.result c.skip_blanks-start.ensures n h }) c.in_err-end.ensures

pub returns-then-last-source : goal.returns-then-last-source
returns-then-last-source c =
    let s = c.in_ok-end.ensures in
    record {
      within = c.skip_blanks-last.ensures.within;
      fault = line_beyond c.args.source.now.rules.digits c.args.source.now.rules.how c.args.source.now.rules.base c.args.source.now.text.now c.skip_blanks-start.result c.skip_blanks-start.ensures c.in_ok-end.end s.meaning s.spelt c.skip_blanks-last.result c.skip_blanks-last.ensures c.if-last-source.true;
    }

pub returns-else-last-source : goal.returns-else-last-source
returns-else-last-source c =
    let s = c.in_ok-end.ensures in
    record {
      meaning = s.meaning;
      spells = line_spelled c.args.source.now.rules.digits c.args.source.now.rules.how c.args.source.now.rules.base c.args.source.now.text.now c.skip_blanks-start.result c.skip_blanks-start.ensures c.in_ok-end.end s.meaning s.spelt c.skip_blanks-last.result c.skip_blanks-last.ensures
          (omega (arith, c.if-last-source.false, c.skip_blanks-last.ensures.within)) _ _ refl refl;
      gathers = s.gathers;
    }
