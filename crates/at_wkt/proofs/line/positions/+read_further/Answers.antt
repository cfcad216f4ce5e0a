use Rattle.std.proofs.Common.{sym, ◌∙◌, arith}
use Rattle.at_wkt.specs.Readers.{NumberBreaks}
use Rattle.at_wkt.proofs.ItemSteps.{further_joined, further_many, more_by}
use Rattle.at_wkt.proofs.PositionAnswers.{further_ended, further_broken, further_goes, delimiter_inside, apart}
use Rattle.at_text.proofs.Exits.{exits}
use Rattle.at_wkt.proofs.line.positions.+read_further.Goals as goal

pub returns-then-delimiter_stands : goal.returns-then-delimiter_stands
returns-then-delimiter_stands t c =
    let here = sym c.delimiter_stands.ensures ∙ c.if-delimiter_stands.true in
    further_ended c.args.source.now.text.now c.args.from.at c.skip_blanks-next.result c.args.from.dimension c.args.count c.skip_blanks-next.ensures c.requires.reaches c.requires.two
    (delimiter_inside c.args.source.now.text.now c.skip_blanks-next.result here) here c.end_position.result c.end_position.ensures

pub returns-then-next-from : goal.returns-then-next-from
returns-then-next-from t c = λ base. further_joined base c.args.source.now.text.now c.args.from.at c.skip_blanks-next.result c.args.from.dimension c.args.count c.skip_blanks-next.ensures c.requires.reaches
    (sym c.delimiter_stands.ensures ∙ c.if-delimiter_stands.false) c.if-next-from.true

pub returns-then-not-allows_more : goal.returns-then-not-allows_more
returns-then-not-allows_more t c = λ base. further_many base c.args.source.now.text.now c.args.from.at c.skip_blanks-next.result c.args.from.dimension c.args.count c.skip_blanks-next.ensures c.requires.reaches
    (sym c.delimiter_stands.ensures ∙ c.if-delimiter_stands.false) (sym c.allows_more.ensures ∙ c.if-not-allows_more.true)

pub returns-in_err-end : goal.returns-in_err-end
returns-in_err-end t c = exits c.from_residual.result c.in_err-end.field-0.0 _ (NumberBreaks c.args.source.now.text.now c.skip_blanks-next.result) _ c.from_residual.ensures.1
    (further_broken c.args.source.now.text.now c.args.from.at c.skip_blanks-next.result c.args.from.dimension c.args.count c.skip_blanks-next.ensures c.requires.reaches c.requires.two
    (apart c.args.from.at c.skip_blanks-next.result c.skip_blanks-next.ensures.order c.if-next-from.false) (sym c.delimiter_stands.ensures ∙ c.if-delimiter_stands.false) (sym c.allows_more.ensures ∙ c.if-not-allows_more.false)) c.in_err-end.ensures

pub returns : goal.returns
returns t c = further_goes c.args.source.now.text.now c.args.from.at c.skip_blanks-next.result c.args.from.dimension c.args.count c.skip_blanks-next.ensures c.requires.reaches c.requires.two
    (apart c.args.from.at c.skip_blanks-next.result c.skip_blanks-next.ensures.order c.if-next-from.false) (sym c.delimiter_stands.ensures ∙ c.if-delimiter_stands.false) (sym c.allows_more.ensures ∙ c.if-not-allows_more.false)
    c.in_ok-end.end c.read_further.result c.in_ok-end.ensures c.read_further.ensures

pub read_further-requires : goal.read_further-requires
read_further-requires t c = (
  omega (arith, c.skip_blanks-next.ensures.order, c.in_ok-end.ensures.order, c.in_ok-end.ensures.within, apart c.args.from.at c.skip_blanks-next.result c.skip_blanks-next.ensures.order c.if-next-from.false),
  (c.in_ok-end.ensures.within, (omega (arith, c.requires.two), more_by c.args.from.dimension c.args.count c.requires.reaches (sym c.allows_more.ensures ∙ c.if-not-allows_more.false))),
)
