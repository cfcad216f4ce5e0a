use Rattle.std.proofs.Common.{sym, ◌∙◌, arith}
use Rattle.at_wkt.specs.Readers.{KindBreaks}
use Rattle.at_wkt.proofs.CollectionSteps.{kind_broken}
use Rattle.at_wkt.proofs.ProgressAnswers.{head_count, opens_true, opening_stands}
use Rattle.at_text.proofs.Exits.{exits}
use Rattle.at_wkt.proofs.line.geometries.read_next.Goals as goal

pub returns-in_err-head : goal.returns-in_err-head
returns-in_err-head c = exits c.from_residual.result c.in_err-head.field-0.0 _ (KindBreaks c.args.source.now.text.now c.args.from.at) _ c.from_residual.ensures.1
    (kind_broken c.args.source.now.rules.digits c.args.source.now.rules.how c.args.source.now.rules.base c.args.source.now.text.now c.args.from.at c.args.from.depth) c.in_err-head.ensures

pub returns-then-opens_collection : goal.returns-then-opens_collection
returns-then-opens_collection c =
    let (kind, inside, here) = opens_true c.args.source.now.text.now c.in_ok-head.head (sym c.opens_collection.ensures ∙ c.if-opens_collection.true) in
    opening_stands c.args.source.now.rules.digits c.args.source.now.rules.how c.args.source.now.rules.base c.args.source.now.text.now c.args.from.at c.args.from.depth c.in_ok-head.head c.in_ok-head.ensures c.args.gathered.now c.args.gathered.now c.args.gathered.now c.skip_blanks-next.result kind inside here
    c.skip_blanks-next.ensures (head_count c.args.source.now.text.now c.args.from.at c.in_ok-head.head c.in_ok-head.ensures) c.requires.deep

pub skip_blanks-next-requires : goal.skip_blanks-next-requires
skip_blanks-next-requires c =
    let (kind, inside, here) = opens_true c.args.source.now.text.now c.in_ok-head.head (sym c.opens_collection.ensures ∙ c.if-opens_collection.true) in omega (arith, inside)

pub read_simple-requires : goal.read_simple-requires
read_simple-requires c = record {
  stands = c.in_ok-head.ensures;
  count = head_count c.args.source.now.text.now c.args.from.at c.in_ok-head.head c.in_ok-head.ensures;
  simple = sym c.opens_collection.ensures ∙ c.if-opens_collection.false;
  deep = c.requires.deep;
}
