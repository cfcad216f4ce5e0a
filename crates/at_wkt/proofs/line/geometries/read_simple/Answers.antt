use Rattle.std.proofs.Common.{refl}
use Rattle.at_wkt.specs.Readers.{Stuck, Body}
use Rattle.at_wkt.proofs.ProgressAnswers.{simple_stuck, simple_stands, simple_behind}
use Rattle.at_text.proofs.Exits.{exits, answers_by}
use Rattle.at_wkt.proofs.line.geometries.read_simple.Goals as goal

pub returns-in_err-read : goal.returns-in_err-read
returns-in_err-read c = exits c.from_residual.result c.in_err-read.field-0.0 _ (Stuck (Body c.args.head.kind) c.args.source.now.rules.base c.args.source.now.text.now c.args.head.behind.at c.args.head.behind.dimension) _ c.from_residual.ensures.1
    (simple_stuck c.args.source.now.rules.digits c.args.source.now.rules.how c.args.source.now.rules.base c.args.source.now.text.now c.args.from.at c.args.from.depth c.args.head c.requires.stands c.args.gathered.now c.args.gathered.now c.args.gathered.now) c.in_err-read.ensures

pub returns : goal.returns
returns c = answers_by c.read_closings.result _ _ _ _ c.read_closings.ensures
    (λ progress (deep, goes). simple_stands c.args.source.now.rules.digits c.args.source.now.rules.how c.args.source.now.rules.base c.args.source.now.text.now c.args.from.at c.args.from.depth c.args.head c.requires.stands c.args.gathered.now c.read_body.new.gathered _ c.in_ok-read.read progress c.in_ok-read.ensures
    (goes c.args.source.now.rules.base c.args.source.now.rules.digits c.args.source.now.rules.how) refl refl refl c.add_fault-gathered.ensures deep)
    (λ n h. simple_behind c.args.source.now.rules.digits c.args.source.now.rules.how c.args.source.now.rules.base c.args.source.now.text.now c.args.from.at c.args.from.depth c.args.head c.requires.stands c.args.gathered.now c.read_body.new.gathered c.in_ok-read.read c.in_ok-read.ensures n (h c.args.source.now.rules.base c.args.source.now.rules.digits c.args.source.now.rules.how))
